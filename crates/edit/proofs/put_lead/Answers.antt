-- A head, a variable and a record of one number are one lead.
use native.Mathlib.Omega.{arith}
use Prim.Native.Nat.{◌+◌}
use mathlib.Core.Path.{refl}
use Rattle.place.proofs.EditLaws.{put-lead}
use Rattle.record.specs.Kind.{kind_number}
use Rattle.edit.proofs.put_lead.Goals as goal

pub returns : goal.returns
returns c =
    let a = c.args in
    cc (put-lead a.buf.now a.at (a.at + 4) (a.at + 8) (kind_number a.kind) a.n a.x (kind_number a.leaf) a.v refl refl (omega arith))
