-- A head and a number are one record.
use native.Mathlib.Omega.{arith}
use Prim.Native.Nat.{◌+◌}
use mathlib.Core.Path.{refl}
use Rattle.place.proofs.EditLaws.{put-leaf}
use Rattle.record.specs.Kind.{kind_number}
use Rattle.edit.proofs.put_leaf.Goals as goal

pub returns : goal.returns
returns c =
    let a = c.args in
    cc (put-leaf a.buf.now a.at (a.at + 4) (kind_number a.kind) a.v refl (omega arith))
