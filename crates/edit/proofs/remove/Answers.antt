-- Moved down, and zeros stored behind.
use Prim.Native.Nat.{◌+◌, ◌-◌}
use mathlib.Core.Path.{refl}
use Rattle.place.proofs.EditLaws.{closed_up-is, removed-is}
use Rattle.edit.proofs.remove.Goals as goal

pub returns : goal.returns
returns c =
    let a = c.args in
    cc (closed_up-is a.buf.now a.at a.n a.used c.requires.0 c.requires.1 (a.at + a.n) (a.used - (a.at + a.n)) refl refl, removed-is a.buf.now a.at a.n a.used c.requires.0 c.requires.1 (a.used - a.n) refl)
