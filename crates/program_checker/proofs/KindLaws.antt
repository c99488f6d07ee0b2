-- A kind of another class than a program's is no command's.
use Prim.Native.Nat.{ℕ, ◌≤◌}
use mathlib.Core.Path.{◌≡◌, ap, ◌∙◌}
use Rattle.record.specs.declared.Class.TheVariants.{Program}
use Rattle.record.specs.Class.{class_of}
use Rattle.record.proofs.ClassLaws.{class-command}

pub not-command : (kind : ℕ) → (class_of kind ≡ Program → ⊥) → (n : ℕ) → 1 ≤ n → n ≤ 3 → kind ≡ n → ⊥
not-command kind other n a b e = other (ap class_of e ∙ class-command n a b)
