-- Laws of the tally: steps made and budget left are the budget, at the start and after every step.
use Prim.Native.Nat.{◌+◌, ◌<◌, ℕ}
use mathlib.Core.Path.{◌≡◌}
use mathlib.Core.Bool.{false, true}
use borrow.Author.Tests.{eqb-false, eqb-true}
use native.Mathlib.Omega.{arith}
use Rattle.run.specs.declared.Tally.{Tally}
use Rattle.run.specs.Tally.{advanced, is_spent, started}

pub started-total : (budget : ℕ) → (started budget).steps + (started budget).left ≡ budget
started-total budget = omega arith

pub advanced-total : (t : Tally) (budget : ℕ) → 0 < t.left → t.steps + t.left ≡ budget → (advanced t).steps + (advanced t).left ≡ budget
advanced-total t budget h e = omega arith

-- the test is the fact: where it holds all the budget was made, where it does not a step is left to make
pub spent-total : (t : Tally) (budget : ℕ) → is_spent t ≡ true → t.steps + t.left ≡ budget → t.steps ≡ budget
spent-total t budget e total = omega (arith, eqb-true t.left 0 e)

pub not-spent : (t : Tally) → is_spent t ≡ false → 0 < t.left
not-spent t e = omega (arith, eqb-false t.left 0 e)
