use Prim.Native.Nat.{ℕ}
use Rattle.rules.specs.Syntax.{Block}
use Rattle.forecast.specs.Rows.{RowOf}
use Rattle.bound_check.specs.Marks.{marked}
use Rattle.bound_check.proofs.MarkLaws.{Looking}
use Rattle.bound_check.proofs.some_marked.Given as goal

abbrev pub invariant-loop-at : goal.invariant-loop-at
invariant-loop-at l =
    (goal.iterator-loop-at).can_next l.at-iterator
    × (goal.iterator-loop-at).is_finite l.at-iterator
    × ((k : ℕ) (b : Block) → RowOf l.src k l.fn.from l.fn.to b → Looking (marked l.marks) l.src k b l.at-iterator)
