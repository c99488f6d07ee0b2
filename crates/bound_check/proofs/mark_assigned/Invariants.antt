use Prim.Native.Nat.{ℕ, ◌≤◌}
use Rattle.rules.specs.Syntax.{Block}
use Rattle.forecast.specs.Rows.{RowOf}
use Rattle.bound_check.proofs.MarkLaws.{Marking}
use Rattle.bound_check.proofs.mark_assigned.Given as goal

abbrev pub invariant-loop-at : goal.invariant-loop-at
invariant-loop-at l =
    (goal.iterator-loop-at).can_next l.at-iterator
    × (goal.iterator-loop-at).is_finite l.at-iterator
    × ((k : ℕ) (b : Block) → k ≤ 16 → RowOf l.src k l.fn.from l.fn.to b → Marking l.src k b l.initial.marks l.marks l.at-iterator)
