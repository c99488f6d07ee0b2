-- Invariant: the test of what is left, under the present marks, comes to what the test of the whole does.
use Rattle.std.proofs.Common.{◌≡◌, ◌-◌, length}
use Rattle.rules.specs.FreeVariables.{closed}
use Rattle.rules.specs.Syntax.{Term}
use Rattle.substitution.specs.Path.{place_of}
use Rattle.substitution.specs.Ranged.{RangedTerm}
use Rattle.substitution.proofs.ClosedLaws.{ClosedTodo}
use Rattle.substitution.proofs.closed.closed_at.Given as goal

abbrev pub invariant-loop-row : goal.invariant-loop-row
invariant-loop-row l = record {
  long : length l.bound ≡ 17;
  todo : (t : Term) → RangedTerm l.buf l.at l.k t → ClosedTodo l.bound l.buf (closed t) l.path l.k;
}

abbrev pub decreases-loop-row : goal.decreases-loop-row
decreases-loop-row l = length l.buf - place_of l.path
