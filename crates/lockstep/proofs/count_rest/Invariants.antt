-- It ends: each turn brings the count nearer to a number that no input has.
use Rattle.std.proofs.Common.{◌-◌, ◌≡◌, length}
use Rattle.lockstep.proofs.count_rest.Given as goal

abbrev pub invariant-loop-total : goal.invariant-loop-total
invariant-loop-total g l = length l.space ≡ length l.initial.space

abbrev pub decreases-loop-total : goal.decreases-loop-total
decreases-loop-total g l = 9223372036854775807 - l.total
