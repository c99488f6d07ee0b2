use Rattle.std.proofs.Common.{ℕ, ◌+◌, ◌*◌, ◌-◌, ◌^◌, ◌<◌, true}
use Rattle.plan.proofs.levels.Given as goal

abbrev pub invariant-loop-levels : goal.invariant-loop-levels
invariant-loop-levels g l = (i : ℕ) → i < l.levels → goal.F-post g l.opens (l.start + 4 * i) true

abbrev pub decreases-loop-levels : goal.decreases-loop-levels
decreases-loop-levels g l = 2 ^ 64 - l.levels
