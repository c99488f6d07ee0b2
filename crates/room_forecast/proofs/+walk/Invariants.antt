-- What is left to walk comes to the same longest; both the loop and the calls go on with a shorter row.
use Prim.Native.Nat.{◌-◌}
use Rattle.rules.specs.Syntax.{Block}
use Rattle.room_forecast.specs.Walked.{Left, RowsTo}
use Rattle.room_forecast.proofs.+walk.Given as goal

abbrev pub decreases-walk : goal.decreases-walk
decreases-walk l = l.whole.to - l.whole.from

abbrev pub invariant-loop-left : goal.invariant-loop-left
invariant-loop-left l = (b : Block) → RowsTo l.measure l.src l.store l.fn.whole b → Left l.measure l.src l.store l.fn.whole b l.found l.most l.left

abbrev pub decreases-loop-left : goal.decreases-loop-left
decreases-loop-left l = l.left.to - l.left.from
