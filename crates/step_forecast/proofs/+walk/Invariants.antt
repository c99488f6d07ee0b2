use Prim.Native.Nat.{◌-◌}
use lib.ListN.{length}
use Rattle.rules.specs.Syntax.{Block}
use Rattle.forecast.specs.Rows.{RowOf}
use Rattle.step_forecast.proofs.LeftLaws.{Left}
use Rattle.step_forecast.proofs.+walk.Given as goal

abbrev pub decreases-walk : goal.decreases-walk
decreases-walk l = l.whole.to - l.whole.from

abbrev pub invariant-loop-left : goal.invariant-loop-left
invariant-loop-left l = (b : Block) → RowOf l.src (length l.store) l.fn.whole.from l.fn.whole.to b → Left l.src l.store l.fn.whole b l.a l.left l.found

abbrev pub decreases-loop-left : goal.decreases-loop-left
decreases-loop-left l = l.left.to - l.left.from
