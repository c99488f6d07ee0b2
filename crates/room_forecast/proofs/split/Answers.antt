-- What each function called says, handed to the laws of the split; no sum is above the most that the row comes to.
use native.Mathlib.Omega.{arith}
use Rattle.room_forecast.proofs.SplitLaws.{peak-fits, row_fits, split-both, split-opened, split-own, split-passed, turn-fits, waiting-fits}
use Rattle.room_forecast.proofs.split.Goals as goal

pub overflow_sub-both : goal.overflow_sub-both
overflow_sub-both c =
    split-own c.requires.0.1.0 c.look-head.ensures.0 c.own_weight.ensures

pub weigh_parts-weighed-requires : goal.weigh_parts-weighed-requires
weigh_parts-weighed-requires c =
    (split-both c.requires.0.1.0 c.look-head.ensures.0 c.own_weight.ensures, c.requires.2)

pub overflow_add-left : goal.overflow_add-left
overflow_add-left c =
    omega (arith, row_fits c.requires.0.1.0 c.look-head.ensures.0 c.own_weight.ensures c.weigh_parts-weighed.ensures c.requires.0.1.1)

pub returns-then-head-eq0 : goal.returns-then-head-eq0
returns-then-head-eq0 c =
    λ b h. split-passed h c.look-head.ensures.0 c.own_weight.ensures c.weigh_parts-weighed.ensures c.args.found c.max.ensures c.if-head-eq0.true

pub turn_weight-turn-requires : goal.turn_weight-turn-requires
turn_weight-turn-requires c =
    turn-fits c.requires.0.1.0 c.look-head.ensures.0 c.own_weight.ensures c.weigh_parts-weighed.ensures c.if-head-eq0.false c.requires.0.1.1

pub waiting-requires : goal.waiting-requires
waiting-requires c =
    waiting-fits c.requires.0.1.0 c.look-head.ensures.0 c.own_weight.ensures c.weigh_parts-weighed.ensures c.if-head-eq0.false c.turn_weight-turn.ensures c.unrolled-n.ensures c.requires.0.1.1

pub peak-requires : goal.peak-requires
peak-requires c =
    peak-fits c.requires.0.1.0 c.look-head.ensures.0 c.own_weight.ensures c.weigh_parts-weighed.ensures c.if-head-eq0.false c.turn_weight-turn.ensures c.unrolled-n.ensures c.requires.0.1.1

pub returns : goal.returns
returns c =
    λ b h. split-opened h c.look-head.ensures.0 c.own_weight.ensures c.weigh_parts-weighed.ensures c.if-head-eq0.false c.turn_weight-turn.ensures c.unrolled-n.ensures c.args.found c.waiting.ensures c.peak.ensures c.max-2.ensures
