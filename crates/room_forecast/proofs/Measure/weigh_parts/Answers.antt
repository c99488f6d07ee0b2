-- The part that was weighed tells what the other weighs.
use native.Mathlib.Omega.{arith}
use Rattle.room_forecast.proofs.PartsLaws.{opened-behind, opened_inside, opened-past, weighed-assign, weighed-behind, weighed-inside, row_at}
use Rattle.room_forecast.proofs.Measure.weigh_parts.Goals as goal

pub returns-then-head-row-eq16 : goal.returns-then-head-row-eq16
returns-then-head-row-eq16 c =
    λ s b steps turns o e. weighed-assign c.args.self e o (omega (arith, c.if-head-row-eq16.true, opened-past o))

pub overflow_sub-result : goal.overflow_sub-result
overflow_sub-result c =
    let o = c.requires.0.1.1.1.1.0 in
    (weighed-inside c.args.self c.requires.0.1.1.1.1.1 o (λ e. c.if-head-row-eq16.false (omega arith)) _ (c.row_weight-inside.ensures (row_at (opened_inside o (λ e. c.if-head-row-eq16.false (omega arith)))))).0

pub returns-then-head-row : goal.returns-then-head-row
returns-then-head-row c =
    λ s b steps turns o e. (weighed-inside c.args.self e o (λ z. c.if-head-row-eq16.false (omega arith)) _ (c.row_weight-inside.ensures (row_at (opened_inside o (λ z. c.if-head-row-eq16.false (omega arith)))))).1

pub overflow_sub-result-2 : goal.overflow_sub-result-2
overflow_sub-result-2 c =
    let o = c.requires.0.1.1.1.1.0 in
    (weighed-behind c.args.self c.requires.0.1.1.1.1.1 o _ (c.row_weight-behind.ensures (row_at (opened-behind o)))).0

pub returns : goal.returns
returns c =
    λ s b steps turns o e. (weighed-behind c.args.self e o _ (c.row_weight-behind.ensures (row_at (opened-behind o)))).1
