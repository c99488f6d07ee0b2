-- With nothing found and nothing around it, the walk gives the most that the row comes to; it fits far below 64 bits.
use mathlib.Core.Path.{◌∙◌}
use native.Mathlib.Omega.{arith}
use Rattle.room_forecast.proofs.PartsLaws.{row_at}
use Rattle.room_forecast.proofs.RowLaws.{found-alone, row_small}
use Rattle.room_forecast.proofs.longest.Goals as goal

pub row_weight-requires : goal.row_weight-requires
row_weight-requires c = (row_at c.requires.0.1, c.requires.2)

pub walk-requires : goal.walk-requires
walk-requires c =
    let b = c.requires.0.0 in
    let h = c.requires.0.1 in
    let small = row_small c.args.measure _ c.args.store.now _ _ b c.requires.2 h c.requires.1 (λ i. omega (arith, c.type_inv.store i)) in
    ((b, (record { row = h; weighs = c.row_weight.ensures (row_at h) }, omega (arith, small, found-alone c.args.measure c.args.store.now b))), c.requires.2)

pub returns : goal.returns
returns c =
    let h = c.requires.0.1 in
    let small = row_small c.args.measure _ c.args.store.now _ _ c.requires.0.0 c.requires.2 h c.requires.1 (λ i. omega (arith, c.type_inv.store i)) in
    (λ b g. c.walk.ensures b (record { row = g; weighs = c.row_weight.ensures (row_at g) }) ∙ found-alone c.args.measure c.args.store.now b, omega (arith, small, found-alone c.args.measure c.args.store.now c.requires.0.0, c.walk.ensures c.requires.0.0 (record { row = h; weighs = c.row_weight.ensures (row_at h) })))
