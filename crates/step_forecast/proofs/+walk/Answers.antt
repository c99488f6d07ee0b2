use native.Mathlib.Omega.{arith}
use Rattle.step_forecast.proofs.LeftLaws.{halves, halves-done, halves-large, halves-none, in_order, left-start, own-large}
use Rattle.step_forecast.proofs.+walk.Goals as goal

pub loop-left-init : goal.loop-left-init
loop-left-init t c = λ b h. left-start c.args.store.now c.args.a h (omega (arith, c.ranges.a))

pub shorter_first-requires : goal.shorter_first-requires
shorter_first-requires t c =
    let L = c.loop-left.invariant c.requires.0 c.requires.1 in
    let R = L.part.row c.loop-left-test.true in
    let o = in_order L (c.look-head.ensures.0 L.block R) c.run_from.ensures in
    (o.1, o.2)

pub returns-in_err-found : goal.returns-in_err-found
returns-in_err-found t c =
    λ b h.
    let L = c.loop-left.invariant b h in
    let R = L.part.row c.loop-left-test.true in
    rw c.from_residual.ensures (own-large L (c.look-head.ensures.0 L.block R) (c.in_err-found.ensures))

pub walk-requires : goal.walk-requires
walk-requires t c =
    let L = c.loop-left.invariant c.requires.0 c.requires.1 in
    let R = L.part.row c.loop-left-test.true in
    let H = halves L (c.look-head.ensures.0 L.block R) c.in_ok-found.ensures c.run_from.ensures c.shorter_first.ensures.0 in
    (omega (arith, H.shorter, c.decreases), (H.called_block, H.called_part.row c.if-shorter.true))

pub returns-in_err-found-2 : goal.returns-in_err-found-2
returns-in_err-found-2 t c =
    λ b h.
    let L = c.loop-left.invariant b h in
    let R = L.part.row c.loop-left-test.true in
    let H = halves L (c.look-head.ensures.0 L.block R) c.in_ok-found.ensures c.run_from.ensures c.shorter_first.ensures.0 in
    rw c.from_residual-in_err-found-2.ensures (halves-large H (c.in_err-found-2.ensures H.called_block (H.called_part.row c.if-shorter.true)))

pub loop-left-preserved-in_ok-found-2 : goal.loop-left-preserved-in_ok-found-2
loop-left-preserved-in_ok-found-2 t c =
    λ b h.
    let L = c.loop-left.invariant b h in
    let R = L.part.row c.loop-left-test.true in
    let H = halves L (c.look-head.ensures.0 L.block R) c.in_ok-found.ensures c.run_from.ensures c.shorter_first.ensures.0 in
    halves-done H (c.in_ok-found-2.ensures H.called_block (H.called_part.row c.if-shorter.true))

pub loop-left-preserved : goal.loop-left-preserved
loop-left-preserved t c =
    λ b h.
    let L = c.loop-left.invariant b h in
    let R = L.part.row c.loop-left-test.true in
    let H = halves L (c.look-head.ensures.0 L.block R) c.in_ok-found.ensures c.run_from.ensures c.shorter_first.ensures.0 in
    halves-none H (omega (arith, c.if-shorter.false))
