-- What is left to walk comes to the same longest; both the loop and the calls go on with a shorter row.
use mathlib.Core.Path.{◌∙◌}
use native.Mathlib.Omega.{arith}
use Rattle.room_forecast.proofs.WalkedLaws.{Came, end_fits, left_end, left-fits, turn-left, turn-less, turn-none, turn-rows, turn-short}
use mathlib.Core.Logic.{inl, inr}
use Rattle.room_forecast.proofs.+walk.Goals.{then-rest-inside, else-rest-inside}
use Rattle.room_forecast.proofs.+walk.Goals as goal

pub split-parts-requires : goal.split-parts-requires
split-parts-requires t c =
    let left = c.loop-left.invariant c.requires.0.0 c.requires.0.1.0 in
    ((left.block, (left.rows, left-fits left c.requires.0.1.1)), c.loop-left-test.true, c.requires.1)

pub walk-most-requires : goal.walk-most-requires
walk-most-requires t c =
    let left = c.loop-left.invariant c.requires.0.0 c.requires.0.1.0 in
    let parts = c.split-parts.ensures left.block left.rows in
    let came : Came (Unit {0}) (Unit {0}) c.split-parts.result c.if-rest-inside.left c.if-rest-inside.shorter =
    elim c.if-rest-inside.branch [ then-rest-inside w ↦ inl (tt, w.left-is, w.shorter-is) | else-rest-inside w ↦ inr (tt, w.left-is, w.shorter-is) ] in
    let whole = c.decreases in
    let low = left.low in
    let high = left.high in
    (omega (arith, (turn-less left parts c.if-inside.true came c.loop-left-test.true).0), (turn-rows left parts c.if-inside.true came c.requires.0.1.1, c.requires.1))

pub loop-left-preserved-then-shorter-ge20 : goal.loop-left-preserved-then-shorter-ge20
loop-left-preserved-then-shorter-ge20 t c =
    λ b h.
    let left = c.loop-left.invariant b h in
    let parts = c.split-parts.ensures left.block left.rows in
    let came : Came (Unit {0}) (Unit {0}) c.split-parts.result c.if-rest-inside.left c.if-rest-inside.shorter =
    elim c.if-rest-inside.branch [ then-rest-inside w ↦ inl (tt, w.left-is, w.shorter-is) | else-rest-inside w ↦ inr (tt, w.left-is, w.shorter-is) ] in
    turn-left left parts c.if-inside.true came _ c.walk-most.ensures

pub loop-left-preserved-else-shorter-ge20 : goal.loop-left-preserved-else-shorter-ge20
loop-left-preserved-else-shorter-ge20 t c =
    λ b h.
    let left = c.loop-left.invariant b h in
    let parts = c.split-parts.ensures left.block left.rows in
    let came : Came (Unit {0}) (Unit {0}) c.split-parts.result c.if-rest-inside.left c.if-rest-inside.shorter =
    elim c.if-rest-inside.branch [ then-rest-inside w ↦ inl (tt, w.left-is, w.shorter-is) | else-rest-inside w ↦ inr (tt, w.left-is, w.shorter-is) ] in
    turn-short left parts c.if-inside.true came c.if-shorter-ge20.false

pub loop-left-preserved : goal.loop-left-preserved
loop-left-preserved t c =
    λ b h.
    let left = c.loop-left.invariant b h in
    let parts = c.split-parts.ensures left.block left.rows in
    turn-none left parts c.if-inside.false

pub overflow_add-left : goal.overflow_add-left
overflow_add-left t c =
    let left = c.loop-left.invariant c.requires.0.0 c.requires.0.1.0 in
    omega (arith, end_fits left c.requires.0.1.1)

pub returns : goal.returns
returns t c =
    λ b h. c.max.ensures ∙ left_end (c.loop-left.invariant b h) c.loop-left-test.false
