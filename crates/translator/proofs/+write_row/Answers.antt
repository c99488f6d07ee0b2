-- What is left to write, stored now, gives the whole; both the loop and the calls go on with a shorter row.
use native.Mathlib.Omega.{arith}
use mathlib.Core.Path.{refl, ◌∙◌}
use Rattle.record.proofs.KindLaws.{stands-not, stands-number}
use Rattle.translator.proofs.TaskLaws.{Came, end-room, head-room, left_end, left_one, left-start, one-room, turn-left, turn-less, turn-task, tuple-alone, tuple-room}
use mathlib.Core.Logic.{inl, inr}
use Rattle.translator.proofs.+write_row.Goals.{then-rest-inner, else-rest-inner}
use Rattle.translator.proofs.+write_row.Goals as goal

pub loop-left-init : goal.loop-left-init
loop-left-init t c = λ h. left-start h c.args.out.now c.requires.1

pub overflow_add-left : goal.overflow_add-left
overflow_add-left t c =
    let s = c.loop-left.invariant c.requires.0 in
    omega (arith, (head-room s.task c.loop-left-test.true).0)

pub stands_at-requires : goal.stands_at-requires
stands_at-requires t c =
    let s = c.loop-left.invariant c.requires.0 in
    omega (arith, (head-room s.task c.loop-left-test.true).0)

pub overflow_sub-left : goal.overflow_sub-left
overflow_sub-left t c =
    let s = c.loop-left.invariant c.requires.0 in
    omega (arith, (head-room s.task c.loop-left-test.true).1)

pub write_let_one-requires : goal.write_let_one-requires
write_let_one-requires t c =
    let s = c.loop-left.invariant c.requires.0 in
    one-room s c.loop-left-test.true (stands-number c.stands_at.ensures c.if-stands_at.true)

pub overflow_add-left-then-stands_at : goal.overflow_add-left-then-stands_at
overflow_add-left-then-stands_at t c =
    let s = c.loop-left.invariant c.requires.0 in
    omega (arith, (one-room s c.loop-left-test.true (stands-number c.stands_at.ensures c.if-stands_at.true)).0)

pub loop-left-smaller-then-stands_at : goal.loop-left-smaller-then-stands_at
loop-left-smaller-then-stands_at t c =
    let test = c.loop-left-test.true in
    omega arith

pub loop-left-preserved-then-stands_at : goal.loop-left-preserved-then-stands_at
loop-left-preserved-then-stands_at t c =
    λ h.
    let w = c.write_let_one in
    left_one (c.loop-left.invariant h) c.loop-left-test.true (stands-number c.stands_at.ensures c.if-stands_at.true) _ _ _ w.ensures.0 c.write_let_one.auto.out refl w.ensures.1

pub rows_of-parts-requires : goal.rows_of-parts-requires
rows_of-parts-requires t c =
    let s = c.loop-left.invariant c.requires.0 in
    (s.task, c.loop-left-test.true, stands-not c.stands_at.ensures c.if-stands_at.false)

pub write_let_all-requires : goal.write_let_all-requires
write_let_all-requires t c =
    let s = c.loop-left.invariant c.requires.0 in
    ((c.rows_of-parts.ensures s.task).opens, s.fits)

pub overflow_sub-rest : goal.overflow_sub-rest
overflow_sub-rest t c =
    let s = c.loop-left.invariant c.requires.0 in
    omega (arith, (c.rows_of-parts.ensures s.task).rest.row.ends)

pub overflow_sub-inner : goal.overflow_sub-inner
overflow_sub-inner t c =
    let s = c.loop-left.invariant c.requires.0 in
    omega (arith, (c.rows_of-parts.ensures s.task).inner.row.ends)

pub write_row-requires : goal.write_row-requires
write_row-requires t c =
    let t₀ = c.decreases in
    let s = c.loop-left.invariant c.requires.0 in
    let q = c.rows_of-parts.ensures s.task in
    let came : Came (Unit {0}) (Unit {0}) c.rows_of-parts.result c.if-rest-inner.left c.if-rest-inner.shorter =
    elim c.if-rest-inner.branch [ then-rest-inner w ↦ inl (tt, w.left-is, w.shorter-is) | else-rest-inner w ↦ inr (tt, w.left-is, w.shorter-is) ] in
    let low = s.low in
    let high = s.high in
    let m = turn-less s q _ c.write_let_all.ensures c.write_let_all.auto.out came in
    let stop = m.2 in
    (omega (arith, m.0), (turn-task s q _ c.write_let_all.ensures c.write_let_all.auto.out came, omega (arith, stop, s.fits, c.write_let_all.auto.out)))

pub loop-left-smaller-then-shorter : goal.loop-left-smaller-then-shorter
loop-left-smaller-then-shorter t c =
    let s = c.loop-left.invariant c.requires.0 in
    let q = c.rows_of-parts.ensures s.task in
    let came : Came (Unit {0}) (Unit {0}) c.rows_of-parts.result c.if-rest-inner.left c.if-rest-inner.shorter =
    elim c.if-rest-inner.branch [ then-rest-inner w ↦ inl (tt, w.left-is, w.shorter-is) | else-rest-inner w ↦ inr (tt, w.left-is, w.shorter-is) ] in
    (turn-less s q _ c.write_let_all.ensures c.write_let_all.auto.out came).1

pub loop-left-preserved-then-shorter : goal.loop-left-preserved-then-shorter
loop-left-preserved-then-shorter t c =
    λ h.
    let s = c.loop-left.invariant h in
    let q = c.rows_of-parts.ensures s.task in
    let came : Came (Unit {0}) (Unit {0}) c.rows_of-parts.result c.if-rest-inner.left c.if-rest-inner.shorter =
    elim c.if-rest-inner.branch [ then-rest-inner w ↦ inl (tt, w.left-is, w.shorter-is) | else-rest-inner w ↦ inr (tt, w.left-is, w.shorter-is) ] in
    turn-left s q _ c.write_let_all.ensures c.write_let_all.auto.out came _ c.write_row.ensures c.write_row.auto.out

pub write_tuple-requires : goal.write_tuple-requires
write_tuple-requires t c =
    let s = c.loop-left.invariant c.requires.0 in
    let q = c.rows_of-parts.ensures s.task in
    let came : Came (Unit {0}) (Unit {0}) c.rows_of-parts.result c.if-rest-inner.left c.if-rest-inner.shorter =
    elim c.if-rest-inner.branch [ then-rest-inner w ↦ inl (tt, w.left-is, w.shorter-is) | else-rest-inner w ↦ inr (tt, w.left-is, w.shorter-is) ] in
    let m = turn-less s q _ c.write_let_all.ensures c.write_let_all.auto.out came in
    let task = turn-task s q _ c.write_let_all.ensures c.write_let_all.auto.out came in
    let stop = m.2 in
    (omega (arith, tuple-room task, stop, s.fits, c.write_let_all.auto.out), s.task.few)

pub loop-left-smaller : goal.loop-left-smaller
loop-left-smaller t c =
    let s = c.loop-left.invariant c.requires.0 in
    let q = c.rows_of-parts.ensures s.task in
    let came : Came (Unit {0}) (Unit {0}) c.rows_of-parts.result c.if-rest-inner.left c.if-rest-inner.shorter =
    elim c.if-rest-inner.branch [ then-rest-inner w ↦ inl (tt, w.left-is, w.shorter-is) | else-rest-inner w ↦ inr (tt, w.left-is, w.shorter-is) ] in
    (turn-less s q _ c.write_let_all.ensures c.write_let_all.auto.out came).1

pub loop-left-preserved : goal.loop-left-preserved
loop-left-preserved t c =
    λ h.
    let s = c.loop-left.invariant h in
    let q = c.rows_of-parts.ensures s.task in
    let came : Came (Unit {0}) (Unit {0}) c.rows_of-parts.result c.if-rest-inner.left c.if-rest-inner.shorter =
    elim c.if-rest-inner.branch [ then-rest-inner w ↦ inl (tt, w.left-is, w.shorter-is) | else-rest-inner w ↦ inr (tt, w.left-is, w.shorter-is) ] in
    turn-left s q _ c.write_let_all.ensures c.write_let_all.auto.out came _ (λ g. c.write_tuple.ensures ∙ tuple-alone g c.if-shorter.false _) c.write_tuple.auto.out

pub write_tuple-requires-2 : goal.write_tuple-requires-2
write_tuple-requires-2 t c =
    let s = c.loop-left.invariant c.requires.0 in
    (end-room s, s.task.few)

pub shape_of-out : goal.shape_of-out
shape_of-out t c =
    c.write_tuple-2.auto.out ∙ (c.loop-left.invariant c.requires.0).kept

pub returns : goal.returns
returns t c =
    λ h. c.write_tuple-2.ensures ∙ left_end (c.loop-left.invariant h) c.loop-left-test.false
