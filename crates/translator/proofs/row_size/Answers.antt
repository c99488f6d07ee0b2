-- What was counted and what is left make up the translation, and one tuple more; nothing counted comes near a wrap.
use native.Mathlib.Omega.{arith}
use Rattle.record.specs.declared.kind.Kind.TheVariants.{Assignment, Loop}
use Rattle.record.proofs.KindLaws.{named-number, not-number}
use Rattle.translator.proofs.RowScanLaws.{scan-bound, scan-end, scan-start, scan_step}
use Rattle.translator.proofs.RowViewLaws.{row-assign, row-four, row_room, step-assign, step_loop, step-nest}
use Rattle.translator.proofs.row_size.Goals as goal

pub loop-at-init : goal.loop-at-init
loop-at-init c =
    λ h. rw c.tuple_size-tuple.ensures (scan-start c.args.k c.args.src.now c.args.from c.args.to h)

pub read-requires : goal.read-requires
read-requires c =
    let s = c.loop-at.invariant c.requires.0 in
    omega (arith, row-four s.row c.loop-at-test.true, row_room s.row)

pub let_one_size-total-requires : goal.let_one_size-total-requires
let_one_size-total-requires c =
    let s = c.loop-at.invariant c.requires.0 in
    let f = step-assign s.row c.loop-at-test.true c.args.k (named-number c.in-Assignment.ensures) in
    let w = row-assign s.row c.loop-at-test.true c.args.k (named-number c.in-Assignment.ensures) in
    (omega (arith, f.reach, row_room s.row), w.low, w.high)

pub overflow_add-total : goal.overflow_add-total
overflow_add-total c =
    let h = c.requires.0 in
    let s = c.loop-at.invariant h in
    let f = step-assign s.row c.loop-at-test.true c.args.k (named-number c.in-Assignment.ensures) in
    omega (arith, scan-bound s c.requires.1 h.here.small _ _ f, c.let_one_size-total.ensures)

pub loop-at-smaller-in-Assignment : goal.loop-at-smaller-in-Assignment
loop-at-smaller-in-Assignment c =
    let s = c.loop-at.invariant c.requires.0 in
    let f = step-assign s.row c.loop-at-test.true c.args.k (named-number c.in-Assignment.ensures) in
    omega (arith, f.reach, row_room s.row)

pub loop-at-preserved-in-Assignment : goal.loop-at-preserved-in-Assignment
loop-at-preserved-in-Assignment c =
    λ h.
    let s = c.loop-at.invariant h in
    scan_step s 16 _ _ (step-assign s.row c.loop-at-test.true c.args.k (named-number c.in-Assignment.ensures)) c.let_one_size-total.ensures

pub overflow_add-total-in-Loop-2 : goal.overflow_add-total-in-Loop-2
overflow_add-total-in-Loop-2 c =
    let h = c.requires.0 in
    let s = c.loop-at.invariant h in
    let f = step_loop s.row c.loop-at-test.true c.args.k (named-number c.in-Loop.ensures) in
    omega (arith, scan-bound s c.requires.1 h.here.small _ _ f, c.tuple_size-tuple.ensures)

pub loop-at-smaller-in-Loop : goal.loop-at-smaller-in-Loop
loop-at-smaller-in-Loop c =
    let s = c.loop-at.invariant c.requires.0 in
    let f = step_loop s.row c.loop-at-test.true c.args.k (named-number c.in-Loop.ensures) in
    omega (arith, f.reach, row_room s.row)

pub loop-at-preserved-in-Loop : goal.loop-at-preserved-in-Loop
loop-at-preserved-in-Loop c =
    λ h.
    let s = c.loop-at.invariant h in
    scan_step s 20 _ _ (step_loop s.row c.loop-at-test.true c.args.k (named-number c.in-Loop.ensures)) (omega (arith, c.tuple_size-tuple.ensures))

pub overflow_add-total-in_default-2 : goal.overflow_add-total-in_default-2
overflow_add-total-in_default-2 c =
    let h = c.requires.0 in
    let s = c.loop-at.invariant h in
    let read = c.read.ensures in
    let f = step-nest s.row c.loop-at-test.true c.args.k (not-number Assignment tt read c.in_default.not-Assignment) (not-number Loop tt read c.in_default.not-Loop) in
    omega (arith, scan-bound s c.requires.1 h.here.small _ _ f, c.tuple_size-tuple.ensures)

pub loop-at-smaller : goal.loop-at-smaller
loop-at-smaller c =
    let s = c.loop-at.invariant c.requires.0 in
    omega (arith, row-four s.row c.loop-at-test.true, row_room s.row)

pub loop-at-preserved : goal.loop-at-preserved
loop-at-preserved c =
    λ h.
    let s = c.loop-at.invariant h in
    let read = c.read.ensures in
    scan_step s 4 _ _ (step-nest s.row c.loop-at-test.true c.args.k (not-number Assignment tt read c.in_default.not-Assignment) (not-number Loop tt read c.in_default.not-Loop)) (omega (arith, c.tuple_size-tuple.ensures))

pub returns : goal.returns
returns c = λ h. scan-end (c.loop-at.invariant h) c.loop-at-test.false
