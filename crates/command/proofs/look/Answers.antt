use native.Mathlib.Omega.{arith}
use mathlib.Core.Path.{◌∙◌}
use Rattle.record.proofs.KindLaws.{named-number, not-number}
use Rattle.record.specs.declared.kind.Kind.TheVariants.{Assignment, Loop}
use Rattle.rules.specs.Store.{up_to}
use Rattle.command.proofs.LookLaws.{commands, first-assign, first-loop, plan-assign, plan-leave, plan-loop, plan-none, spot-room, whole}
use Rattle.place.proofs.WholeLaws.{program-used}
use Rattle.command.proofs.look.Goals as goal

pub overflow_add-start : goal.overflow_add-start
overflow_add-start c =
    let p = c.requires.1.1 in
    omega (arith, program-used p.0, p.0.within, p.1.0, p.1.1.1)

pub returns-then-used-start : goal.returns-then-used-start
returns-then-used-start c =
    λ hd P h e st.
    c.finished.ensures ∙ plan-none h st (up_to c.args.largest) c.args.store.now c.if-used-start.true

pub open_levels-levels-requires : goal.open_levels-levels-requires
open_levels-levels-requires c =
    let p = c.requires.1.1 in
    (c.requires.1.0, (whole p.0 p.1.1.1 p.1.0 c.if-used-start.false, commands p.0 p.1.1.1 p.1.0 c.if-used-start.false))

pub overflow_mul-place : goal.overflow_mul-place
overflow_mul-place c =
    let p = c.requires.1.1 in
    omega (arith, spot-room p.0 p.1.1.1 p.1.0 c.if-used-start.false c.open_levels-levels.ensures)

pub overflow_add-place : goal.overflow_add-place
overflow_add-place c =
    let p = c.requires.1.1 in
    omega (arith, spot-room p.0 p.1.1.1 p.1.0 c.if-used-start.false c.open_levels-levels.ensures)

pub overflow_add-place-2 : goal.overflow_add-place-2
overflow_add-place-2 c =
    let p = c.requires.1.1 in
    omega (arith, spot-room p.0 p.1.1.1 p.1.0 c.if-used-start.false c.open_levels-levels.ensures)

pub read-requires : goal.read-requires
read-requires c =
    let p = c.requires.1.1 in
    omega (arith, spot-room p.0 p.1.1.1 p.1.0 c.if-used-start.false c.open_levels-levels.ensures)

pub look_assign-requires : goal.look_assign-requires
look_assign-requires c =
    let p = c.requires.1.1 in
    first-assign p.0 p.1.1.1 p.1.0 c.if-used-start.false c.open_levels-levels.ensures c.args.store.now p.1.1.0 (named-number c.in-Assignment.ensures)

pub returns-in-Assignment : goal.returns-in-Assignment
returns-in-Assignment c =
    λ hd P h e st.
    plan-assign h st c.requires.1.1.1.0 c.if-used-start.false c.open_levels-levels.ensures c.args.store.now e (up_to c.args.largest) (named-number c.in-Assignment.ensures) c.look_assign.ensures

pub look_loop-requires : goal.look_loop-requires
look_loop-requires c =
    let p = c.requires.1.1 in
    first-loop p.0 p.1.1.1 p.1.0 c.if-used-start.false c.open_levels-levels.ensures c.args.store.now p.1.1.0 (named-number c.in-Loop.ensures)

pub returns-in-Loop : goal.returns-in-Loop
returns-in-Loop c =
    λ hd P h e st.
    plan-loop h st c.requires.1.1.1.0 c.if-used-start.false c.open_levels-levels.ensures c.args.store.now e (up_to c.args.largest) (named-number c.in-Loop.ensures) c.look_loop.ensures

pub returns-in_default : goal.returns-in_default
returns-in_default c =
    λ hd P h e st.
    c.leave.ensures
    ∙ plan-leave h st c.requires.1.1.1.0 c.if-used-start.false c.open_levels-levels.ensures c.args.store.now e (up_to c.args.largest) (not-number Assignment tt c.read.ensures c.in_default.not-Assignment) (not-number Loop tt c.read.ensures c.in_default.not-Loop)
