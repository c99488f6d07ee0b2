use Rattle.std.proofs.Common.{arith, refl, rules}
use Rattle.bound_check.proofs.MarkLaws.{mark-end, mark-named, mark-nameless, mark-variable}
use Rattle.bound_check.proofs.mark_assigned.Goals as goal

pub loop-at-preserved-in-Block : goal.loop-at-preserved-in-Block
loop-at-preserved-in-Block c =
    (c.in-Some.ensures.goes.keeps, tt, λ k b f h. mark-nameless (c.loop-at.invariant.2 k b f h) c.in-Some.ensures.steps (search (rules, c.in-Block.is)))

pub get_u32-requires : goal.get_u32-requires
get_u32-requires c =
    let p = c.requires in
    let M = c.loop-at.invariant.2 p.0 p.1.1.0 p.1.0 p.1.1.1 in
    omega (arith, (mark-variable M c.in-Some.ensures.steps c.in_default.not-Block).0)

pub bounds-marks-get_u32 : goal.bounds-marks-get_u32
bounds-marks-get_u32 c =
    let p = c.requires in
    let M = c.loop-at.invariant.2 p.0 p.1.1.0 p.1.0 p.1.1.1 in
    omega (arith, (mark-variable M c.in-Some.ensures.steps c.in_default.not-Block).1, c.get_u32.ensures, p.1.0)

pub loop-at-preserved : goal.loop-at-preserved
loop-at-preserved c =
    (c.in-Some.ensures.goes.keeps, tt, λ k b f h. mark-named (c.loop-at.invariant.2 k b f h) c.in-Some.ensures.steps c.in_default.not-Block f (omega arith) c.get_u32.ensures refl)

pub returns : goal.returns
returns c = λ k b f h y e. mark-end (c.loop-at.invariant.2 k b f h) c.in-None.ensures.steps y e
