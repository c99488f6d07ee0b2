use Rattle.bound_check.proofs.MarkLaws.{look-end, look-found, look-loop, look-on, look-past}
use Rattle.bound_check.proofs.some_marked.Goals as goal

pub bound_marked-requires : goal.bound_marked-requires
bound_marked-requires c =
    let p = c.requires in
    look-loop (c.loop-at.invariant.2 p.0 p.1.1.0 p.1.1.1) c.in-Some.ensures.steps c.in-Loop.is p.1.0

pub returns-then-bound_marked : goal.returns-then-bound_marked
returns-then-bound_marked c =
    λ k b h. look-found (c.loop-at.invariant.2 k b h) c.in-Some.ensures.steps c.in-Loop.is c.bound_marked.ensures c.if-bound_marked.true

pub loop-at-preserved-else-bound_marked : goal.loop-at-preserved-else-bound_marked
loop-at-preserved-else-bound_marked c =
    (c.in-Some.ensures.goes.keeps, tt, λ k b h. look-past (c.loop-at.invariant.2 k b h) c.in-Some.ensures.steps c.in-Loop.is c.bound_marked.ensures c.if-bound_marked.false)

pub loop-at-preserved : goal.loop-at-preserved
loop-at-preserved c =
    (c.in-Some.ensures.goes.keeps, tt, λ k b h. look-on (c.loop-at.invariant.2 k b h) c.in-Some.ensures.steps c.in_default.not-Loop)

pub returns : goal.returns
returns c = λ k b h. look-end (c.loop-at.invariant.2 k b h) c.in-None.ensures.steps
