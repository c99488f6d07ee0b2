use native.Mathlib.Omega.{arith}
use Rattle.state_check.proofs.PlaceLaws.{walked_end, walked_here, walked-long, walked_next, walked-room, walked_start}
use Rattle.state_check.proofs.stands_at.Goals as goal

pub loop-q-init : goal.loop-q-init
loop-q-init c =
    λ b h e. walked_start c.args.program.bytes.now c.args.program.start b c.args.at.first c.args.at.end c.args.at.p h e

pub returns-then-at-q : goal.returns-then-at-q
returns-then-at-q c = λ b h e. walked_here (c.loop-q.invariant b h e) c.loop-q-test.true c.if-at-q.true

pub size_at-q-requires : goal.size_at-q-requires
size_at-q-requires c =
    let b = c.requires.0 in
    omega (arith, walked-room (c.loop-q.invariant b.0 b.1.0 b.1.1) c.loop-q-test.true, c.requires.1)

pub overflow_add-q : goal.overflow_add-q
overflow_add-q c =
    let b = c.requires.0 in
    omega (arith, walked-room (c.loop-q.invariant b.0 b.1.0 b.1.1) c.loop-q-test.true, c.requires.1, c.size_at-q.ensures.1)

pub loop-q-smaller : goal.loop-q-smaller
loop-q-smaller c =
    let b = c.requires.0 in
    let a = walked-long (c.loop-q.invariant b.0 b.1.0 b.1.1) c.loop-q-test.true c.size_at-q.result c.size_at-q.ensures.0 in
    omega (arith, a.0, a.1, c.loop-q-test.true)

pub loop-q-preserved : goal.loop-q-preserved
loop-q-preserved c =
    λ b h e. walked_next (c.loop-q.invariant b h e) c.loop-q-test.true c.if-at-q.false c.size_at-q.result c.size_at-q.ensures.0

pub returns : goal.returns
returns c = λ b h e. walked_end (c.loop-q.invariant b h e) (λ z. omega (arith, z, c.loop-q-test.false))
