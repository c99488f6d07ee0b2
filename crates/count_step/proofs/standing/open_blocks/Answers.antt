use native.Mathlib.Omega.{arith}
use mathlib.Core.Path.{ap, refl, sym, ◌∙◌}
use Prim.Native.Nat.{◌+◌}
use Rattle.state_words.specs.Entry.{pushed}
use Rattle.count_step.proofs.StandingLaws.{here-asks, opened-asks, opened-on, opened-start}
use Rattle.count_step.proofs.standing.open_blocks.Goals as goal

pub loop-inside-init : goal.loop-inside-init
unfolding opened-start
loop-inside-init c = λ P es i r count h. (opened-start h, c.innermost-inside.ensures P es i r count h)

pub place-i-requires : goal.place-i-requires
place-i-requires c =
    let p = c.requires in
    here-asks (c.loop-inside.invariant p.0 p.1 p.2 p.3 p.4 p.5).0.inner

pub overflow_cast-i : goal.overflow_cast-i
overflow_cast-i c =
    let p = c.requires in
    let o = c.loop-inside.invariant p.0 p.1 p.2 p.3 p.4 p.5 in
    omega (arith, (opened-asks o.0 (sym o.1 ∙ c.in-Block.is)).low, c.place-i.ensures)

pub overflow_add-i : goal.overflow_add-i
overflow_add-i c =
    let p = c.requires in
    let o = c.loop-inside.invariant p.0 p.1 p.2 p.3 p.4 p.5 in
    omega (arith, (opened-asks o.0 (sym o.1 ∙ c.in-Block.is)).low, c.place-i.ensures)

pub push-requires : goal.push-requires
push-requires c =
    let p = c.requires in
    let o = c.loop-inside.invariant p.0 p.1 p.2 p.3 p.4 p.5 in
    (opened-asks o.0 (sym o.1 ∙ c.in-Block.is)).few

pub overflow_add-many : goal.overflow_add-many
overflow_add-many c =
    let p = c.requires in
    let o = c.loop-inside.invariant p.0 p.1 p.2 p.3 p.4 p.5 in
    omega (arith, (opened-asks o.0 (sym o.1 ∙ c.in-Block.is)).few)

pub innermost-inside-requires-in-Block : goal.innermost-inside-requires-in-Block
innermost-inside-requires-in-Block c =
    let p = c.requires in
    let o = c.loop-inside.invariant p.0 p.1 p.2 p.3 p.4 p.5 in
    let q = opened-on o.0 (sym o.1 ∙ c.in-Block.is) (c.loop-inside.many + 1) c.place-i.result refl c.place-i.ensures _ (c.push.ensures ∙ ap (pushed c.loop-inside.words c.loop-inside.many) c.block.ensures) in
    (p.0, q.around, q.place, q.left, p.4, q.inner)

pub loop-inside-smaller : goal.loop-inside-smaller
loop-inside-smaller c =
    let p = c.requires in
    let o = c.loop-inside.invariant p.0 p.1 p.2 p.3 p.4 p.5 in
    omega (arith, (opened-asks o.0 (sym o.1 ∙ c.in-Block.is)).few)

pub loop-inside-preserved : goal.loop-inside-preserved
loop-inside-preserved c = λ P es i r count h.
    let o = c.loop-inside.invariant P es i r count h in
    let q = opened-on o.0 (sym o.1 ∙ c.in-Block.is) (c.loop-inside.many + 1) c.place-i.result refl c.place-i.ensures _ (c.push.ensures ∙ ap (pushed c.loop-inside.words c.loop-inside.many) c.block.ensures) in
    (q, c.innermost-inside-in-Block.ensures P q.around q.place q.left count q.inner)

pub returns : goal.returns
returns c = λ P es i r count h.
    let o = c.loop-inside.invariant P es i r count h in
    (o.0, o.1, c.in_default.not-Block)
