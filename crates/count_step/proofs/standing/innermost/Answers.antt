use native.Mathlib.Omega.{arith}
use mathlib.Core.Path.{sym, ◌∙◌}
use Rattle.record.specs.declared.kind.Kind.TheVariants.{Assignment, Block}
use Rattle.record.proofs.KindLaws.{named-number, not-number}
use Rattle.count_step.proofs.StandingLaws.{here-asks, is-assign, is-loop, is-nest, stands-0, stands-kind}
use Rattle.count_step.proofs.standing.innermost.Goals as goal

pub place-i-requires : goal.place-i-requires
place-i-requires c = here-asks c.requires.5

pub returns-then-i-inner_end : goal.returns-then-i-inner_end
returns-then-i-inner_end c =
    λ P es i r count h. stands-0 h c.place-i.result c.place-i.ensures c.inner_end.result (c.inner_end.ensures P es i r count h) c.if-i-inner_end.true

pub record_at-requires : goal.record_at-requires
record_at-requires c =
    let p = c.requires in
    let b = stands-kind p.5 c.place-i.result c.place-i.ensures c.inner_end.result (c.inner_end.ensures p.0 p.1 p.2 p.3 p.4 p.5) c.if-i-inner_end.false in
    omega (arith, b.0)

pub returns-in-Block : goal.returns-in-Block
returns-in-Block c = λ P es i r count h.
    let b = stands-kind h c.place-i.result c.place-i.ensures c.inner_end.result (c.inner_end.ensures P es i r count h) c.if-i-inner_end.false in
    is-nest r (sym b.1 ∙ named-number c.in-Block.ensures)

pub returns-in-Assignment : goal.returns-in-Assignment
returns-in-Assignment c = λ P es i r count h.
    let b = stands-kind h c.place-i.result c.place-i.ensures c.inner_end.result (c.inner_end.ensures P es i r count h) c.if-i-inner_end.false in
    is-assign r (sym b.1 ∙ named-number c.in-Assignment.ensures)

pub returns-in_default : goal.returns-in_default
returns-in_default c = λ P es i r count h.
    let b = stands-kind h c.place-i.result c.place-i.ensures c.inner_end.result (c.inner_end.ensures P es i r count h) c.if-i-inner_end.false in
    is-loop r b.2 (λ z. not-number Block tt c.record_at.ensures c.in_default.not-Block (b.1 ∙ z)) (λ z. not-number Assignment tt c.record_at.ensures c.in_default.not-Assignment (b.1 ∙ z))
