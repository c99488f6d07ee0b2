use native.Mathlib.Omega.{arith}
use mathlib.Core.Path.{sym, ◌∙◌}
use mathlib.Core.Logic.{⊎_elim}
use Rattle.record.specs.declared.kind.Kind.TheVariants.{Assignment, MinusOne, PlusOne}
use Rattle.record.proofs.KindLaws.{named-number, not-number}
use Rattle.state_check.proofs.EntryLaws.{at_room, last-end, last-no-sum, last_none, last-other, last-room, last_sum}
use Rattle.state_check.proofs.last_right.Goals as goal

pub returns-then-words-eq0 : goal.returns-then-words-eq0
returns-then-words-eq0 c = λ r b s. last_none c.args.program.start c.args.at.p c.args.at.end b s _ _ c.if-words-eq0.true

pub returns-then-at : goal.returns-then-at
returns-then-at c = λ r b s. last-end c.args.program.start c.args.at.p c.args.at.end b s _ _ c.if-words-eq0.false c.if-at.true

pub record_at-requires : goal.record_at-requires
record_at-requires c =
    let q = c.requires in
    at_room c.args.program.start c.args.at.p c.args.at.end q.1.0 q.1.1 c.if-at.false

pub kind_at-requires : goal.kind_at-requires
kind_at-requires c =
    let q = c.requires in
    omega (arith, last-room c.args.program.start c.args.at.p c.args.at.end q.1.0 q.1.1 c.if-at.false (named-number c.in-Assignment.ensures))

pub returns-in-PlusOne : goal.returns-in-PlusOne
returns-in-PlusOne c = λ r b s.
    last_sum c.args.program.start c.args.at.p c.args.at.end b s c.if-at.false (named-number c.in-Assignment.ensures) _ _ c.if-words-eq0.false
    (⊎_elim (λ i. omega (arith, named-number (sym i ∙ c.kind_at.ensures))) (λ i. omega (arith, named-number (sym i ∙ c.kind_at.ensures))) c.in-PlusOne.is)

pub returns-in_default-matches : goal.returns-in_default-matches
returns-in_default-matches c = λ r b s.
    last-no-sum c.args.program.start c.args.at.p c.args.at.end b s c.if-at.false (named-number c.in-Assignment.ensures) _ _ c.if-words-eq0.false
    (not-number PlusOne tt c.kind_at.ensures c.in_default-matches.not-PlusOne) (not-number MinusOne tt c.kind_at.ensures c.in_default-matches.not-MinusOne)

pub returns-in_default : goal.returns-in_default
returns-in_default c = λ r b s.
    last-other c.args.program.start c.args.at.p c.args.at.end b s _ _ c.if-words-eq0.false c.if-at.false (not-number Assignment tt c.record_at.ensures c.in_default.not-Assignment)
