use native.Mathlib.Omega.{arith}
use mathlib.Core.List.{[], ◌∷◌}
use mathlib.Core.Path.{refl, sym, ◌∙◌}
use borrow.Author.Tests.{eq-eqb, ne_eqb}
use Rattle.record.specs.declared.kind.Kind.TheVariants.{LetAll}
use Rattle.record.proofs.KindLaws.{named-number, not-number}
use Rattle.recognition.proofs.RecognitionLaws.{is_let_all-kind, recognise-end, recognise-here, recognise-next, recognise-no, recognise-start, recognise-to}
use Rattle.recognition.proofs.ScanLaws.{kind-room, terms-record}
use Rattle.recognition.proofs.TermsLaws.{over_end, turn}
use Rattle.recognition.proofs.is_translation.Goals as goal

pub loop-at-init : goal.loop-at-init
loop-at-init c =
    let q = c.requires.0 in
    rw (c.into_iter-at-iterator.ensures.into_iter_gives, c.between-at-items.ensures) (record {
      next = ((q.0 ∷ [], terms-record q.1 c.requires.1 c.contents_at.ensures), q.1.within);
      finite = tt;
      over = record { source = refl; width = refl; end = refl };
      left = λ t h. recognise-start h c.requires.1 c.contents_at.ensures;
    })

pub is_legal-requires : goal.is_legal-requires
is_legal-requires c =
    let q = c.requires.0 in
    let v = turn c.loop-at.invariant.over c.in-Some.ensures.steps in
    (recognise-here (recognise-to v.here (c.loop-at.invariant.left q.0 q.1)) v.some, q.1.header.k-high)

pub returns-then-not-is_legal : goal.returns-then-not-is_legal
returns-then-not-is_legal c =
    let v = turn c.loop-at.invariant.over c.in-Some.ensures.steps in
    λ t h. recognise-no (recognise-to v.here (c.loop-at.invariant.left t h)) v.some (λ u g. sym c.if-not-is_legal.true ∙ c.is_legal.ensures u g)

pub read-requires : goal.read-requires
read-requires c =
    let q = c.requires.0 in
    let v = turn c.loop-at.invariant.over c.in-Some.ensures.steps in
    omega (arith, kind-room (recognise-here (recognise-to v.here (c.loop-at.invariant.left q.0 q.1)) v.some).1)

pub loop-at-preserved-in-LetAll : goal.loop-at-preserved-in-LetAll
loop-at-preserved-in-LetAll c =
    let v = turn c.loop-at.invariant.over c.in-Some.ensures.steps in
    record {
      next = c.in-Some.ensures.goes.keeps;
      finite = tt;
      over = v.over;
      left = λ t h.
          recognise-next (recognise-to v.here (c.loop-at.invariant.left t h)) v.some _ _
          (λ u g. sym c.if-not-is_legal.false ∙ c.is_legal.ensures u g)
          (λ u g. sym (eq-eqb _ 38 (named-number c.in-LetAll.ensures)) ∙ is_let_all-kind g)
          v.step;
    }

pub loop-at-preserved : goal.loop-at-preserved
loop-at-preserved c =
    let v = turn c.loop-at.invariant.over c.in-Some.ensures.steps in
    record {
      next = c.in-Some.ensures.goes.keeps;
      finite = tt;
      over = v.over;
      left = λ t h.
          recognise-next (recognise-to v.here (c.loop-at.invariant.left t h)) v.some _ _
          (λ u g. sym c.if-not-is_legal.false ∙ c.is_legal.ensures u g)
          (λ u g. sym (ne_eqb _ 38 (not-number LetAll tt c.read.ensures c.in_default.not-LetAll)) ∙ is_let_all-kind g)
          v.step;
    }

pub returns : goal.returns
returns c = λ t h. recognise-end (c.loop-at.invariant.left t h) (over_end c.loop-at.invariant.over c.in-None.ensures.steps)
