-- Between two reductions a closed term stands, and what is left to run from it comes to the whole run.
use mathlib.Core.Path.{sym, ◌∙◌, refl}
use native.Mathlib.Omega.{arith}
use Rattle.reducer.proofs.RunningLaws.{accepted-stands, between_ends, between-fits, between_left, between-on, between-ready, between_start, between-sums, looked}
use Rattle.reducer.proofs.run_accepted.Goals as goal

pub contents_at-contents-requires : goal.contents_at-contents-requires
contents_at-contents-requires c = tt

pub largest-largest-requires : goal.largest-largest-requires
largest-largest-requires c = tt

pub overflow_sub-room : goal.overflow_sub-room
overflow_sub-room c =
    let h = c.requires.1 in
    omega (arith, h.holds.within)

pub zero-requires : goal.zero-requires
zero-requires c =
    let h = c.requires.1 in
    omega (arith, h.holds.within)

pub loop-plan-init : goal.loop-plan-init
loop-plan-init c =
    ((λ hd t ek es el h. between_start h _ _ _ c.start-tally.ensures), c.zero.auto.buf)

pub look-plan-requires : goal.look-plan-requires
look-plan-requires c =
    let b = c.loop-plan.invariant.0 c.args.h c.requires.0 refl (sym c.contents_at-contents.ensures) c.largest-largest.ensures (accepted-stands c.requires.1 _ c.zero.ensures) in
    (c.args.h, (b.term, (_, (b.stands.holds, (b.stands.short, (refl, sym c.contents_at-contents.ensures))))))

pub outcome_of-outcome-requires : goal.outcome_of-outcome-requires
outcome_of-outcome-requires c =
    let es = sym c.contents_at-contents.ensures in
    let b = c.loop-plan.invariant.0 c.args.h c.requires.0 refl es c.largest-largest.ensures (accepted-stands c.requires.1 _ c.zero.ensures) in
    between-sums b c.look-plan.result (looked c.args.h _ _ b.term _ es c.largest-largest.ensures (c.look-plan.ensures c.args.h b.term _ b.stands.holds refl es))

pub overflow_cast-size : goal.overflow_cast-size
overflow_cast-size c =
    let b = c.loop-plan.invariant.0 c.args.h c.requires.0 refl (sym c.contents_at-contents.ensures) c.largest-largest.ensures (accepted-stands c.requires.1 _ c.zero.ensures) in
    omega (arith, b.stands.holds.within, b.stands.short)

pub shape_of-buf-then-ends : goal.shape_of-buf-then-ends
shape_of-buf-then-ends c = c.loop-plan.invariant.1

pub returns-then-ends : goal.returns-then-ends
returns-then-ends c =
    λ t h.
    let es = sym c.contents_at-contents.ensures in
    let b = c.loop-plan.invariant.0 c.args.h t refl es c.largest-largest.ensures (accepted-stands h _ c.zero.ensures) in
    between_ends b c.loop-plan.invariant.1 c.look-plan.result (looked c.args.h _ _ b.term _ es c.largest-largest.ensures (c.look-plan.ensures c.args.h b.term _ b.stands.holds refl es)) c.outcome_of-outcome.result c.outcome_of-outcome.ensures
    (sym c.ends.ensures ∙ c.if-ends.true) (record { end = c.answer.result; replaced = c.loop-plan.replaced }) c.answer.ensures refl

pub perform-reduction-requires : goal.perform-reduction-requires
perform-reduction-requires c =
    let es = sym c.contents_at-contents.ensures in
    let b = c.loop-plan.invariant.0 c.args.h c.requires.0 refl es c.largest-largest.ensures (accepted-stands c.requires.1 _ c.zero.ensures) in
    (c.args.h, (b.term, (between-ready b c.loop-plan.invariant.1 c.look-plan.result (looked c.args.h _ _ b.term _ es c.largest-largest.ensures (c.look-plan.ensures c.args.h b.term _ b.stands.holds refl es)) c.outcome_of-outcome.result c.outcome_of-outcome.ensures (sym c.ends.ensures ∙ c.if-ends.false), (refl, es))))

pub overflow_add-replaced : goal.overflow_add-replaced
overflow_add-replaced c =
    let es = sym c.contents_at-contents.ensures in
    let b = c.loop-plan.invariant.0 c.args.h c.requires.0 refl es c.largest-largest.ensures (accepted-stands c.requires.1 _ c.zero.ensures) in
    let e = looked c.args.h _ _ b.term _ es c.largest-largest.ensures (c.look-plan.ensures c.args.h b.term _ b.stands.holds refl es) in
    let fits = between-fits b c.loop-plan.invariant.1 c.look-plan.result e c.outcome_of-outcome.result c.outcome_of-outcome.ensures (sym c.ends.ensures ∙ c.if-ends.false) (omega (arith, c.ranges.budget)) c.perform-reduction.result.replaced (c.perform-reduction.ensures c.args.h b.term b.stands e refl es).replaces in
    omega (arith, fits)

pub advance-tally-requires : goal.advance-tally-requires
advance-tally-requires c =
    let es = sym c.contents_at-contents.ensures in
    let b = c.loop-plan.invariant.0 c.args.h c.requires.0 refl es c.largest-largest.ensures (accepted-stands c.requires.1 _ c.zero.ensures) in
    let m = between_left b c.loop-plan.invariant.1 c.look-plan.result (looked c.args.h _ _ b.term _ es c.largest-largest.ensures (c.look-plan.ensures c.args.h b.term _ b.stands.holds refl es)) c.outcome_of-outcome.result c.outcome_of-outcome.ensures (sym c.ends.ensures ∙ c.if-ends.false) in
    (m.0, omega (arith, m.1, c.ranges.budget))

pub loop-plan-smaller : goal.loop-plan-smaller
loop-plan-smaller c =
    let es = sym c.contents_at-contents.ensures in
    let b = c.loop-plan.invariant.0 c.args.h c.requires.0 refl es c.largest-largest.ensures (accepted-stands c.requires.1 _ c.zero.ensures) in
    let m = between_left b c.loop-plan.invariant.1 c.look-plan.result (looked c.args.h _ _ b.term _ es c.largest-largest.ensures (c.look-plan.ensures c.args.h b.term _ b.stands.holds refl es)) c.outcome_of-outcome.result c.outcome_of-outcome.ensures (sym c.ends.ensures ∙ c.if-ends.false) in
    rw c.advance-tally.ensures (omega (arith, m.0))

pub loop-plan-preserved : goal.loop-plan-preserved
loop-plan-preserved c = (
  (λ hd t ek es el h.
      let b = c.loop-plan.invariant.0 hd t ek es el h in
      let e = looked hd _ _ b.term _ es el (c.look-plan.ensures hd b.term _ b.stands.holds ek es) in
      between-on b c.loop-plan.invariant.1 c.look-plan.result e c.outcome_of-outcome.result c.outcome_of-outcome.ensures (sym c.ends.ensures ∙ c.if-ends.false) _ _ _ (c.perform-reduction.ensures hd b.term b.stands e ek es) c.perform-reduction.auto.buf _ c.advance-tally.ensures),
  c.perform-reduction.auto.buf ∙ c.loop-plan.invariant.1,
)
