-- Between two steps a configuration stands, and what is left to run from it comes to the whole run.
use mathlib.Core.Path.{refl, sym, ◌∙◌}
use native.Mathlib.Omega.{arith}
use Rattle.stepper.proofs.RunningLaws.{accepted-stands, between_ends, between_left, between-on, between-ready, between_start, between-sums, looked}
use Rattle.stepper.proofs.run_accepted.Goals as goal

pub overflow_sub-room : goal.overflow_sub-room
overflow_sub-room c = omega (arith, c.requires.1.holds.within)

pub zero-requires : goal.zero-requires
zero-requires c = omega (arith, c.requires.1.holds.within)

pub loop-plan-init : goal.loop-plan-init
loop-plan-init c =
    ((λ hd _ _ P h. between_start h _ _ _ c.start-tally.ensures), (c.zero.auto.buf, refl))

pub look-plan-requires : goal.look-plan-requires
look-plan-requires c =
    let b = (c.loop-plan.invariant.0 c.args.h c.contents_at-contents.ensures c.largest-largest.ensures c.requires.0 (accepted-stands c.requires.1 _ c.zero.ensures)) in
    (c.args.h, (b.block, (b.stands.holds, (b.stands.short, (b.stands.count, (sym c.contents_at-contents.ensures))))))

pub outcome_of-outcome-requires : goal.outcome_of-outcome-requires
outcome_of-outcome-requires c =
    let b = (c.loop-plan.invariant.0 c.args.h c.contents_at-contents.ensures c.largest-largest.ensures c.requires.0 (accepted-stands c.requires.1 _ c.zero.ensures)) in
    between-sums b c.look-plan.result (looked _ _ _ _ _ _ (sym c.contents_at-contents.ensures) c.largest-largest.ensures (c.look-plan.ensures c.args.h b.block b.stands.holds b.stands.count (sym c.contents_at-contents.ensures)))

pub overflow_cast-size : goal.overflow_cast-size
overflow_cast-size c =
    let b = (c.loop-plan.invariant.0 c.args.h c.contents_at-contents.ensures c.largest-largest.ensures c.requires.0 (accepted-stands c.requires.1 _ c.zero.ensures)) in
    omega (arith, b.stands.holds.within, b.stands.short)

pub shape_of-buf-then-ends : goal.shape_of-buf-then-ends
shape_of-buf-then-ends c = c.loop-plan.invariant.1.0

pub shape_of-store-then-ends : goal.shape_of-store-then-ends
shape_of-store-then-ends c = c.loop-plan.invariant.1.1

pub returns-then-ends : goal.returns-then-ends
returns-then-ends c =
    λ P h.
    let b = c.loop-plan.invariant.0 c.args.h c.contents_at-contents.ensures c.largest-largest.ensures P (accepted-stands h _ c.zero.ensures) in
    between_ends b c.loop-plan.invariant.1.0 c.look-plan.result (looked _ _ _ _ _ _ (sym c.contents_at-contents.ensures) c.largest-largest.ensures (c.look-plan.ensures c.args.h b.block b.stands.holds b.stands.count (sym c.contents_at-contents.ensures))) c.outcome_of-outcome.result c.outcome_of-outcome.ensures
    (sym c.ends.ensures ∙ c.if-ends.true) c.answer.result c.answer.ensures

pub perform-size-requires : goal.perform-size-requires
perform-size-requires c =
    let b = (c.loop-plan.invariant.0 c.args.h c.contents_at-contents.ensures c.largest-largest.ensures c.requires.0 (accepted-stands c.requires.1 _ c.zero.ensures)) in
    (c.args.h, (b.block, (between-ready b c.loop-plan.invariant.1.0 c.look-plan.result (looked _ _ _ _ _ _ (sym c.contents_at-contents.ensures) c.largest-largest.ensures (c.look-plan.ensures c.args.h b.block b.stands.holds b.stands.count (sym c.contents_at-contents.ensures))) c.outcome_of-outcome.result c.outcome_of-outcome.ensures (sym c.ends.ensures ∙ c.if-ends.false), sym c.contents_at-contents.ensures)))

pub advance-tally-requires : goal.advance-tally-requires
advance-tally-requires c =
    let b = (c.loop-plan.invariant.0 c.args.h c.contents_at-contents.ensures c.largest-largest.ensures c.requires.0 (accepted-stands c.requires.1 _ c.zero.ensures)) in
    let m = between_left b c.loop-plan.invariant.1.0 c.look-plan.result (looked _ _ _ _ _ _ (sym c.contents_at-contents.ensures) c.largest-largest.ensures (c.look-plan.ensures c.args.h b.block b.stands.holds b.stands.count (sym c.contents_at-contents.ensures))) c.outcome_of-outcome.result c.outcome_of-outcome.ensures (sym c.ends.ensures ∙ c.if-ends.false) in
    (m.0, omega (arith, m.1, c.ranges.budget))

pub loop-plan-smaller : goal.loop-plan-smaller
loop-plan-smaller c =
    let b = (c.loop-plan.invariant.0 c.args.h c.contents_at-contents.ensures c.largest-largest.ensures c.requires.0 (accepted-stands c.requires.1 _ c.zero.ensures)) in
    let m = between_left b c.loop-plan.invariant.1.0 c.look-plan.result (looked _ _ _ _ _ _ (sym c.contents_at-contents.ensures) c.largest-largest.ensures (c.look-plan.ensures c.args.h b.block b.stands.holds b.stands.count (sym c.contents_at-contents.ensures))) c.outcome_of-outcome.result c.outcome_of-outcome.ensures (sym c.ends.ensures ∙ c.if-ends.false) in
    rw c.advance-tally.ensures (omega (arith, m.0))

pub loop-plan-preserved : goal.loop-plan-preserved
loop-plan-preserved c = (
  (λ hd ec el P h.
      let b = c.loop-plan.invariant.0 hd ec el P h in
      let e = looked hd _ _ _ _ _ (sym ec) el (c.look-plan.ensures hd b.block b.stands.holds b.stands.count (sym ec)) in
      between-on b c.loop-plan.invariant.1.0 c.look-plan.result e c.outcome_of-outcome.result c.outcome_of-outcome.ensures (sym c.ends.ensures ∙ c.if-ends.false) _ _ _ (c.perform-size.ensures hd b.block b.stands e (sym ec)) c.perform-size.auto.buf _ c.advance-tally.ensures),
  (c.perform-size.auto.buf ∙ c.loop-plan.invariant.1.0, c.perform-size.auto.store ∙ c.loop-plan.invariant.1.1),
)
