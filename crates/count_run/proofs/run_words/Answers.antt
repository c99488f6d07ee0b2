use native.Mathlib.Omega.{arith}
use mathlib.Core.Path.{refl, sym, ◌∙◌}
use Rattle.count_run.proofs.RunningLaws.{between_ends, between-goes, between_left, between-on, between_start}
use Rattle.count_run.proofs.run_words.Goals as goal

pub loop-way-init : goal.loop-way-init
loop-way-init c =
    (refl, (λ P s h. between_start c.args.store.now h c.args.program.largest c.args.budget _ c.start-tally.ensures))

pub way_of-way-requires : goal.way_of-way-requires
way_of-way-requires c =
    let b = c.loop-way.invariant.1 c.requires.0 c.requires.1 c.requires.2 in
    (_, (c.requires.0, b.state, b.holds))

pub look-outcome-requires : goal.look-outcome-requires
look-outcome-requires c =
    let b = c.loop-way.invariant.1 c.requires.0 c.requires.1 c.requires.2 in
    ((c.requires.0, b.state, b.holds), c.way_of-way.ensures)

pub shape_of-store-then-ends : goal.shape_of-store-then-ends
shape_of-store-then-ends c = c.loop-way.invariant.0

pub returns-then-ends : goal.returns-then-ends
returns-then-ends c =
    λ h P s e k.
    let b = c.loop-way.invariant.1 P s k in
    between_ends b c.look-outcome.result (c.look-outcome.ensures P b.state b.holds) (sym c.ends.ensures ∙ c.if-ends.true) c.answer.result c.answer.ensures h e

pub make-many-requires : goal.make-many-requires
make-many-requires c =
    let b = c.loop-way.invariant.1 c.requires.0 c.requires.1 c.requires.2 in
    ((c.requires.0, b.state, b.holds, between-goes b c.look-outcome.result (c.look-outcome.ensures c.requires.0 b.state b.holds) (sym c.ends.ensures ∙ c.if-ends.false) (omega (arith, c.ranges.program))), c.way_of-way.ensures)

pub advance-tally-requires : goal.advance-tally-requires
advance-tally-requires c =
    let b = c.loop-way.invariant.1 c.requires.0 c.requires.1 c.requires.2 in
    let m = between_left b c.look-outcome.result (c.look-outcome.ensures c.requires.0 b.state b.holds) (sym c.ends.ensures ∙ c.if-ends.false) in
    (m.0, omega (arith, m.1, c.ranges.budget))

pub loop-way-smaller : goal.loop-way-smaller
loop-way-smaller c =
    let b = c.loop-way.invariant.1 c.requires.0 c.requires.1 c.requires.2 in
    let m = between_left b c.look-outcome.result (c.look-outcome.ensures c.requires.0 b.state b.holds) (sym c.ends.ensures ∙ c.if-ends.false) in
    rw c.advance-tally.ensures (omega (arith, m.0))

pub loop-way-preserved : goal.loop-way-preserved
loop-way-preserved c = (
  c.make-many.auto.store ∙ c.loop-way.invariant.0,
  (λ P s h.
      let b = c.loop-way.invariant.1 P s h in
      between-on b c.look-outcome.result (c.look-outcome.ensures P b.state b.holds) (sym c.ends.ensures ∙ c.if-ends.false) _ _ c.make-many.result (c.make-many.ensures P b.state b.holds) c.make-many.auto.store _ c.advance-tally.ensures),
)
