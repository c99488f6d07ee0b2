use Rattle.std.proofs.Common.{arith, refl, sym, ◌∙◌}
use Rattle.nesting_check.proofs.RowsLaws.{scan-start, standing-end, standing-low}
use Rattle.nesting_check.proofs.too_deep.Goals as goal

pub loop-q-init : goal.loop-q-init
loop-q-init c = λ P b u. scan-start _ _ _ _ P b u refl

pub loop-q-smaller : goal.loop-q-smaller
loop-q-smaller c =
    let p = c.requires.0 in
    let t = c.in-Some.ensures _ _ (c.loop-q.invariant p.0 p.1.0 p.1.1) c.loop-q-test.true in
    omega (arith, t.1, t.2, standing-low _ _ _ t.0.rows _ t.0.stand, c.loop-q-test.true)

pub returns : goal.returns
returns c =
    λ P b u.
    let s = c.loop-q.invariant P b u in
    sym (standing-end _ _ _ s.rows _ s.stand (omega (arith, c.loop-q-test.false)) (omega (arith, s.count, s.few))) ∙ s.same
