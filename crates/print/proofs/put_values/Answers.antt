-- The values from number i on, put behind those written, give all.
use native.Mathlib.Omega.{arith}
use mathlib.Core.Path.{◌≡◌, ◌∙◌, ap, sym}
use lib.ListN.{length}
use Rattle.print.proofs.PrintLaws.{values-done, values_length, values-none, values-turn}
use Rattle.print.proofs.put_values.Goals as goal

pub loop-value-preserved : goal.loop-value-preserved
loop-value-preserved c =
    let l = c.loop-value in
    let i = l.value-index in
    let t = values-turn l.out c.put_spaced-place.new.out c.args.store.now l.place c.put_spaced-place.result i c.loop-value-test.true c.put_spaced-place.ensures.0 c.put_spaced-place.ensures.1 (omega (arith, l.auto.out, l.invariant.0)) in
    let n = values_length c.args.store.now i c.loop-value-test.true in
    (omega (arith, l.invariant.0), omega (arith, l.invariant.1), t ∙ l.invariant.2)

pub returns : goal.returns
returns c =
    let l = c.loop-value in
    let e : l.value-index ≡ length c.args.store.now = omega arith in
    let n = ap length (values-none c.args.store.now l.value-index e) in
    (sym (values-done l.out c.args.store.now l.place l.value-index e) ∙ l.invariant.2, omega (arith, l.invariant.1), omega (arith, l.invariant.0))
