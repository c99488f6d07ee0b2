-- The place falls to the one behind the first, where one digit is left.
use native.Mathlib.Omega.{arith}
use Rattle.print.proofs.DecimalLaws.{digits-some}
use Rattle.print.proofs.PrintLaws.{written_last, written_none, written_turn}
use Rattle.print.proofs.put_decimal.Goals as goal

pub loop-place-init : goal.loop-place-init
loop-place-init c =
    (omega (arith, digits-some c.args.n, c.digits.ensures.0), written_none c.args.at _ c.args.n c.args.out.now (omega (arith, c.digits.ensures.0)))

pub loop-place-preserved : goal.loop-place-preserved
loop-place-preserved c =
    let l = c.loop-place in (
      omega (arith, c.loop-place-test.true),
      written_turn c.args.at l.place l.left l.out _ l.invariant.0 (omega (arith, l.auto.out, l.auto.place, c.digits.ensures.1)) l.invariant.1,
    )

pub overflow_cast-out-2 : goal.overflow_cast-out-2
overflow_cast-out-2 c =
    let l = c.loop-place in
    let w = written_last c.args.at l.place l.left l.out _ l.invariant.0 (omega (arith, c.loop-place-test.false)) (omega (arith, l.auto.out, c.requires)) l.invariant.1 in
    omega (arith, w.0)

pub overflow_add-out-2 : goal.overflow_add-out-2
overflow_add-out-2 c =
    let l = c.loop-place in
    let w = written_last c.args.at l.place l.left l.out _ l.invariant.0 (omega (arith, c.loop-place-test.false)) (omega (arith, l.auto.out, c.requires)) l.invariant.1 in
    omega (arith, w.0)

pub returns : goal.returns
returns c =
    let l = c.loop-place in
    let w = written_last c.args.at l.place l.left l.out _ l.invariant.0 (omega (arith, c.loop-place-test.false)) (omega (arith, l.auto.out, c.requires)) l.invariant.1 in
    (w.1, omega (arith, c.digits.ensures.0), omega (arith, c.digits.ensures.1))
