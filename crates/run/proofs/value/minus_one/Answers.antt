use native.Mathlib.Omega.{arith}
use Rattle.run.proofs.MinusOneLaws.{minus-one-by-quotient}
use Rattle.run.proofs.value.minus_one.Goals as goal

pub overflow_sub-result : goal.overflow_sub-result
overflow_sub-result c =
    omega (arith, minus-one-by-quotient c.args.v (omega arith))

pub returns : goal.returns
returns c =
    omega (arith, minus-one-by-quotient c.args.v (omega arith))
