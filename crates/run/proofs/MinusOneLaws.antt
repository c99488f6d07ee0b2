-- 02 C-12's expression is minus one: the quotient is 0 of 0, and 1 of every other value.
use Prim.Native.Nat.{suc, zero}
use native.Mathlib.Omega.{arith}
use Rattle.rules.proofs.StoreLaws.{minus_one-suc, minus_one-zero}
use Rattle.run.specs.MinusOne.{MinusOneByQuotient}

pub minus-one-by-quotient : MinusOneByQuotient
minus-one-by-quotient zero h = (omega arith, omega (arith, minus_one-zero))
minus-one-by-quotient (suc n) h = (omega arith, omega (arith, minus_one-suc n))
