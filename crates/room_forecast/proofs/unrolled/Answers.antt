-- A loop alone starts its inside at 20.
use native.Mathlib.Omega.{arith}
use Rattle.room_forecast.proofs.PartsLaws.{unrolls-all, unrolls-none}
use Rattle.room_forecast.proofs.unrolled.Goals as goal

pub returns-then-head-at-eq20 : goal.returns-then-head-at-eq20
returns-then-head-at-eq20 c = λ l s end b steps next o. unrolls-all o (omega (arith, c.if-head-at-eq20.true, c.requires))

pub returns-else-head-at-eq20 : goal.returns-else-head-at-eq20
returns-else-head-at-eq20 c = λ l s end b steps next o. unrolls-none o (λ e. c.if-head-at-eq20.false (omega arith))
