-- The bytes of a row, or those of its translation without the head.
use native.Mathlib.Omega.{arith}
use Rattle.room_forecast.proofs.WeightsLaws.{weigh-bytes, weigh-term}
use Rattle.room_forecast.proofs.Measure.row_weight.Goals as goal

pub overflow_sub-result-in-Term : goal.overflow_sub-result-in-Term
overflow_sub-result-in-Term c =
    omega (arith, c.row_size.ensures c.requires.0, weigh-term c.in-Term.k c.requires.0.block)

pub returns-in-Program : goal.returns-in-Program
returns-in-Program c = λ h. rw c.in-Program.is (weigh-bytes h)

pub returns-in-Term : goal.returns-in-Term
returns-in-Term c = λ h. rw c.in-Term.is (omega (arith, c.row_size.ensures h, weigh-term c.in-Term.k h.block))
