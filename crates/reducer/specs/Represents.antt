-- How a run of the reducer ended, and how that crosses the C boundary.
use Rattle.std.specs.Prelude.{ℕ, Result, Ok, Err}
use Rattle.record.specs.declared.refusal.Refusal.{Refusal}
use Rattle.record.specs.Refusal.{refusal_number}
use Rattle.run.specs.Represents.{as_run_answer}
use Rattle.run.specs.RunAnswer.{RunAnswer, outcome_number, refusal}
use Rattle.reducer.specs.declared.answer.Reduced.{Reduced}
use Rattle.reducer.specs.declared.answer.ReducedNumbers.{ReducedNumbers}

-- The answer of a run that may be refused: how it ended, or the refusal's number.
abbrev pub answer_of : Result Reduced Refusal → RunAnswer
answer_of (Ok r) = as_run_answer r.end
answer_of (Err r) = refusal (refusal_number r)

-- The variables that it replaced, none where it is refused.
abbrev pub replaced_of : Result Reduced Refusal → ℕ
replaced_of (Ok r) = r.replaced
replaced_of (Err r) = 0

-- The answer and the variables replaced, in numbers alone: the outcome is its number.
abbrev pub in_numbers : RunAnswer → ℕ → ReducedNumbers
in_numbers a n = record { number = a.number; outcome = outcome_number a.outcome; steps = a.steps; left = a.left; used = a.used; replaced = n }
