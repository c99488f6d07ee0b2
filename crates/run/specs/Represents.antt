-- What the code's types stand for: each value of the code's Outcome and RunEnd, as a value of the specification.
use Rattle.std.specs.Prelude.{ℕ, Result, Ok, Err}
use Rattle.rules.specs.Run as rules
use Rattle.run.specs.declared.Outcome.{Outcome}
use Rattle.run.specs.declared.Outcome.TheVariants.{Finished, NoRoom, Over, Refused, Spent}
use Rattle.run.specs.declared.RunEnd.{RunEnd}
use Rattle.run.specs.declared.RunNumbers.{RunNumbers}
use Rattle.run.specs.declared.Tally.{Tally}
use Rattle.run.specs.RunAnswer.{RunAnswer, outcome_number, refusal}

-- Each case of the code's enum, with 01's word for the outcome.
abbrev pub as_outcome : Outcome → rules.Outcome
as_outcome Finished = rules.is_finished  -- finished
as_outcome Over = rules.is_over  -- over: the next step would give 4,294,967,296
as_outcome NoRoom = rules.no_room  -- no room: the next state is longer than the buffer
as_outcome Spent = rules.spent  -- spent: count = budget, and a further step possible
as_outcome Refused = rules.refused  -- refused: the call was not accepted

-- How a run ended that was made, field by field.
abbrev pub as_run_answer : RunEnd → RunAnswer
as_run_answer r = record { number = 0; outcome = as_outcome r.outcome; steps = r.steps; left = r.left; used = r.used }

-- The answer of a run that may be refused: how it ended, or the refusal's number, as `number` gives it.
abbrev pub run_answer_of : {E : Type 0} → (E → ℕ) → Result RunEnd E → RunAnswer
run_answer_of number (Ok r) = as_run_answer r
run_answer_of number (Err r) = refusal (number r)

-- How a run ended, in numbers alone: the outcome is its number.
abbrev pub in_numbers : RunAnswer → RunNumbers
in_numbers a = record { number = a.number; outcome = outcome_number a.outcome; steps = a.steps; left = a.left; used = a.used }

-- A run that was made, stopped by an outcome, with its tally and the new used length.
abbrev pub answered : Outcome → Tally → ℕ → RunAnswer
answered o t used = record { number = 0; outcome = as_outcome o; steps = t.steps; left = t.left; used = used }
