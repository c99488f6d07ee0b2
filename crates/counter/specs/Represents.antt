-- What the code's answers stand for.
use Rattle.run.specs.RunAnswer.{RunAnswer, outcome_number}
use Rattle.counter.specs.declared.answer.CountedNumbers.{CountedNumbers}

-- How a run ended, in numbers alone: the outcome is its number.
abbrev pub in_numbers : RunAnswer → CountedNumbers
in_numbers a = record { number = a.number; outcome = outcome_number a.outcome; steps = a.steps; left = a.left }
