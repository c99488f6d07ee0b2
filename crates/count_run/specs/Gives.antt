-- What the code of a counting run answers and leaves, as 02's call.
use Rattle.std.specs.Prelude.{◌≡◌, List, ℕ}
use Rattle.run.specs.declared.RunEnd.{RunEnd}
use Rattle.run.specs.Represents.{as_run_answer}
use Rattle.counting.specs.CountingCall.{CountingCall}

-- The answer, the words and the store are those of a call.
abbrev pub Gives : RunEnd → List ℕ → List ℕ → CountingCall → Type 0
Gives r words store call = (as_run_answer r ≡ call.answer) × (words ≡ call.words) × (store ≡ call.store)
