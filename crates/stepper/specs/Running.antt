-- The stepper's run as it is made: what the rows let through, and the run of it.
use Rattle.std.specs.Prelude.{ℕ, ◌≡◌, ◌≤◌, List, length}
use Rattle.record.specs.declared.Header.{Header}
use Rattle.record.specs.Header.{ok_of}
use Rattle.record.specs.Holding.{ProgramIn}
use Rattle.rules.specs.Rules.{at}
use Rattle.rules.specs.Sound.{SmallValues}
use Rattle.rules.specs.Syntax.{Block}
use Rattle.run.specs.declared.RunEnd.{RunEnd}
use Rattle.run.specs.Represents.{as_run_answer}
use Rattle.stepper.specs.RunStepper.{StepperCall, stepped_to, steps}

-- What rows 1 to 6, 15 and 16 let through: the record of the program P in the buffer, and k values, none above the ceiling.
pub record Accepted (h : Header) (P : Block) (buf : List ℕ) (used : ℕ) (store : List ℕ) : Type 0 where
  pub holds : ProgramIn h P buf used
  pub short : length buf ≤ 16384
  pub count : length store ≡ h.k
  pub values : SmallValues (ok_of h) store

-- The run of what is accepted.
abbrev pub accepted_run : Header → Block → ℕ → List ℕ → ℕ → StepperCall
accepted_run h P room store budget = stepped_to h room budget (steps h room budget (at P store))

-- The code's answer, buffer and store are those of a call.
abbrev pub Gives : RunEnd → List ℕ → List ℕ → StepperCall → Type 0
Gives r buf store call = (as_run_answer r ≡ call.answer) × (buf ≡ call.buf) × (store ≡ call.store)
