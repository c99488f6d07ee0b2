-- The run of the stepper, over bytes (01 "Stepper", "Run orders"): rows 1 to 6, 15 and 16, and the
-- rules' run of the configuration.
use Rattle.std.specs.Prelude.{suc, zero, ℕ, List, [], ◌∷◌, length}
use Rattle.record.specs.Answers.{padded}
use Rattle.record.specs.declared.Header.{Header}
use Rattle.record.specs.Header.{ok_of}
use Rattle.record.specs.Rows.{Row, bad_buffer, first_row, header_of, limited_program_rows, program_of, row, store_rows}
use Rattle.rules.specs.Run.{Ran}
use Rattle.rules.specs.Step.{step}
use Rattle.rules.specs.Syntax.{Config}
use Rattle.run.specs.RunAnswer.{RunAnswer, accepted, refusal, run_in}
use Rattle.stepping.specs.State.{config_bytes}

-- The answer, and the buffer and the store afterwards.
pub record StepperCall : Type 0 where
  pub answer : RunAnswer
  pub buf : List ℕ
  pub store : List ℕ

-- The configuration that is lent.
abbrev pub config_of : List ℕ → ℕ → List ℕ → Config
config_of buf used store = record { block = program_of buf used; store = store }

-- The rules' run from a configuration, in a buffer of `room` bytes.
abbrev pub steps : Header → ℕ → ℕ → Config → Ran Config
steps h room budget c = run_in (step (ok_of h)) (config_bytes h) room budget c

-- What a run leaves: the record of the configuration left, zeros behind it, and its store.
unfoldable pub stepped_to : Header → ℕ → ℕ → Ran Config → StepperCall
stepped_to h room budget r = record {
  answer = accepted budget r (length (config_bytes h r.state));
  buf = padded room (config_bytes h r.state);
  store = r.state.store;
}

-- The rows of the call, in the order of the table.
abbrev pub stepper_rows : List ℕ → ℕ → List ℕ → List Row
stepper_rows buf used store = row 1 (bad_buffer buf used) ∷ limited_program_rows buf used (store_rows buf used store [])

-- By the number of the first row that applies, 0 where none does: the run, or a refusal and buffer and store as they came.
unfoldable pub stepper_by : ℕ → List ℕ → ℕ → List ℕ → ℕ → StepperCall
stepper_by zero buf used store budget =
    stepped_to (header_of buf used) (length buf) budget (steps (header_of buf used) (length buf) budget (config_of buf used store))
stepper_by (suc n) buf used store budget = record { answer = refusal (suc n); buf = buf; store = store }

-- THE CALL: buffer, used length, store, budget.
unfoldable pub run_stepper : List ℕ → ℕ → List ℕ → ℕ → StepperCall
run_stepper buf used store budget = stepper_by (first_row (stepper_rows buf used store)) buf used store budget
