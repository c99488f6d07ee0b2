-- DEMAND 1: whoever hands in a program, a term or a store, sound or damaged, gets an outcome or one of the numbered refusals, 01's
-- ten and those that 02 adds, and a refusal changes no byte that was lent. (That each call ends is part of every function's proof.)
use Rattle.std.specs.Prelude.{ℕ, ◌≡◌, ◌↔◌, ◌⊎◌, true, List, [], map, ◌∷◌}
use Rattle.batch.specs.RunBatch.{batch_rows, run_batch}
use Rattle.conversion.specs.Convert.{convert_call, convert_rows}
use Rattle.counting.specs.CountingCall.{counting_rows, expand_call, expand_rows, run_counting}
use Rattle.record.specs.Answers.{check_program, check_program_rows, check_term, check_term_rows}
use Rattle.record.specs.declared.Conversion.{Conversion}
use Rattle.record.specs.declared.Conversion.TheVariants.{ToFirst, ToSecond}
use Rattle.record.specs.declared.Sort.{Sort}
use Rattle.record.specs.Rows.{First, NoRow, Row, first_row}
use Rattle.record.specs.Table.{Place, in_table, numbers_at}
use Rattle.record.specs.Table as table
use Rattle.reducer.specs.RunReducer.{reducer_rows, run_reducer}
use Rattle.run.specs.RunAnswer.{refusal}
use Rattle.stepper.specs.RunStepper.{run_stepper, stepper_rows}
use Rattle.term.specs.Calls.{read_back_call, read_back_rows, result_call, result_rows, substitute_call, substitute_rows, translate_call, translate_rows}
use Rattle.weighing.specs.Weigh.{weigh_call, weigh_rows}

-- WHERE THE CALLS STAND IN THE TABLE

-- The places of a call that is lent a record in a buffer: those of every such call, and then more.
abbrev pub of_record : List Place → List Place
of_record more = table.buffers ∷ table.header ∷ table.records ∷ more

-- The places of a conversion: moving back has one of its own (02 C-18).
abbrev pub of_conversion : Conversion → List Place
of_conversion ToFirst = of_record (table.conversion ∷ table.conversion_back ∷ [])
of_conversion ToSecond = of_record (table.conversion ∷ [])

-- A call's rows are those that the table has for its places, in the table's order; n is 0 or a number of the table: 0 exactly where
-- no row of the call applies, and else the number of the first that does.
pub record Numbers (places : List Place) (rows : List Row) (n : ℕ) : Type 0 where
  pub ordered : map (λ (r : Row). r.number) rows ≡ numbers_at places
  pub listed : (n ≡ 0) ⊎ (in_table n ≡ true)
  pub none : (n ≡ 0) ↔ NoRow rows
  pub first : First rows n

-- The demand, of each of the sixteen calls and whatever is lent. The four conversions are one definition, of both sorts and directions.
pub record Demand1 : Type 0 where
  -- every call gives the first row of its own that applies
  pub check_program_number : (buf : List ℕ) (used : ℕ) → Numbers (of_record []) (check_program_rows buf used) (check_program buf used).number
  pub check_term_number : (buf : List ℕ) (used : ℕ) → Numbers (of_record []) (check_term_rows buf used) (check_term buf used).number
  pub translate_number : (src : List ℕ) (used : ℕ) (out : List ℕ)
      → Numbers (of_record (table.translator ∷ [])) (translate_rows src used out) (translate_call src used out).number
  pub read_back_number : (src : List ℕ) (used : ℕ) (out : List ℕ)
      → Numbers (of_record (table.read_back ∷ [])) (read_back_rows src used out) (read_back_call src used out).number
  pub substitute_number : (buf : List ℕ) (used : ℕ) (store : List ℕ)
      → Numbers (of_record (table.store ∷ table.read_store ∷ [])) (substitute_rows buf used store) (substitute_call buf used store).number
  pub stepper_number : (buf : List ℕ) (used : ℕ) (store : List ℕ) (budget : ℕ)
      → Numbers (of_record (table.store ∷ table.read_store ∷ [])) (stepper_rows buf used store) (run_stepper buf used store budget).answer.number
  pub reducer_number : (buf : List ℕ) (used budget : ℕ) → Numbers (of_record (table.reducer ∷ [])) (reducer_rows buf used) (run_reducer buf used budget).answer.number
  pub result_number : (buf : List ℕ) (used : ℕ) (store : List ℕ)
      → Numbers (of_record (table.store ∷ table.result ∷ [])) (result_rows buf used store) (result_call buf used store).number
  pub weigh_number : (rule gross tare : ℕ) (store : List ℕ)
      → Numbers (table.store ∷ table.weighing ∷ []) (weigh_rows rule store) (weigh_call rule gross tare store).number
  pub counting_number : (buf : List ℕ) (used : ℕ) (words store : List ℕ) (budget : ℕ)
      → Numbers (of_record (table.counting ∷ table.store ∷ table.read_store ∷ [])) (counting_rows buf used words store) (run_counting buf used words store budget).answer.number
  pub expand_number : (buf : List ℕ) (used : ℕ) (words store out : List ℕ)
      → Numbers (of_record (table.counting ∷ table.store ∷ table.read_store ∷ table.writing_out ∷ [])) (expand_rows buf used words store out) (expand_call buf used words store out).number
  pub batch_number : (program : List ℕ) (used : ℕ) (term work budgets values answers : List ℕ)
      → Numbers (of_record (table.batch ∷ table.store ∷ table.read_store ∷ [])) (batch_rows program used term work budgets values answers) (run_batch program used term work budgets values answers).number
  pub convert_number : (s : Sort) (to : Conversion) (src : List ℕ) (used : ℕ) (out : List ℕ)
      → Numbers (of_conversion to) (convert_rows s to src used out) (convert_call s to src used out).number
  -- a refusal gives its number and 0 for everything else, and leaves every slice as it came
  pub check_program_refused : (buf : List ℕ) (used : ℕ) → (first_row (check_program_rows buf used) ≡ 0 → ⊥)
      → check_program buf used ≡ record { number = first_row (check_program_rows buf used); k = 0 }
  pub check_term_refused : (buf : List ℕ) (used : ℕ) → (first_row (check_term_rows buf used) ≡ 0 → ⊥)
      → check_term buf used ≡ record { number = first_row (check_term_rows buf used); k = 0 }
  pub translate_refused : (src : List ℕ) (used : ℕ) (out : List ℕ) → (first_row (translate_rows src used out) ≡ 0 → ⊥)
      → translate_call src used out ≡ record { number = first_row (translate_rows src used out); used = 0; written = out }
  pub read_back_refused : (src : List ℕ) (used : ℕ) (out : List ℕ) → (first_row (read_back_rows src used out) ≡ 0 → ⊥)
      → read_back_call src used out ≡ record { number = first_row (read_back_rows src used out); used = 0; written = out }
  pub substitute_refused : (buf : List ℕ) (used : ℕ) (store : List ℕ) → (first_row (substitute_rows buf used store) ≡ 0 → ⊥)
      → substitute_call buf used store ≡ record { number = first_row (substitute_rows buf used store); used = 0; replaced = 0; written = buf }
  pub stepper_refused : (buf : List ℕ) (used : ℕ) (store : List ℕ) (budget : ℕ) → (first_row (stepper_rows buf used store) ≡ 0 → ⊥)
      → run_stepper buf used store budget ≡ record { answer = refusal (first_row (stepper_rows buf used store)); buf = buf; store = store }
  pub reducer_refused : (buf : List ℕ) (used budget : ℕ) → (first_row (reducer_rows buf used) ≡ 0 → ⊥)
      → run_reducer buf used budget ≡ record { answer = refusal (first_row (reducer_rows buf used)); replaced = 0; buf = buf }
  pub result_refused : (buf : List ℕ) (used : ℕ) (store : List ℕ) → (first_row (result_rows buf used store) ≡ 0 → ⊥)
      → result_call buf used store ≡ record { number = first_row (result_rows buf used store); store = store }
  pub weigh_refused : (rule gross tare : ℕ) (store : List ℕ) → (first_row (weigh_rows rule store) ≡ 0 → ⊥)
      → weigh_call rule gross tare store ≡ record { number = first_row (weigh_rows rule store); store = store }
  pub counting_refused : (buf : List ℕ) (used : ℕ) (words store : List ℕ) (budget : ℕ) → (first_row (counting_rows buf used words store) ≡ 0 → ⊥)
      → run_counting buf used words store budget ≡ record { answer = refusal (first_row (counting_rows buf used words store)); words = words; store = store }
  pub expand_refused : (buf : List ℕ) (used : ℕ) (words store out : List ℕ) → (first_row (expand_rows buf used words store out) ≡ 0 → ⊥)
      → expand_call buf used words store out ≡ record { number = first_row (expand_rows buf used words store out); used = 0; written = out }
  pub batch_refused : (program : List ℕ) (used : ℕ) (term work budgets values answers : List ℕ) → (first_row (batch_rows program used term work budgets values answers) ≡ 0 → ⊥)
      → run_batch program used term work budgets values answers
      ≡ record { number = first_row (batch_rows program used term work budgets values answers); used = 0; term = term; work = work; answers = answers }
  pub convert_refused : (s : Sort) (to : Conversion) (src : List ℕ) (used : ℕ) (out : List ℕ) → (first_row (convert_rows s to src used out) ≡ 0 → ⊥)
      → convert_call s to src used out ≡ record { number = first_row (convert_rows s to src used out); used = 0; written = out }
