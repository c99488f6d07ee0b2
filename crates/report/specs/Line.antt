-- THE PROGRAM'S LINE (01 "Bench loads", last part): from the entire standard input to the line printed.
use Rattle.std.specs.Prelude.{◌*◌, ◌-◌, suc, zero, ℕ, not, List, [], ◌∷◌, eqb, ltb, drop, length, replicate, take}
use Rattle.buffer.specs.LittleEndian.{val}
use Rattle.record.specs.Answers.{Wrote, padded, too_short}
use Rattle.record.specs.Rows.{Row, first_row, k_of, limited_program_rows, row, values_above}
use Rattle.reducer.specs.RunReducer.{ReducerCall, run_reducer}
use Rattle.stepper.specs.RunStepper.{StepperCall, run_stepper}
use Rattle.term.specs.Calls.{Substituted, substitute_call, translate_call, translated}
use Rattle.print.specs.Words.{ran_line, refused_line}

-- THE INPUT: a program record, whose first two bytes say how long it is, and then its k values, 4 bytes each

-- The length that the first two bytes say.
abbrev pub said_length : List ℕ → ℕ
said_length input = val (take 2 input)

-- The record: so many of the input's first bytes.
abbrev pub record_of : List ℕ → List ℕ
record_of input = take (said_length input) input

-- So many values of 4 bytes each.
unfoldable pub values_in : ℕ → List ℕ → List ℕ
values_in zero bytes = []
values_in (suc n) bytes = val (take 4 bytes) ∷ values_in n (drop 4 bytes)

-- The k that the record's header gives.
abbrev pub k_of_input : List ℕ → ℕ
k_of_input input = k_of (record_of input) (said_length input)

-- The store: the k values behind the record.
abbrev pub store_of : List ℕ → List ℕ
store_of input = values_in (k_of_input input) (drop (said_length input) input)

-- THE RUNS: each engine has a buffer of 16,384 bytes and a budget of 1,000,000

-- The length of each engine's buffer.
unfoldable pub program_buffer : ℕ
program_buffer = 16384

-- The budget of each engine's run.
unfoldable pub program_budget : ℕ
program_budget = 1000000

-- The record of the program's term.
abbrev pub term_of_input : List ℕ → Wrote
term_of_input input = translate_call (record_of input) (said_length input) (replicate program_buffer 0)

-- The stepper's run of the record and the store.
unfoldable pub stepper_run : List ℕ → StepperCall
stepper_run input = run_stepper (padded program_buffer (record_of input)) (said_length input) (store_of input) program_budget

-- The reducer's run of what substitute wrote.
unfoldable pub reducer_from : Substituted → ReducerCall
reducer_from s = run_reducer s.written s.used program_budget

-- What substitute answers, of what translate wrote and of the store.
unfoldable pub substituted_from : List ℕ → Wrote → Substituted
substituted_from input t = substitute_call t.written t.used (store_of input)

-- The reducer's run, of the program's term with the store substituted.
unfoldable pub reducer_run : List ℕ → ReducerCall
reducer_run input = reducer_from (substituted_from input (term_of_input input))

-- THE REFUSALS, in their order: under 2 bytes; a first length above 16,384; an input shorter than that length; rows 2 to 5 and 15 of
-- the record; a remainder that is not k values; a value above the ceiling; a term longer than the buffer

-- All but the last two, and then more.
abbrev pub input_rows : List ℕ → List Row → List Row
input_rows input more =
    row 2 (ltb (length input) 2)
    ∷ row 1 (ltb 16384 (said_length input))
    ∷ row 2 (ltb (length input) (said_length input))
    ∷ limited_program_rows (record_of input) (said_length input)
    (row 6 (not (eqb (length input - said_length input) (4 * k_of_input input))) ∷ more)

-- All of them; the last are rows 16 and 10.
abbrev pub line_rows : List ℕ → List Row
line_rows input =
    input_rows input
    (row 16 (values_above (record_of input) (said_length input) (store_of input)) ∷ row 10 (too_short (replicate program_buffer 0) (translated (record_of input) (said_length input))) ∷ [])

-- THE LINE

-- The line of the two runs: their answers, and the store that the stepper left.
abbrev pub runs_line : StepperCall → ReducerCall → List ℕ
runs_line s r = ran_line s.answer r.answer s.store

-- By the number of the first that applies, 0 where none does: the line of the two runs, or the refusal's.
unfoldable pub line_by : ℕ → List ℕ → List ℕ
line_by zero input = runs_line (stepper_run input) (reducer_run input)
line_by (suc n) input = refused_line (suc n)

-- The line that is printed for the entire input.
unfoldable pub line : List ℕ → List ℕ
line input = line_by (first_row (line_rows input)) input
