-- THE RUN of the counting stepper, and THE WRITING OUT of its state, over bytes and words (02 C-14).
use Rattle.std.specs.Prelude.{suc, zero, ℕ, Bool, not, ◌||◌, ◌++◌, List, [], ◌∷◌, ltb}
use Rattle.record.specs.Answers.{Wrote, too_short, wrote_by}
use Rattle.record.specs.declared.Header.{Header}
use Rattle.record.specs.Header.{encode_program, ok_of}
use Rattle.record.specs.Rows.{Row, bad_buffer, bad_store, block_above, block_of, first_row, header_of, holds, program_of, program_rows, row, too_long, values_above}
use Rattle.rules.specs.Run.{Ran}
use Rattle.rules.specs.Syntax.{Block, empty}
use Rattle.run.specs.RunAnswer.{RunAnswer, accepted, refusal, run_in}
use Rattle.counting.specs.CountStep.{count_step}
use Rattle.counting.specs.Counting.{Counting, State, expand, start}
use Rattle.counting.specs.Depth.{nesting}
use Rattle.counting.specs.ReadState.{Read, is_right, right, wrong}
use Rattle.counting.specs.SmallState.{counts_in}
use Rattle.counting.specs.StateWords.{decode_state, encode_state}

-- THE ROWS

-- 12: blocks and loops nested over 32 deep
unfoldable pub too_deep : List ℕ → ℕ → Bool
too_deep buf used = holds (λ P. ltb 32 (nesting P)) (block_of buf used)

-- 13: the words hold no state of the program
unfoldable pub bad_state : List ℕ → ℕ → List ℕ → Bool
bad_state buf used words = holds (λ P. not (is_right (decode_state P words))) (block_of buf used)

-- The state that was read; where something is wrong, the start of the empty program stands in.
unfoldable pub or_start : Read State → State
or_start (right s) = s
or_start (wrong w) = start empty

-- 16, of a state: a value above the ceiling in its store, or a top count or waiting sum above it
unfoldable pub state_above : List ℕ → ℕ → List ℕ → List ℕ → Bool
state_above buf used words store = values_above buf used (store ++ counts_in (or_start (decode_state (program_of buf used) words)))

-- Rows 6, 13 and 16, and then more.
abbrev pub lent_rows : List ℕ → ℕ → List ℕ → List ℕ → List Row → List Row
lent_rows buf used words store more =
    row 6 (bad_store buf used store) ∷ row 13 (bad_state buf used words) ∷ row 16 (state_above buf used words store) ∷ more

-- Rows 12, 15, 6, 13 and 16, and then more.
abbrev pub state_rows : List ℕ → ℕ → List ℕ → List ℕ → List Row → List Row
state_rows buf used words store more = row 12 (too_deep buf used) ∷ row 15 (block_above buf used) ∷ lent_rows buf used words store more

-- The rows of the run, in the order of the table.
abbrev pub counting_rows : List ℕ → ℕ → List ℕ → List ℕ → List Row
counting_rows buf used words store = row 1 (bad_buffer buf used) ∷ program_rows buf used (state_rows buf used words store [])

-- THE RUN

-- The answer, and the words and the store afterwards. No record is left, so the answer's used length is 0.
pub record CountingCall : Type 0 where
  pub answer : RunAnswer
  pub words : List ℕ
  pub store : List ℕ

-- The state and the store that are lent.
abbrev pub lent : Block → List ℕ → List ℕ → Counting
lent P words store = record { state = or_start (decode_state P words); store = store }

-- A state takes no bytes of a buffer, so there is room for every one.
abbrev pub no_bytes : Counting → List ℕ
no_bytes c = []

-- The run from a state.
abbrev pub counts : Header → ℕ → Counting → Ran Counting
counts h budget c = run_in (count_step (ok_of h)) no_bytes 0 budget c

-- What a run leaves: the words of the state left, and its store.
unfoldable pub counted_to : Block → ℕ → Ran Counting → CountingCall
counted_to P budget r = record { answer = accepted budget r 0; words = encode_state P r.state.state; store = r.state.store }

-- By the number of the first row that applies, 0 where none does: the run, or a refusal and words and store as they came.
unfoldable pub counting_by : ℕ → Header → Block → List ℕ → List ℕ → ℕ → CountingCall
counting_by zero h P words store budget = counted_to P budget (counts h budget (lent P words store))
counting_by (suc n) h P words store budget = record { answer = refusal (suc n); words = words; store = store }

-- THE CALL: the program's buffer and used length, the words, the store, the budget.
unfoldable pub run_counting : List ℕ → ℕ → List ℕ → List ℕ → ℕ → CountingCall
run_counting buf used words store budget =
    counting_by (first_row (counting_rows buf used words store)) (header_of buf used) (program_of buf used) words store budget

-- THE WRITING OUT: rows 1 to 5, 12, 15, 6, 13, 16 and 10. Row 1 looks at both buffers.

-- The record that answers: the expansion's, with the program's header.
abbrev pub expanded : List ℕ → ℕ → List ℕ → List ℕ
expanded buf used words = encode_program (header_of buf used) (expand (or_start (decode_state (program_of buf used) words)))

-- The rows of the call, in the order of the table.
abbrev pub expand_rows : List ℕ → ℕ → List ℕ → List ℕ → List ℕ → List Row
expand_rows buf used words store out =
    row 1 (bad_buffer buf used || too_long out) ∷ program_rows buf used (state_rows buf used words store (row 10 (too_short out (expanded buf used words)) ∷ []))

-- THE CALL: the program's buffer and used length, the words, the store, the output buffer.
unfoldable pub expand_call : List ℕ → ℕ → List ℕ → List ℕ → List ℕ → Wrote
expand_call buf used words store out = wrote_by (first_row (expand_rows buf used words store out)) (expanded buf used words) out
