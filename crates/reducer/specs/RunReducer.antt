-- The run of the reducer, over bytes (01 "Reducer", "Run orders"; 02 C-13): rows 1 to 5, 15 and 7, and the rules' run of the term.
use Rattle.std.specs.Prelude.{suc, zero, ℕ, List, [], ◌∷◌, length}
use Rattle.record.specs.Answers.{padded}
use Rattle.record.specs.declared.Header.{Header}
use Rattle.record.specs.Header.{encode_term, ok_of}
use Rattle.record.specs.Rows.{Row, bad_buffer, first_row, header_of, limited_term_rows, open_term, row, the_term_of}
use Rattle.rules.specs.Reduction.{reduce}
use Rattle.rules.specs.Replaced.{replaced_sum}
use Rattle.rules.specs.Run.{Ran}
use Rattle.rules.specs.Syntax.{Term}
use Rattle.run.specs.RunAnswer.{RunAnswer, accepted, refusal, run_in}

-- The answer, how many variables the reductions replaced, and the buffer afterwards.
pub record ReducerCall : Type 0 where
  pub answer : RunAnswer
  pub replaced : ℕ
  pub buf : List ℕ

-- The rules' run from a term, in a buffer of `room` bytes.
abbrev pub reductions : Header → ℕ → ℕ → Term → Ran Term
reductions h room budget t = run_in (reduce (ok_of h)) (encode_term h) room budget t

-- What the run r from the term t leaves: the sum over its reductions of the variables that they replace, the record of the term
-- left, and zeros behind it.
unfoldable pub reduced_to : Header → ℕ → ℕ → Term → Ran Term → ReducerCall
reduced_to h room budget t r = record {
  answer = accepted budget r (length (encode_term h r.state));
  replaced = replaced_sum (ok_of h) r.count t;
  buf = padded room (encode_term h r.state);
}

-- The rows of the call, in the order of the table.
abbrev pub reducer_rows : List ℕ → ℕ → List Row
reducer_rows buf used = row 1 (bad_buffer buf used) ∷ limited_term_rows buf used (row 7 (open_term buf used) ∷ [])

-- By the number of the first row that applies, 0 where none does: the run, or a refusal and the buffer as it came.
unfoldable pub reducer_by : ℕ → List ℕ → ℕ → ℕ → ReducerCall
reducer_by zero buf used budget =
    reduced_to (header_of buf used) (length buf) budget (the_term_of buf used) (reductions (header_of buf used) (length buf) budget (the_term_of buf used))
reducer_by (suc n) buf used budget = record { answer = refusal (suc n); replaced = 0; buf = buf }

-- THE CALL: buffer, used length, budget.
unfoldable pub run_reducer : List ℕ → ℕ → ℕ → ReducerCall
run_reducer buf used budget = reducer_by (first_row (reducer_rows buf used)) buf used budget
