-- A BATCH: the reducer's run on each of up to 64 start stores of one program, over bytes and values (02 C-16).
use Rattle.std.specs.Prelude.{◌*◌, ◌+◌, suc, zero, ℕ, Bool, not, ◌||◌, eqb, drop, length, replicate, take}
use mathlib.Core.List.{List, [], flat_map, ◌∷◌}
use Rattle.record.specs.Answers.{padded, too_short}
use Rattle.record.specs.Rows.{Row, bad_buffer, first_row, k_of, limited_program_rows, row, too_long, values_above}
use Rattle.reducer.specs.RunReducer.{ReducerCall, run_reducer}
use Rattle.rules.specs.Run.{Outcome, is_finished, is_over, no_room, refused, spent}
use Rattle.rules.specs.Scope.{in_range}
use Rattle.run.specs.RunAnswer.{outcome_number}
use Rattle.term.specs.Calls.{Substituted, result_call, substitute_call, translated}

-- THE JOBS

-- A job: a start store, and its budget.
pub record Job : Type 0 where
  pub store : List ℕ
  pub budget : ℕ

-- The jobs of a batch: the budgets tell how many there are, and the values stand store after store, k for each, in their order.
unfoldable pub jobs : ℕ → List ℕ → List ℕ → List Job
jobs k [] values = []
jobs k (b ∷ bs) values = record { store = take k values; budget = b } ∷ jobs k bs (drop k values)

-- A JOB ALONE

-- The reducer's run of what substituting left.
abbrev pub run_from : Substituted → ℕ → ReducerCall
run_from s budget = run_reducer s.written s.used budget

-- The reducer's run on the job's store alone: the store substituted in the term, whose record is given, in a buffer of `room` bytes.
unfoldable pub run_alone : List ℕ → ℕ → Job → ReducerCall
run_alone term room j = run_from (substitute_call (padded room term) (length term) j.store) j.budget

-- The k end values of a run, by its outcome: those that result gives of the term left where it is finished, and else k zeros.
unfoldable pub end_values : ℕ → Outcome → ReducerCall → List ℕ
end_values k is_finished r = (result_call r.buf r.answer.used (replicate k 0)).store
end_values k is_over r = replicate k 0
end_values k no_room r = replicate k 0
end_values k spent r = replicate k 0
end_values k refused r = replicate k 0

-- The answer of a job, k + 2 values: the outcome's number, the count of steps, the end values.
unfoldable pub answer_of : ℕ → ReducerCall → List ℕ
answer_of k r = outcome_number r.answer.outcome ∷ r.answer.steps ∷ end_values k r.answer.outcome r

-- The answers of the jobs, one after the other: each is that of its own job alone.
unfoldable pub answers_of : ℕ → List ℕ → ℕ → List Job → List ℕ
answers_of k term room js = flat_map (λ (j : Job). answer_of k (run_alone term room j)) js

-- THE ROWS: 1, 14, 2 to 5, 6 and 10. Row 1 looks at all three buffers.

-- 14: no store, or more than 64
unfoldable pub bad_batch : List ℕ → Bool
bad_batch budgets = not (in_range 64 (length budgets))

-- 6, of a batch: values that are not k for each budget, or places for the answers that are not k + 2 for each
unfoldable pub bad_values : List ℕ → ℕ → List ℕ → List ℕ → List ℕ → Bool
bad_values program used budgets values answers =
    not (eqb (length values) (length budgets * k_of program used)) || not (eqb (length answers) (length budgets * (k_of program used + 2)))

-- 10, of a batch: the term is longer than at least one of the two buffers
unfoldable pub longer_than_either : List ℕ → List ℕ → List ℕ → Bool
longer_than_either term work answer = too_short term answer || too_short work answer

-- Rows 1, 14, 2 to 5 and 15, which the program, the two buffers and the budgets decide, and then more: 14 comes after 1 (02 C-16).
abbrev pub check_batch_rows : List ℕ → ℕ → List ℕ → List ℕ → List ℕ → List Row → List Row
check_batch_rows program used term work budgets more =
    row 1 (bad_buffer program used || (too_long term || too_long work)) ∷ row 14 (bad_batch budgets) ∷ limited_program_rows program used more

-- The rows of the call, in the order of the table.
abbrev pub batch_rows : List ℕ → ℕ → List ℕ → List ℕ → List ℕ → List ℕ → List ℕ → List Row
batch_rows program used term work budgets values answers =
    check_batch_rows program used term work budgets
    (row 6 (bad_values program used budgets values answers) ∷ row 16 (values_above program used values) ∷ row 10 (longer_than_either term work (translated program used)) ∷ [])

-- THE CALL

-- The answer, and every lent slice that it may write, afterwards.
pub record BatchCall : Type 0 where
  pub number : ℕ
  pub used : ℕ
  pub term : List ℕ
  pub work : List ℕ
  pub answers : List ℕ

-- By the number of the first row that applies, 0 where none does. Accepted: one buffer is left holding the translated term, with zeros
-- behind it, the reducer's is left all zero, and every job has its answer. Refused: all is as it came.
unfoldable pub batch_by : ℕ → List ℕ → List ℕ → List ℕ → List ℕ → List ℕ → BatchCall
batch_by zero bytes given term work answers = record {
  number = 0;
  used = length bytes;
  term = padded (length term) bytes;
  work = replicate (length work) 0;
  answers = given;
}
batch_by (suc n) bytes given term work answers = record { number = suc n; used = 0; term = term; work = work; answers = answers }

-- THE CALL: the program's buffer and used length, the two buffers, the budgets, the values, the places for the answers.
unfoldable pub run_batch : List ℕ → ℕ → List ℕ → List ℕ → List ℕ → List ℕ → List ℕ → BatchCall
run_batch program used term work budgets values answers =
    batch_by (first_row (batch_rows program used term work budgets values answers)) (translated program used)
    (answers_of (k_of program used) (translated program used) (length work) (jobs (k_of program used) budgets values)) term work answers
