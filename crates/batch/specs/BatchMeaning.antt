-- WHAT A BATCH ANSWERS (demand 2; 02 C-16), in plain facts.
use Rattle.std.specs.Prelude.{◌*◌, ◌+◌, ◌<◌, ℕ, ◌≡◌, ◌↔◌, ◌⊎◌, true, ◌||◌, List, ◌∷◌, drop, get_or, length, replicate, take}
use Rattle.buffer.specs.LittleEndian.{Bytes}
use Rattle.record.specs.declared.Header.{Header}
use Rattle.record.specs.Header.{ok_of}
use Rattle.record.specs.Holding.{ProgramIn}
use Rattle.record.specs.Rows.{bad_buffer, k_of, too_long}
use Rattle.reducer.specs.RunReducer.{ReducerCall, run_reducer}
use Rattle.rules.specs.Run.{is_finished, refused}
use Rattle.rules.specs.Sound.{SmallValues}
use Rattle.rules.specs.Syntax.{Block}
use Rattle.run.specs.RunAnswer.{outcome_number}
use Rattle.term.specs.Calls.{result_call, substitute_call, translate_call}
use Rattle.batch.specs.RunBatch.{BatchCall, bad_batch, bad_values, longer_than_either, run_batch}

-- What is lent to a batch: the program's buffer and used length, the two buffers, the budgets, the values, the places for the answers.
pub record Lent : Type 0 where
  pub program : List ℕ
  pub used : ℕ
  pub term : List ℕ
  pub work : List ℕ
  pub budgets : List ℕ
  pub values : List ℕ
  pub answers : List ℕ

-- The call on what is lent.
abbrev pub batch_of : Lent → BatchCall
batch_of b = run_batch b.program b.used b.term b.work b.budgets b.values b.answers

-- Values and answers stand store after store, in the order of the budgets: the start store of job i, k values,
abbrev pub store_at : ℕ → Lent → ℕ → List ℕ
store_at k b i = take k (drop (i * k) b.values)

-- its budget,
abbrev pub budget_at : Lent → ℕ → ℕ
budget_at b i = get_or b.budgets i 0

-- and its answer, k + 2 values.
abbrev pub answer_at : ℕ → Lent → ℕ → List ℕ
answer_at k b i = take (k + 2) (drop (i * (k + 2)) (batch_of b).answers)

-- A batch that is accepted: its program's record is that of P with this header, and no row applies.
pub record Accepted (h : Header) (P : Block) (b : Lent) : Type 0 where
  pub holds : ProgramIn h P b.program b.used
  pub none : (batch_of b).number ≡ 0

-- The k + 2 values are the answer of the call r of the reducer's run, which is accepted: the outcome's number, the steps, and what
-- result gives of the term left, into whatever store of k values, where it is finished; else k zeros.
pub record AnswerOf (k : ℕ) (r : ReducerCall) (answer : List ℕ) : Type 0 where
  pub accepted : r.answer.number ≡ 0
  pub not_refused : r.answer.outcome ≡ refused → ⊥
  pub values : List ℕ
  pub is : answer ≡ outcome_number r.answer.outcome ∷ r.answer.steps ∷ values
  pub size : length values ≡ k
  pub finished : r.answer.outcome ≡ is_finished → (store : List ℕ) → length store ≡ k
      → result_call r.buf r.answer.used store ≡ record { number = 0; store = values }
  pub unfinished : (r.answer.outcome ≡ is_finished → ⊥) → values ≡ replicate k 0

-- The store μ alone with a budget, in a buffer that begins with a term of so many bytes: substituting is accepted, and `answer` is that of
-- the reducer's run of what substituting left.
pub record Alone (k : ℕ) (buf : List ℕ) (used : ℕ) (μ : List ℕ) (budget : ℕ) (answer : List ℕ) : Type 0 where
  pub substitutes : (substitute_call buf used μ).number ≡ 0
  pub runs : AnswerOf k (run_reducer (substitute_call buf used μ).written (substitute_call buf used μ).used budget) answer

-- What rows 1, 14, 6 and 10 ask of a batch, what an accepted one leaves, and its answers.
pub record BatchMeans : Type 0 where
  -- ROW 1, of all three buffers. ROW 14: no store, or more than 64
  pub one : (program : List ℕ) (used : ℕ) (term work : List ℕ)
      → ((bad_buffer program used || (too_long term || too_long work)) ≡ true)
      ↔ (((16384 < length program) ⊎ (length program < used)) ⊎ ((16384 < length term) ⊎ (16384 < length work)))
  pub fourteen : (budgets : List ℕ) → (bad_batch budgets ≡ true) ↔ ((length budgets ≡ 0) ⊎ (64 < length budgets))
  -- ROW 6, of a batch: values, or places for the answers, of another length. ROW 10, of a batch: a term longer than either buffer
  pub six : (program : List ℕ) (used : ℕ) (budgets values answers : List ℕ)
      → (bad_values program used budgets values answers ≡ true)
      ↔ ((length values ≡ length budgets * k_of program used → ⊥) ⊎ (length answers ≡ length budgets * (k_of program used + 2) → ⊥))
  pub ten : (term work answer : List ℕ) → (longer_than_either term work answer ≡ true) ↔ ((length term < length answer) ⊎ (length work < length answer))
  -- ACCEPTED is every batch of bytes whose number is 0: its buffer begins with the record of some program, and none of its values is above
  -- that record's ceiling (row 16, 02 C-17)
  pub takes : (b : Lent) → Bytes b.program → (batch_of b).number ≡ 0 → (h : Header) × (P : Block) × Accepted h P b
  pub small : (h : Header) (P : Block) (b : Lent) → Accepted h P b → SmallValues (ok_of h) b.values
  -- AFTERWARDS one buffer holds what translate writes into it, which is accepted, the other is all zero, and the answers have their places
  pub translates : (h : Header) (P : Block) (b : Lent) → Accepted h P b
      → translate_call b.program b.used b.term ≡ record { number = 0; used = (batch_of b).used; written = (batch_of b).term }
  pub clears : (h : Header) (P : Block) (b : Lent) → Accepted h P b → (batch_of b).work ≡ replicate (length b.work) 0
  pub answers : (h : Header) (P : Block) (b : Lent) → Accepted h P b → length (batch_of b).answers ≡ length b.answers
  -- EACH ANSWER EQUALS THE REDUCER'S RUN ON THAT STORE ALONE WITH THE SAME BUFFER: in any buffer as long as the reducer's that begins
  -- with the term, whatever stands behind
  pub alone : (h : Header) (P : Block) (b : Lent) → Accepted h P b → (i : ℕ) → i < length b.budgets
      → (buf : List ℕ) → length buf ≡ length b.work → take (batch_of b).used buf ≡ take (batch_of b).used (batch_of b).term
      → Alone h.k buf (batch_of b).used (store_at h.k b i) (budget_at b i) (answer_at h.k b i)
  -- ONE LOAD CHANGES NONE OF THE OTHERS: of two batches of one program, in buffers of the reducer that are equally long, a job of the
  -- one and a job of the other with the same store and budget have the same answer, whatever the other jobs are
  pub others : (h : Header) (P : Block) (b c : Lent) → Accepted h P b → Accepted h P c → length b.work ≡ length c.work
      → (i j : ℕ) → i < length b.budgets → j < length c.budgets
      → store_at h.k b i ≡ store_at h.k c j → budget_at b i ≡ budget_at c j → answer_at h.k b i ≡ answer_at h.k c j
