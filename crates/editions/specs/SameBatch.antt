-- The same of a batch (02 C-16, C-18): of a program and of the same program moved.
use Rattle.std.specs.Prelude.{◌+◌, ◌<◌, ℕ, ◌≤◌, ◌≡◌, get_or, length}
use Rattle.batch.specs.BatchMeaning.{Lent, answer_at, batch_of, budget_at, store_at}
use Rattle.buffer.specs.LittleEndian.{Bytes}
use Rattle.record.specs.Header.{program, term}
use Rattle.record.specs.Rows.{k_of}
use Rattle.rules.specs.Run.{no_room}
use Rattle.run.specs.RunAnswer.{outcome_number}
use Rattle.editions.specs.SameRuns.{Moved}

-- IN BUFFERS 4 BYTES LONGER

-- What is lent to c is what is lent to b, with the program moved and two buffers that are 4 bytes longer, whatever they hold.
pub record SameLent (b c : Lent) : Type 0 where
  pub bytes : Bytes b.program
  pub program : Moved program b.program b.used c.program c.used
  pub budgets : c.budgets ≡ b.budgets
  pub values : c.values ≡ b.values
  pub answers : c.answers ≡ b.answers
  pub term : length c.term ≡ 4 + length b.term
  pub low_term : length c.term ≤ 16384
  pub work : length c.work ≡ 4 + length b.work
  pub low_work : length c.work ≤ 16384

-- Accepted by both or refused by both with the same number, the same answers; the term that is left is moved.
pub record SameBatch (b c : Lent) : Type 0 where
  pub number : (batch_of c).number ≡ (batch_of b).number
  pub answers : (batch_of c).answers ≡ (batch_of b).answers
  pub used : (batch_of b).number ≡ 0 → (batch_of c).used ≡ 4 + (batch_of b).used
  pub left : (batch_of b).number ≡ 0 → Moved term (batch_of b).term (batch_of b).used (batch_of c).term (batch_of c).used

-- Of every two such batches.
unfoldable pub SameBatches : Type 0
SameBatches = (b c : Lent) → SameLent b c → SameBatch b c

-- IN ANY TWO BUFFERS

-- The answer of a job of k values is not no room.
abbrev pub JobHasRoom : ℕ → Lent → ℕ → Type 0
JobHasRoom k b i = get_or (answer_at k b i) 0 0 ≡ outcome_number no_room → ⊥

-- Two batches, both accepted, of a program and of the same program moved: a job of the one and a job of the other with the same store and
-- budget have the same answer where neither is no room.
unfoldable pub SameJobs : Type 0
SameJobs = (b c : Lent) → Bytes b.program → Moved program b.program b.used c.program c.used → (batch_of b).number ≡ 0 → (batch_of c).number ≡ 0
    → (k : ℕ) → k ≡ k_of b.program b.used → (i j : ℕ) → i < length b.budgets → j < length c.budgets
    → store_at k c j ≡ store_at k b i → budget_at c j ≡ budget_at b i → JobHasRoom k b i → JobHasRoom k c j → answer_at k c j ≡ answer_at k b i
