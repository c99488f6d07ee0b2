-- What the writer of a translation is asked, and how a let-all parts it.
use Rattle.std.specs.Prelude.{◌+◌, ◌-◌, ◌<◌, ◌≤◌, ℕ, ◌≡◌, ◌++◌, List, eqb, length}
use Rattle.buffer.specs.Slice.{put}
use Rattle.rules.specs.Syntax.{Block}
use Rattle.record.specs.Front.{u16}
use Rattle.translator.specs.RowTranslation.{RowAt, row_bytes, row_size}
use Rattle.translator.specs.TranslationHeads.{let_all_head, let_all_size, opening}
use Rattle.translator.specs.declared.Parts.{Parts}
use Rattle.translator.specs.declared.Task.{Task}

-- A task from its four numbers.
abbrev pub task : ℕ → ℕ → ℕ → ℕ → Task
task from to start stop = record { from = from; to = to; start = start; stop = stop }

-- The commands of a task are those of a block, and its place in the output is as long as their translation.
pub record TaskIn (k : ℕ) (src : List ℕ) (t : Task) : Type 0 where
  pub row : RowAt src t.from t.to
  pub few : k ≤ 16
  pub region : t.start + row_size k row.block ≡ t.stop

-- A task cut in two, at an index of the source and one of the output.
abbrev pub cut_at : Task → ℕ → ℕ → Parts
cut_at t next mid = record {
  inner = record { from = t.from; to = next; start = t.start; stop = mid };
  rest = record { from = next; to = t.to; start = mid; stop = t.stop };
}

-- A task whose first command is a block or a loop, from the row inside that command on.
abbrev pub past_heads : ℕ → List ℕ → Task → Task
past_heads k src t = record {
  from = t.from + opening (eqb (u16 src (t.from + 2)) 3);
  to = t.to;
  start = t.start + let_all_size k (eqb (u16 src (t.from + 2)) 3);
  stop = t.stop;
}

-- The place of an inner row's translation, behind the head of the let-all.
pub record Opens (k : ℕ) (src : List ℕ) (whole inner : Task) : Type 0 where
  pub task : TaskIn k src whole
  pub some : whole.from < whole.to
  pub start : whole.start + let_all_size k (eqb (u16 src (whole.from + 2)) 3) ≡ inner.start
  pub order : inner.start ≤ inner.stop
  pub fits : inner.stop ≤ whole.stop

-- The two rows of the let-all that the block b, a task's, is translated to: what is inside its first command, and what is behind it.
pub record PartsOf (k : ℕ) (src : List ℕ) (whole : Task) (b : Block) (p : Parts) : Type 0 where
  pub opens : Opens k src whole p.inner
  pub inner : TaskIn k src p.inner
  pub rest : TaskIn k src p.rest
  pub past : whole.from < p.inner.from
  pub next : p.inner.to ≡ p.rest.from
  pub end : p.rest.to ≡ whole.to
  pub mid : p.inner.stop ≡ p.rest.start
  pub stop : p.rest.stop ≡ whole.stop
  pub bytes : row_bytes k b
      ≡ let_all_head k src whole.from (whole.stop - whole.start) (p.inner.stop - p.inner.start) ++ (row_bytes k inner.row.block ++ row_bytes k rest.row.block)

-- What the writer of the block b has left to do: storing that translation gives what storing the whole one gives.
pub record Left (k : ℕ) (src : List ℕ) (whole : Task) (b : Block) (out₀ out : List ℕ) (left : Task) : Type 0 where
  pub task : TaskIn k src left
  pub low : whole.from ≤ left.from
  pub high : left.to ≤ whole.to
  pub kept : length out ≡ length out₀
  pub fits : left.stop ≤ length out
  pub same : put out left.start (row_bytes k task.row.block) ≡ put out₀ whole.start (row_bytes k b)
