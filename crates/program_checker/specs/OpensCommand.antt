-- A command's record: its head, and the commands inside it.
use Rattle.std.specs.Prelude.{ℕ, ◌≤◌, ◌≡◌, Bool, true, List, drop, length}
use Rattle.record.specs.Program.{decode_block}
use Rattle.checker.specs.declared.Verdict.{Verdict}
use Rattle.checker.specs.Verdict.{worse}
use Rattle.program_checker.specs.BlockVerdict.{block_verdict}

-- The head of the record l was found to be v, and the commands inside it start at `inner`: the verdict on the record is
-- the worse of the two.
pub record OpensCommand (k largest : ℕ) (l : List ℕ) (v : Verdict) (inner : ℕ) : Type 0 where
  pub least : 4 ≤ inner
  pub most : inner ≤ length l
  pub both : block_verdict k largest (decode_block l) ≡ worse v (block_verdict k largest (decode_block (drop inner l)))

-- The same, and where the whole record is to be checked nothing is left inside it: v is the verdict on all of it.
pub record ChecksCommand (k largest : ℕ) (l : List ℕ) (whole : Bool) (v : Verdict) (inner : ℕ) : Type 0 where
  pub opens : OpensCommand k largest l v inner
  pub all : whole ≡ true → inner ≡ length l
