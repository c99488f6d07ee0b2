-- A configuration in a buffer and a store, as it stands between two steps of the run.
use Rattle.std.specs.Prelude.{ℕ, ◌≤◌, ◌≡◌, List, length}
use Rattle.record.specs.Answers.{padded}
use Rattle.record.specs.declared.Header.{Header}
use Rattle.record.specs.Header.{encode_program, ok_of}
use Rattle.record.specs.Holding.{ProgramIn}
use Rattle.rules.specs.Sound.{SmallValues}
use Rattle.rules.specs.Syntax.{Config}

-- The record of a configuration with this header: its program's. The store is lent beside it.
abbrev pub config_bytes : Header → Config → List ℕ
config_bytes h c = encode_program h c.block

-- The record of the configuration's program is the first `used` bytes of the buffer, zeros are behind it, and the store has
-- its k values.
pub record Stands (h : Header) (c : Config) (buf : List ℕ) (used : ℕ) : Type 0 where
  pub holds : ProgramIn h c.block buf used
  pub short : length buf ≤ 16384
  pub clear : buf ≡ padded (length buf) (encode_program h c.block)
  pub count : length c.store ≡ h.k
  pub values : SmallValues (ok_of h) c.store
