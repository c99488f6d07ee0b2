-- A row of commands and its translation: how the translator's code sees both.
use Rattle.std.specs.Prelude.{◌+◌, ℕ, ◌≡◌, List}
use Rattle.rules.specs.Syntax.{Block, tuple}
use Rattle.rules.specs.Translation.{all, translate}
use Rattle.record.specs.Program.{block_size}
use Rattle.record.specs.Term.{encode_term_record, term_size}
use Rattle.place.specs.ProgramView.{BlockAt}

-- The bytes of a block's translation.
unfoldable pub row_bytes : ℕ → Block → List ℕ
row_bytes k b = encode_term_record (translate k b)

-- How many they are.
unfoldable pub row_size : ℕ → Block → ℕ
row_size k b = 4 + term_size (translate k b)

-- The bytes of the tuple of all variables.
unfoldable pub all_bytes : ℕ → List ℕ
all_bytes k = encode_term_record (tuple (all k))

-- The bytes from index p up to q are the commands of a block.
pub record RowAt (l : List ℕ) (p q : ℕ) : Type 0 where
  pub block : Block
  pub here : BlockAt l p block
  pub ends : p + block_size block ≡ q
