-- The scan that measures a translation: it steps into heads, so it meets the commands in the order of their bytes.
use Rattle.std.specs.Prelude.{◌*◌, ◌+◌, ℕ, ◌≡◌, List}
use Rattle.rules.specs.Syntax.{Block}
use Rattle.translator.specs.RowTranslation.{RowAt, row_size}

-- The scan of the block b has come to `at`: what it has counted, and the translation of what follows, are that of b and one tuple more.
pub record Scanned (k : ℕ) (src : List ℕ) (to : ℕ) (b : Block) (total at : ℕ) : Type 0 where
  pub row : RowAt src at to
  pub sum : total + row_size k row.block ≡ row_size k b + (4 + 8 * k)
