-- The length of the bytes of an expansion, without making it (02 C-14).
use Rattle.std.specs.Prelude.{◌*◌, ◌+◌, ℕ}
use Rattle.record.specs.Program.{block_size}
use Rattle.rules.specs.Syntax.{Block}
use Rattle.counting.specs.Counting.{State, at_zero, here, in_block, in_body, storing, summed, unrolling}

-- A turn to come is a block's head, the index's assignment and the body.
unfoldable pub turns_size : ℕ → Block → ℕ
turns_size d p = d * (block_size p + 20)

-- The length of the expansion's commands.
unfoldable pub expand_size : State → ℕ
expand_size (here b) = block_size b
expand_size (summed x e v r) = 16 + block_size r
expand_size (in_block q s r) = 4 + expand_size s + block_size r
expand_size (unrolling x c d p r) = turns_size d p + (20 + block_size p) + block_size r
expand_size (at_zero x d p r) = turns_size d p + 4 + block_size r
expand_size (storing x c d p r) = turns_size d p + (20 + block_size p) + block_size r
expand_size (in_body x c d p s r) = turns_size d p + (4 + expand_size s) + block_size r
