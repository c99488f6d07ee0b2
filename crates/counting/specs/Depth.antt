-- How deep blocks and loops are nested, and how many are open in a state (02 C-14, refusal 12).
use Rattle.std.specs.Prelude.{max, suc, ℕ}
use Rattle.rules.specs.Syntax.{Block, assign, empty, loop, nest}
use Rattle.counting.specs.Counting.{State, at_zero, here, in_block, in_body, storing, summed, unrolling}

-- How many loops and blocks stand one within the other in a block, at most.
unfoldable pub depth_within : Block → ℕ
depth_within empty = 0
depth_within (assign x e r) = depth_within r
depth_within (loop x n q r) = max (suc (depth_within q)) (depth_within r)
depth_within (nest q r) = max (suc (depth_within q)) (depth_within r)

-- How deep a program is nested: its outermost block is 1.
unfoldable pub nesting : Block → ℕ
nesting P = suc (depth_within P)

-- How many loops and blocks a state holds open.
unfoldable pub open_count : State → ℕ
open_count (here b) = 0
open_count (summed x e v r) = 0
open_count (in_block q s r) = suc (open_count s)
open_count (unrolling x c d p r) = 1
open_count (at_zero x d p r) = 1
open_count (storing x c d p r) = 1
open_count (in_body x c d p s r) = suc (open_count s)
