-- A state in its words, beside the program's bytes and the store, by what stands innermost (02 C-14).
use Rattle.std.specs.Prelude.{◌+◌, ◌≤◌, ℕ, ◌≡◌, List, [], ◌∷◌, length}
use Rattle.std.proofs.Math.Option.{some}
use Rattle.rules.specs.Scope.{BlockWithin}
use Rattle.record.specs.Program.{block_size}
use Rattle.rules.specs.Syntax.{Block, assign, empty, loop, nest}
use Rattle.place.specs.ProgramView.{BlockAt}
use Rattle.counting.specs.Counting.{State, at_zero, storing, unrolling}
use Rattle.counting.specs.Depth.{nesting, open_count}
use Rattle.counting.specs.Entries.{Entry, open_block, within}
use Rattle.counting.specs.Frames.{inner_at, inner_block}
use Rattle.counting.specs.Place.{rest_at}
use Rattle.counting.specs.StateOf.{StateOf}
use Rattle.counting.specs.StateWords.{encode_state}

-- The program P stands in the bytes, its first command at `start`, `used` is their end, and its variables are those of a store
-- of `count` values; the words hold its state s, in which n are open.
pub record Holds (start used n : ℕ) (P : Block) (s : State) (buf words : List ℕ) (count : ℕ) : Type 0 where
  pub stands : BlockAt buf start P
  pub ends : used ≡ start + block_size P
  pub low : length buf ≤ 16384
  pub scope : BlockWithin count P
  pub deep : nesting P ≤ 32
  pub of : StateOf P 0 s
  pub many : n ≡ open_count s
  pub same : words ≡ encode_state P s

-- Of such a state within es the innermost is t, and r is left of its block from the place i on.
pub record Inner (start used n : ℕ) (P : Block) (es : List Entry) (i : ℕ) (r : Block) (t : State) (buf words : List ℕ) (count : ℕ) : Type 0 where
  pub holds : Holds start used n P (within es t) buf words count
  pub place : rest_at (inner_block es P) (inner_at es P 0) i ≡ some r

-- A loop in play within which nothing is open.
pub data Shut (x : ℕ) (q r : Block) : State → Type 0 where
  shut_unrolling : (c d : ℕ) → Shut x q r (unrolling x c d q r)
  shut_at_zero : (d : ℕ) → Shut x q r (at_zero x d q r)
  shut_storing : (c d : ℕ) → 1 ≤ c → Shut x q r (storing x c d q r)

-- WHAT OPENING COMES TO: the blocks that stand first one in the other, and what is left in the last of them.
unfoldable pub openings : Block → List Entry
openings empty = []
openings (assign x e r) = []
openings (loop x n q r) = []
openings (nest q r) = open_block q r ∷ openings q

unfoldable pub bottom : Block → Block
bottom empty = empty
bottom (assign x e r) = assign x e r
bottom (loop x n q r) = loop x n q r
bottom (nest q r) = bottom q
