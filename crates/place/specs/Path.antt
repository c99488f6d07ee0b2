-- A block inside the first blocks of a block: where the stepper acts (01 "Stepper").
use Rattle.std.specs.Prelude.{◌*◌, ◌+◌, ◌<◌, ℕ, ◌≡◌, ◌&&◌, Bool, List, [], ◌∷◌, eqb, ltb, length}
use Rattle.buffer.specs.LittleEndian.{val}
use Rattle.buffer.specs.Slice.{part}
use Rattle.rules.specs.Rules.{at}
use Rattle.rules.specs.Syntax.{Block, Bound, Config, Expr, assign, empty, loop, nest}
use Rattle.record.specs.Program.{block_size, encode_block}
use Rattle.place.specs.Nesting.{Nesting, plug}

-- A block command: the record around its commands has nothing of what stands behind it.
abbrev pub blocks : Nesting Block
blocks = record { wrap = nest; kind = 1; encode = encode_block; size = block_size; inside = λ r. 0 }

-- A configuration's block at the end of a path.
abbrev pub plug_config : List Block → Config → Config
plug_config p c = at (plug blocks p c.block) c.store

-- A block whose first command the rules act on, and not on what is in it: an assignment, a loop, an empty block.
pub data Spot : Block → Type 0 where
  spot_assign : {x : ℕ} {e : Expr} {r : Block} → Spot (assign x e r)
  spot_loop : {x : ℕ} {n : Bound} {b r : Block} → Spot (loop x n b r)
  spot_empty : {r : Block} → Spot (nest empty r)

-- The path to the first command that is no block with commands in it.
unfoldable pub path : Block → List Block
path empty = []
path (assign x e r) = []
path (loop x n b r) = []
path (nest empty r) = []
path (nest (assign x e q) r) = r ∷ path (assign x e q)
path (nest (loop x n b q) r) = r ∷ path (loop x n b q)
path (nest (nest b q) r) = r ∷ path (nest b q)

-- The block that this command stands first in.
unfoldable pub spot : Block → Block
spot empty = empty
spot (assign x e r) = assign x e r
spot (loop x n b r) = loop x n b r
spot (nest empty r) = nest empty r
spot (nest (assign x e q) r) = spot (assign x e q)
spot (nest (loop x n b q) r) = spot (loop x n b q)
spot (nest (nest b q) r) = spot (nest b q)

-- THE WALK to it, head by head

-- A block with commands in it begins at p: what a turn of the walk tests.
unfoldable pub opens_at : List ℕ → ℕ → Bool
opens_at l p = eqb (val (part l (p + 2) 2)) 1 && ltb 4 (val (part l p 2))

-- The walk through the block b, which stands at o, has come to p: a block that is not empty stands there.
pub record Walk (b : Block) (o p : ℕ) : Type 0 where
  pub passed : List Block
  pub here : Block
  pub whole : b ≡ plug blocks passed here
  pub place : o + 4 * length passed ≡ p
  pub some : 0 < block_size here
