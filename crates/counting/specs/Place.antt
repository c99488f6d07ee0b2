-- Places in a program: a place is the distance in bytes from the first command of the outermost block (02 C-14).
use Rattle.std.specs.Prelude.{◌+◌, ◌-◌, ℕ, ◌≡◌, eqb}
use Rattle.std.proofs.Math.Option.{Option, none, some}
use Rattle.record.specs.Program.{block_size}
use Rattle.record.specs.Reading.{pick}
use Rattle.rules.specs.Syntax.{Block, assign, empty, loop, nest}

-- Of a block whose first command stands at a: what is left of it from the place p on, if a command or its end stands there.
unfoldable pub rest_at : Block → ℕ → ℕ → Option Block
rest_at empty a p = pick (eqb p a) (some empty) none
rest_at (assign x e r) a p = pick (eqb p a) (some (assign x e r)) (rest_at r (a + 16) p)
rest_at (loop x n q r) a p = pick (eqb p a) (some (loop x n q r)) (rest_at r (a + (20 + block_size q)) p)
rest_at (nest q r) a p = pick (eqb p a) (some (nest q r)) (rest_at r (a + (4 + block_size q)) p)

-- r is what is left of such a block from some place on.
abbrev pub Rest : Block → ℕ → Block → Type 0
Rest b a r = (p : ℕ) × (rest_at b a p ≡ some r)

-- The place in such a block from which n of its bytes are left.
unfoldable pub place_of : Block → ℕ → ℕ → ℕ
place_of b a n = a + (block_size b - n)

-- Where the first command of a loop's body stands, and of a block's, by where its record does.
abbrev pub body_at : ℕ → ℕ
body_at p = p + 20

abbrev pub inside_at : ℕ → ℕ
inside_at p = p + 4
