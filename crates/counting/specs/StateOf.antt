-- A state of a program: what it holds open stands in the program, where it is held (02 C-14).
use Rattle.std.specs.Prelude.{◌≤◌, ℕ, ◌≡◌}
use Rattle.std.proofs.Math.Option.{some}
use Rattle.rules.specs.Syntax.{Block, Bound, Expr, assign, dec, inc, lit, loop, nest, var}
use Rattle.counting.specs.Counting.{State, at_zero, here, in_block, in_body, storing, summed, unrolling}
use Rattle.counting.specs.Place.{Rest, body_at, inside_at, rest_at}

-- A plus one or a minus one.
abbrev pub IsSum : Expr → Type 0
IsSum (lit n) = ⊥
IsSum (var x) = ⊥
IsSum (inc x) = Unit {0}
IsSum (dec x) = Unit {0}

-- The loop of x over p, of whatever bound, with r behind it, is what is left of the block from some place on.
abbrev pub LoopIn : Block → ℕ → ℕ → Block → Block → Type 0
LoopIn b a x q r = (n : Bound) × Rest b a (loop x n q r)

-- s is a state of the block b whose first command stands at a.
abbrev pub StateOf : Block → ℕ → State → Type 0
StateOf b a (here r) = Rest b a r
StateOf b a (summed x e v r) = IsSum e × Rest b a (assign x e r)
StateOf b a (in_block q s r) = (p : ℕ) × (rest_at b a p ≡ some (nest q r)) × StateOf q (inside_at p) s
StateOf b a (unrolling x c d q r) = LoopIn b a x q r
StateOf b a (at_zero x d q r) = LoopIn b a x q r
StateOf b a (storing x c d q r) = (1 ≤ c) × LoopIn b a x q r
StateOf b a (in_body x c d q s r) = (1 ≤ c) × ((n : Bound) × (p : ℕ) × (rest_at b a p ≡ some (loop x n q r)) × StateOf q (body_at p) s)
