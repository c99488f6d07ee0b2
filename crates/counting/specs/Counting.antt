-- Loops carried as counts (02 C-14): the state of the counting stepper over the program's trees, and the configuration of
-- 01 that it expands to. A loop in play holds its index, the count c it has reached, the count d of turns that are still to
-- come after it (so its top count is c + d, and no reached count is above its top), and its body.
use Rattle.std.specs.Prelude.{◌+◌, suc, zero, ℕ, List}
use Rattle.rules.specs.Syntax.{Block, Config, Expr, assign, empty, lit, loop, nest, upto}

-- What is left of a block, with what is open in it.
pub data State : Type 0 where
  -- Nothing is open: b is left.
  here : (b : Block) → State
  -- The sum v of the expression e (plus one, minus one) waits to be stored in x; then r.
  summed : (x : ℕ) (e : Expr) (v : ℕ) (r : Block) → State
  -- The block q is open, at s; then r.
  in_block : (q : Block) (s : State) (r : Block) → State
  -- A loop of x over the body p is unrolling, and c is the literal now left in it; d turns of it lie behind that; then r.
  unrolling : (x c d : ℕ) (p r : Block) → State
  -- A loop runs at 0: the empty block that it became; d turns are to come; then r.
  at_zero : (x d : ℕ) (p r : Block) → State
  -- A loop runs in its turn c, whose index is still to be stored; d turns are to come after it; then r.
  storing : (x c d : ℕ) (p r : Block) → State
  -- A loop runs in its turn c, its body at s; d turns are to come after it; then r.
  in_body : (x c d : ℕ) (p : Block) (s : State) (r : Block) → State

-- The state of the counting stepper: what is left of the program, and the store.
pub record Counting : Type 0 where
  pub state : State
  pub store : List ℕ

-- At the start nothing is open in the program.
abbrev pub start : Block → State
start P = here P

-- The d turns that come after turn c, around what `first` puts in front of what follows it: each is a block of all before
-- it, its index's assignment and the body.
unfoldable pub turns_around : ℕ → ℕ → Block → (Block → Block) → ℕ → Block → Block
turns_around x c p first zero r = first r
turns_around x c p first (suc d) r = nest (turns_around x c p first d (assign x (lit (suc (c + d))) p)) r

-- The block that a state stands for.
unfoldable pub expand : State → Block
expand (here b) = b
expand (summed x e v r) = assign x (lit v) r
expand (in_block q s r) = nest (expand s) r
expand (unrolling x c d p r) = turns_around x c p (loop x (upto c) p) d r
expand (at_zero x d p r) = turns_around x 0 p (nest empty) d r
expand (storing x c d p r) = turns_around x c p (nest (assign x (lit c) p)) d r
expand (in_body x c d p s r) = turns_around x c p (nest (expand s)) d r

-- The configuration that it stands for.
unfoldable pub expand_config : Counting → Config
expand_config c = record { block = expand c.state; store = c.store }
