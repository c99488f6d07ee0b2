-- The two languages as trees (003, sections 2 and 3, on the grammar of 01 "Records"). A variable is its number, 1 to k.
use Rattle.std.specs.Prelude.{ℕ, List}

-- LOOP

-- An expression: literal, variable, variable plus one, variable minus one (kinds 16 to 19).
pub data Expr : Type 0 where
  lit : ℕ → Expr
  var : ℕ → Expr
  inc : ℕ → Expr
  dec : ℕ → Expr

-- A loop's bound: a literal or a variable (kinds 16 and 17).
pub data Bound : Type 0 where
  upto : ℕ → Bound
  upto_var : ℕ → Bound

-- A block is its commands from the first on: each constructor but `empty` is a command and the rest of the block.
-- So `assign x e r` is {x := e; r}, `loop x b c r` is {for x := 1 to b {c}; r} and `nest c r` is {{c}; r}.
pub data Block : Type 0 where
  empty : Block
  assign : ℕ → Expr → Block → Block
  loop : ℕ → Bound → Block → Block → Block
  nest : Block → Block → Block

-- The commands of a block, and then those of another.
unfoldable pub append : Block → Block → Block
append empty c = c
append (assign x e r) c = assign x e (append r c)
append (loop x n p r) c = loop x n p (append r c)
append (nest p r) c = nest p (append r c)

-- A configuration of the stepper: what is left of the program (01's tariff), and the store of k values.
pub record Config : Type 0 where
  pub block : Block
  pub store : List ℕ

-- SYSTEM T0

-- An atom: a numeral or a variable (kinds 32 and 33).
pub data Atom : Type 0 where
  num : ℕ → Atom
  ref : ℕ → Atom

-- What a let-one binds: an atom, succ or pred of an atom (kinds 34 and 35).
pub data Simple : Type 0 where
  plain : Atom → Simple
  succ_of : Atom → Simple
  pred_of : Atom → Simple

-- A term: tuple, let-one, let-all, rec (kinds 36 to 39).
pub data Term : Type 0 where
  tuple : List Atom → Term
  let_one : ℕ → Simple → Term → Term
  let_all : Term → Term → Term
  rec : ℕ → Atom → List Atom → Term → Term

-- BOTH ENGINES

-- What one step of a state comes to: finished, with the values shown; over, standing before too large a value; or the next state.
pub data Answer (A : Type 0) : Type 0 where
  finished : List ℕ → Answer A
  over : Answer A
  next : A → Answer A
