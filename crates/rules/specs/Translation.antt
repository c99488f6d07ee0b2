-- The translation of LOOP into T0 (003, definition 3; 01 "Translation and read-back").
use Rattle.std.specs.Prelude.{suc, zero, ℕ, List, [], ◌∷◌}
use Rattle.rules.specs.Syntax.{Atom, Block, Bound, Expr, Simple, Term, assign, dec, empty, inc, let_all, let_one, lit, loop, nest, num, plain, pred_of, rec, ref, succ_of, tuple, upto, upto_var, var}

-- The n variables i, i + 1, ..
unfoldable pub refs : ℕ → ℕ → List Atom
refs i zero = []
refs i (suc n) = ref i ∷ refs (suc i) n

-- 01's all: the variables 1 to k.
abbrev pub all : ℕ → List Atom
all k = refs 1 k

-- e*: kinds 16 to 19 become numeral, variable, succ, pred.
unfoldable pub simple_of : Expr → Simple
simple_of (lit n) = plain (num n)
simple_of (var x) = plain (ref x)
simple_of (inc x) = succ_of (ref x)
simple_of (dec x) = pred_of (ref x)

-- The same of a loop's bound.
unfoldable pub atom_of : Bound → Atom
atom_of (upto n) = num n
atom_of (upto_var x) = ref x

-- {s}*: empty block, assignment then rest, loop then rest, block then rest.
unfoldable pub translate : ℕ → Block → Term
translate k empty = tuple (all k)
translate k (assign x e r) = let_one x (simple_of e) (translate k r)
translate k (loop x b body r) = let_all (rec x (atom_of b) (all k) (translate k body)) (translate k r)
translate k (nest b r) = let_all (translate k b) (translate k r)
