-- Every variable number is one of 1 to k, as a fact and as the test of refusal 5 (01 "Records", "Where an order stops").
use Rattle.std.specs.Prelude.{ℕ, ◌≤◌, ◌≡◌, ◌&&◌, Bool, true, List, [], ◌∷◌, leb, length}
use Rattle.rules.specs.Syntax.{Atom, Block, Bound, Config, Expr, Simple, Term, assign, dec, empty, inc, let_all, let_one, lit, loop, nest, num, plain, pred_of, rec, ref, succ_of, tuple, upto, upto_var, var}

-- THE FACT

-- x is one of the variables 1 to k.
abbrev pub Within : ℕ → ℕ → Type 0
Within k x = (1 ≤ x) × (x ≤ k)

-- The same of the variable in an expression, where it has one.
abbrev pub ExprWithin : ℕ → Expr → Type 0
ExprWithin k (lit n) = Unit {0}
ExprWithin k (var x) = Within k x
ExprWithin k (inc x) = Within k x
ExprWithin k (dec x) = Within k x

-- The same of a bound.
abbrev pub BoundWithin : ℕ → Bound → Type 0
BoundWithin k (upto n) = Unit {0}
BoundWithin k (upto_var x) = Within k x

-- The same of every variable in a block.
abbrev pub BlockWithin : ℕ → Block → Type 0
BlockWithin k empty = Unit {0}
BlockWithin k (assign x e r) = Within k x × ExprWithin k e × BlockWithin k r
BlockWithin k (loop x b body r) = Within k x × BoundWithin k b × BlockWithin k body × BlockWithin k r
BlockWithin k (nest b r) = BlockWithin k b × BlockWithin k r

-- A configuration of k variables: its block's are among them, and its store has k values.
pub record ConfigWithin (k : ℕ) (c : Config) : Type 0 where
  pub block : BlockWithin k c.block
  pub size : length c.store ≡ k

-- The same of an atom.
abbrev pub AtomWithin : ℕ → Atom → Type 0
AtomWithin k (num n) = Unit {0}
AtomWithin k (ref x) = Within k x

-- The same of a row of atoms.
abbrev pub AtomsWithin : ℕ → List Atom → Type 0
AtomsWithin k [] = Unit {0}
AtomsWithin k (a ∷ l) = AtomWithin k a × AtomsWithin k l

-- The same of what a let-one binds.
abbrev pub SimpleWithin : ℕ → Simple → Type 0
SimpleWithin k (plain a) = AtomWithin k a
SimpleWithin k (succ_of a) = AtomWithin k a
SimpleWithin k (pred_of a) = AtomWithin k a

-- The same of every variable number in a term, bound or free.
abbrev pub TermWithin : ℕ → Term → Type 0
TermWithin k (tuple l) = AtomsWithin k l
TermWithin k (let_one x s t) = Within k x × SimpleWithin k s × TermWithin k t
TermWithin k (let_all t u) = TermWithin k t × TermWithin k u
TermWithin k (rec x a l t) = Within k x × AtomWithin k a × AtomsWithin k l × TermWithin k t

-- THE TEST

-- Whether x is one of the variables 1 to k.
unfoldable pub in_range : ℕ → ℕ → Bool
in_range k x = leb 1 x && leb x k

-- The same of the variable in an expression, where it has one.
unfoldable pub expr_in_range : ℕ → Expr → Bool
expr_in_range k (lit n) = true
expr_in_range k (var x) = in_range k x
expr_in_range k (inc x) = in_range k x
expr_in_range k (dec x) = in_range k x

-- The same of a bound.
unfoldable pub bound_in_range : ℕ → Bound → Bool
bound_in_range k (upto n) = true
bound_in_range k (upto_var x) = in_range k x

-- The same of every variable in a block.
unfoldable pub block_in_range : ℕ → Block → Bool
block_in_range k empty = true
block_in_range k (assign x e r) = in_range k x && (expr_in_range k e && block_in_range k r)
block_in_range k (loop x b body r) = in_range k x && (bound_in_range k b && (block_in_range k body && block_in_range k r))
block_in_range k (nest b r) = block_in_range k b && block_in_range k r

-- The same of an atom.
unfoldable pub atom_in_range : ℕ → Atom → Bool
atom_in_range k (num n) = true
atom_in_range k (ref x) = in_range k x

-- The same of a row of atoms.
unfoldable pub atoms_in_range : ℕ → List Atom → Bool
atoms_in_range k [] = true
atoms_in_range k (a ∷ l) = atom_in_range k a && atoms_in_range k l

-- The same of what a let-one binds.
unfoldable pub simple_in_range : ℕ → Simple → Bool
simple_in_range k (plain a) = atom_in_range k a
simple_in_range k (succ_of a) = atom_in_range k a
simple_in_range k (pred_of a) = atom_in_range k a

-- The same of every variable number in a term, bound or free.
unfoldable pub term_in_range : ℕ → Term → Bool
term_in_range k (tuple l) = atoms_in_range k l
term_in_range k (let_one x s t) = in_range k x && (simple_in_range k s && term_in_range k t)
term_in_range k (let_all t u) = term_in_range k t && term_in_range k u
term_in_range k (rec x a l t) = in_range k x && (atom_in_range k a && (atoms_in_range k l && term_in_range k t))
