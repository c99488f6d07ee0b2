-- Read-back: the one program whose translation is the term (01 "Translation and read-back").
use Rattle.std.specs.Prelude.{ℕ, ◌&&◌, Bool, cond, false, true, List, [], ◌∷◌, eqb}
use Rattle.std.proofs.Math.Option.{Option, none, some}
use Rattle.rules.specs.Syntax.{Atom, Block, Bound, Expr, Simple, Term, assign, dec, empty, inc, let_all, let_one, lit, loop, nest, num, plain, pred_of, rec, ref, succ_of, tuple, upto, upto_var, var}
use Rattle.rules.specs.Translation.{all}

-- Two atoms are the same.
unfoldable pub same_atom : Atom → Atom → Bool
same_atom (num m) (num n) = eqb m n
same_atom (num m) (ref y) = false
same_atom (ref x) (num n) = false
same_atom (ref x) (ref y) = eqb x y

-- Two rows of atoms are the same.
unfoldable pub same_atoms : List Atom → List Atom → Bool
same_atoms [] [] = true
same_atoms [] (b ∷ m) = false
same_atoms (a ∷ l) [] = false
same_atoms (a ∷ l) (b ∷ m) = same_atom a b && same_atoms l m

-- The expression that a let-one binds; succ and pred of a numeral are none.
unfoldable pub expr_of : Simple → Option Expr
expr_of (plain (num n)) = some (lit n)
expr_of (plain (ref x)) = some (var x)
expr_of (succ_of (num n)) = none
expr_of (succ_of (ref x)) = some (inc x)
expr_of (pred_of (num n)) = none
expr_of (pred_of (ref x)) = some (dec x)

-- The loop's bound that a rec's count is the translation of.
unfoldable pub bound_of : Atom → Bound
bound_of (num n) = upto n
bound_of (ref x) = upto_var x

-- What a term is the translation of: a block; a loop, which is a program's only as the first term of a let-all; nothing.
pub data Source : Type 0 where
  a_block : Block → Source
  a_loop : ℕ → Bound → Block → Source
  nothing : Source

-- Of a let-one: the assignment of its expression in front of the block of its last term; else nothing.
unfoldable pub source_let_one : ℕ → Option Expr → Source → Source
source_let_one x none o = nothing
source_let_one x (some e) (a_block r) = a_block (assign x e r)
source_let_one x (some e) (a_loop y b c) = nothing
source_let_one x (some e) nothing = nothing

-- Of a let-all: the block or the loop of its first term in front of the block of its last term; else nothing.
unfoldable pub source_let_all : Source → Source → Source
source_let_all (a_block b) (a_block r) = a_block (nest b r)
source_let_all (a_block b) (a_loop y d c) = nothing
source_let_all (a_block b) nothing = nothing
source_let_all (a_loop x e b) (a_block r) = a_block (loop x e b r)
source_let_all (a_loop x e b) (a_loop y d c) = nothing
source_let_all (a_loop x e b) nothing = nothing
source_let_all nothing o = nothing

-- Of a rec whose start tuple is all: the loop around the block of its body; else nothing.
unfoldable pub source_rec : ℕ → Bound → Bool → Source → Source
source_rec x b false o = nothing
source_rec x b true (a_block c) = a_loop x b c
source_rec x b true (a_loop y d c) = nothing
source_rec x b true nothing = nothing

-- What a term is the translation of, with k variables.
unfoldable pub source : ℕ → Term → Source
source k (tuple l) = cond (same_atoms l (all k)) (a_block empty) nothing
source k (let_one x s t) = source_let_one x (expr_of s) (source k t)
source k (let_all t u) = source_let_all (source k t) (source k u)
source k (rec x a l t) = source_rec x (bound_of a) (same_atoms l (all k)) (source k t)

-- The block, where the source is one.
unfoldable pub block_of_source : Source → Option Block
block_of_source (a_block b) = some b
block_of_source (a_loop x b c) = none
block_of_source nothing = none

-- The program that the term is the translation of, if there is one.
unfoldable pub read_back : ℕ → Term → Option Block
read_back k t = block_of_source (source k t)
