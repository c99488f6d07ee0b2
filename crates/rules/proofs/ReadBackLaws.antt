-- Read-back and translation are inverse, both ways; translation is injective.
use Prim.Native.Nat.{ℕ}
use mathlib.Core.Path.{ap, refl, sym, ◌≡◌}
use mathlib.Core.Bool.{Bool, cond, false, true}
use mathlib.Core.List.{List, [], ◌∷◌}
use mathlib.Core.Option.{Option, none, some}
use borrow.Author.Tests.{eq-eqb, eqb-true}
use Rattle.rules.specs.ReadBack.{Source, a_block, a_loop, block_of_source, bound_of, expr_of, nothing, read_back, same_atom, same_atoms, source, source_let_all, source_let_one, source_rec}
use Rattle.rules.specs.Syntax.{Atom, Block, Bound, Expr, Simple, Term, assign, dec, empty, inc, let_all, let_one, lit, loop, nest, num, plain, pred_of, rec, ref, succ_of, tuple, upto, upto_var, var}
use Rattle.rules.specs.Translation.{all, atom_of, simple_of, translate}
use Rattle.rules.proofs.Tests.{and_both}

same_atom-refl : (a : Atom) → same_atom a a ≡ true
unfolding same_atom
same_atom-refl (num n) = eq-eqb n n refl
same_atom-refl (ref x) = eq-eqb x x refl

same_atoms-refl : (l : List Atom) → same_atoms l l ≡ true
unfolding same_atoms
same_atoms-refl [] = refl
same_atoms-refl (a ∷ l) = cc (same_atom-refl a, same_atoms-refl l)

same_atom-eq : (a b : Atom) → same_atom a b ≡ true → a ≡ b
unfolding same_atom
same_atom-eq (num m) (num n) e = ap num (eqb-true m n e)
same_atom-eq (num m) (ref y) e = cc
same_atom-eq (ref x) (num n) e = cc
same_atom-eq (ref x) (ref y) e = ap ref (eqb-true x y e)

same_atoms-eq : (l m : List Atom) → same_atoms l m ≡ true → l ≡ m
unfolding same_atoms
same_atoms-eq [] [] e = refl
same_atoms-eq [] (b ∷ m) e = cc
same_atoms-eq (a ∷ l) [] e = cc
same_atoms-eq (a ∷ l) (b ∷ m) e =
    let h = and_both (same_atom a b) (same_atoms l m) e in
    cc (same_atom-eq a b h.0, same_atoms-eq l m h.1)

expr_of-simple_of : (e : Expr) → expr_of (simple_of e) ≡ some e
unfolding expr_of simple_of
expr_of-simple_of (lit n) = refl
expr_of-simple_of (var x) = refl
expr_of-simple_of (inc x) = refl
expr_of-simple_of (dec x) = refl

bound_of-atom_of : (b : Bound) → bound_of (atom_of b) ≡ b
unfolding bound_of atom_of
bound_of-atom_of (upto n) = refl
bound_of-atom_of (upto_var x) = refl

atom_of-bound_of : (a : Atom) → atom_of (bound_of a) ≡ a
unfolding bound_of atom_of
atom_of-bound_of (num n) = refl
atom_of-bound_of (ref x) = refl

source-translate : (k : ℕ) (b : Block) → source k (translate k b) ≡ a_block b
unfolding source translate source_let_one source_let_all source_rec
source-translate k empty = rw (same_atoms-refl (all k))
source-translate k (assign x e r) = rw (expr_of-simple_of e, source-translate k r)
source-translate k (loop x b body r) = rw (same_atoms-refl (all k), bound_of-atom_of b, source-translate k body, source-translate k r)
source-translate k (nest b r) = rw (source-translate k b, source-translate k r)

pub read_back-translate : (k : ℕ) (b : Block) → read_back k (translate k b) ≡ some b
unfolding read_back block_of_source
read_back-translate k b = ap block_of_source (source-translate k b)

-- what it says of a term that something is its source
abbrev Right : ℕ → Term → Source → Type 0
Right k t (a_block b) = translate k b ≡ t
Right k t (a_loop x b c) = rec x (atom_of b) (all k) (translate k c) ≡ t
Right k t nothing = Unit {0}

simple_of-expr_of : (s : Simple) (e : Expr) → expr_of s ≡ some e → simple_of e ≡ s
unfolding expr_of simple_of
simple_of-expr_of (plain (num n)) e h = cc
simple_of-expr_of (plain (ref x)) e h = cc
simple_of-expr_of (succ_of (num n)) e h = cc
simple_of-expr_of (succ_of (ref x)) e h = cc
simple_of-expr_of (pred_of (num n)) e h = cc
simple_of-expr_of (pred_of (ref x)) e h = cc

right-one : (k x : ℕ) (s : Simple) (t : Term) (e : Option Expr) → expr_of s ≡ e → (o : Source) → Right k t o → Right k (let_one x s t) (source_let_one x e o)
unfolding source_let_one translate
right-one k x s t none h o r = tt
right-one k x s t (some e) h (a_block b) r = cc (simple_of-expr_of s e h)
right-one k x s t (some e) h (a_loop y b c) r = tt
right-one k x s t (some e) h nothing r = tt

right-all : (k : ℕ) (t u : Term) (o p : Source) → Right k t o → Right k u p → Right k (let_all t u) (source_let_all o p)
unfolding source_let_all translate
right-all k t u (a_block b) (a_block r) ho hp = cc
right-all k t u (a_block b) (a_loop y d c) ho hp = tt
right-all k t u (a_block b) nothing ho hp = tt
right-all k t u (a_loop x e b) (a_block r) ho hp = cc
right-all k t u (a_loop x e b) (a_loop y d c) ho hp = tt
right-all k t u (a_loop x e b) nothing ho hp = tt
right-all k t u nothing p ho hp = tt

right-rec : (k x : ℕ) (a : Atom) (l : List Atom) (t : Term) (same : Bool) → same_atoms l (all k) ≡ same → (o : Source) → Right k t o → Right k (rec x a l t) (source_rec x (bound_of a) same o)
unfolding source_rec
right-rec k x a l t false h o r = tt
right-rec k x a l t true h (a_block b) r = cc (atom_of-bound_of a, same_atoms-eq l (all k) h)
right-rec k x a l t true h (a_loop y d c) r = tt
right-rec k x a l t true h nothing r = tt

right-tuple : (k : ℕ) (l : List Atom) (same : Bool) → same_atoms l (all k) ≡ same → Right k (tuple l) (cond same (a_block empty) nothing)
unfolding translate
right-tuple k l true h = ap tuple (sym (same_atoms-eq l (all k) h))
right-tuple k l false h = tt

source-right : (k : ℕ) (t : Term) → Right k t (source k t)
unfolding source
source-right k (tuple l) = right-tuple k l (same_atoms l (all k)) refl
source-right k (let_one x s t) = right-one k x s t (expr_of s) refl (source k t) (source-right k t)
source-right k (let_all t u) = right-all k t u (source k t) (source k u) (source-right k t) (source-right k u)
source-right k (rec x a l t) = right-rec k x a l t (same_atoms l (all k)) refl (source k t) (source-right k t)

from-source : (k : ℕ) (t : Term) (o : Source) → Right k t o → (b : Block) → block_of_source o ≡ some b → translate k b ≡ t
unfolding block_of_source
from-source k t (a_block c) r b e = cc
from-source k t (a_loop x d c) r b e = cc
from-source k t nothing r b e = cc

pub translate-read_back : (k : ℕ) (t : Term) (b : Block) → read_back k t ≡ some b → translate k b ≡ t
unfolding read_back
translate-read_back k t b e = from-source k t (source k t) (source-right k t) b e

-- the one block: two with one translation are one
pub translate-injective : (k : ℕ) (b c : Block) → translate k b ≡ translate k c → b ≡ c
translate-injective k b c e = cc (read_back-translate k b, read_back-translate k c)
