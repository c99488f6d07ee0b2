-- The test of refusal 7 is the fact: it fails exactly where some variable is free.
use Prim.Native.Nat.{ℕ}
use mathlib.Core.Path.{ap, fun_ext, refl, sym, ◌∙◌, ◌≡◌}
use mathlib.Core.Bool.{◌&&◌, Bool, cond, false, true}
use mathlib.Core.List.{List, [], map, ◌∷◌}
use borrow.Author.Tests.{eqb-false, ne_eqb}
use lib.Dec.{eqb}
use Rattle.rules.specs.FreeVariables.{Among, Free, Vars, adding, all_vars, atom_of_simple, closed, closed_atom, closed_atoms, closed_in, closed_simple, here, in_bound, in_count, in_first, in_last, in_start, in_tuple, no_vars, there}
use Rattle.rules.specs.Reduction.{value_of}
use Rattle.rules.specs.Syntax.{Atom, Simple, Term, let_all, let_one, num, plain, pred_of, rec, ref, succ_of, tuple}
use Rattle.rules.proofs.Tests.{and_both, and_intro, true-false}

and_l : (a b : Bool) → a ≡ false → (a && b) ≡ false
and_l a b e = rw e refl

and_r : (a b : Bool) → b ≡ false → (a && b) ≡ false
and_r true b e = e
and_r false b e = refl

-- WHAT IS FREE AND NOT IN S MAKES THE TEST FAIL

among-open : (S : Vars) (x : ℕ) (l : List Atom) → Among x l → S x ≡ false → closed_atoms S l ≡ false
unfolding closed_atoms closed_atom
among-open S x (a ∷ l) (here p) e = and_l (closed_atom S a) (closed_atoms S l) (ap (closed_atom S) p ∙ e)
among-open S x (a ∷ l) (there m) e = and_r (closed_atom S a) (closed_atoms S l) (among-open S x l m e)
among-open S x [] x3 e = elim x3 [ ]

simple-open : (S : Vars) (x : ℕ) (s : Simple) → atom_of_simple s ≡ ref x → S x ≡ false → closed_simple S s ≡ false
unfolding closed_simple closed_atom
simple-open S x (plain a) p e = ap (closed_atom S) p ∙ e
simple-open S x (succ_of a) p e = ap (closed_atom S) p ∙ e
simple-open S x (pred_of a) p e = ap (closed_atom S) p ∙ e

adding_other : (y : ℕ) (S : Vars) (x : ℕ) → (x ≡ y → ⊥) → adding y S x ≡ S x
unfolding adding
adding_other y S x n = rw (ne_eqb x y n) refl

free_open : (S : Vars) (x : ℕ) (t : Term) → Free x t → S x ≡ false → closed_in S t ≡ false
unfolding closed_in closed_atom
free_open S x (tuple l) (in_tuple m) e = among-open S x l m e
free_open S x (let_one y s t) (in_bound p) e = and_l (closed_simple S s) (closed_in (adding y S) t) (simple-open S x s p e)
free_open S x (let_one y s t) (in_last n f) e = and_r (closed_simple S s) (closed_in (adding y S) t) (free_open (adding y S) x t f (adding_other y S x n ∙ e))
free_open S x (let_all t u) (in_first f) e = free_open S x t f e
free_open S x (rec y a l t) (in_count p) e = and_l (closed_atom S a) (closed_atoms S l) (ap (closed_atom S) p ∙ e)
free_open S x (rec y a l t) (in_start m) e = and_r (closed_atom S a) (closed_atoms S l) (among-open S x l m e)

-- AND THE OTHER WAY: where the test fails, one is free and not in S

either : {P : Type 0} (a b : Bool) → (a && b) ≡ false → (a ≡ false → P) → (b ≡ false → P) → P
either true b e f g = g e
either false b e f g = f refl

atom-free : {P : Type 0} (S : Vars) (a : Atom) → closed_atom S a ≡ false → ((x : ℕ) → a ≡ ref x → S x ≡ false → P) → P
unfolding closed_atom
atom-free S (num n) e f = true-false e
atom-free S (ref x) e f = f x refl e

among-free : {P : Type 0} (S : Vars) (l : List Atom) → closed_atoms S l ≡ false → ((x : ℕ) → Among x l → S x ≡ false → P) → P
unfolding closed_atoms
among-free S [] e f = true-false e
among-free S (a ∷ l) e f =
    either (closed_atom S a) (closed_atoms S l) e
    (λ p. atom-free S a p (λ x q h. f x (here q) h))
    (λ p. among-free S l p (λ x m h. f x (there m) h))

simple-free : {P : Type 0} (S : Vars) (s : Simple) → closed_simple S s ≡ false → ((x : ℕ) → atom_of_simple s ≡ ref x → S x ≡ false → P) → P
unfolding closed_simple
simple-free S (plain a) e f = atom-free S a e f
simple-free S (succ_of a) e f = atom-free S a e f
simple-free S (pred_of a) e f = atom-free S a e f

under : {P : Type 0} (y : ℕ) (S : Vars) (x : ℕ) → adding y S x ≡ false → ((x ≡ y → ⊥) → S x ≡ false → P) → P
unfolding adding
under y S x e f = go (eqb x y) refl e f
  where
    go : {P : Type 0} (b : Bool) → eqb x y ≡ b → cond b true (S x) ≡ false → ((x ≡ y → ⊥) → S x ≡ false → P) → P
    go true q h f = true-false h
    go false q h f = f (eqb-false x y q) h

open_free : {P : Type 0} (S : Vars) (t : Term) → closed_in S t ≡ false → ((x : ℕ) → Free x t → S x ≡ false → P) → P
unfolding closed_in
open_free S (tuple l) e f = among-free S l e (λ x m h. f x (in_tuple m) h)
open_free S (let_one y s t) e f =
    either (closed_simple S s) (closed_in (adding y S) t) e
    (λ p. simple-free S s p (λ x q h. f x (in_bound q) h))
    (λ p. open_free (adding y S) t p (λ x m h. under y S x h (λ n h'. f x (in_last n m) h')))
open_free S (let_all t u) e f = open_free S t e (λ x m h. f x (in_first m) h)
open_free S (rec y a l t) e f =
    either (closed_atom S a) (closed_atoms S l) e
    (λ p. atom-free S a p (λ x q h. f x (in_count q) h))
    (λ p. among-free S l p (λ x m h. f x (in_start m) h))

-- row 7's test fails exactly where a variable is free
pub closed-free : (t : Term) → closed t ≡ false → (x : ℕ) × Free x t
unfolding closed
closed-free t e = open_free no_vars t e (λ x m h. (x, m))

pub free-closed : (t : Term) (x : ℕ) → Free x t → closed t ≡ false
unfolding closed
free-closed t x m = free_open no_vars x t m refl

-- WHERE EVERY VARIABLE IS BOUND, NOTHING IS FREE

pub adding-all : (x : ℕ) → adding x all_vars ≡ all_vars
unfolding adding
adding-all x = fun_ext λ y. test (eqb y x)
  where
    test : (b : Bool) → cond b true true ≡ true
    test true = refl
    test false = refl

all-closed_atom : (a : Atom) → closed_atom all_vars a ≡ true
unfolding closed_atom
all-closed_atom (num n) = refl
all-closed_atom (ref x) = refl

all-closed_atoms : (l : List Atom) → closed_atoms all_vars l ≡ true
unfolding closed_atoms
all-closed_atoms [] = refl
all-closed_atoms (a ∷ l) = and_intro (all-closed_atom a) (all-closed_atoms l)

all-closed_simple : (s : Simple) → closed_simple all_vars s ≡ true
unfolding closed_simple
all-closed_simple (plain a) = all-closed_atom a
all-closed_simple (succ_of a) = all-closed_atom a
all-closed_simple (pred_of a) = all-closed_atom a

pub all_closed : (t : Term) → closed_in all_vars t ≡ true
unfolding closed_in
all_closed (tuple l) = all-closed_atoms l
all_closed (let_one x s t) = and_intro (all-closed_simple s) (ap (λ S. closed_in S t) (adding-all x) ∙ all_closed t)
all_closed (let_all t u) = all_closed t
all_closed (rec x a l t) = and_intro (all-closed_atom a) (all-closed_atoms l)

-- IN A CLOSED TERM EVERY ATOM THAT IS READ IS A NUMERAL

pub closed-num : (a : Atom) → closed_atom no_vars a ≡ true → a ≡ num (value_of a)
unfolding closed_atom value_of
closed-num (num n) h = refl
closed-num (ref x) h = true-false (sym h)

pub closed-nums : (l : List Atom) → closed_atoms no_vars l ≡ true → l ≡ map num (map value_of l)
unfolding closed_atoms
closed-nums [] h = refl
closed-nums (a ∷ l) h = let p = and_both (closed_atom no_vars a) (closed_atoms no_vars l) h in cc (closed-num a p.0, closed-nums l p.1)
