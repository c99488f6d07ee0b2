-- Lengths of records beside each other: substitution changes none and replaces at most a variable for every 8 bytes, and a program's
-- is never above its term's.
use Prim.Native.Nat.{◌*◌, ◌+◌, ℕ, ◌≤◌}
use mathlib.Core.Path.{refl, ◌≡◌}
use mathlib.Core.List.{List, [], map, ◌∷◌}
use mathlib.Core.Option.{Option, none, some}
use lib.ListN.{length, length-map}
use native.Mathlib.Omega.{arith}
use Rattle.rules.specs.Reduction.{value_of}
use Rattle.rules.specs.Replaced.{given, replaced, replaced_atom, replaced_atoms, replaced_let_all, replaced_let_one, replaced_next, replaced_simple}
use Rattle.rules.specs.Substitution.{Substitution, except, from_store, only, substitute, substitute_atom, substitute_simple}
use Rattle.rules.specs.Syntax.{Atom, Block, Expr, Simple, Term, assign, dec, empty, inc, let_all, let_one, lit, loop, nest, num, plain, pred_of, rec, ref, succ_of, tuple, var}
use Rattle.rules.specs.Translation.{simple_of, translate}
use Rattle.record.specs.declared.Header.{Header}
use Rattle.record.specs.Header.{encode_program, encode_term}
use Rattle.record.specs.Program.{block_size}
use Rattle.record.specs.Term.{simple_size, term_size}
use Rattle.record.proofs.HeaderLaws.{length-encode_program, length-encode_term}

-- SUBSTITUTION CHANGES NO LENGTH

simple_size-substitute : (f : Substitution) (s : Simple) → simple_size (substitute_simple f s) ≡ simple_size s
unfolding simple_size substitute_simple
simple_size-substitute f (plain a) = refl
simple_size-substitute f (succ_of a) = refl
simple_size-substitute f (pred_of a) = refl

pub term_size-substitute : (f : Substitution) (t : Term) → term_size (substitute f t) ≡ term_size t
unfolding term_size substitute
term_size-substitute f (tuple l) = rw (length-map l (substitute_atom f))
term_size-substitute f (let_one x s t) = rw (simple_size-substitute f s, term_size-substitute (except x f) t)
term_size-substitute f (let_all t u) = rw (term_size-substitute f t)
term_size-substitute f (rec x a l t) = rw (length-map l (substitute_atom f))

-- AT MOST A VARIABLE FOR EVERY 8 BYTES IS REPLACED, in a substitution and in a reduction

replaced_atom-most : (f : Substitution) (a : Atom) → replaced_atom f a ≤ 1
unfolding replaced_atom
replaced_atom-most f (num n) = omega arith
replaced_atom-most f (ref x) = by (f x)
  where
    by : (o : Option ℕ) → given o ≤ 1
    by none = unfold given in omega arith
    by (some v) = unfold given in omega arith

pub replaced_atoms-most : (f : Substitution) (l : List Atom) → replaced_atoms f l ≤ length l
unfolding replaced_atoms
replaced_atoms-most f [] = omega arith
replaced_atoms-most f (a ∷ l) = omega (arith, replaced_atom-most f a, replaced_atoms-most f l)

replaced_simple-most : (f : Substitution) (s : Simple) → 8 * replaced_simple f s ≤ simple_size s
unfolding replaced_simple simple_size
replaced_simple-most f (plain a) = omega (arith, replaced_atom-most f a)
replaced_simple-most f (succ_of a) = omega (arith, replaced_atom-most f a)
replaced_simple-most f (pred_of a) = omega (arith, replaced_atom-most f a)

pub replaced-most : (f : Substitution) (t : Term) → 8 * replaced f t ≤ term_size t
unfolding replaced term_size
replaced-most f (tuple l) = omega (arith, replaced_atoms-most f l)
replaced-most f (let_one x s t) = omega (arith, replaced_simple-most f s, replaced-most (except x f) t)
replaced-most f (let_all t u) = omega (arith, replaced-most f t)
replaced-most f (rec x a l t) = omega (arith, replaced_atom-most f a, replaced_atoms-most f l)

pub replaced_next-most : (t : Term) → 8 * replaced_next t ≤ term_size t
unfolding replaced_next replaced_let_one term_size
replaced_next-most (tuple l) = omega arith
replaced_next-most (let_one x (plain a) t) = omega (arith, replaced-most (only x (value_of a)) t)
replaced_next-most (let_one x (succ_of a) t) = omega arith
replaced_next-most (let_one x (pred_of a) t) = omega arith
replaced_next-most (let_all t u) = by t (replaced_next t) (replaced_next-most t)
  where
    by : (t : Term) (n : ℕ) → 8 * n ≤ term_size t → 8 * replaced_let_all t u n ≤ 8 + term_size t + term_size u
    by (tuple l) n h = unfold replaced_let_all in omega (arith, replaced-most (from_store (map value_of l)) u)
    by (let_one x s t) n h = unfold replaced_let_all in omega (arith, h)
    by (let_all t v) n h = unfold replaced_let_all in omega (arith, h)
    by (rec x a l t) n h = unfold replaced_let_all in omega (arith, h)
replaced_next-most (rec x a l t) = omega arith

-- A TRANSLATION IS NO SHORTER

simple-least : (e : Expr) → 8 ≤ simple_size (simple_of e)
unfolding simple_size simple_of
simple-least (lit n) = omega arith
simple-least (var x) = omega arith
simple-least (inc x) = omega arith
simple-least (dec x) = omega arith

size-translate : (k : ℕ) (P : Block) → block_size P ≤ term_size (translate k P)
unfolding block_size term_size translate
size-translate k empty = omega arith
size-translate k (assign x e r) = omega (arith, simple-least e, size-translate k r)
size-translate k (loop x b body r) = omega (arith, size-translate k body, size-translate k r)
size-translate k (nest b r) = omega (arith, size-translate k b, size-translate k r)

pub program-shorter : (h : Header) (P : Block) → length (encode_program h P) ≤ length (encode_term h (translate h.k P))
program-shorter h P = omega (arith, length-encode_program h P, length-encode_term h (translate h.k P), size-translate h.k P)
