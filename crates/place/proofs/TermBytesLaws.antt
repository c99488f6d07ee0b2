-- The bytes of a term with every head in sight; atoms and what a let-one binds by their kinds.
use Prim.Native.Nat.{◌*◌, ◌+◌, ◌<◌, ◌≤◌, ℕ}
use mathlib.Core.Path.{ap, refl, ◌∙◌, ◌≡◌}
use mathlib.Core.List.{◌++◌, List, [], append_assoc, ◌∷◌}
use lib.ListN.{length}
use native.Mathlib.Omega.{arith}
use Rattle.buffer.specs.LittleEndian.{le}
use Rattle.rules.specs.FreeVariables.{atom_of_simple}
use Rattle.rules.specs.Syntax.{Atom, Simple, Term, let_all, let_one, num, plain, pred_of, rec, ref, succ_of, tuple}
use Rattle.record.specs.Term.{atom_from, atom_kind, atom_number, encode_atom, encode_atoms, encode_simple, encode_term_record, kind_of_term, simple_size, term_contents, term_size}
use Rattle.record.proofs.ReadingLaws.{length-encode_leaf}
use Rattle.record.proofs.TermLaws.{length-term_contents}
use Rattle.place.specs.Heads.{record_head}
use Rattle.place.specs.TermView.{simple_kind}
use Rattle.place.proofs.HeadsLaws.{encode_record-head}

-- ATOMS

pub atom_kind-range : (a : Atom) → (32 ≤ atom_kind a) × (atom_kind a ≤ 33)
unfolding atom_kind
atom_kind-range (num v) = omega arith
atom_kind-range (ref x) = omega arith

pub kind-num : (a : Atom) → atom_kind a ≡ 32 → a ≡ num (atom_number a)
unfolding atom_kind atom_number
kind-num (num v) h = refl
kind-num (ref x) h = absurd (omega arith)

pub kind-ref : (a : Atom) → atom_kind a ≡ 33 → a ≡ ref (atom_number a)
unfolding atom_kind atom_number
kind-ref (num v) h = absurd (omega arith)
kind-ref (ref x) h = refl

pub length-encode_atom : (a : Atom) → length (encode_atom a) ≡ 8
length-encode_atom a = length-encode_leaf atom_kind atom_number atom_from a

pub encode_atoms-cons : (a : Atom) (ys : List Atom) → encode_atoms (a ∷ ys) ≡ encode_atom a ++ encode_atoms ys
unfolding encode_atoms
encode_atoms-cons a ys = refl

pub encode_atoms-append : (xs ys : List Atom) → encode_atoms (xs ++ ys) ≡ encode_atoms xs ++ encode_atoms ys
unfolding encode_atoms
encode_atoms-append [] ys = refl
encode_atoms-append (a ∷ xs) ys = rw (encode_atoms-append xs ys) (simp append_assoc)

-- WHAT A LET-ONE BINDS

pub simple_kind-range : (s : Simple) → (32 ≤ simple_kind s) × (simple_kind s ≤ 35)
unfolding simple_kind
simple_kind-range (plain a) = omega (arith, atom_kind-range a)
simple_kind-range (succ_of a) = omega arith
simple_kind-range (pred_of a) = omega arith

-- where its atom stands, by the kind read
pub simple-low : (s : Simple) → simple_kind s < 34 → simple_size s ≡ 8
unfolding simple_kind simple_size
simple-low (plain a) h = refl
simple-low (succ_of a) h = absurd (omega arith)
simple-low (pred_of a) h = absurd (omega arith)

pub simple-high : (s : Simple) → 34 ≤ simple_kind s → simple_size s ≡ 12
unfolding simple_kind simple_size
simple-high (plain a) h = absurd (omega (arith, atom_kind-range a))
simple-high (succ_of a) h = refl
simple-high (pred_of a) h = refl

pub simple-least : (s : Simple) → 8 ≤ simple_size s
unfolding simple_size
simple-least (plain a) = omega arith
simple-least (succ_of a) = omega arith
simple-least (pred_of a) = omega arith

pub size-plain : (a : Atom) → simple_size (plain a) ≡ 8
unfolding simple_size
size-plain a = refl

pub size-succ : (a : Atom) → simple_size (succ_of a) ≡ 12
unfolding simple_size
size-succ a = refl

pub size-pred : (a : Atom) → simple_size (pred_of a) ≡ 12
unfolding simple_size
size-pred a = refl

pub kind-plain : (s : Simple) → simple_kind s < 34 → s ≡ plain (atom_of_simple s)
unfolding simple_kind
kind-plain (plain a) h = refl
kind-plain (succ_of a) h = absurd (omega arith)
kind-plain (pred_of a) h = absurd (omega arith)

pub kind-succ : (s : Simple) → simple_kind s ≡ 34 → s ≡ succ_of (atom_of_simple s)
unfolding simple_kind
kind-succ (plain a) h = absurd (omega (arith, atom_kind-range a))
kind-succ (succ_of a) h = refl
kind-succ (pred_of a) h = absurd (omega arith)

pub kind-pred : (s : Simple) → simple_kind s ≡ 35 → s ≡ pred_of (atom_of_simple s)
unfolding simple_kind
kind-pred (plain a) h = absurd (omega (arith, atom_kind-range a))
kind-pred (succ_of a) h = absurd (omega arith)
kind-pred (pred_of a) h = refl

pub encode_simple-plain : (a : Atom) → encode_simple (plain a) ≡ encode_atom a
unfolding encode_simple
encode_simple-plain a = refl

pub encode_simple-succ : (a : Atom) → encode_simple (succ_of a) ≡ record_head 34 12 ++ encode_atom a
unfolding encode_simple
encode_simple-succ a = encode_record-head 34 12 (encode_atom a) (ap (λ (y : ℕ). 4 + y) (length-encode_atom a))

pub encode_simple-pred : (a : Atom) → encode_simple (pred_of a) ≡ record_head 35 12 ++ encode_atom a
unfolding encode_simple
encode_simple-pred a = encode_record-head 35 12 (encode_atom a) (ap (λ (y : ℕ). 4 + y) (length-encode_atom a))

-- TERMS

pub kind_of_term-range : (t : Term) → (36 ≤ kind_of_term t) × (kind_of_term t ≤ 39)
unfolding kind_of_term
kind_of_term-range (tuple ys) = omega arith
kind_of_term-range (let_one x s t) = omega arith
kind_of_term-range (let_all s t) = omega arith
kind_of_term-range (rec x a ys t) = omega arith

-- every term's record begins with its length and its kind
pub encode_term_record-head : (t : Term) → encode_term_record t ≡ record_head (kind_of_term t) (4 + term_size t) ++ term_contents t
unfolding encode_term_record
encode_term_record-head t = encode_record-head (kind_of_term t) (4 + term_size t) (term_contents t) (ap (λ (y : ℕ). 4 + y) (length-term_contents t))

pub encode_term_record-tuple : (ys : List Atom) → encode_term_record (tuple ys) ≡ record_head 36 (4 + 8 * length ys) ++ encode_atoms ys
unfolding kind_of_term term_contents term_size
encode_term_record-tuple ys = encode_term_record-head (tuple ys)

pub encode_term_record-let_one : (x : ℕ) (s : Simple) (t : Term)
    → encode_term_record (let_one x s t) ≡ record_head 37 (12 + simple_size s + term_size t) ++ (le 4 x ++ (encode_simple s ++ encode_term_record t))
unfolding kind_of_term term_contents term_size encode_term_record
encode_term_record-let_one x s t =
    let e : 4 + (8 + simple_size s + term_size t) ≡ 12 + simple_size s + term_size t = omega arith in
    encode_term_record-head (let_one x s t) ∙ ap (λ (n : ℕ). record_head 37 n ++ term_contents (let_one x s t)) e

pub encode_term_record-let_all : (s t : Term)
    → encode_term_record (let_all s t) ≡ record_head 38 (12 + term_size s + term_size t) ++ (encode_term_record s ++ encode_term_record t)
unfolding kind_of_term term_contents term_size encode_term_record
encode_term_record-let_all s t =
    let e : 4 + (8 + term_size s + term_size t) ≡ 12 + term_size s + term_size t = omega arith in
    encode_term_record-head (let_all s t) ∙ ap (λ (n : ℕ). record_head 38 n ++ term_contents (let_all s t)) e

pub encode_term_record-rec : (x : ℕ) (a : Atom) (ys : List Atom) (t : Term)
    → encode_term_record (rec x a ys t)
    ≡ record_head 39 (24 + 8 * length ys + term_size t) ++ (le 4 x ++ (encode_atom a ++ (encode_term_record (tuple ys) ++ encode_term_record t)))
unfolding kind_of_term term_contents term_size encode_term_record
encode_term_record-rec x a ys t =
    let e : 4 + (20 + 8 * length ys + term_size t) ≡ 24 + 8 * length ys + term_size t = omega arith in
    encode_term_record-head (rec x a ys t) ∙ ap (λ (n : ℕ). record_head 39 n ++ term_contents (rec x a ys t)) e

pub term_size-tuple : (ys : List Atom) → term_size (tuple ys) ≡ 8 * length ys
unfolding term_size
term_size-tuple ys = refl

pub term_size-let_one : (x : ℕ) (s : Simple) (t : Term) → term_size (let_one x s t) ≡ 8 + simple_size s + term_size t
unfolding term_size
term_size-let_one x s t = refl

pub term_size-plain : (x : ℕ) (a : Atom) (t : Term) → term_size (let_one x (plain a) t) ≡ 16 + term_size t
term_size-plain x a t = term_size-let_one x (plain a) t ∙ ap (λ (n : ℕ). 8 + n + term_size t) (size-plain a)

pub term_size-let_all : (s t : Term) → term_size (let_all s t) ≡ 8 + term_size s + term_size t
unfolding term_size
term_size-let_all s t = refl

pub term_size-rec : (x : ℕ) (a : Atom) (ys : List Atom) (t : Term) → term_size (rec x a ys t) ≡ 20 + 8 * length ys + term_size t
unfolding term_size
term_size-rec x a ys t = refl
