-- Terms as bytes: their encoding, and the decoder (01 "Records", kinds 32 to 39).
use Rattle.std.specs.Prelude.{◌*◌, ◌+◌, ◌<◌, suc, zero, ℕ, refl, ◌≡◌, Bool, false, true, ◌++◌, List, [], ◌∷◌, eqb, length}
use Rattle.std.proofs.Math.Option.{Option, none, some}
use Rattle.std.proofs.lemmas.Bool.{eqb-false}
use Rattle.std.proofs.Common.{eqb-true}
use Rattle.buffer.specs.LittleEndian.{le}
use Rattle.rules.specs.FreeVariables.{atom_of_simple}
use Rattle.rules.specs.Syntax.{Atom, Simple, Term, let_all, let_one, num, plain, pred_of, rec, ref, succ_of, tuple}
use Rattle.record.specs.Fix.{fixed}
use Rattle.record.specs.Reading.{Got, RecordParts, any_record, at_end, bind, encode_leaf, fail, from_some, got, leaf, pick, sub, then, word}
use Rattle.record.specs.Record.{Split, bad, encode_record, end, part, split}

-- ATOMS

-- The kind of an atom's record.
unfoldable pub atom_kind : Atom → ℕ
atom_kind (num v) = 32
atom_kind (ref v) = 33

-- The value or variable number that an atom holds.
unfoldable pub atom_number : Atom → ℕ
atom_number (num v) = v
atom_number (ref v) = v

-- The atom of this kind with this value or variable number, if the kind is an atom's.
unfoldable pub atom_from : ℕ → ℕ → Option Atom
atom_from k v = pick (eqb k 32) (some (num v)) (pick (eqb k 33) (some (ref v)) none)

-- The record of an atom.
abbrev pub encode_atom : Atom → List ℕ
encode_atom = encode_leaf atom_kind atom_number atom_from

-- The atom whose record stands first, and what follows it.
abbrev pub read_atom : List ℕ → Got Atom
read_atom = leaf atom_kind atom_number atom_from

-- The records of atoms one after the other: the contents of a tuple's record.
unfoldable pub encode_atoms : List Atom → List ℕ
encode_atoms [] = []
encode_atoms (a ∷ ys) = encode_atom a ++ encode_atoms ys

-- Exactly n atoms and nothing after them.
unfoldable pub decode_atoms : ℕ → List ℕ → Option (List Atom)
decode_atoms zero bs = at_end bs (some [])
decode_atoms (suc n) bs = then (read_atom bs) (λ a r. bind (decode_atoms n r) (λ ys. some (a ∷ ys)))

-- An atom's value or variable number fits in 4 bytes.
abbrev pub AtomWords : Atom → Type 0
AtomWords a = atom_number a < 4294967296

-- The same of each of these atoms.
abbrev pub AtomsWords : List Atom → Type 0
AtomsWords [] = Unit {0}
AtomsWords (a ∷ ys) = AtomWords a × AtomsWords ys

-- WHAT A LET-ONE BINDS

-- An equation of numbers, decided by computing.
abbrev pub same_if : (k n : ℕ) (t : Bool) → eqb k n ≡ t → Dec (k ≡ n)
same_if k n true e = yes (eqb-true k n e)
same_if k n false e = no (eqb-false k n e)

-- Two numbers are equal, or they are not.
abbrev pub same : (k n : ℕ) → Dec (k ≡ n)
same k n = same_if k n (eqb k n) refl

-- What the kind of a thing that a let-one binds is taken for: succ, pred, or else an atom.
pub data SimpleKind (k : ℕ) : Type 0 where
  is_succ : k ≡ 34 → SimpleKind k
  is_pred : k ≡ 35 → SimpleKind k
  is_atom : SimpleKind k

-- By whether the kind is that of succ, and that of pred.
unfoldable pub simple_kind_if : {k : ℕ} → Dec (k ≡ 34) → Dec (k ≡ 35) → SimpleKind k
simple_kind_if (yes p) d = is_succ p
simple_kind_if (no p) (yes q) = is_pred q
simple_kind_if (no p) (no q) = is_atom

-- The record of what a let-one binds.
unfoldable pub encode_simple : Simple → List ℕ
encode_simple (plain a) = encode_atom a
encode_simple (succ_of a) = encode_record 34 (encode_atom a)
encode_simple (pred_of a) = encode_record 35 (encode_atom a)

-- The length of that record.
unfoldable pub simple_size : Simple → ℕ
simple_size (plain a) = 8
simple_size (succ_of a) = 12
simple_size (pred_of a) = 12

-- The atom whose record the bytes are, if they are one and nothing after it.
unfoldable pub only_atom : List ℕ → Option Atom
only_atom b = then (read_atom b) (λ a r. at_end r (some a))

-- An atom that was read, as what a let-one binds.
unfoldable pub plain_of : Got Atom → Got Simple
plain_of fail = fail
plain_of (got a r) = got (plain a) r

-- By what the kind was taken for.
unfoldable pub simple_by : {k : ℕ} → SimpleKind k → List ℕ → List ℕ → List ℕ → Got Simple
simple_by (is_succ p) bs b r = from_some (bind (only_atom b) (λ a. some (succ_of a))) r
simple_by (is_pred p) bs b r = from_some (bind (only_atom b) (λ a. some (pred_of a))) r
simple_by is_atom bs b r = plain_of (read_atom bs)

-- By what stands first.
unfoldable pub simple_from : List ℕ → Split → Got Simple
simple_from bs end = fail
simple_from bs bad = fail
simple_from bs (part k b r) = simple_by (simple_kind_if (same k 34) (same k 35)) bs b r

-- What a let-one binds, where its record stands first, and what follows it.
unfoldable pub read_simple : List ℕ → Got Simple
read_simple bs = simple_from bs (split bs)

-- TERMS

-- The kind of a term's record.
unfoldable pub kind_of_term : Term → ℕ
kind_of_term (tuple ys) = 36
kind_of_term (let_one x e t) = 37
kind_of_term (let_all s t) = 38
kind_of_term (rec x a ys t) = 39

-- The contents of a term's record.
unfoldable pub term_contents : Term → List ℕ
term_contents (tuple ys) = encode_atoms ys
term_contents (let_one x e t) = le 4 x ++ (encode_simple e ++ encode_record (kind_of_term t) (term_contents t))
term_contents (let_all s t) = encode_record (kind_of_term s) (term_contents s) ++ encode_record (kind_of_term t) (term_contents t)
term_contents (rec x a ys t) = le 4 x ++ (encode_atom a ++ (encode_record 36 (encode_atoms ys) ++ encode_record (kind_of_term t) (term_contents t)))

-- The record of a term, without the term header.
unfoldable pub encode_term_record : Term → List ℕ
encode_term_record t = encode_record (kind_of_term t) (term_contents t)

-- The length of the contents.
unfoldable pub term_size : Term → ℕ
term_size (tuple ys) = 8 * length ys
term_size (let_one x e t) = 8 + simple_size e + term_size t
term_size (let_all s t) = 8 + term_size s + term_size t
term_size (rec x a ys t) = 20 + 8 * length ys + term_size t

-- Every value and variable number takes 4 bytes, and every tuple has n atoms.
abbrev pub TermWords : ℕ → Term → Type 0
TermWords n (tuple ys) = (length ys ≡ n) × AtomsWords ys
TermWords n (let_one x e t) = (x < 4294967296) × AtomWords (atom_of_simple e) × TermWords n t
TermWords n (let_all s t) = TermWords n s × TermWords n t
TermWords n (rec x a ys t) = (x < 4294967296) × AtomWords a × (length ys ≡ n) × AtomsWords ys × TermWords n t

-- THE DECODER

-- What a kind is taken for where a term stands: a tuple, a let-one, a let-all, a rec, or no term.
pub data TermKind (k : ℕ) : Type 0 where
  is_tuple : k ≡ 36 → TermKind k
  is_let_one : k ≡ 37 → TermKind k
  is_let_all : k ≡ 38 → TermKind k
  is_rec : k ≡ 39 → TermKind k
  not_term : TermKind k

-- By whether the kind is that of each of the four.
unfoldable pub term_kind_if : {k : ℕ} → Dec (k ≡ 36) → Dec (k ≡ 37) → Dec (k ≡ 38) → Dec (k ≡ 39) → TermKind k
term_kind_if (yes p) b c d = is_tuple p
term_kind_if (no a) (yes p) c d = is_let_one p
term_kind_if (no a) (no b) (yes p) d = is_let_all p
term_kind_if (no a) (no b) (no c) (yes p) = is_rec p
term_kind_if (no a) (no b) (no c) (no d) = not_term

-- What each kind is taken for.
unfoldable pub term_kind : (k : ℕ) → TermKind k
term_kind k = term_kind_if (same k 36) (same k 37) (same k 38) (same k 39)

module _ (n : ℕ) (D : RecordParts → Option Term) where
  -- One record that is a term, and nothing after it.
  unfoldable pub last_term : List ℕ → Option Term
  last_term b = then (any_record b) (λ g r. at_end r (D g))

  -- By what the kind was taken for: the term with these contents, its tuples of n atoms.
  unfoldable pub decode_term_kind : {k : ℕ} → TermKind k → List ℕ → Option Term
  decode_term_kind (is_tuple p) b = bind (decode_atoms n b) (λ ys. some (tuple ys))
  decode_term_kind (is_let_one p) b = then (word b) (λ x b₁. then (read_simple b₁) (λ e b₂. bind (last_term b₂) (λ t. some (let_one x e t))))
  decode_term_kind (is_let_all p) b = then (any_record b) (λ g b₁. bind (D g) (λ s. bind (last_term b₁) (λ t. some (let_all s t))))
  decode_term_kind (is_rec p) b =
      then (word b) (λ x b₁. then (read_atom b₁) (λ a b₂. then (sub 36 b₂) (λ c b₃. bind (decode_atoms n c) (λ ys. bind (last_term b₃) (λ t. some (rec x a ys t))))))
  decode_term_kind not_term b = none

  -- One level of the decoder: D is the decoder for shorter contents.
  unfoldable pub decode_term_step : RecordParts → Option Term
  decode_term_step g = decode_term_kind (term_kind g.kind) g.body

-- The size that falls from a term to the terms inside it.
unfoldable pub measure_term : RecordParts → ℕ
measure_term g = length g.body

-- The term with tuples of n atoms whose record has this kind and these contents, if there is one.
unfoldable pub decode_term : ℕ → RecordParts → Option Term
decode_term n g = fixed measure_term (decode_term_step n) g
