-- What an atom or a term is that is known to stand at an index, by the kind that is read there (01 "Records").
use Rattle.std.specs.Prelude.{◌*◌, ◌+◌, ◌<◌, ◌≤◌, ℕ, ◌≡◌, List, length}
use Rattle.buffer.specs.LittleEndian.{le, val}
use Rattle.buffer.specs.Slice.{part}
use Rattle.rules.specs.FreeVariables.{atom_of_simple}
use Rattle.rules.specs.Syntax.{Atom, Simple, Term, let_all, let_one, plain, pred_of, rec, succ_of, tuple}
use Rattle.record.specs.Term.{AtomWords, AtomsWords, TermWords, atom_kind, atom_number, encode_atom, encode_atoms, encode_simple, encode_term_record, kind_of_term, simple_size, term_size}
use Rattle.place.specs.At.{At}

-- ATOMS

-- The atom a stands at index p, and its number takes 4 bytes.
pub record AtomAt (l : List ℕ) (p : ℕ) (a : Atom) : Type 0 where
  pub here : At l p (encode_atom a)
  pub words : AtomWords a

-- The same of atoms one after the other.
pub record AtomsAt (l : List ℕ) (p : ℕ) (ys : List Atom) : Type 0 where
  pub here : At l p (encode_atoms ys)
  pub words : AtomsWords ys

-- What is read of an atom.
pub record AtomView (l : List ℕ) (p : ℕ) (a : Atom) : Type 0 where
  pub room : p + 8 ≤ length l
  pub stored : val (part l p 2) ≡ 8
  pub kind-read : val (part l (p + 2) 2) ≡ atom_kind a
  pub number_read : val (part l (p + 4) 4) ≡ atom_number a
  pub number-bytes : part l (p + 4) 4 ≡ le 4 (atom_number a)

-- The kind of what a let-one binds: the atom's own, or that of succ or pred.
unfoldable pub simple_kind : Simple → ℕ
simple_kind (plain a) = atom_kind a
simple_kind (succ_of a) = 34
simple_kind (pred_of a) = 35

-- TERMS

-- The record of the term t stands at index p; its numbers take 4 bytes, its lengths 2, and its tuples have k atoms.
pub record TermAt (l : List ℕ) (p k : ℕ) (t : Term) : Type 0 where
  pub here : At l p (encode_term_record t)
  pub words : TermWords k t
  pub small : 4 + term_size t < 65536

-- A tuple.
pub record TupleView (l : List ℕ) (p k : ℕ) (t : Term) : Type 0 where
  pub atoms : List Atom
  pub is : t ≡ tuple atoms
  pub size : term_size t ≡ 8 * k
  pub room : p + (4 + term_size t) ≤ length l
  pub kind : val (part l (p + 2) 2) ≡ 36
  pub stored : val (part l p 2) ≡ 4 + 8 * k
  pub count : length atoms ≡ k
  pub row : AtomsAt l (p + 4) atoms

-- A let-one: its atom stands where the kind at p + 10 says, at p + 8 for an atom itself and at p + 12 for succ and pred.
pub record LetOneView (l : List ℕ) (p k : ℕ) (t : Term) : Type 0 where
  pub variable : ℕ
  pub bound : Simple
  pub last : Term
  pub is : t ≡ let_one variable bound last
  pub size : term_size t ≡ 8 + simple_size bound + term_size last
  pub room : p + (4 + term_size t) ≤ length l
  pub kind : val (part l (p + 2) 2) ≡ 37
  pub stored : val (part l p 2) ≡ 12 + simple_size bound + term_size last
  pub variable-read : val (part l (p + 4) 4) ≡ variable
  pub variable-bytes : part l (p + 4) 4 ≡ le 4 variable
  pub kind-read : val (part l (p + 10) 2) ≡ simple_kind bound
  pub bound_at : At l (p + 8) (encode_simple bound)
  pub atom : AtomAt l (p + simple_size bound) (atom_of_simple bound)
  pub last-at : TermAt l (p + (8 + simple_size bound)) k last

-- A let-one of an atom, which then stands n = 8 bytes on, or of succ or pred of one, 12 bytes on, as `make` says.
pub record LetOfView (make : Atom → Simple) (n : ℕ) (l : List ℕ) (p k : ℕ) (t : Term) : Type 0 where
  pub variable : ℕ
  pub atom : Atom
  pub last : Term
  pub is : t ≡ let_one variable (make atom) last
  pub size : term_size t ≡ 8 + n + term_size last
  pub room : p + (4 + term_size t) ≤ length l
  pub kind : val (part l (p + 2) 2) ≡ 37
  pub stored : val (part l p 2) ≡ 12 + n + term_size last
  pub variable-read : val (part l (p + 4) 4) ≡ variable
  pub variable-bytes : part l (p + 4) 4 ≡ le 4 variable
  pub kind-read : val (part l (p + (2 + n)) 2) ≡ atom_kind atom
  pub number_read : val (part l (p + (4 + n)) 4) ≡ atom_number atom
  pub number-bytes : part l (p + (4 + n)) 4 ≡ le 4 (atom_number atom)
  pub atom-at : AtomAt l (p + n) atom
  pub last-at : TermAt l (p + (8 + n)) k last

-- A let-all.
pub record LetAllView (l : List ℕ) (p k : ℕ) (t : Term) : Type 0 where
  pub first : Term
  pub last : Term
  pub is : t ≡ let_all first last
  pub size : term_size t ≡ 8 + term_size first + term_size last
  pub room : p + (4 + term_size t) ≤ length l
  pub kind : val (part l (p + 2) 2) ≡ 38
  pub stored : val (part l p 2) ≡ 12 + term_size first + term_size last
  pub first-stored : val (part l (p + 4) 2) ≡ 4 + term_size first
  pub first_kind : val (part l (p + 6) 2) ≡ kind_of_term first
  pub first-at : TermAt l (p + 4) k first
  pub last-at : TermAt l (p + (8 + term_size first)) k last

-- A rec. Its start tuple stands at p + 16 as a term.
pub record RecView (l : List ℕ) (p k : ℕ) (t : Term) : Type 0 where
  pub variable : ℕ
  pub count : Atom
  pub start : List Atom
  pub body : Term
  pub is : t ≡ rec variable count start body
  pub size : term_size t ≡ 20 + 8 * k + term_size body
  pub room : p + (4 + term_size t) ≤ length l
  pub kind : val (part l (p + 2) 2) ≡ 39
  pub stored : val (part l p 2) ≡ 24 + 8 * k + term_size body
  pub variable-read : val (part l (p + 4) 4) ≡ variable
  pub variable-bytes : part l (p + 4) 4 ≡ le 4 variable
  pub kind-read : val (part l (p + 10) 2) ≡ atom_kind count
  pub number_read : val (part l (p + 12) 4) ≡ atom_number count
  pub number-bytes : part l (p + 12) 4 ≡ le 4 (atom_number count)
  pub count_at : AtomAt l (p + 8) count
  pub start-length : length start ≡ k
  pub start-at : TermAt l (p + 16) k (tuple start)
  pub row : AtomsAt l (p + 20) start
  pub body_at : TermAt l (p + (20 + 8 * k)) k body

-- The term, by its kind.
pub data TermView (l : List ℕ) (p k : ℕ) (t : Term) : ℕ → Type 0 where
  is_tuple_at : TupleView l p k t → TermView l p k t 36
  is_let_one_at : LetOneView l p k t → TermView l p k t 37
  is_let_all_at : LetAllView l p k t → TermView l p k t 38
  is_rec_at : RecView l p k t → TermView l p k t 39
