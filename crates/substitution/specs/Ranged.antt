-- What a check has found at an index: an atom, a row of atoms, a term. Their variable numbers are at most 16, so each is an
-- index of an array of 17.
use Rattle.std.specs.Prelude.{ℕ, ◌≡◌, List, length}
use Rattle.place.specs.TermView.{AtomAt, AtomsAt, TermAt}
use Rattle.rules.specs.Scope.{AtomWithin, AtomsWithin, TermWithin}
use Rattle.rules.specs.Syntax.{Atom, Term}

-- The atom a stands at index p of the bytes l.
pub record RangedAtom (l : List ℕ) (p : ℕ) (a : Atom) : Type 0 where
  pub here : AtomAt l p a
  pub range : AtomWithin 16 a

-- There are n of them.
pub record RangedAtoms (l : List ℕ) (p n : ℕ) (ys : List Atom) : Type 0 where
  pub here : AtomsAt l p ys
  pub range : AtomsWithin 16 ys
  pub count : length ys ≡ n

-- Its tuples are of k atoms.
pub record RangedTerm (l : List ℕ) (p k : ℕ) (t : Term) : Type 0 where
  pub here : TermAt l p k t
  pub range : TermWithin 16 t
