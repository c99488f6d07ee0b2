-- The path of a term's free variables: what is left of it, and a step along it.
use Rattle.std.specs.Prelude.{ℕ, ◌+◌, ◌≡◌, ◌<◌, ◌≤◌, ◌&&◌, true, List, [], Option, None, Some, length, set}
use Rattle.buffer.specs.LittleEndian.{val}
use Rattle.buffer.specs.Slice.{part, put}
use Rattle.record.specs.Term.{encode_atom, encode_atoms, encode_term_record}
use Rattle.rules.specs.FreeVariables.{Vars, adding, closed_atom, closed_in}
use Rattle.rules.specs.Replaced.{replaced, replaced_atom}
use Rattle.rules.specs.Substitution.{Substitution, except, substitute, substitute_atom}
use Rattle.rules.specs.Syntax.{Atom, Term, let_all, let_one, rec, tuple}
use Rattle.substitution.specs.Ranged.{RangedAtom, RangedAtoms, RangedTerm}
use Rattle.substitution.specs.ValuesLeft.{values_left}
use Rattle.substitution.specs.declared.path.Path.{Path}
use Rattle.substitution.specs.declared.path.Path.TheVariants.{At, Row}
use Rattle.substitution.specs.declared.path.Stop.{Stop}

-- The term t is left: it stands at the index, or the row is of its atoms.
abbrev pub Left : List ℕ → Path → ℕ → Term → Type 0
Left l (At p) k t = RangedTerm l p k t
Left l (Row p n) k t = (ys : List Atom) × (t ≡ tuple ys) × RangedAtoms l p n ys

-- The index from which it is left.
abbrev pub place_of : Path → ℕ
place_of (At p) = p
place_of (Row p n) = p

-- The atoms of a tuple.
abbrev pub atoms_of : Term → List Atom
atoms_of (tuple ys) = ys
atoms_of (let_one x s t) = []
atoms_of (let_all t u) = []
atoms_of (rec x a ys t) = []

-- The bytes l with the term t over what is left.
abbrev pub left_as : List ℕ → Path → Term → List ℕ
left_as l (At p) t = put l p (encode_term_record t)
left_as l (Row p n) t = put l p (encode_atoms (atoms_of t))

-- The variables of S, and the one that is bound, where one is.
abbrev pub adding_bound : Option ℕ → Vars → Vars
adding_bound None S = S
adding_bound (Some x) S = adding x S

-- All of f but the one that is bound, where one is.
abbrev pub except_bound : Option ℕ → Substitution → Substitution
except_bound None f = f
except_bound (Some x) f = except x f

-- The array once the variable that is bound, where one is, has no value.
abbrev pub unset : Option ℕ → List (Option ℕ) → List (Option ℕ)
unset None w = w
unset (Some x) w = set w x None

-- All that is left of t at `from` is left at `to`.
pub record Onward (l : List ℕ) (from to : Path) (k : ℕ) (t : Term) : Type 0 where
  pub left : Term
  pub here : Left l to k left
  pub ahead : place_of from ≤ place_of to
  pub closes : (S : Vars) → closed_in S t ≡ closed_in S left
  pub counts : (f : Substitution) → replaced f t ≡ replaced f left
  pub stores : (f : Substitution) → left_as l to (substitute f left) ≡ left_as l from (substitute f t)
  pub leaves : (w : List (Option ℕ)) → values_left w t ≡ values_left w left

-- There the path comes to an atom, or to its row: no let-all stands there and no tuple.
abbrev pub Settled : List ℕ → Path → Type 0
Settled l (At p) = (val (part l (p + 2) 2) ≡ 36 → ⊥) × (val (part l (p + 2) 2) ≡ 38 → ⊥)
Settled l (Row p n) = Unit {0}

-- A step from where t is left: an atom stands at the stop, and no variable is free in t but in that atom and in what is left then.
pub record Stepped (l : List ℕ) (from : Path) (k : ℕ) (t : Term) (stop : Stop) (path : Path) : Type 0 where
  pub atom : Atom
  pub left : Term
  pub here : RangedAtom l stop.at atom
  pub low : (x : ℕ) → stop.binds ≡ Some x → x < 17
  pub ahead : place_of from + 8 ≤ place_of path
  pub within : place_of path ≤ length l
  pub closes : (S : Vars) → closed_in S t ≡ (closed_atom S atom && closed_in (adding_bound stop.binds S) left)
  pub counts : (f : Substitution) → replaced f t ≡ replaced_atom f atom + replaced (except_bound stop.binds f) left
  pub stays : (f : Substitution) (m : List ℕ) → m ≡ put l stop.at (encode_atom (substitute_atom f atom)) → Left m path k left
  pub stores : (f : Substitution) (m : List ℕ) → m ≡ put l stop.at (encode_atom (substitute_atom f atom))
      → left_as m path (substitute (except_bound stop.binds f) left) ≡ left_as l from (substitute f t)
  pub leaves : (w : List (Option ℕ)) → values_left w t ≡ values_left (unset stop.binds w) left

-- Where the path has ended, nothing of t is left.
pub record Ended (l : List ℕ) (from : Path) (t : Term) : Type 0 where
  pub closes : (S : Vars) → closed_in S t ≡ true
  pub counts : (f : Substitution) → replaced f t ≡ 0
  pub stores : (f : Substitution) → l ≡ left_as l from (substitute f t)
  pub leaves : (w : List (Option ℕ)) → values_left w t ≡ w
