-- Variables free in a term, as a relation, and the test of refusal 7 that none is (01 "Filling", "Reducer").
use Rattle.std.specs.Prelude.{ℕ, ◌≡◌, ◌&&◌, Bool, cond, false, true, List, [], ◌∷◌, eqb}
use Rattle.rules.specs.Syntax.{Atom, Simple, Term, let_all, let_one, num, plain, pred_of, rec, ref, succ_of, tuple}

-- THE FACT

-- The one atom in what a let-one binds.
abbrev pub atom_of_simple : Simple → Atom
atom_of_simple (plain a) = a
atom_of_simple (succ_of a) = a
atom_of_simple (pred_of a) = a

-- Variable x stands among these atoms.
pub data Among (x : ℕ) : List Atom → Type 0 where
  here : {a : Atom} {l : List Atom} → a ≡ ref x → Among x (a ∷ l)
  there : {a : Atom} {l : List Atom} → Among x l → Among x (a ∷ l)

-- Variable x is free: let-one binds its variable in its last term only, let-all every variable in its last term, rec every
-- variable in its body.
pub data Free (x : ℕ) : Term → Type 0 where
  in_tuple : {l : List Atom} → Among x l → Free x (tuple l)
  in_bound : {y : ℕ} {s : Simple} {t : Term} → atom_of_simple s ≡ ref x → Free x (let_one y s t)
  in_last : {y : ℕ} {s : Simple} {t : Term} → (x ≡ y → ⊥) → Free x t → Free x (let_one y s t)
  in_first : {t u : Term} → Free x t → Free x (let_all t u)
  in_count : {y : ℕ} {a : Atom} {l : List Atom} {t : Term} → a ≡ ref x → Free x (rec y a l t)
  in_start : {y : ℕ} {a : Atom} {l : List Atom} {t : Term} → Among x l → Free x (rec y a l t)

-- THE TEST: no variable is free but those of S

-- A set of variables, as a test of a variable's number.
abbrev pub Vars : Type 0
Vars = ℕ → Bool

-- The set of no variable.
abbrev pub no_vars : Vars
no_vars y = false

-- The set of every variable.
abbrev pub all_vars : Vars
all_vars y = true

-- The variables of S, and x.
unfoldable pub adding : ℕ → Vars → Vars
adding x S y = cond (eqb y x) true (S y)

-- The atom is a numeral, or a variable of S.
unfoldable pub closed_atom : Vars → Atom → Bool
closed_atom S (num n) = true
closed_atom S (ref x) = S x

-- The same of a row of atoms.
unfoldable pub closed_atoms : Vars → List Atom → Bool
closed_atoms S [] = true
closed_atoms S (a ∷ l) = closed_atom S a && closed_atoms S l

-- The same of the atom in what a let-one binds.
unfoldable pub closed_simple : Vars → Simple → Bool
closed_simple S (plain a) = closed_atom S a
closed_simple S (succ_of a) = closed_atom S a
closed_simple S (pred_of a) = closed_atom S a

-- No variable is free in the term but those of S.
unfoldable pub closed_in : Vars → Term → Bool
closed_in S (tuple l) = closed_atoms S l
closed_in S (let_one x s t) = closed_simple S s && closed_in (adding x S) t
closed_in S (let_all t u) = closed_in S t
closed_in S (rec x a l t) = closed_atom S a && closed_atoms S l

-- 01's closed: no free variable.
unfoldable pub closed : Term → Bool
closed t = closed_in no_vars t
