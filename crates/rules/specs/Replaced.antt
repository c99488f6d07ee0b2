-- HOW MANY VARIABLE RECORDS BECOME NUMERALS (02 C-13): in a substitution, in a reduction, and in a number of reductions.
use Rattle.std.specs.Prelude.{◌+◌, suc, zero, ℕ, ◌≡◌, Bool, true, List, [], map, ◌∷◌}
use Rattle.std.proofs.Math.Option.{Option, none, some}
use Rattle.rules.specs.Reduction.{reduce, value_of}
use Rattle.rules.specs.Store.{minus_one}
use Rattle.rules.specs.Substitution.{Substitution, except, from_store, only, substitute}
use Rattle.rules.specs.Syntax.{Answer, Atom, Simple, Term, finished, let_all, let_one, next, num, over, plain, pred_of, rec, ref, succ_of, tuple}

-- OF A SUBSTITUTION, clause by clause as `substitute`. (`ReplacedLaws`: the variable records before are these and those after.)

-- One where there is a value, and else none.
unfoldable pub given : Option ℕ → ℕ
given none = 0
given (some v) = 1

-- One for a variable that f gives a value.
unfoldable pub replaced_atom : Substitution → Atom → ℕ
replaced_atom f (num n) = 0
replaced_atom f (ref x) = given (f x)

-- The same of a row of atoms.
unfoldable pub replaced_atoms : Substitution → List Atom → ℕ
replaced_atoms f [] = 0
replaced_atoms f (a ∷ l) = replaced_atom f a + replaced_atoms f l

-- The same of the atom in what a let-one binds.
unfoldable pub replaced_simple : Substitution → Simple → ℕ
replaced_simple f (plain a) = replaced_atom f a
replaced_simple f (succ_of a) = replaced_atom f a
replaced_simple f (pred_of a) = replaced_atom f a

-- The variables of the term that f turns into numerals: the free ones that it gives a value.
unfoldable pub replaced : Substitution → Term → ℕ
replaced f (tuple l) = replaced_atoms f l
replaced f (let_one x s t) = replaced_simple f s + replaced (except x f) t
replaced f (let_all t u) = replaced f t
replaced f (rec x a l t) = replaced_atom f a + replaced_atoms f l

-- OF ONE REDUCTION, as a rule each (`Rules` has the reductions themselves): t ↝ u, replacing n variables. Let-one of a numeral and
-- let-all of a tuple replace in their last term; succ, pred and rec replace none; inside a first term it is the inner reduction's.
pub data ReduceReplacing (ok : ℕ → Bool) : Term → ℕ → Term → Type 0 where
  let_value : {x v : ℕ} {t : Term} → ReduceReplacing ok (let_one x (plain (num v)) t) (replaced (only x v) t) (substitute (only x v) t)
  let_succ : {x v : ℕ} {t : Term} → ok (suc v) ≡ true → ReduceReplacing ok (let_one x (succ_of (num v)) t) 0 (let_one x (plain (num (suc v))) t)
  let_pred : {x v : ℕ} {t : Term} → ReduceReplacing ok (let_one x (pred_of (num v)) t) 0 (let_one x (plain (num (minus_one v))) t)
  let_tuple : (vs : List ℕ) {u : Term} → ReduceReplacing ok (let_all (tuple (map num vs)) u) (replaced (from_store vs) u) (substitute (from_store vs) u)
  let_inside : {t t₁ u : Term} {n : ℕ} → ReduceReplacing ok t n t₁ → ReduceReplacing ok (let_all t u) n (let_all t₁ u)
  rec_zero : {x : ℕ} {l : List Atom} {t : Term} → ReduceReplacing ok (rec x (num 0) l t) 0 (tuple l)
  rec_suc : {x q : ℕ} {l : List Atom} {t : Term} → ReduceReplacing ok (rec x (num (suc q)) l t) 0 (let_all (rec x (num q) l t) (let_one x (plain (num (suc q))) t))

-- OF A NUMBER OF REDUCTIONS, counted from the rules: `steps` of them lead from t to u, and replace n variables in all.
pub data ReductionsReplacing (ok : ℕ → Bool) : Term → ℕ → ℕ → Term → Type 0 where
  done : {t : Term} → ReductionsReplacing ok t 0 0 t
  first : {t u v : Term} {m n steps : ℕ} → ReduceReplacing ok t m u → ReductionsReplacing ok u steps n v → ReductionsReplacing ok t (suc steps) (m + n) v

-- THE SAME AS FUNCTIONS

-- Let-one.
unfoldable pub replaced_let_one : ℕ → Simple → Term → ℕ
replaced_let_one x (plain a) t = replaced (only x (value_of a)) t
replaced_let_one x (succ_of a) t = 0
replaced_let_one x (pred_of a) t = 0

-- Let-all with last term u, n being what a reduction of its first term replaces.
unfoldable pub replaced_let_all : Term → Term → ℕ → ℕ
replaced_let_all (tuple l) u n = replaced (from_store (map value_of l)) u
replaced_let_all (let_one x s t) u n = n
replaced_let_all (let_all t v) u n = n
replaced_let_all (rec x a l t) u n = n

-- The variables that the next reduction of the term replaces.
unfoldable pub replaced_next : Term → ℕ
replaced_next (tuple l) = 0
replaced_next (let_one x s t) = replaced_let_one x s t
replaced_next (let_all t u) = replaced_let_all t u (replaced_next t)
replaced_next (rec x a l t) = 0

-- What `more` makes of the next term, where there is one.
unfoldable pub or_zero : Answer Term → (Term → ℕ) → ℕ
or_zero (finished vs) more = 0
or_zero over more = 0
or_zero (next t) more = more t

-- The variables that so many reductions of the term replace, the sum over them; where fewer can be made, over those.
unfoldable pub replaced_sum : (ℕ → Bool) → ℕ → Term → ℕ
replaced_sum ok zero t = 0
replaced_sum ok (suc n) t = or_zero (reduce ok t) (λ u. replaced_next t + replaced_sum ok n u)

-- BESIDE THEM: all variables of a term, bound and free

-- One for a variable.
unfoldable pub references_atom : Atom → ℕ
references_atom (num n) = 0
references_atom (ref x) = 1

-- The same of a row of atoms.
unfoldable pub references_atoms : List Atom → ℕ
references_atoms [] = 0
references_atoms (a ∷ l) = references_atom a + references_atoms l

-- The same of the atom in what a let-one binds.
unfoldable pub references_simple : Simple → ℕ
references_simple (plain a) = references_atom a
references_simple (succ_of a) = references_atom a
references_simple (pred_of a) = references_atom a

-- The variable records (kind 33) in the record of a term.
unfoldable pub references : Term → ℕ
references (tuple l) = references_atoms l
references (let_one x s t) = references_simple s + references t
references (let_all t u) = references t + references u
references (rec x a l t) = references_atom a + (references_atoms l + references t)
