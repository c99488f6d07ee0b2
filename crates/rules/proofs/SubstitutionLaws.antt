-- Laws of substitution: two in a row are one, and a bound variable's value goes into the store.
use Prim.Native.Nat.{◌+◌, ◌<◌, suc, zero, ℕ}
use mathlib.Core.Path.{◌≡◌, ap, fun_ext, refl, sym, ◌∙◌}
use mathlib.Core.Bool.{Bool, cond, false, true}
use mathlib.Core.List.{List, [], map, ◌∷◌}
use mathlib.Core.Option.{Option, none, some}
use borrow.Author.Tests.{eqb-false, eqb-true}
use lib.Dec.{eqb}
use lib.ListN.{get_or, get_elem?, length, set}
use native.Mathlib.Nat.{add-suc, add-zero, le_of_suc-le-suc, not-suc-le-zero, suc-add}
use native.Mathlib.Omega.{arith}
use Rattle.rules.specs.Reduction.{value_of}
use Rattle.rules.specs.Scope.{Within}
use Rattle.rules.specs.Store.{lookup, update}
use Rattle.rules.specs.Substitution.{Substitution, except, from_store, only, or_ref, substitute, substitute_atom, substitute_simple}
use Rattle.rules.specs.Syntax.{Atom, Simple, Term, let_all, let_one, num, plain, pred_of, rec, ref, succ_of, tuple}
use Rattle.rules.specs.Translation.{all, refs}

first_of : Option ℕ → Option ℕ → Option ℕ
first_of none p = p
first_of (some v) p = some v

-- the variables that f leaves are g's
pub and_then : Substitution → Substitution → Substitution
and_then f g y = first_of (f y) (g y)

or_ref-then : (x : ℕ) (g : Substitution) (o : Option ℕ) → substitute_atom g (or_ref x o) ≡ or_ref x (first_of o (g x))
unfolding or_ref substitute_atom first_of
or_ref-then x g none = refl
or_ref-then x g (some v) = refl

substitute_atom-then : (f g : Substitution) (a : Atom) → substitute_atom g (substitute_atom f a) ≡ substitute_atom (and_then f g) a
unfolding substitute_atom and_then
substitute_atom-then f g (num n) = refl
substitute_atom-then f g (ref x) = or_ref-then x g (f x)

substitute_atoms-then : (f g : Substitution) (l : List Atom) → map (substitute_atom g) (map (substitute_atom f) l) ≡ map (substitute_atom (and_then f g)) l
substitute_atoms-then f g [] = refl
substitute_atoms-then f g (a ∷ l) = cc (substitute_atom-then f g a, substitute_atoms-then f g l)

substitute_simple-then : (f g : Substitution) (s : Simple) → substitute_simple g (substitute_simple f s) ≡ substitute_simple (and_then f g) s
unfolding substitute_simple
substitute_simple-then f g (plain a) = ap plain (substitute_atom-then f g a)
substitute_simple-then f g (succ_of a) = ap succ_of (substitute_atom-then f g a)
substitute_simple-then f g (pred_of a) = ap pred_of (substitute_atom-then f g a)

cond-first : (b : Bool) (o p : Option ℕ) → first_of (cond b none o) (cond b none p) ≡ cond b none (first_of o p)
unfolding first_of
cond-first true o p = refl
cond-first false o p = refl

except-then : (x : ℕ) (f g : Substitution) → and_then (except x f) (except x g) ≡ except x (and_then f g)
unfolding and_then except
except-then x f g = fun_ext λ y. cond-first (eqb y x) (f y) (g y)

pub substitute-then : (f g : Substitution) (t : Term) → substitute g (substitute f t) ≡ substitute (and_then f g) t
unfolding substitute
substitute-then f g (tuple l) = ap tuple (substitute_atoms-then f g l)
substitute-then f g (let_one x s t) = cc (substitute_simple-then f g s, substitute-then (except x f) (except x g) t, except-then x f g)
substitute-then f g (let_all t u) = ap (λ r. let_all r u) (substitute-then f g t)
substitute-then f g (rec x a l t) = cc (substitute_atom-then f g a, substitute_atoms-then f g l)

-- THE STORE

at_set_same : (s : List ℕ) (i v : ℕ) → i < length s → get_elem? (set s i v) i ≡ some v
at_set_same [] i v h = absurd (not-suc-le-zero h)
at_set_same (x ∷ s) zero v h = refl
at_set_same (x ∷ s) (suc i) v h = at_set_same s i v (le_of_suc-le-suc h)

at_set_other : (s : List ℕ) (i j v : ℕ) → (j ≡ i → ⊥) → get_elem? (set s i v) j ≡ get_elem? s j
at_set_other [] i j v h = refl
at_set_other (x ∷ s) zero zero v h = absurd (h refl)
at_set_other (x ∷ s) zero (suc j) v h = refl
at_set_other (x ∷ s) (suc i) zero v h = refl
at_set_other (x ∷ s) (suc i) (suc j) v h = at_set_other s i j v (λ e. h (ap suc e))

at-get_d : (s : List ℕ) (i : ℕ) → i < length s → get_elem? s i ≡ some (get_or s i 0)
at-get_d [] i h = absurd (not-suc-le-zero h)
at-get_d (x ∷ s) zero h = refl
at-get_d (x ∷ s) (suc i) h = at-get_d s i (le_of_suc-le-suc h)

update_same : (s : List ℕ) (x v : ℕ) → Within (length s) x → from_store (update s x v) x ≡ some v
unfolding from_store update
update_same s zero v h = absurd (not-suc-le-zero h.0)
update_same s (suc i) v h = at_set_same s i v h.1

update_other : (s : List ℕ) (x y v : ℕ) → (y ≡ x → ⊥) → from_store (update s x v) y ≡ from_store s y
unfolding from_store update
update_other s zero zero v h = refl
update_other s zero (suc j) v h = refl
update_other s (suc i) zero v h = refl
update_other s (suc i) (suc j) v h = at_set_other s i j v (λ e. h (ap suc e))

from_store-lookup : (s : List ℕ) (x : ℕ) → Within (length s) x → from_store s x ≡ some (lookup s x)
unfolding from_store lookup
from_store-lookup s zero h = absurd (not-suc-le-zero h.0)
from_store-lookup s (suc i) h = at-get_d s i h.1

pub substitute-lookup : (s : List ℕ) (x : ℕ) → Within (length s) x → substitute_atom (from_store s) (ref x) ≡ num (lookup s x)
unfolding substitute_atom or_ref
substitute-lookup s x h = ap (or_ref x) (from_store-lookup s x h)

-- at one variable: what is not x is from s, and x is v
update-at : (s : List ℕ) (x v : ℕ) → Within (length s) x → (y : ℕ) (b : Bool) → eqb y x ≡ b
    → first_of (cond b none (from_store s y)) (cond b (some v) none) ≡ from_store (update s x v) y
unfolding first_of
update-at s x v h y true e = sym (ap (from_store (update s x v)) (eqb-true y x e) ∙ update_same s x v h)
update-at s x v h y false e = rest (from_store s y) ∙ sym (update_other s x y v (eqb-false y x e))
  where
    rest : (o : Option ℕ) → first_of o none ≡ o
    rest none = refl
    rest (some w) = refl

bind-update : (s : List ℕ) (x v : ℕ) → Within (length s) x → and_then (except x (from_store s)) (only x v) ≡ from_store (update s x v)
unfolding and_then except only
bind-update s x v h = fun_ext λ y. update-at s x v h y (eqb y x) refl

-- the store with x left open, and then x: the store with x set
pub substitute-update : (s : List ℕ) (x v : ℕ) → Within (length s) x → (t : Term)
    → substitute (only x v) (substitute (except x (from_store s)) t) ≡ substitute (from_store (update s x v)) t
substitute-update s x v h t = cc (substitute-then (except x (from_store s)) (only x v) t, bind-update s x v h)

-- ALL

refs-substitute : (f : Substitution) (i : ℕ) (r : List ℕ) → ((j : ℕ) → f (i + j) ≡ get_elem? r j) → map (substitute_atom f) (refs i (length r)) ≡ map num r
unfolding refs substitute_atom or_ref
refs-substitute f i [] h = refl
refs-substitute f i (v ∷ r) h =
    ap₂' (ap (or_ref i) (ap f (sym (add-zero i)) ∙ h 0))
    (refs-substitute f (suc i) r (λ j. ap f (suc-add i j ∙ sym (add-suc i j)) ∙ h (suc j)))
  where
    ap₂' : {a b : Atom} {l m : List Atom} → a ≡ b → l ≡ m → ◌≡◌ {A = List Atom} (a ∷ l) (b ∷ m)
    ap₂' p q = cc

from_store-one : (s : List ℕ) (j : ℕ) → from_store s (1 + j) ≡ get_elem? s j
unfolding from_store
from_store-one s j = ap (from_store s) {x = 1 + j} {y = suc j} (omega arith)

pub substitute-all : (s : List ℕ) → map (substitute_atom (from_store s)) (all (length s)) ≡ map num s
substitute-all s = refs-substitute (from_store s) 1 s (from_store-one s)

pub values-num : (s : List ℕ) → map value_of (map num s) ≡ s
unfolding value_of
values-num [] = refl
values-num (v ∷ s) = ap (λ (r : List ℕ). v ∷ r) (values-num s)
