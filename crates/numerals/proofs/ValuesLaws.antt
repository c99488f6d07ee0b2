-- Laws of a substitution held as an array: what a store into it does, and the arrays that are built.
use Rattle.std.proofs.Common.{◌≡◌, ◌∙◌, ap, refl, sym, suc, zero, ℕ, ◌<◌, ◌≤◌, Bool, true, false, cond, eqb, List, [], ◌∷◌, ◌++◌, Option, None, Some, drop, get_or, length, map, replicate, set, arith}
use mathlib.Core.Path.{fun_ext}
use mathlib.Core.Option.{none, some}
use borrow.Author.Tests.{eqb-false, eqb-true}
use borrow.Rule.Slice.PartMut.{put_mid}
use lib.ListN.{get_elem?, length-replicate}
use lib.Seq.{get_or-set_other, get_or-set_same}
use Rattle.rules.specs.Substitution.{except, from_store, only}
use Rattle.numerals.specs.Values.{given_by, substitution_of}

-- WHAT A STORE DOES

value_same : (w : List (Option ℕ)) (x : ℕ) (o : Option ℕ) → x < length w → substitution_of (set w x o) x ≡ given_by o
unfolding substitution_of
value_same w x o h = rw (get_or-set_same w x o None h) refl

value-other : (w : List (Option ℕ)) (x y : ℕ) (o : Option ℕ) → (y ≡ x → ⊥) → substitution_of (set w x o) y ≡ substitution_of w y
unfolding substitution_of
value-other w x y o h = rw (get_or-set_other w x y o None h) refl

except-at : (w : List (Option ℕ)) (x : ℕ) → x < length w → (y : ℕ) (b : Bool) → eqb y x ≡ b → substitution_of (set w x None) y ≡ cond b none (substitution_of w y)
unfolding given_by
except-at w x h y true e = ap (substitution_of (set w x None)) (eqb-true y x e) ∙ value_same w x None h
except-at w x h y false e = value-other w x y None (eqb-false y x e)

-- a variable taken out
pub values-except : (w : List (Option ℕ)) (x : ℕ) → x < length w → substitution_of (set w x None) ≡ except x (substitution_of w)
unfolding except
values-except w x h = fun_ext λ y. except-at w x h y (eqb y x) refl

-- ARRAYS THAT ARE BUILT

unfoldable pub blank : List (Option ℕ)
blank = replicate 17 None

-- at every index, for what is not there is the same
pub get_d-alike : {A : Type 0} (a : A) (n i : ℕ) → get_or (replicate n a) i a ≡ a
get_d-alike a zero i = refl
get_d-alike a (suc n) zero = refl
get_d-alike a (suc n) (suc i) = get_d-alike a n i

value-blank : (y : ℕ) → substitution_of blank y ≡ none
unfolding substitution_of given_by blank
value-blank y = rw (get_d-alike {A = Option ℕ} None 17 y) refl

-- one variable
only_at : (x v : ℕ) → x < 17 → (y : ℕ) (b : Bool) → eqb y x ≡ b → substitution_of (set blank x (Some v)) y ≡ cond b (some v) none
unfolding given_by blank
only_at x v h y true e =
    ap (substitution_of (set blank x (Some v))) (eqb-true y x e) ∙ value_same blank x (Some v) (omega (arith, length-replicate {A = Option ℕ} 17 None))
only_at x v h y false e = value-other blank x y (Some v) (eqb-false y x e) ∙ value-blank y

pub values-only : (x v : ℕ) → x < 17 → substitution_of (set blank x (Some v)) ≡ only x v
unfolding only
values-only x v h = fun_ext λ y. only_at x v h y (eqb y x) refl

-- no store
empty : (y : ℕ) → from_store [] y ≡ none
unfolding from_store
empty zero = refl
empty (suc j) = refl

pub values-blank : substitution_of blank ≡ from_store []
values-blank = fun_ext λ y. value-blank y ∙ sym (empty y)

-- a store, in front of places that have no value
over : (s : List ℕ) (w : List (Option ℕ)) → length s ≤ length w → ((j : ℕ) → given_by (get_or w j None) ≡ none) → (j : ℕ)
    → given_by (get_or (map Some s ++ drop (length s) w) j None) ≡ get_elem? s j
unfolding given_by
over [] w h e j = e j
over (v ∷ s) [] h e j = absurd (omega arith)
over (v ∷ s) (o ∷ w) h e zero = refl
over (v ∷ s) (o ∷ w) h e (suc j) = over s w (omega arith) (λ i. e (suc i)) j

pub values-store : (s : List ℕ) (w ys : List (Option ℕ)) (n : ℕ) → length s < length w → n ≡ length s → ys ≡ map Some s → substitution_of w ≡ from_store []
    → substitution_of (put_mid 1 n w ys) ≡ from_store s
unfolding substitution_of from_store
values-store s [] ys n h m q e = absurd (omega arith)
values-store s (o ∷ w) ys n h m q e = rw (m, q) (fun_ext λ y. at y)
  where
    at : (y : ℕ) → substitution_of (put_mid 1 (length s) (o ∷ w) (map Some s)) y ≡ from_store s y
    at zero = ap (λ f. f zero) e
    at (suc j) = over s w (omega arith) (λ i. ap (λ f. f (suc i)) e) j
