-- Laws of values and stores.
use Prim.Native.Nat.{◌-◌, ◌<◌, suc, zero, ℕ, ◌≤◌}
use mathlib.Core.Path.{ap, refl, ◌∙◌, ◌≡◌}
use mathlib.Core.Logic.{◌↔◌}
use mathlib.Core.Bool.{Bool, false, true}
use mathlib.Core.List.{List}
use borrow.Author.Tests.{le-leb, leb-false, leb-true, lt-leb}
use lib.ListN.{get_or, set}
use native.Mathlib.Omega.{arith}
use Rattle.rules.specs.Store.{Limit, lookup, minus_one, no_limit, up_to, update}

-- THE LIMITS: a largest value, and none

-- what is not above the largest value passes, and nothing else does
pub up_to-iff : (m n : ℕ) → (up_to m n ≡ true) ↔ (n ≤ m)
unfolding up_to
up_to-iff m n = (leb-true n m, le-leb n m)

pub up_to-above : (m n : ℕ) → (up_to m n ≡ false) ↔ (m < n)
unfolding up_to
up_to-above m n = (leb-false n m, lt-leb n m)

pub up_to-limit : (m : ℕ) → Limit (up_to m)
up_to-limit m = record {
  zero_passes = (up_to-iff m 0).1 (omega arith);
  below_passes = λ n e. (up_to-iff m n).1 (omega (arith, (up_to-iff m (suc n)).0 e));
}

pub no-limit : Limit no_limit
no-limit = record { zero_passes = refl; below_passes = λ n e. refl }

-- MINUS ONE: 0 minus one is 0

pub minus_one-zero : minus_one 0 ≡ 0
unfolding minus_one
minus_one-zero = refl

pub minus_one-suc : (n : ℕ) → minus_one (suc n) ≡ n
unfolding minus_one
minus_one-suc n = refl

-- minus one of a value that passes passes
pub minus_one-passes : (ok : ℕ → Bool) → Limit ok → (n : ℕ) → ok n ≡ true → ok (minus_one n) ≡ true
minus_one-passes ok limit zero h = ap ok minus_one-zero ∙ h
minus_one-passes ok limit (suc n) h = ap ok (minus_one-suc n) ∙ limit.below_passes n h

-- a variable's value, found as code finds it
pub lookup-index : (s : List ℕ) (x : ℕ) → 1 ≤ x → get_or s (x - 1) 0 ≡ lookup s x
unfolding lookup
lookup-index s zero h = absurd (omega arith)
lookup-index s (suc i) h = ap (λ j. get_or s j 0) {x = suc i - 1} {y = i} (omega arith)

-- A STORE CHANGED

pub update-set : (s : List ℕ) (x i v : ℕ) → x ≡ suc i → update s x v ≡ set s i v
unfolding update
update-set s x i v e = rw e
