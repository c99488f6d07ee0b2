-- Laws of tests and of equivalences.
use Prim.Native.Nat.{◌<◌, ℕ, ◌≤◌}
use mathlib.Core.Path.{◌≡◌, refl, sym}
use mathlib.Core.Logic.{◌↔◌}
use mathlib.Core.Bool.{◌&&◌, Bool, false, true}
use borrow.Author.Tests.{le-leb, leb-false, leb-true, lt-leb}
use lib.Dec.{T, leb}
use native.Mathlib.Omega.{arith}

-- TESTS

pub true-false : {P : Type 0} → true ≡ false → P
true-false e = absurd (let z : ◌≡◌ {A = ℕ} 0 1 = cc in omega arith)

pub and_intro : {a b : Bool} → a ≡ true → b ≡ true → (a && b) ≡ true
and_intro p q = rw (p, q) refl

pub and_both : (a b : Bool) → (a && b) ≡ true → (a ≡ true) × (b ≡ true)
and_both true b e = (refl, e)
and_both false b e = (e, cc)

pub T_true : (b : Bool) → T b → b ≡ true
T_true true t = refl
T_true false t = absurd t

pub true-T : (b : Bool) → b ≡ true → T b
true-T true e = tt
true-T false e = true-false (sym e)

-- EQUIVALENCES

pub leb-iff : (a b : ℕ) → (leb a b ≡ true) ↔ (a ≤ b)
leb-iff a b = (leb-true a b, le-leb a b)

pub leb-not : (a b : ℕ) → (leb a b ≡ false) ↔ (b < a)
leb-not a b = (leb-false a b, lt-leb a b)

module _ {A : Type 0} {P : A → Type 0} (Q R : A → Type 0) (h : (a : A) → Q a ↔ R a) where
  pub iff-under : ((a : A) × P a × Q a) ↔ ((a : A) × P a × R a)
  iff-under = ((λ v. (v.0, v.1, (h v.0).0 v.2)), (λ v. (v.0, v.1, (h v.0).1 v.2)))

pub iff-beside : {P Q R : Type 0} → Q ↔ R → (P × Q) ↔ (P × R)
iff-beside h = ((λ v. (v.0, h.0 v.1)), (λ v. (v.0, h.1 v.1)))
