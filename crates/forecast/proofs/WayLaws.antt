-- A way: so many steps from a state to a state, and the longest on it. Ways join, and a way inside a block is a way of the
-- block that holds it.
use Prim.Native.Nat.{◌+◌, max, suc, zero, ℕ, ◌≤◌}
use mathlib.Core.Path.{◌≡◌, ap, refl, sym, ◌∙◌}
use mathlib.Core.Bool.{Bool, false, true}
use mathlib.Core.Option.{some-injective, some}
use borrow.Author.Tests.{leb-false, leb-true}
use lib.Dec.{leb}
use native.Mathlib.Omega.{arith}
use Rattle.rules.specs.Run.{iterate, or_stop}
use Rattle.rules.specs.Syntax.{Answer, next}
use Rattle.rules.proofs.IterateLaws.{iterate-first}
use Rattle.forecast.specs.Longest.{Longest}

module _ {A : Type 0} (f : A → Answer A) (size : A → ℕ) where
  pub data Way : A → ℕ → A → ℕ → Type 0 where
    stay : {a : A} {p : ℕ} → p ≡ size a → Way a 0 a p
    go : {a b c : A} {n p q : ℕ} → f a ≡ next b → Way b n c q → p ≡ max (size a) q → Way a (suc n) c p

  pub way_as : {a c : A} {n m p q : ℕ} → n ≡ m → p ≡ q → Way a n c p → Way a m c q
  way_as {a} {c} {n} {m} {p} {q} e g h = rw (← e, ← g) h

  way-first : {a c : A} {n p : ℕ} → Way a n c p → size a ≤ p
  way-first (stay e) = omega arith
  way-first (go e h g) = omega arith

  pub way-last : {a c : A} {n p : ℕ} → Way a n c p → size c ≤ p
  way-last (stay e) = omega arith
  way-last (go e h g) = omega (arith, way-last h)

  pub way_then : {a b c : A} {m n p q : ℕ} → Way a m b p → Way b n c q → Way a (m + n) c (max p q)
  way_then (stay e) v = way_as (omega arith) (omega (arith, way-first v)) v
  way_then {q = q} (go {a = a} {n = n} {q = t} e h g) v = way_as (omega arith) (omega arith) (go {p = max (size a) (max t q)} e (way_then h v) refl)

  -- WHAT A WAY SHOWS

  pub way-reaches : {a c : A} {n p : ℕ} → Way a n c p → iterate f n a ≡ some c
  unfolding iterate
  way-reaches (stay e) = refl
  way-reaches {c = c} (go {a = a} {b = b} {n = n} e h g) = iterate-first f n a b c e (way-reaches h)

  -- the state after a step and m more is the state after m from the next one
  past : (m : ℕ) (a b d : A) → f a ≡ next b → iterate f (suc m) a ≡ some d → iterate f m b ≡ some d
  unfolding iterate or_stop
  past m a b d e g = sym (ap (λ (o : Answer A). or_stop o (λ c. iterate f m c)) e) ∙ g

  way-most : {a c : A} {n p : ℕ} → Way a n c p → (m : ℕ) (d : A) → m ≤ n → iterate f m a ≡ some d → size d ≤ p
  unfolding iterate
  way-most {a} (stay e) zero d l g = omega (arith, ap size (some-injective a d g))
  way-most (stay e) (suc m) d l g = absurd (omega arith)
  way-most {a} (go e h q) zero d l g = omega (arith, ap size (some-injective a d g))
  way-most {a} (go {b = b} e h q) (suc m) d l g = omega (arith, way-most h m d (omega arith) (past m a b d e g))

  abbrev Met : A → ℕ → ℕ → Type 0
  Met a n p = (m : ℕ) × (d : A) × (m ≤ n) × (iterate f m a ≡ some d) × (size d ≡ p)

  way-met : {a c : A} {n p : ℕ} → Way a n c p → Met a n p
  unfolding iterate
  way-met {a} (stay e) = (0, a, omega arith, refl, sym e)
  way-met {a} {p = p} (go {b = b} {n = n} {q = q} e h g) = by (leb (size a) q) refl (way-met h)
    where
      by : (t : Bool) → leb (size a) q ≡ t → Met b n q → Met a (suc n) p
      by true l v = (suc v.0, v.1, omega (arith, v.2), iterate-first f v.0 a b v.1 e v.3, v.4 ∙ omega (arith, leb-true (size a) q l))
      by false l v = (0, a, omega arith, refl, omega (arith, leb-false (size a) q l))

  pub way-longest : {a c : A} {n p : ℕ} → Way a n c p → Longest f size a n p
  way-longest h = record { most = way-most h; met = way-met h }
