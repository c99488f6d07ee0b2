-- Laws of a number of steps: it splits freely, and what every step keeps all of them keep.
use Prim.Native.Nat.{◌+◌, suc, zero, ℕ}
use mathlib.Core.Path.{ap, fun_ext, refl, subst, ◌∙◌, ◌≡◌}
use mathlib.Core.Option.{Option, none, some}
use native.Mathlib.Nat.{suc-add, zero-add}
use native.Mathlib.Omega.{arith}
use Rattle.rules.specs.Run.{iterate, or_stop}
use Rattle.rules.specs.Syntax.{Answer, finished, next, over}

-- a state and what follows it
pub then_iterate : {A : Type 0} → Option A → (A → Option A) → Option A
then_iterate none f = none
then_iterate (some a) f = f a

or_stop-then : {A : Type 0} (o : Answer A) (f g : A → Option A) → or_stop o (λ b. then_iterate (f b) g) ≡ then_iterate (or_stop o f) g
unfolding or_stop then_iterate
or_stop-then (finished vs) f g = refl
or_stop-then over f g = refl
or_stop-then (next a) f g = refl

pub iterate-add : {A : Type 0} (f : A → Answer A) (m n : ℕ) (a : A) → iterate f (m + n) a ≡ then_iterate (iterate f m a) (iterate f n)
unfolding iterate then_iterate
iterate-add f zero n a = ap (λ j. iterate f j a) (zero-add n)
iterate-add f (suc m) n a =
    ap (λ j. iterate f j a) (suc-add m n)
    ∙ ap (or_stop (f a)) (fun_ext λ b. iterate-add f m n b)
    ∙ or_stop-then (f a) (iterate f m) (iterate f n)

abbrev pub OnNext : {A : Type 0} → (A → Type 0) → Answer A → Type 0
OnNext P (finished vs) = Unit {0}
OnNext P over = Unit {0}
OnNext P (next a) = P a

abbrev pub OnSome : {A : Type 0} → (A → Type 0) → Option A → Type 0
OnSome P none = Unit {0}
OnSome P (some a) = P a

module _ {A : Type 0} (f : A → Answer A) (P : A → Type 0) (keeps : (a : A) → P a → OnNext P (f a)) where
  keep-more : (n : ℕ) → ((a : A) → P a → OnSome P (iterate f n a)) → (o : Answer A) → OnNext P o → OnSome P (or_stop o (iterate f n))
  unfolding or_stop
  keep-more n ih (finished vs) h = tt
  keep-more n ih over h = tt
  keep-more n ih (next b) h = ih b h

  iterate-keeps-on : (n : ℕ) (a : A) → P a → OnSome P (iterate f n a)
  unfolding iterate
  iterate-keeps-on zero a h = h
  iterate-keeps-on (suc n) a h = keep-more n (iterate-keeps-on n) (f a) (keeps a h)

  pub iterate-keeps : (n : ℕ) (a b : A) → P a → iterate f n a ≡ some b → P b
  iterate-keeps n a b h e = subst (OnSome P) e (iterate-keeps-on n a h)

-- one step and then others
pub iterate-first : {A : Type 0} (f : A → Answer A) (n : ℕ) (a b c : A) → f a ≡ next b → iterate f n b ≡ some c → iterate f (suc n) a ≡ some c
unfolding iterate or_stop
iterate-first {A} f n a b c p q = ap (λ (o : Answer A). or_stop o (λ (d : A). iterate f n d)) p ∙ q

-- what follows the first stretch of steps
pub iterate-split : {A : Type 0} (f : A → Answer A) (m n : ℕ) (a b : A) → iterate f m a ≡ some b → iterate f (m + n) a ≡ iterate f n b
unfolding then_iterate
iterate-split f m n a b e = iterate-add f m n a ∙ rw e refl

-- two stretches of steps are one
pub iterate-further : {A : Type 0} (f : A → Answer A) (m n : ℕ) (a b c : A) → iterate f m a ≡ some b → iterate f n b ≡ some c → iterate f (m + n) a ≡ some c
unfolding then_iterate
iterate-further f m n a b c p q = iterate-add f m n a ∙ ap (λ o. then_iterate o (iterate f n)) p ∙ q

-- and then one more
pub iterate-last : {A : Type 0} (f : A → Answer A) (n : ℕ) (a b c : A) → iterate f n a ≡ some b → f b ≡ next c → iterate f (suc n) a ≡ some c
iterate-last f n a b c p q =
    ap (λ j. iterate f j a) {x = suc n} {y = n + 1} (omega arith) ∙ iterate-further f n 1 a b c p (iterate-first f 0 b c c q (unfold iterate in refl))
