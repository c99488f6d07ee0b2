-- What the code reads of an entry's words, way by way.
use Prim.Native.Nat.{◌-◌, ◌≤◌, suc, zero, ℕ}
use mathlib.Core.Path.{refl, ◌∙◌, ◌≡◌}
use mathlib.Core.Bool.{false, true}
use mathlib.Core.Logic.{◌⊎◌, inl, inr}
use borrow.Author.Tests.{ltb-true}
use lib.Dec.{ltb}
use native.Mathlib.Omega.{arith}
use Rattle.counting.specs.Held.{Held}
use Rattle.expansion.specs.Entry.{first_size, inside_as, inside_of, opens, opens_as, to_come, to_come_as}

-- BY WHAT IT IS HELD OPEN AS

module _ (h : Held) where
  pub opens-none : h.what ≡ 0 → false ≡ opens h
  unfolding opens opens_as
  opens-none e = rw e refl

  pub opens-first : h.what ≡ 1 → true ≡ opens h
  unfolding opens opens_as
  opens-first e = rw e refl

  pub opens-other : (h.what ≡ 0 → ⊥) → (h.what ≡ 1 → ⊥) → ltb 1 h.progress ≡ opens h
  unfolding opens
  opens-other z k = by h.what z k
    where
      by : (what : ℕ) → (what ≡ 0 → ⊥) → (what ≡ 1 → ⊥) → ltb 1 h.progress ≡ opens_as what h.progress
      by zero z k = absurd (z refl)
      by (suc zero) z k = absurd (k refl)
      by (suc (suc what)) z k = unfold opens_as in refl

  -- where it opens, something is held there
  pub opens-held : opens h ≡ true → 1 ≤ h.what
  unfolding opens
  opens-held e = by h.what e
    where
      by : (what : ℕ) → opens_as what h.progress ≡ true → 1 ≤ what
      by zero k = absurd (unfold opens_as in (let z : ◌≡◌ {A = ℕ} 0 1 = cc in omega arith))
      by (suc what) k = omega arith

  pub inside-first : h.what ≡ 1 → h.progress ≡ inside_of h
  unfolding inside_of inside_as
  inside-first e = rw e refl

  pub inside-other : (h.what ≡ 1 → ⊥) → h.progress - 2 ≡ inside_of h
  unfolding inside_of
  inside-other k = by h.what k
    where
      by : (what : ℕ) → (what ≡ 1 → ⊥) → h.progress - 2 ≡ inside_as what h.progress
      by zero k = unfold inside_as in refl
      by (suc zero) k = absurd (k refl)
      by (suc (suc what)) k = unfold inside_as in refl

  pub inside-two : (h.what ≡ 1 → ⊥) → opens h ≡ true → 2 ≤ h.progress
  inside-two k e =
      let some : 1 ≤ h.what = opens-held e in
      omega (arith, ltb-true 1 h.progress (opens-other (λ z. omega arith) k ∙ e))

  pub to-come-first : h.what ≡ 1 → 0 ≡ to_come h
  unfolding to_come to_come_as
  to-come-first e = rw e refl

  pub to-come-other : (h.what ≡ 1 → ⊥) → h.top - h.reached ≡ to_come h
  unfolding to_come
  to-come-other k = by h.what k
    where
      by : (what : ℕ) → (what ≡ 1 → ⊥) → h.top - h.reached ≡ to_come_as what h.top h.reached
      by zero k = unfold to_come_as in refl
      by (suc zero) k = absurd (k refl)
      by (suc (suc what)) k = unfold to_come_as in refl

-- BY PROGRESS, AND WHETHER IT IS RUNNING

module _ (n : ℕ) where
  pub size-storing : (i f : ℕ) → i ≡ 1 → n ≡ first_size i f n
  unfolding first_size
  size-storing i f h = rw h refl

  pub size-unrolling : (i f : ℕ) → (i ≡ 1 → ⊥) → f ≡ 0 → n ≡ first_size i f n
  unfolding first_size
  size-unrolling zero f h k = rw k refl
  size-unrolling (suc zero) f h k = absurd (h refl)
  size-unrolling (suc (suc i)) f h k = rw k refl

  pub size-whole : (i f : ℕ) → (i ≡ 1) ⊎ ((i ≡ 1 → ⊥) × (f ≡ 0)) → n ≡ first_size i f n
  size-whole i f (inl h) = size-storing i f h
  size-whole i f (inr h) = size-unrolling i f h.0 h.1

  pub size-at-zero : (i f : ℕ) → (i ≡ 1 → ⊥) → (f ≡ 0 → ⊥) → 4 ≡ first_size i f n
  unfolding first_size
  size-at-zero (suc zero) f h k = absurd (h refl)
  size-at-zero zero zero h k = absurd (k refl)
  size-at-zero zero (suc f) h k = refl
  size-at-zero (suc (suc i)) zero h k = absurd (k refl)
  size-at-zero (suc (suc i)) (suc f) h k = refl

  pub first_size-most : (i f : ℕ) → 4 ≤ n → first_size i f n ≤ n
  unfolding first_size
  first_size-most (suc zero) f h = omega arith
  first_size-most zero zero h = omega arith
  first_size-most zero (suc f) h = omega arith
  first_size-most (suc (suc i)) zero h = omega arith
  first_size-most (suc (suc i)) (suc f) h = omega arith
