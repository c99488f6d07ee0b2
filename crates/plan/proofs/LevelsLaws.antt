-- What `levels` counts, by a walk through heads: W p says that the walk may come to p. It starts at o and ends behind n heads.
use Rattle.std.proofs.Common.{◌≡◌, ℕ, zero, suc, ◌+◌, ◌*◌, ◌<◌, ◌≤◌, Bool, false, true, refl, subst, arith}

pub record HeadWalk (W : ℕ → Type 0) (opens : ℕ → Bool) (o n room : ℕ) : Type 0 where
  pub first : W o
  pub next : (p : ℕ) → W p → opens p ≡ true → W (p + 4)
  pub stop : (p : ℕ) → W p → opens p ≡ false → p ≡ o + 4 * n
  pub low : (p : ℕ) → W p → p + 4 ≤ room

module _ {W : ℕ → Type 0} {opens : ℕ → Bool} {o n room : ℕ} (walk : HeadWalk W opens o n room) where
  come : ℕ → Type 0
  come i = W (o + 4 * i)

  come-first : come 0
  unfolding come
  come-first = subst W (omega arith) walk.first

  come-next : (i : ℕ) → come i → opens (o + 4 * i) ≡ true → come (suc i)
  unfolding come
  come-next i w e = let p : o + 4 * i + 4 ≡ o + 4 * suc i = omega arith in subst W p (walk.next (o + 4 * i) w e)

  come-stop : (i : ℕ) → come i → opens (o + 4 * i) ≡ false → i ≡ n
  unfolding come
  come-stop i w e = omega (arith, walk.stop (o + 4 * i) w e)

  come-low : (i : ℕ) → come i → o + 4 * i + 4 ≤ room
  unfolding come
  come-low i w = walk.low (o + 4 * i) w

  -- the count is that of the heads
  walked : (i : ℕ) → ((j : ℕ) → j < i → opens (o + 4 * j) ≡ true) → come i
  walked zero all = come-first
  walked (suc i) all = come-next i (walked i (λ j h. all j (omega arith))) (all i (omega arith))

  pub heads-count : (i : ℕ) → ((j : ℕ) → j < i → opens (o + 4 * j) ≡ true) → opens (o + 4 * i) ≡ false → i ≡ n
  heads-count i all e = come-stop i (walked i all) e

  -- the walk comes everywhere up to its end, where there is room for the test
  turn : (i : ℕ) → i < n → come i → (t : Bool) → opens (o + 4 * i) ≡ t → come (suc i)
  turn i h w true e = come-next i w e
  turn i h w false e = absurd (omega (arith, come-stop i w e))

  pub come-to : (i : ℕ) → i ≤ n → W (o + 4 * i)
  unfolding come
  come-to zero h = come-first
  come-to (suc i) h = turn i (omega arith) (come-to i (omega arith)) (opens (o + 4 * i)) refl

  pub heads-room : (i : ℕ) → i ≤ n → o + 4 * i + 4 ≤ room
  heads-room i h = walk.low (o + 4 * i) (come-to i h)

  -- and no further
  no_further : (left i : ℕ) → room ≤ i + left → come i → (t : Bool) → opens (o + 4 * i) ≡ t → i ≤ n
  no_further left i h w false e = omega (arith, come-stop i w e)
  no_further zero i h w true e = absurd (omega (arith, come-low i w))
  no_further (suc left) i h w true e =
      let m : suc i ≤ n = no_further left (suc i) (omega arith) (come-next i w e) (opens (o + 4 * suc i)) refl in
      omega arith

  pub heads-end : opens (o + 4 * n) ≡ true → ⊥
  unfolding come
  heads-end e =
      let m : suc n ≤ n = no_further room (suc n) (omega arith) (come-next n (come-to n (omega arith)) e) (opens (o + 4 * suc n)) refl in
      omega arith
