-- Laws of the edits and tests of words, one for each way out of the code.
use Prim.Native.Nat.{◌*◌, ◌+◌, ◌-◌, suc, zero, ℕ}
use mathlib.Core.Path.{ap, ap₂, refl, sym, ◌∙◌, ◌≡◌}
use mathlib.Core.Bool.{Bool, ◌&&◌, false, not, true}
use mathlib.Core.List.{List}
use borrow.Author.Tests.{eq-eqb, eqb-false, eqb-true, ne_eqb}
use Rattle.rules.proofs.Tests.{true-false}
use lib.Dec.{eqb, ltb}
use lib.ListN.{get_or, set}
use native.Mathlib.Omega.{arith}
use Rattle.counting.specs.Frames.{place_word}
use Rattle.state_words.specs.Entry.{last_loop}
use Rattle.count_step.specs.Words.{again_words, body_words, next_words, shut_words, unrolled_by, unrolled_words}

module _ (ws : List ℕ) where
  pub shut-place : (n w p : ℕ) (r : Bool) → r ≡ last_loop ws n → r ≡ true → w ≡ place_word n → p ≡ get_or ws w 0 → ltb p 2 ≡ shut_words ws n
  unfolding shut_words
  shut-place n w p r e t f g =
      ap (λ (x : ℕ). ltb x 2) (g ∙ ap (λ (j : ℕ). get_or ws j 0) f) ∙ ap (λ (b : Bool). b && ltb (get_or ws (place_word n) 0) 2) (sym t ∙ e)

  pub shut-other : (n : ℕ) (r : Bool) → r ≡ last_loop ws n → r ≡ false → false ≡ shut_words ws n
  unfolding shut_words
  shut-other n r e t = ap (λ (b : Bool). b && ltb (get_or ws (place_word n) 0) 2) (sym t ∙ e)

  pub again-loop : (n w a b : ℕ) → w ≡ get_or ws (3 + 6 * n) 0 → a ≡ get_or ws (3 + 6 * n + 3) 0 → b ≡ get_or ws (3 + 6 * n + 2) 0 → w ≡ 2 → not (eqb a b) ≡ again_words ws n
  unfolding again_words
  again-loop n w a b f g h t =
      let u : eqb (get_or ws (3 + 6 * n) 0) 2 ≡ true = eq-eqb (get_or ws (3 + 6 * n) 0) 2 (sym f ∙ t) in
      ap₂ (λ (x y : ℕ). not (eqb x y)) g h ∙ sym (ap (λ (b : Bool). b && not (eqb (get_or ws (3 + 6 * n + 3) 0) (get_or ws (3 + 6 * n + 2) 0))) u)

  pub again-other : (n w : ℕ) → w ≡ get_or ws (3 + 6 * n) 0 → (w ≡ 2 → ⊥) → false ≡ again_words ws n
  unfolding again_words
  again-other n w f t =
      let u : eqb (get_or ws (3 + 6 * n) 0) 2 ≡ false = ne_eqb (get_or ws (3 + 6 * n) 0) 2 (λ z. t (f ∙ z)) in
      sym (ap (λ (b : Bool). b && not (eqb (get_or ws (3 + 6 * n + 3) 0) (get_or ws (3 + 6 * n + 2) 0))) u)

  -- and back
  pub again-true : (n : ℕ) → again_words ws n ≡ true → (get_or ws (3 + 6 * n) 0 ≡ 2) × (get_or ws (3 + 6 * n + 3) 0 ≡ get_or ws (3 + 6 * n + 2) 0 → ⊥)
  unfolding again_words
  again-true n = by_tests (get_or ws (3 + 6 * n) 0) (get_or ws (3 + 6 * n + 3) 0) (get_or ws (3 + 6 * n + 2) 0) (eqb (get_or ws (3 + 6 * n) 0) 2) (eqb (get_or ws (3 + 6 * n + 3) 0) (get_or ws (3 + 6 * n + 2) 0)) refl refl
    where
      by_tests : (w a b : ℕ) (x y : Bool) → eqb w 2 ≡ x → eqb a b ≡ y → x && not y ≡ true → (w ≡ 2) × (a ≡ b → ⊥)
      by_tests w a b true false e f h = (eqb-true w 2 e, eqb-false a b f)
      by_tests w a b true true e f h = absurd (true-false (sym h))
      by_tests w a b false y e f h = absurd (true-false (sym h))

  pub again-false : (n : ℕ) → again_words ws n ≡ false → get_or ws (3 + 6 * n) 0 ≡ 2 → get_or ws (3 + 6 * n + 3) 0 ≡ get_or ws (3 + 6 * n + 2) 0
  unfolding again_words
  again-false n = by_tests (get_or ws (3 + 6 * n) 0) (get_or ws (3 + 6 * n + 3) 0) (get_or ws (3 + 6 * n + 2) 0) (eqb (get_or ws (3 + 6 * n) 0) 2) (eqb (get_or ws (3 + 6 * n + 3) 0) (get_or ws (3 + 6 * n + 2) 0)) refl refl
    where
      by_tests : (w a b : ℕ) (x y : Bool) → eqb w 2 ≡ x → eqb a b ≡ y → x && not y ≡ false → w ≡ 2 → a ≡ b
      by_tests w a b true false e f h t = absurd (true-false h)
      by_tests w a b true true e f h t = eqb-true a b f
      by_tests w a b false y e f h t = absurd (eqb-false w 2 e t)

  pub unrolled-0 : (n : ℕ) → get_or ws (3 + 6 * n + 3) 0 ≡ 0 → set ws (3 + 6 * n + 4) 1 ≡ unrolled_words ws n
  unfolding unrolled_words unrolled_by
  unrolled-0 n e = sym (ap (λ (c : ℕ). unrolled_by c ws n) e)

  unrolled-by : (c n : ℕ) → (c ≡ 0 → ⊥) → set ws (3 + 6 * n + 3) (c - 1) ≡ unrolled_by c ws n
  unfolding unrolled_by
  unrolled-by zero n h = absurd (h refl)
  unrolled-by (suc c) n h = ap (λ (d : ℕ). set ws (3 + 6 * n + 3) d) {x = suc c - 1} {y = c} (omega arith)

  pub unrolled-suc : (n : ℕ) → (get_or ws (3 + 6 * n + 3) 0 ≡ 0 → ⊥) → set ws (3 + 6 * n + 3) (get_or ws (3 + 6 * n + 3) 0 - 1) ≡ unrolled_words ws n
  unfolding unrolled_words
  unrolled-suc n h = unrolled-by (get_or ws (3 + 6 * n + 3) 0) n h

  pub next-is : (n : ℕ) → set (set ws (3 + 6 * n + 3) (get_or ws (3 + 6 * n + 3) 0 + 1)) (3 + 6 * n + 5) 1 ≡ next_words ws n
  unfolding next_words
  next-is n = ap (λ (c : ℕ). set (set ws (3 + 6 * n + 3) c) (3 + 6 * n + 5) 1) {x = get_or ws (3 + 6 * n + 3) 0 + 1} {y = suc (get_or ws (3 + 6 * n + 3) 0)} (omega arith)

  pub body_is : (n p : ℕ) → set ws (3 + 6 * n + 5) (p + 2) ≡ body_words ws n p
  unfolding body_words
  body_is n p = ap (λ (m : ℕ). set ws (3 + 6 * n + 5) m) {x = p + 2} {y = suc (suc p)} (omega arith)
