-- The class of a kind by ranges: the kinds of a class's list stand in a row, but for a program's 7 and 9.
use Prim.Native.Nat.{◌+◌, ◌<◌, suc, zero, ℕ, ◌≤◌}
use mathlib.Core.Path.{refl, sym, ◌∙◌, ◌≡◌}
use mathlib.Core.Bool.{Bool, false, true, ◌||◌}
use mathlib.Core.List.{List, [], ◌∷◌}
use borrow.Author.Tests.{eqb-false, eqb-true, ne_eqb}
use lib.Dec.{eqb}
use native.Mathlib.Omega.{arith}
use Rattle.rules.proofs.Tests.{true-false}
use Rattle.record.specs.declared.Class.TheVariants.{Expression, Malformed, Program, Term}
use Rattle.record.specs.Class.{among, class_by, class_of, expression_kinds, program_kinds, term_kinds}

-- n numbers in a row
abbrev run : ℕ → ℕ → List ℕ
run lo zero = []
run lo (suc n) = lo ∷ run (suc lo) n

module _ (k : ℕ) where
  run-has : (lo n : ℕ) → lo ≤ k → k < lo + n → among (run lo n) k ≡ true
  unfolding among
  run-has lo zero a b = absurd (omega arith)
  run-has lo (suc n) a b = go (eqb k lo) refl (λ d. run-has (suc lo) n (omega arith) (omega arith))
    where
      go : (t : Bool) → eqb k lo ≡ t → ((k ≡ lo → ⊥) → among (run (suc lo) n) k ≡ true) → (t || among (run (suc lo) n) k) ≡ true
      go true e next = refl
      go false e next = next (eqb-false k lo e)

  run-lacks : (lo n : ℕ) → (lo ≤ k → k < lo + n → ⊥) → among (run lo n) k ≡ false
  unfolding among
  run-lacks lo zero h = refl
  run-lacks lo (suc n) h = rw (ne_eqb k lo (λ e. h (omega arith) (omega arith))) (run-lacks (suc lo) n (λ a b. h (omega arith) (omega arith)))

  run-range : (lo n : ℕ) → among (run lo n) k ≡ true → (lo ≤ k) × (k < lo + n)
  unfolding among
  run-range lo zero e = true-false (sym e)
  run-range lo (suc n) e = go (eqb k lo) refl e (run-range (suc lo) n)
    where
      go : (t : Bool) → eqb k lo ≡ t → (t || among (run (suc lo) n) k) ≡ true
          → (among (run (suc lo) n) k ≡ true → (suc lo ≤ k) × (k < suc lo + n)) → (lo ≤ k) × (k < lo + suc n)
      go true q f next = let h = eqb-true k lo q in (omega arith, omega arith)
      go false q f next = let h = next f in (omega arith, omega arith)

  -- THE CLASSES

  pub class-seven : k ≡ 7 → class_of k ≡ Program
  unfolding class_of class_by among program_kinds
  class-seven e = rw e refl

  pub class-nine : k ≡ 9 → class_of k ≡ Program
  unfolding class_of class_by among program_kinds
  class-nine e = rw e refl

  command-kinds : (k ≡ 7 → ⊥) → (k ≡ 9 → ⊥) → among program_kinds k ≡ among (run 1 3) k
  unfolding among program_kinds
  command-kinds h g = rw (ne_eqb k 7 h, ne_eqb k 9 g) refl

  expression-kinds : among expression_kinds k ≡ among (run 16 4) k
  unfolding expression_kinds
  expression-kinds = refl

  term-kinds : among term_kinds k ≡ among (run 32 10) k
  unfolding term_kinds
  term-kinds = refl

  pub class-command : 1 ≤ k → k ≤ 3 → class_of k ≡ Program
  unfolding class_of class_by
  class-command a b = rw (command-kinds (omega arith) (omega arith), run-has 1 3 a (omega arith)) refl

  pub class-expression : 16 ≤ k → k ≤ 19 → class_of k ≡ Expression
  unfolding class_of class_by
  class-expression a b = rw (command-kinds (omega arith) (omega arith), run-lacks 1 3 (λ x y. omega arith), expression-kinds, run-has 16 4 a (omega arith)) refl

  pub class-term : 32 ≤ k → k ≤ 41 → class_of k ≡ Term
  unfolding class_of class_by
  class-term a b =
      rw (command-kinds (omega arith) (omega arith), run-lacks 1 3 (λ x y. omega arith), expression-kinds, run-lacks 16 4 (λ x y. omega arith), term-kinds, run-has 32 10 a (omega arith)) refl

  pub class-malformed : (k ≡ 7 → ⊥) → (k ≡ 9 → ⊥) → (1 ≤ k → k ≤ 3 → ⊥) → (16 ≤ k → k ≤ 19 → ⊥) → (32 ≤ k → k ≤ 41 → ⊥) → class_of k ≡ Malformed
  unfolding class_of class_by
  class-malformed a n b c d =
      rw (
        command-kinds a n,
        run-lacks 1 3 (λ x y. b x (omega arith)),
        expression-kinds,
        run-lacks 16 4 (λ x y. c x (omega arith)),
        term-kinds,
        run-lacks 32 10 (λ x y. d x (omega arith)),
      ) refl

  pub expression-range : class_of k ≡ Expression → (16 ≤ k) × (k ≤ 19)
  unfolding class_of class_by
  expression-range e = go (among program_kinds k) (among expression_kinds k) (among term_kinds k) refl e
    where
      go : (a b c : Bool) → among expression_kinds k ≡ b → class_by a b c ≡ Expression → (16 ≤ k) × (k ≤ 19)
      go true b c q f = absurd (let z : ◌≡◌ {A = ℕ} 0 1 = cc in omega arith)
      go false true c q f = let h = run-range 16 4 (sym expression-kinds ∙ q) in (h.0, omega (arith, h.1))
      go false false true q f = absurd (let z : ◌≡◌ {A = ℕ} 0 1 = cc in omega arith)
      go false false false q f = absurd (let z : ◌≡◌ {A = ℕ} 0 1 = cc in omega arith)
