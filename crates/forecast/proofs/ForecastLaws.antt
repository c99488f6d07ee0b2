-- Laws of the call: its number, a refusal, what its rows let through, and the answer to that.
use Prim.Native.Nat.{◌+◌, ◌<◌, suc, zero, ℕ, ◌≤◌}
use mathlib.Core.Path.{ap, refl, subst, sym, ◌∙◌, ◌≡◌}
use mathlib.Core.Bool.{Bool, false, not, true, ◌||◌}
use mathlib.Core.List.{List, [], ◌∷◌}
use mathlib.Core.Option.{some}
use borrow.Author.Tests.{le-ltb, lt-ltb}
use lib.ListN.{length}
use native.Mathlib.Omega.{arith}
use Rattle.record.specs.declared.Header.{Header}
use Rattle.record.specs.Header.{contents_at, ok_of}
use Rattle.record.specs.Holding.{ProgramIn}
use Rattle.record.specs.Rows.{bad_buffer, block_of, first_row, header_of, k_of, program_of, row, store_rows}
use Rattle.record.proofs.HeldLaws.{good-store, good-values, store-good, values-good}
use Rattle.record.proofs.HoldingLaws.{program-block, program-first, program-header, program-is, program-k, program-passed}
use Rattle.record.proofs.RowLaws.{first-applies, first-skips, holds-some, none_at-zero, none_first, or-intro}
use Rattle.rules.specs.Sound.{SmallValues}
use Rattle.rules.specs.Syntax.{Block}
use Rattle.forecast.specs.Figures.{Figures, figures, longest_of, program_weights, steps_of, term_weights}
use Rattle.forecast.specs.Forecast.{bound_assigned, figure_rows, figure_too_large, forecast_by, forecast_call, forecast_rows, some_too_large, too_large}
use Rattle.forecast.specs.Steady.{steady}

-- NUMBER AND REFUSAL

forecast-by : (m : ℕ) (f : Figures) → (forecast_by m f).number ≡ m
unfolding forecast_by
forecast-by zero f = refl
forecast-by (suc m) f = refl

pub forecast-number : (buf : List ℕ) (used : ℕ) (store : List ℕ) → (forecast_call buf used store).number ≡ first_row (forecast_rows buf used store)
unfolding forecast_call
forecast-number buf used store = forecast-by (first_row (forecast_rows buf used store)) (figures (header_of buf used) store (program_of buf used))

pub refused-by : (m : ℕ) (f : Figures) → (m ≡ 0 → ⊥) → forecast_by m f ≡ record { number = m; steps = 0; program_bytes = 0; term_bytes = 0 }
unfolding forecast_by
refused-by zero f h = absurd (h refl)
refused-by (suc m) f h = refl

pub accepted-by : (f : Figures) → forecast_by 0 f ≡ record { number = 0; steps = f.steps; program_bytes = f.program_bytes; term_bytes = f.term_bytes }
unfolding forecast_by
accepted-by f = refl

pub forecast-refused : (buf : List ℕ) (used : ℕ) (store : List ℕ) → (first_row (forecast_rows buf used store) ≡ 0 → ⊥)
    → forecast_call buf used store ≡ record { number = first_row (forecast_rows buf used store); steps = 0; program_bytes = 0; term_bytes = 0 }
unfolding forecast_call
forecast-refused buf used store h = refused-by (first_row (forecast_rows buf used store)) (figures (header_of buf used) store (program_of buf used)) h

-- ROWS 18 AND 19, of the block that the record holds

pub bound-assigned : (buf : List ℕ) (used : ℕ) (P : Block) → block_of buf used ≡ some P → bound_assigned buf used ≡ not (steady P)
unfolding bound_assigned
bound-assigned buf used P e = holds-some (λ Q. not (steady Q)) (block_of buf used) P e

pub figure-large : (buf : List ℕ) (used : ℕ) (store : List ℕ) (h : Header) (P : Block) → header_of buf used ≡ h → block_of buf used ≡ some P
    → figure_too_large buf used store ≡ some_too_large (figures h store P)
unfolding figure_too_large
figure-large buf used store h P i e =
    holds-some (λ Q. some_too_large (figures (header_of buf used) store Q)) (block_of buf used) P e
    ∙ ap (λ (x : Header). some_too_large (figures x store P)) i

-- a figure that 64 bits do not hold, and none

pub steps-large : (f : Figures) → 18446744073709551615 < f.steps → some_too_large f ≡ true
unfolding some_too_large too_large
steps-large f h = ap (λ (b : Bool). b || (too_large f.program_bytes || too_large f.term_bytes)) (lt-ltb 18446744073709551615 f.steps h)

pub none-large : (f : Figures) → f.steps ≤ 18446744073709551615 → f.program_bytes ≤ 18446744073709551615 → f.term_bytes ≤ 18446744073709551615 → some_too_large f ≡ false
unfolding some_too_large too_large
none-large f n p t =
    or-intro (le-ltb 18446744073709551615 f.steps n)
    (or-intro (le-ltb 18446744073709551615 f.program_bytes p) (le-ltb 18446744073709551615 f.term_bytes t))

pub figures-steps : (h : Header) (s : List ℕ) (P : Block) → (figures h s P).steps ≡ steps_of s P
unfolding figures
figures-steps h s P = refl

-- WHAT ITS ROWS LET THROUGH, of a buffer that holds a program's record

pub record ForecastTakes (hd : Header) (P : Block) (buf : List ℕ) (used n : ℕ) (store : List ℕ) : Type 0 where
  pub low : length buf ≤ 16384
  -- the used length is the record's own
  pub same : n ≡ used
  pub count : length store ≡ hd.k
  pub values : SmallValues (ok_of hd) store
  pub unassigned : bound_assigned buf used ≡ false
  pub small : figure_too_large buf used store ≡ false

module _ {hd : Header} {P : Block} {buf : List ℕ} {used : ℕ} (h : ProgramIn hd P buf used) where
  pub forecast-takes : (n : ℕ) (store : List ℕ) → first_row (forecast_rows buf n store) ≡ 0 → ForecastTakes hd P buf used n store
  forecast-takes n store e =
      let p = program-passed h n (bad_buffer buf n) (λ q. q) (store_rows buf n store (figure_rows buf n store)) (none_at-zero (forecast_rows buf n store) refl e) in
      record {
        low = p.low;
        same = p.same;
        count = good-store buf n store p.behind.0 ∙ ap (k_of buf) p.same ∙ program-k h;
        values = subst (λ (x : Header). SmallValues (ok_of x) store) (ap (header_of buf) p.same ∙ program-header h) (good-values buf n store p.behind.1.0);
        unassigned = ap (bound_assigned buf) (sym p.same) ∙ p.behind.1.1.0;
        small = ap (λ (m : ℕ). figure_too_large buf m store) (sym p.same) ∙ p.behind.1.1.1.0;
      }

  -- THE ANSWER to what rows 1 to 6, 15 and 16 let through: rows 18 and 19, and the figures
  module _ (l : length buf ≤ 16384) (store : List ℕ) (e : length store ≡ hd.k) (v : SmallValues (ok_of hd) store) where
    pub forecast-is : forecast_call buf used store ≡ forecast_by (first_row (row 18 (not (steady P)) ∷ row 19 (some_too_large (figures hd store P)) ∷ [])) (figures hd store P)
    unfolding forecast_call
    forecast-is =
        ap (λ (m : ℕ). forecast_by m (figures (header_of buf used) store (program_of buf used)))
        (program-first h l (bad_buffer buf used) refl (store_rows buf used store (figure_rows buf used store))
        ∙ first-skips 6 _ _ (store-good buf used store (e ∙ sym (program-k h)))
        ∙ first-skips 16 _ _ (values-good buf used store (subst (λ (x : Header). SmallValues (ok_of x) store) (sym (program-header h)) v)))
        ∙ rw (bound-assigned buf used P (program-block h l), figure-large buf used store hd P (program-header h) (program-block h l), program-header h, program-is h l) refl

    -- one law for each of its three ways out: row 18,
    pub forecast-bound : not (steady P) ≡ true → forecast_call buf used store ≡ record { number = 18; steps = 0; program_bytes = 0; term_bytes = 0 }
    forecast-bound b =
        forecast-is ∙ ap (λ (m : ℕ). forecast_by m (figures hd store P)) (first-applies 18 (not (steady P)) _ b)
        ∙ refused-by 18 (figures hd store P) (λ z. omega arith)

    module _ (b : not (steady P) ≡ false) where
      behind : (n : ℕ) → first_row (row 19 (some_too_large (figures hd store P)) ∷ []) ≡ n → forecast_call buf used store ≡ forecast_by n (figures hd store P)
      behind n q = forecast-is ∙ ap (λ (m : ℕ). forecast_by m (figures hd store P)) (first-skips 18 (not (steady P)) _ b ∙ q)

      -- row 19,
      pub forecast-large : 18446744073709551615 < steps_of store P → forecast_call buf used store ≡ record { number = 19; steps = 0; program_bytes = 0; term_bytes = 0 }
      forecast-large g =
          behind 19 (first-applies 19 (some_too_large (figures hd store P)) [] (steps-large (figures hd store P) (subst (λ (n : ℕ). 18446744073709551615 < n) (sym (figures-steps hd store P)) g)))
          ∙ refused-by 19 (figures hd store P) (λ z. omega arith)

      -- and the figures
      pub forecast-figures : (n p t : ℕ) → n ≡ steps_of store P → p ≡ contents_at hd + 4 + longest_of program_weights store P → t ≡ contents_at hd + 4 + longest_of (term_weights hd.k) store P
          → n ≤ 18446744073709551615 → p ≤ 18446744073709551615 → t ≤ 18446744073709551615
          → forecast_call buf used store ≡ record { number = 0; steps = n; program_bytes = p; term_bytes = t }
      unfolding figures
      forecast-figures n p t en ep et gn gp gt =
          behind 0
          (first-skips 19 (some_too_large (figures hd store P)) []
          (none-large (figures hd store P) (subst (λ (m : ℕ). m ≤ 18446744073709551615) en gn) (subst (λ (m : ℕ). m ≤ 18446744073709551615) ep gp) (subst (λ (m : ℕ). m ≤ 18446744073709551615) et gt))
          ∙ none_first [] tt)
          ∙ accepted-by (figures hd store P)
          ∙ rw (en, ep, et) refl
