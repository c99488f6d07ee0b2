-- One law for each way out of the call's code: a row that the checker gives, rows 6 and 16, rows 18 and 19, and the figures.
use Prim.Native.Nat.{◌+◌, ◌<◌, ◌≤◌, ℕ}
use mathlib.Core.Path.{ap, refl, subst, sym, ◌∙◌, ◌≡◌}
use mathlib.Core.Bool.{Bool, false, not, true}
use mathlib.Core.List.{List}
use lib.ListN.{length}
use native.Mathlib.Omega.{arith}
use Rattle.buffer.specs.LittleEndian.{Bytes}
use Rattle.place.proofs.WholeLaws.{program-at, program-used}
use Rattle.record.specs.Answers.{check_program}
use Rattle.record.specs.declared.Header.{Header}
use Rattle.record.specs.Header.{contents_at, header_in, largest_of}
use Rattle.record.specs.Holding.{ProgramWithStore}
use Rattle.record.specs.Rows.{first_row}
use Rattle.record.proofs.HeaderLaws.{contents_at-high}
use Rattle.record.proofs.LentRowLaws.{lent-held, lent-record, lent-store, lent-values}
use Rattle.rules.specs.Literals.{small_values}
use Rattle.rules.specs.Store.{up_to}
use Rattle.rules.specs.Syntax.{Block}
use Rattle.forecast.specs.Figures.{longest_of, program_weights, steps_of, term_weights}
use Rattle.forecast.specs.Forecast.{figure_rows, forecast_call, forecast_rows}
use Rattle.forecast.specs.Rows.{RowIn, RowOf}
use Rattle.forecast.specs.Steady.{steady}
use Rattle.forecast.proofs.ForecastLaws.{forecast-bound, forecast-figures, forecast-large, forecast-refused}
use Rattle.forecaster.specs.Represents.{refused_with}

-- ROWS 1 TO 6, 15 AND 16: a refusal is by the first row that applies

module _ (buf : List ℕ) (used : ℕ) (store : List ℕ) where
  refuses : (n : ℕ) → first_row (forecast_rows buf used store) ≡ n → (n ≡ 0 → ⊥) → refused_with n ≡ forecast_call buf used store
  refuses n e h = ap refused_with (sym e) ∙ sym (forecast-refused buf used store (λ z. h (sym e ∙ z)))

  module _ (n k : ℕ) (checked : check_program buf used ≡ record { number = n; k = k }) where
    pub refuses-record : (n ≡ 0 → ⊥) → refused_with n ≡ forecast_call buf used store
    refuses-record h = refuses n (lent-record buf used store n k checked (figure_rows buf used store) h) h

    module _ (z : n ≡ 0) (bytes : Bytes buf) where
      pub refuses-store : (length store ≡ k → ⊥) → refused_with 6 ≡ forecast_call buf used store
      refuses-store h = refuses 6 (lent-store buf used store n k checked (figure_rows buf used store) z bytes h) (λ e. omega arith)

      module _ (count : length store ≡ k) (hd : Header) (e : hd ≡ header_in buf) (largest : ℕ) (limits : largest ≡ largest_of hd)
          (above : Bool) (tells : above ≡ not (small_values (up_to largest) store)) where
        pub refuses-values : above ≡ true → refused_with 16 ≡ forecast_call buf used store
        refuses-values t = refuses 16 (lent-values buf used store n k checked (figure_rows buf used store) z bytes count hd e largest limits above tells t) (λ q. omega arith)

        pub lent : above ≡ false → (P : Block) × ProgramWithStore hd P buf used store
        lent = lent-held buf used store n k checked (figure_rows buf used store) z bytes count hd e largest limits above tells

-- ROWS 18 AND 19, AND THE FIGURES, of what those let through

module _ {hd : Header} {P : Block} {buf : List ℕ} {used : ℕ} {store : List ℕ} (w : ProgramWithStore hd P buf used store) (start : ℕ) (begins : start ≡ contents_at hd + 4) where
  -- the program's commands, from where they start up to the end of the record
  pub row-k : RowOf buf hd.k start used P
  row-k =
      subst (λ (p : ℕ). RowOf buf hd.k p used P) (sym begins)
      (record { here = program-at w.holds w.short; ends = program-used w.holds; within = w.holds.is_program.variables })

  pub row-store : RowOf buf (length store) start used P
  row-store = subst (λ (k : ℕ). RowOf buf k start used P) (sym w.count) row-k

  pub row-16 : (k : ℕ) × ((k ≤ 16) × RowIn buf k start used)
  row-16 = (hd.k, (w.holds.header.k-high, (P, row-k)))

  pub refuses-bound : (b : Bool) → b ≡ not (steady P) → b ≡ true → refused_with 18 ≡ forecast_call buf used store
  refuses-bound b e t = sym (forecast-bound w.holds w.short store w.count w.values (sym e ∙ t))

  module _ (b : Bool) (e : b ≡ not (steady P)) (f : b ≡ false) where
    pub refuses-large : 18446744073709551615 < steps_of store P → refused_with 19 ≡ forecast_call buf used store
    refuses-large g = sym (forecast-large w.holds w.short store w.count w.values (sym e ∙ f) g)

    -- a length in front of which the header and the block's head stand
    pub before-fits : (a : ℕ) → a + 16 < 18446744073709551616 → start + a ≤ 18446744073709551615
    before-fits a h = omega (arith, contents_at-high hd)

    pub foretells : (n a c : ℕ) → n ≡ steps_of store P → n < 18446744073709551616 → a ≡ longest_of program_weights store P → a + 16 < 18446744073709551616
        → c ≡ longest_of (term_weights hd.k) store P → c + 16 < 18446744073709551616
        → record { number = 0; steps = n; program_bytes = start + a; term_bytes = start + c } ≡ forecast_call buf used store
    foretells n a c en gn ea ga ec gc =
        sym (forecast-figures w.holds w.short store w.count w.values (sym e ∙ f) n (start + a) (start + c) en
        (rw (begins, ea) refl) (rw (begins, ec) refl) (omega arith) (before-fits a ga) (before-fits c gc))
