-- Demand 1 of a forecast, proved: that its rows are those numbers is computed.
use Prim.Native.Nat.{ℕ}
use mathlib.Core.Path.{refl, ◌≡◌}
use mathlib.Core.Logic.{inl, inr, ◌⊎◌}
use mathlib.Core.Bool.{true}
use mathlib.Core.List.{List, [], map, ◌∷◌}
use borrow.Author.Tests.{eq-eqb}
use lib.Dec.{eqb}
use Rattle.record.specs.Rows.{First, Row, first_row}
use Rattle.record.specs.Table.{any}
use Rattle.record.proofs.RowLaws.{first-first, none_at-zero, none_first, or-true}
use Rattle.forecast.specs.Forecast.{forecast_rows}
use Rattle.forecast.proofs.ForecastLaws.{forecast-number, forecast-refused}
use Rattle.foretold.specs.ForecastNumbers.{ForecastNumbers}

-- the number of the first row that applies is one of the rows'
first-among : (rs : List Row) (n : ℕ) → First rs n → (n ≡ 0) ⊎ (any (eqb n) (map (λ (r : Row). r.number) rs) ≡ true)
first-among [] n f = inl f
first-among (r ∷ rs) n (inl v) = inr (rw (eq-eqb n r.number v.1) refl)
first-among (r ∷ rs) n (inr v) =
    elim (first-among rs n v.1) [ inl z ↦ inl z | inr e ↦ inr (or-true (eqb n r.number) (any (eqb n) (map (λ (q : Row). q.number) rs)) e) ]

pub forecast-numbers : ForecastNumbers
forecast-numbers = record {
  ordered = λ buf used store. refl;
  listed = λ buf used store.
      let e = forecast-number buf used store in
      rw e (first-among (forecast_rows buf used store) (first_row (forecast_rows buf used store)) (first-first (forecast_rows buf used store)));
  none = λ buf used store.
      let e = forecast-number buf used store in
      rw e (none_at-zero (forecast_rows buf used store) refl, none_first (forecast_rows buf used store));
  first = λ buf used store. rw (forecast-number buf used store) (first-first (forecast_rows buf used store));
  refused = forecast-refused;
}
