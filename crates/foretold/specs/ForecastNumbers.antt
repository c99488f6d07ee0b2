-- DEMAND 1 OF A FORECAST (01 "Where an order stops"; 02 C-19): its rows and their order, the number that it gives, and what a refusal leaves.
use Rattle.std.specs.Prelude.{ℕ, ◌≡◌, ◌↔◌, ◌⊎◌, true, List, [], map, ◌∷◌, ◌++◌, eqb}
use Rattle.record.specs.Rows.{First, NoRow, Row, first_row}
use Rattle.record.specs.Table.{any, numbers_at}
use Rattle.record.specs.Table as table
use Rattle.agreement.specs.Demand1.{of_record}
use Rattle.forecast.specs.Forecast.{forecast_call, forecast_rows}

-- The numbers of a forecast, from the top: those that the table has for a record and a store that is read, and then 18 and 19.
abbrev pub forecast_numbers : List ℕ
forecast_numbers = numbers_at (of_record (table.store ∷ table.read_store ∷ [])) ++ (18 ∷ 19 ∷ [])

-- The number that a forecast gives is 0 exactly where none of its rows applies, and else the number of the first that does. A refusal gives
-- its number and 0 for each figure.
pub record ForecastNumbers : Type 0 where
  pub ordered : (buf : List ℕ) (used : ℕ) (store : List ℕ) → map (λ (r : Row). r.number) (forecast_rows buf used store) ≡ forecast_numbers
  pub listed : (buf : List ℕ) (used : ℕ) (store : List ℕ)
      → ((forecast_call buf used store).number ≡ 0) ⊎ (any (eqb (forecast_call buf used store).number) forecast_numbers ≡ true)
  pub none : (buf : List ℕ) (used : ℕ) (store : List ℕ) → ((forecast_call buf used store).number ≡ 0) ↔ NoRow (forecast_rows buf used store)
  pub first : (buf : List ℕ) (used : ℕ) (store : List ℕ) → First (forecast_rows buf used store) (forecast_call buf used store).number
  pub refused : (buf : List ℕ) (used : ℕ) (store : List ℕ) → (first_row (forecast_rows buf used store) ≡ 0 → ⊥)
      → forecast_call buf used store ≡ record { number = first_row (forecast_rows buf used store); steps = 0; program_bytes = 0; term_bytes = 0 }
