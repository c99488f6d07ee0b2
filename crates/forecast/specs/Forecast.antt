-- ROOM AND STEPS FORETOLD, over bytes (02 C-19): the three figures of a program from its start store, or the number of a refusal. Nothing
-- is written.
use Rattle.std.specs.Prelude.{suc, zero, ℕ, Bool, not, ◌||◌, List, [], ◌∷◌, ltb}
use Rattle.record.specs.Rows.{Row, bad_buffer, block_of, first_row, header_of, holds, limited_program_rows, program_of, row, store_rows}
use Rattle.forecast.specs.Figures.{Figures, figures}
use Rattle.forecast.specs.Steady.{steady}

-- The answer: the number, the steps to the end, and the bytes of the longest configuration and of the longest term on the way.
pub record Forecast : Type 0 where
  pub number : ℕ
  pub steps : ℕ
  pub program_bytes : ℕ
  pub term_bytes : ℕ

-- THE ROWS

-- 18: some command assigns a variable that is used as a loop bound
unfoldable pub bound_assigned : List ℕ → ℕ → Bool
bound_assigned buf used = holds (λ P. not (steady P)) (block_of buf used)

-- The number is above 18,446,744,073,709,551,615: 64 bits do not hold it.
unfoldable pub too_large : ℕ → Bool
too_large n = ltb 18446744073709551615 n

-- Some figure is.
unfoldable pub some_too_large : Figures → Bool
some_too_large f = too_large f.steps || (too_large f.program_bytes || too_large f.term_bytes)

-- 19: a figure of the program on this store is
unfoldable pub figure_too_large : List ℕ → ℕ → List ℕ → Bool
figure_too_large buf used store = holds (λ P. some_too_large (figures (header_of buf used) store P)) (block_of buf used)

-- Rows 18 and 19, which stand behind those of the record and of the store.
abbrev pub figure_rows : List ℕ → ℕ → List ℕ → List Row
figure_rows buf used store = row 18 (bound_assigned buf used) ∷ row 19 (figure_too_large buf used store) ∷ []

-- The rows of the call, in the order of the table: 1 to 5, 15, 6, 16, 18 and 19.
abbrev pub forecast_rows : List ℕ → ℕ → List ℕ → List Row
forecast_rows buf used store = row 1 (bad_buffer buf used) ∷ limited_program_rows buf used (store_rows buf used store (figure_rows buf used store))

-- THE CALL

-- By the number of the first row that applies, 0 where none does: the figures, or 0 for each.
unfoldable pub forecast_by : ℕ → Figures → Forecast
forecast_by zero f = record { number = 0; steps = f.steps; program_bytes = f.program_bytes; term_bytes = f.term_bytes }
forecast_by (suc n) f = record { number = suc n; steps = 0; program_bytes = 0; term_bytes = 0 }

-- Buffer, used length, store.
unfoldable pub forecast_call : List ℕ → ℕ → List ℕ → Forecast
forecast_call buf used store = forecast_by (first_row (forecast_rows buf used store)) (figures (header_of buf used) store (program_of buf used))
