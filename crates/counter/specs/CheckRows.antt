-- The rows that the two calls share, as they are checked: those of the program's record first, and then those of the words and the store.
use Rattle.std.specs.Prelude.{ℕ, List, [], ◌∷◌}
use Rattle.record.specs.Rows.{Row, bad_buffer, block_above, program_rows, row}
use Rattle.counting.specs.CountingCall.{too_deep}

-- Rows 1 to 5, 12 and 15. (Behind them are 6, 13 and 16: counting's `lent_rows`.)
abbrev pub record_rows : List ℕ → ℕ → List Row
record_rows buf used = row 1 (bad_buffer buf used) ∷ program_rows buf used (row 12 (too_deep buf used) ∷ row 15 (block_above buf used) ∷ [])
