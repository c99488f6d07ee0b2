-- Rows 2 and 3 and rows 4, 5 and 15 each as one number: the checks look at a record's header, and then at what it holds.
use Rattle.std.specs.Prelude.{ℕ, Bool, false, true, List, []}
use Rattle.std.proofs.Math.Option.{Option, none, some}
use Rattle.record.specs.declared.Sort.{Sort}
use Rattle.record.specs.Rows.{first_row, header_rows}

-- The number of the first of rows 2 and 3 that applies; 0 where none does.
unfoldable pub header_row : Sort → List ℕ → ℕ → ℕ
header_row s buf used = first_row (header_rows s buf used [])

-- By the tests of variable numbers and of literals or numerals: row 5 where the first fails, or else row 15 where the second does.
abbrev pub range_row : Bool → Bool → ℕ
range_row false small = 5
range_row true false = 15
range_row true true = 0

-- The number of the first of rows 4, 5 and 15 that applies: row 4 where nothing could be read of the contents, or else by the tests.
abbrev pub contents_row : {A : Type 0} → (A → Bool) → (A → Bool) → Option A → ℕ
contents_row in_range small none = 4
contents_row in_range small (some a) = range_row (in_range a) (small a)
