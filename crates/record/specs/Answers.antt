-- The forms of the answers (01 "Where an order stops"), and the check of a program and of a term.
use Rattle.std.specs.Prelude.{◌-◌, suc, zero, ℕ, Bool, ◌++◌, List, [], ◌∷◌, ltb, length, replicate}
use Rattle.record.specs.Rows.{Row, bad_buffer, first_row, k_of, limited_program_rows, limited_term_rows, row}

-- A record of bytes in a buffer of n bytes: what stands behind it is zero.
unfoldable pub padded : ℕ → List ℕ → List ℕ
padded n bytes = bytes ++ replicate (n - length bytes) 0

-- THE CHECKER: number and k

-- The answer of a check.
pub record Checked : Type 0 where
  pub number : ℕ
  pub k : ℕ

-- By the number of the row: the record's k where none applies, and 0 in place of k at a refusal.
unfoldable pub checked_by : ℕ → ℕ → Checked
checked_by zero k = record { number = 0; k = k }
checked_by (suc n) k = record { number = suc n; k = 0 }

-- The rows that the check of a program tests: 1 to 5, and 15.
abbrev pub check_program_rows : List ℕ → ℕ → List Row
check_program_rows buf used = row 1 (bad_buffer buf used) ∷ limited_program_rows buf used []

-- The same of a term.
abbrev pub check_term_rows : List ℕ → ℕ → List Row
check_term_rows buf used = row 1 (bad_buffer buf used) ∷ limited_term_rows buf used []

-- The check of a program, by the first of its rows that applies.
unfoldable pub check_program : List ℕ → ℕ → Checked
check_program buf used = checked_by (first_row (check_program_rows buf used)) (k_of buf used)

-- The same of a term.
unfoldable pub check_term : List ℕ → ℕ → Checked
check_term buf used = checked_by (first_row (check_term_rows buf used)) (k_of buf used)

-- A CALL THAT WRITES A BUFFER: number, the new used length, the written buffer afterwards

-- The answer of such a call, and the buffer that it leaves.
pub record Wrote : Type 0 where
  pub number : ℕ
  pub used : ℕ
  pub written : List ℕ

-- By the number of the row: the record that answers with zeros behind it, or the buffer as it came.
unfoldable pub wrote_by : ℕ → List ℕ → List ℕ → Wrote
wrote_by zero bytes buf = record { number = 0; used = length bytes; written = padded (length buf) bytes }
wrote_by (suc n) bytes buf = record { number = suc n; used = 0; written = buf }

-- 10: the answer is longer than the output buffer
unfoldable pub too_short : List ℕ → List ℕ → Bool
too_short out answer = ltb (length out) (length answer)

-- A CALL THAT WRITES A STORE: number, and the store afterwards

-- The answer of such a call, and the store that it leaves.
pub record Stored : Type 0 where
  pub number : ℕ
  pub store : List ℕ

-- By the number of the row: the values that answer, or the store as it came.
unfoldable pub stored_by : ℕ → List ℕ → List ℕ → Stored
stored_by zero values store = record { number = 0; store = values }
stored_by (suc n) values store = record { number = suc n; store = store }
