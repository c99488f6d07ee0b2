-- The call as it is made: what the rows let through, and what is asked before them.
use Rattle.std.specs.Prelude.{ℕ, ◌≤◌, ◌≡◌, Bool, ◌||◌, List, eqb, ltb, length, take}
use Rattle.record.specs.Answers.{Checked, check_program, check_term}
use Rattle.record.specs.declared.Conversion.{Conversion}
use Rattle.record.specs.declared.Header.{Header}
use Rattle.record.specs.declared.Sort.{Sort}
use Rattle.record.specs.declared.Sort.TheVariants as sort
use Rattle.record.specs.Header.{HeaderFits, converted_header, headed, kind_field, kind_of}
use Rattle.record.specs.Rows.{first_row, header_of, record_in}
use Rattle.conversion.specs.Convert.{convert_rows, last_rows}

-- The check of a record of a sort.
abbrev pub check_sort : Sort → List ℕ → ℕ → Checked
check_sort sort.Program buf used = check_program buf used
check_sort sort.Term buf used = check_term buf used

-- No kind was used, or it is that of the edition asked for.
unfoldable pub is_already : Sort → Conversion → List ℕ → ℕ → Bool
is_already s to buf used = ltb used 4 || eqb (kind_field (record_in buf used)) (kind_of s (converted_header to (header_of buf used)))

-- The first `used` bytes of the buffer are the record of a sort with this header and these contents.
pub record HeadedIn (s : Sort) (h : Header) (c : List ℕ) (buf : List ℕ) (used : ℕ) : Type 0 where
  pub within : used ≤ length buf
  pub header : HeaderFits h
  pub bytes : take used buf ≡ headed s h c

-- What rows 1 to 5 and 15 let through, whatever output buffer is lent: rows 17 and 10 are left to look at. The header is not in the
-- edition asked for, and so one that is moved to edition 2 has no ceiling of its own.
pub record Convertible (s : Sort) (to : Conversion) (h : Header) (buf : List ℕ) (used : ℕ) : Type 0 where
  pub contents : List ℕ
  pub holds : HeadedIn s h contents buf used
  pub low : length buf ≤ 16384
  pub other : kind_of s h ≡ kind_of s (converted_header to h) → ⊥
  pub passes : (out : List ℕ) → length out ≤ 16384 → first_row (convert_rows s to buf used out) ≡ first_row (last_rows s to buf used out)
