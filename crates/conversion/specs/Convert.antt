-- A RECORD MOVED from one edition to the other, over bytes (02 C-18). One definition for the four calls: of a program and of a term, to
-- edition 2 with the largest ceiling and back to edition 1.
use Rattle.std.specs.Prelude.{ℕ, ◌||◌, List, [], ◌∷◌}
use Rattle.record.specs.Answers.{Wrote, too_short, wrote_by}
use Rattle.record.specs.declared.Conversion.{Conversion}
use Rattle.record.specs.declared.Conversion.TheVariants.{ToFirst, ToSecond}
use Rattle.record.specs.declared.Sort.{Sort}
use Rattle.record.specs.Header.{converted_record}
use Rattle.record.specs.Rows.{Row, bad_buffer, first_row, limited_rows, record_in, row, small_ceiling, too_long, wrong_edition}

-- The record that answers: the same contents behind the header of the edition asked for.
abbrev pub converted : Sort → Conversion → List ℕ → ℕ → List ℕ
converted s to src used = converted_record s to (record_in src used)

-- Row 17, of moving back alone, and then more.
abbrev pub ceiling_rows : Conversion → List ℕ → ℕ → List Row → List Row
ceiling_rows ToFirst src used more = row 17 (small_ceiling src used) ∷ more
ceiling_rows ToSecond src used more = more

-- Rows 17 and 10, which stand behind those of the record.
abbrev pub last_rows : Sort → Conversion → List ℕ → ℕ → List ℕ → List Row
last_rows s to src used out = ceiling_rows to src used (row 10 (too_short out (converted s to src used)) ∷ [])

-- The rows of the call, in the order of the table: 1, of both buffers, 2 to 5, 15, 17 and 10.
abbrev pub convert_rows : Sort → Conversion → List ℕ → ℕ → List ℕ → List Row
convert_rows s to src used out =
    row 1 (bad_buffer src used || too_long out) ∷ limited_rows s (wrong_edition s to src used) src used (last_rows s to src used out)

-- THE CALL: source, used length, output buffer.
unfoldable pub convert_call : Sort → Conversion → List ℕ → ℕ → List ℕ → Wrote
convert_call s to src used out = wrote_by (first_row (convert_rows s to src used out)) (converted s to src used) out
