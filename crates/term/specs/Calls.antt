-- Translate, read back, substitute and result, over bytes (01 "Translation and read-back", "Filling", "Result and weighing"; 02 C-13).
use Rattle.std.specs.Prelude.{suc, zero, ℕ, Bool, ◌||◌, List, [], map, ◌∷◌, length}
use Rattle.std.proofs.Math.Option.{Option}
use Rattle.record.specs.Answers.{Stored, Wrote, padded, stored_by, too_short, wrote_by}
use Rattle.record.specs.Header.{encode_program, encode_term}
use Rattle.record.specs.Rows.{Row, bad_buffer, bad_store, first_row, header_of, is_none, k_of, limited_program_rows, limited_term_rows, open_term, or_else, program_of, row, store_rows, the_term_of, too_long, unfinished}
use Rattle.rules.specs.ReadBack.{read_back}
use Rattle.rules.specs.Reduction.{value_of}
use Rattle.rules.specs.Replaced.{replaced}
use Rattle.rules.specs.Substitution.{from_store, substitute}
use Rattle.rules.specs.Syntax.{Block, Term, empty, let_all, let_one, rec, tuple}
use Rattle.rules.specs.Translation.{translate}

-- TRANSLATE: rows 1 to 5, 15 and 10. Row 1 looks at both buffers.

-- The record that answers.
abbrev pub translated : List ℕ → ℕ → List ℕ
translated src used = encode_term (header_of src used) (translate (k_of src used) (program_of src used))

-- The rows of the call, in the order of the table.
abbrev pub translate_rows : List ℕ → ℕ → List ℕ → List Row
translate_rows src used out = row 1 (bad_buffer src used || too_long out) ∷ limited_program_rows src used (row 10 (too_short out (translated src used)) ∷ [])

-- THE CALL: source, used length, output buffer.
unfoldable pub translate_call : List ℕ → ℕ → List ℕ → Wrote
translate_call src used out = wrote_by (first_row (translate_rows src used out)) (translated src used) out

-- READ BACK: rows 1 to 5, 15, 9 and 10

-- The program that the term is the translation of, if there is one.
abbrev pub source_of : List ℕ → ℕ → Option Block
source_of src used = read_back (k_of src used) (the_term_of src used)

-- Row 9: no program translates to it.
unfoldable pub no_source : List ℕ → ℕ → Bool
no_source src used = is_none (source_of src used)

-- The record that answers where row 9 does not apply: that program's.
abbrev pub source_bytes : List ℕ → ℕ → List ℕ
source_bytes src used = encode_program (header_of src used) (or_else empty (source_of src used))

-- The rows of the call, in the order of the table.
abbrev pub read_back_rows : List ℕ → ℕ → List ℕ → List Row
read_back_rows src used out =
    row 1 (bad_buffer src used || too_long out) ∷ limited_term_rows src used (row 9 (no_source src used) ∷ row 10 (too_short out (source_bytes src used)) ∷ [])

-- THE CALL: source, used length, output buffer.
unfoldable pub read_back_call : List ℕ → ℕ → List ℕ → Wrote
read_back_call src used out = wrote_by (first_row (read_back_rows src used out)) (source_bytes src used) out

-- SUBSTITUTE (01's filling): rows 1 to 5, 15, 6 and 16, in place

-- The answer, with how many variable records were turned into numerals, and the buffer that it leaves.
pub record Substituted : Type 0 where
  pub number : ℕ
  pub used : ℕ
  pub replaced : ℕ
  pub written : List ℕ

-- By the number of the row: the record that answers with zeros behind it, n being replaced, or the buffer as it came.
unfoldable pub substituted_by : ℕ → List ℕ → ℕ → List ℕ → Substituted
substituted_by zero bytes n buf = record { number = 0; used = length bytes; replaced = n; written = padded (length buf) bytes }
substituted_by (suc m) bytes n buf = record { number = suc m; used = 0; replaced = 0; written = buf }

-- The record that answers: the term's, its free variables replaced by the store's numerals.
abbrev pub substituted : List ℕ → ℕ → List ℕ → List ℕ
substituted buf used store = encode_term (header_of buf used) (substitute (from_store store) (the_term_of buf used))

-- The rows of the call, in the order of the table.
abbrev pub substitute_rows : List ℕ → ℕ → List ℕ → List Row
substitute_rows buf used store = row 1 (bad_buffer buf used) ∷ limited_term_rows buf used (store_rows buf used store [])

-- THE CALL: buffer, used length, store.
unfoldable pub substitute_call : List ℕ → ℕ → List ℕ → Substituted
substitute_call buf used store =
    substituted_by (first_row (substitute_rows buf used store)) (substituted buf used store) (replaced (from_store store) (the_term_of buf used)) buf

-- RESULT: rows 1 to 5, 15, and 6 to 8. The store is written and not read, so row 16 does not look at it.

-- The numerals of a finished term.
unfoldable pub numerals : Term → List ℕ
numerals (tuple l) = map value_of l
numerals (let_one x s t) = []
numerals (let_all t u) = []
numerals (rec x a l t) = []

-- The rows of the call, in the order of the table.
abbrev pub result_rows : List ℕ → ℕ → List ℕ → List Row
result_rows buf used store =
    row 1 (bad_buffer buf used) ∷ limited_term_rows buf used (row 6 (bad_store buf used store) ∷ row 7 (open_term buf used) ∷ row 8 (unfinished buf used) ∷ [])

-- THE CALL: buffer, used length, store.
unfoldable pub result_call : List ℕ → ℕ → List ℕ → Stored
result_call buf used store = stored_by (first_row (result_rows buf used store)) (numerals (the_term_of buf used)) store
