-- WHAT THE CONVERSIONS ANSWER (demand 2; 02 C-18), in plain facts. Rows 2 and 17 have theirs in `record` (`RowsMean`). A header of edition
-- 1 is `converted_header ToFirst h` of some h, one of edition 2 with the largest ceiling `converted_header ToSecond h`: whatever edition is
-- asked for, the record lent is of the other.
use Rattle.std.specs.Prelude.{◌+◌, ◌<◌, ℕ, ◌≤◌, ◌≡◌, List, length, take}
use Rattle.buffer.specs.LittleEndian.{Bytes}
use Rattle.record.specs.Answers.{padded}
use Rattle.record.specs.declared.Conversion.{Conversion}
use Rattle.record.specs.declared.Conversion.TheVariants.{ToFirst, ToSecond}
use Rattle.record.specs.declared.Header.{Header}
use Rattle.record.specs.declared.Sort.{Sort}
use Rattle.record.specs.Header.{converted_header, encode_program, encode_term, opposite, program, term}
use Rattle.record.specs.Holding.{ProgramIn, TermIn}
use Rattle.rules.specs.FreeVariables.{all_vars}
use Rattle.rules.specs.Syntax.{Block, Term}
use Rattle.term.specs.Calls.{read_back_call, translate_call}
use Rattle.conversion.specs.Convert.{convert_call}

-- What each conversion answers, of records that rows 1 to 5, 15 and 17 let through, and that it lets through no others.
pub record ConversionMeans : Type 0 where
  -- A PROGRAM: the same program behind the header of the edition asked for, with zeros behind it, or 10 where it does not fit
  pub converts : (to : Conversion) (h : Header) (P : Block) (src : List ℕ) (used : ℕ) (out : List ℕ) → ProgramIn (converted_header (opposite to) h) P src used
      → length src ≤ 16384 → length out ≤ 16384 → length (encode_program (converted_header to h) P) ≤ length out
      → convert_call program to src used out
      ≡ record { number = 0; used = length (encode_program (converted_header to h) P); written = padded (length out) (encode_program (converted_header to h) P) }
  pub converts_not : (to : Conversion) (h : Header) (P : Block) (src : List ℕ) (used : ℕ) (out : List ℕ) → ProgramIn (converted_header (opposite to) h) P src used
      → length src ≤ 16384 → length out ≤ 16384 → length out < length (encode_program (converted_header to h) P) → (convert_call program to src used out).number ≡ 10
  -- every accepted one is of such a program, which stands in the output buffer
  pub takes : (to : Conversion) (src : List ℕ) (used : ℕ) (out : List ℕ) → Bytes src → (convert_call program to src used out).number ≡ 0
      → (h : Header) × (P : Block) × ProgramIn (converted_header (opposite to) h) P src used
      × ProgramIn (converted_header to h) P (convert_call program to src used out).written (convert_call program to src used out).used
  -- A TERM: the same
  pub converts_term : (to : Conversion) (h : Header) (t : Term) (src : List ℕ) (used : ℕ) (out : List ℕ) → TermIn all_vars (converted_header (opposite to) h) t src used
      → length src ≤ 16384 → length out ≤ 16384 → length (encode_term (converted_header to h) t) ≤ length out
      → convert_call term to src used out
      ≡ record { number = 0; used = length (encode_term (converted_header to h) t); written = padded (length out) (encode_term (converted_header to h) t) }
  pub converts_term_not : (to : Conversion) (h : Header) (t : Term) (src : List ℕ) (used : ℕ) (out : List ℕ) → TermIn all_vars (converted_header (opposite to) h) t src used
      → length src ≤ 16384 → length out ≤ 16384 → length out < length (encode_term (converted_header to h) t) → (convert_call term to src used out).number ≡ 10
  pub takes_term : (to : Conversion) (src : List ℕ) (used : ℕ) (out : List ℕ) → Bytes src → (convert_call term to src used out).number ≡ 0
      → (h : Header) × (t : Term) × TermIn all_vars (converted_header (opposite to) h) t src used
      × TermIn all_vars (converted_header to h) t (convert_call term to src used out).written (convert_call term to src used out).used
  -- the record is 4 bytes longer in edition 2
  pub longer : (s : Sort) (src : List ℕ) (used : ℕ) (out : List ℕ) → Bytes src → (convert_call s ToSecond src used out).number ≡ 0
      → (convert_call s ToSecond src used out).used ≡ 4 + used
  pub shorter : (s : Sort) (src : List ℕ) (used : ℕ) (out : List ℕ) → Bytes src → (convert_call s ToFirst src used out).number ≡ 0
      → 4 + (convert_call s ToFirst src used out).used ≡ used
  -- THERE AND BACK, and back and there: the same bytes
  pub round_trip : (s : Sort) (to : Conversion) (src : List ℕ) (used : ℕ) (out back : List ℕ) → Bytes src → (convert_call s to src used out).number ≡ 0
      → length back ≤ 16384 → used ≤ length back
      → convert_call s (opposite to) (convert_call s to src used out).written (convert_call s to src used out).used back
      ≡ record { number = 0; used = used; written = padded (length back) (take used src) }
  -- TRANSLATING what was moved is moving the translation, and so is reading back: into any buffer, refused ones included
  pub translates : (to : Conversion) (src : List ℕ) (used : ℕ) (a b out : List ℕ) → Bytes src → (convert_call program to src used a).number ≡ 0
      → (translate_call src used b).number ≡ 0
      → translate_call (convert_call program to src used a).written (convert_call program to src used a).used out
      ≡ convert_call term to (translate_call src used b).written (translate_call src used b).used out
  pub reads_back : (to : Conversion) (src : List ℕ) (used : ℕ) (a b out : List ℕ) → Bytes src → (convert_call term to src used a).number ≡ 0
      → (read_back_call src used b).number ≡ 0
      → read_back_call (convert_call term to src used a).written (convert_call term to src used a).used out
      ≡ convert_call program to (read_back_call src used b).written (read_back_call src used b).used out
