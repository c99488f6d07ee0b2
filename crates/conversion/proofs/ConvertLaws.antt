-- Laws of the conversions: number and refusal, what they write, what they let through.
use Prim.Native.Nat.{◌<◌, ℕ, ◌≤◌}
use mathlib.Core.Path.{ap, refl, subst, sym, ◌∙◌, ◌≡◌}
use mathlib.Core.Bool.{Bool, false, true, ◌||◌}
use mathlib.Core.List.{◌++◌, List, [], ◌∷◌}
use lib.ListN.{length}
use Rattle.buffer.specs.LittleEndian.{Bytes}
use Rattle.record.specs.Answers.{Wrote, padded, too_short, wrote_by}
use Rattle.record.specs.declared.Conversion.{Conversion}
use Rattle.record.specs.declared.Conversion.TheVariants.{ToFirst, ToSecond}
use Rattle.record.specs.declared.Header.{Header}
use Rattle.record.specs.declared.Sort.{Sort}
use Rattle.record.specs.declared.Sort.TheVariants as sort
use Rattle.record.specs.Header.{HeaderFits, block_bytes, converted_header, converted_record, encode_program, encode_term, headed, opposite, program, term}
use Rattle.record.specs.Holding.{ProgramIn, TermIn}
use Rattle.record.specs.Rows.{NoRow, Row, bad_buffer, bad_header, first_row, header_of, limited_rows, row, too_long, wrong_edition}
use Rattle.record.specs.Term.{encode_term_record}
use Rattle.rules.specs.FreeVariables.{Vars, all_vars}
use Rattle.rules.specs.Syntax.{Block, Term}
use Rattle.record.proofs.AnswerLaws.{fits_out, out-fits, short-out, wrote-accepted, wrote-number, wrote-refused}
use Rattle.record.proofs.ConvertedLaws.{Large, converted-again, edition-good, large-ceiling, program-either, program-headed, right-edition, source-header, term-either, term-headed}
use Rattle.record.proofs.EditionLaws.{converted-fits, converted-headed}
use Rattle.record.proofs.HeldLaws.{good-buffer, not-long, short-buffer}
use Rattle.record.proofs.HoldingLaws.{padded-program, padded-term, passes-program, passes-term, program-passes, term-passes}
use Rattle.record.proofs.RowLaws.{first-applies, first-behind, first-none, first-skips, none_first, or-false, or-intro, or-true}
use Rattle.conversion.specs.Convert.{ceiling_rows, convert_call, convert_rows, converted, last_rows}
use Rattle.conversion.specs.Converting.{HeadedIn}

-- NUMBER AND REFUSAL

pub convert-number : (s : Sort) (to : Conversion) (src : List ℕ) (used : ℕ) (out : List ℕ) → (convert_call s to src used out).number ≡ first_row (convert_rows s to src used out)
unfolding convert_call
convert-number s to src used out = wrote-number (first_row (convert_rows s to src used out)) (converted s to src used) out

pub convert-refused : (s : Sort) (to : Conversion) (src : List ℕ) (used : ℕ) (out : List ℕ) → (first_row (convert_rows s to src used out) ≡ 0 → ⊥)
    → convert_call s to src used out ≡ record { number = first_row (convert_rows s to src used out); used = 0; written = out }
unfolding convert_call
convert-refused s to src used out h = wrote-refused (first_row (convert_rows s to src used out)) (converted s to src used) out h

-- A CALL THAT WRITES SOME BYTES where its source passes: rows 1 and 10 of the output buffer decide

unfoldable pub into : List ℕ → List ℕ → Wrote
into bytes out = wrote_by (first_row (row 1 (too_long out) ∷ row 10 (too_short out bytes) ∷ [])) bytes out

pub into-fits : (bytes out : List ℕ) → length out ≤ 16384 → length bytes ≤ length out → into bytes out ≡ record { number = 0; used = length bytes; written = padded (length out) bytes }
unfolding into
into-fits bytes out l f = wrote-accepted _ bytes out (none_first (row 1 (too_long out) ∷ row 10 (too_short out bytes) ∷ []) (not-long out l, (fits_out out bytes f, tt)))

pub into-long : (bytes out : List ℕ) → length out ≤ 16384 → length out < length bytes → (into bytes out).number ≡ 10
unfolding into
into-long bytes out l f =
    wrote-number _ bytes out ∙ first-skips 1 (too_long out) (row 10 (too_short out bytes) ∷ []) (not-long out l) ∙ first-applies 10 (too_short out bytes) [] (short-out out bytes f)

pub into-accepts : (bytes out : List ℕ) → (into bytes out).number ≡ 0 → (length out ≤ 16384) × (length bytes ≤ length out)
unfolding into
into-accepts bytes out z =
    let r = first-none (row 1 (too_long out) ∷ row 10 (too_short out bytes) ∷ []) refl (sym (wrote-number _ bytes out) ∙ z) in
    (short-buffer out r.0, out-fits out bytes r.1.0)

-- row 1 looks at the source too, and rows that do not apply stand between
pub behind-source : (long bad : Bool) (rows more : List Row) → bad ≡ false → NoRow rows → first_row (row 1 (bad || long) ∷ (rows ++ more)) ≡ first_row (row 1 long ∷ more)
behind-source true bad rows more e r = first-applies 1 (bad || true) (rows ++ more) (or-true bad true refl) ∙ sym (first-applies 1 true more refl)
behind-source false bad rows more e r = first-behind (row 1 (bad || false) ∷ rows) more (or-intro e refl, r) ∙ sym (first-skips 1 false more refl)

-- A RECORD OF A SORT that passes rows 1 to 5 and 15

pub record RecordIn (s : Sort) (h : Header) (c buf : List ℕ) (used : ℕ) : Type 0 where
  pub holds : HeadedIn s h c buf used
  pub low : length buf ≤ 16384
  pub passes : NoRow (row 1 (bad_buffer buf used) ∷ limited_rows s (bad_header s buf used) buf used [])

pub program-record : {h : Header} {P : Block} {buf : List ℕ} {used : ℕ} → ProgramIn h P buf used → length buf ≤ 16384 → RecordIn program h (block_bytes P) buf used
program-record {h} {P} p l = record {
  holds = record { within = p.within; header = p.header; bytes = p.bytes ∙ program-headed h P };
  low = l;
  passes = program-passes p l [] tt;
}

pub term-record : {S : Vars} {h : Header} {t : Term} {buf : List ℕ} {used : ℕ} → TermIn S h t buf used → length buf ≤ 16384 → RecordIn term h (encode_term_record t) buf used
term-record {S} {h} {t} p l = record {
  holds = record { within = p.within; header = p.header; bytes = p.bytes ∙ term-headed h t };
  low = l;
  passes = term-passes p l [] tt;
}

-- the rows of the record, whatever row 2 is that does not apply either, and what stands behind
between : (s : Sort) (two two' : Bool) (buf : List ℕ) (used : ℕ) → NoRow (limited_rows s two buf used []) → two' ≡ false → (long bad : Bool) → bad ≡ false → (more : List Row)
    → first_row (row 1 (bad || long) ∷ limited_rows s two' buf used more) ≡ first_row (row 1 long ∷ more)
between sort.Program two two' buf used r e long bad b more = behind-source long bad (limited_rows program two' buf used []) more b (e, r.1)
between sort.Term two two' buf used r e long bad b more = behind-source long bad (limited_rows term two' buf used []) more b (e, r.1)

-- row 17 does not apply
without-ceiling : (to : Conversion) (src : List ℕ) (used : ℕ) → Large to src used → (long : Bool) (more : List Row) → first_row (row 1 long ∷ ceiling_rows to src used more) ≡ first_row (row 1 long ∷ more)
without-ceiling ToFirst src used e true more = first-applies 1 true _ refl ∙ sym (first-applies 1 true more refl)
without-ceiling ToFirst src used e false more = first-skips 1 false _ refl ∙ first-skips 17 _ more e ∙ sym (first-skips 1 false more refl)
without-ceiling ToSecond src used e long more = refl

-- the record that answers, by the header that is lent
pub converted-in : {s : Sort} {h : Header} {c src : List ℕ} {used : ℕ} (to : Conversion) → HeadedIn s h c src used → converted s to src used ≡ headed s (converted_header to h) c
converted-in {s} {h} {c} to p = ap (converted_record s to) p.bytes ∙ converted-headed s to h c p.header

-- THE CALL on a record of the other edition with the largest ceiling

module _ {s : Sort} (to : Conversion) (h : Header) {c src : List ℕ} {used : ℕ} (p : RecordIn s (converted_header (opposite to) h) c src used) where
  large : (x : Conversion) → RecordIn s (converted_header (opposite x) h) c src used → Large x src used
  large ToFirst q = large-ceiling s ToFirst h q.holds.header c src used q.holds.within q.holds.bytes
  large ToSecond q = tt

  right : wrong_edition s to src used ≡ false
  right = right-edition s to h p.holds.header c src used p.holds.within p.holds.bytes p.low

  converted-is : converted s to src used ≡ headed s (converted_header to h) c
  converted-is = converted-in to p.holds ∙ ap (λ (x : Header). headed s x c) (converted-again to (opposite to) h)

  pub convert-into : (out : List ℕ) → convert_call s to src used out ≡ into (headed s (converted_header to h) c) out
  unfolding convert_call into
  convert-into out =
      let first : first_row (convert_rows s to src used out) ≡ first_row (row 1 (too_long out) ∷ row 10 (too_short out (converted s to src used)) ∷ []) =
      between s (bad_header s src used) (wrong_edition s to src used) src used p.passes.1 right (too_long out) (bad_buffer src used) p.passes.0 (last_rows s to src used out)
      ∙ without-ceiling to src used (large to p) (too_long out) (row 10 (too_short out (converted s to src used)) ∷ []) in
      ap (λ (n : ℕ). wrote_by n (converted s to src used) out) first
      ∙ ap (λ (b : List ℕ). wrote_by (first_row (row 1 (too_long out) ∷ row 10 (too_short out b) ∷ [])) b out) converted-is

fits-either : (to other : Conversion) (h : Header) → HeaderFits (converted_header to h) → HeaderFits (converted_header other h)
fits-either to other h f = subst HeaderFits (converted-again other to h) (converted-fits other (converted_header to h) f)

-- OF A PROGRAM

module _ (to : Conversion) (h : Header) {P : Block} {src : List ℕ} {used : ℕ} (p : ProgramIn (converted_header (opposite to) h) P src used) where
  pub program-into : length src ≤ 16384 → (out : List ℕ) → convert_call program to src used out ≡ into (encode_program (converted_header to h) P) out
  program-into l out = convert-into to h (program-record p l) out ∙ ap (λ (b : List ℕ). into b out) (sym (program-headed (converted_header to h) P))

  pub program-moved : (n : ℕ) → ProgramIn (converted_header to h) P (padded n (encode_program (converted_header to h) P)) (length (encode_program (converted_header to h) P))
  program-moved n = padded-program (converted_header to h) P n (fits-either (opposite to) to h p.header) (program-either (opposite to) to h P p.is_program)

-- OF A TERM

module _ (to : Conversion) (h : Header) {S : Vars} {t : Term} {src : List ℕ} {used : ℕ} (p : TermIn S (converted_header (opposite to) h) t src used) where
  pub term-into : length src ≤ 16384 → (out : List ℕ) → convert_call term to src used out ≡ into (encode_term (converted_header to h) t) out
  term-into l out = convert-into to h (term-record p l) out ∙ ap (λ (b : List ℕ). into b out) (sym (term-headed (converted_header to h) t))

  pub term_moved : (n : ℕ) → TermIn S (converted_header to h) t (padded n (encode_term (converted_header to h) t)) (length (encode_term (converted_header to h) t))
  term_moved n = padded-term S (converted_header to h) t n (fits-either (opposite to) to h p.header) (term-either (opposite to) to h S t p.sound)

-- NOTHING ELSE IS LET THROUGH

rows_none : (s : Sort) (to : Conversion) (src : List ℕ) (used : ℕ) (out : List ℕ) → (convert_call s to src used out).number ≡ 0 → NoRow (convert_rows s to src used out)
rows_none sort.Program ToFirst src used out z = first-none (convert_rows program ToFirst src used out) refl (sym (convert-number program ToFirst src used out) ∙ z)
rows_none sort.Program ToSecond src used out z = first-none (convert_rows program ToSecond src used out) refl (sym (convert-number program ToSecond src used out) ∙ z)
rows_none sort.Term ToFirst src used out z = first-none (convert_rows term ToFirst src used out) refl (sym (convert-number term ToFirst src used out) ∙ z)
rows_none sort.Term ToSecond src used out z = first-none (convert_rows term ToSecond src used out) refl (sym (convert-number term ToSecond src used out) ∙ z)

last-large : (to : Conversion) (src : List ℕ) (used : ℕ) (more : List Row) → NoRow (ceiling_rows to src used more) → Large to src used
last-large ToFirst src used more r = r.0
last-large ToSecond src used more r = tt

module _ (to : Conversion) (src : List ℕ) (used : ℕ) (out : List ℕ) (hb : Bytes src) where
  pub program-taken : (convert_call program to src used out).number ≡ 0 → (length src ≤ 16384) × ((h : Header) × (P : Block) × ProgramIn (converted_header (opposite to) h) P src used)
  program-taken z =
      let r = rows_none program to src used out z in
      let b = or-false (bad_buffer src used) (too_long out) r.0 in
      let g = edition-good program to src used r.1.0 in
      let q = passes-program src used hb (b.0, (g.0, (r.1.1.0, (r.1.1.1.0, (r.1.1.1.1.0, (r.1.1.1.1.1.0, tt)))))) in
      let is = source-header program to src used q.1.header r.1.0 (last-large to src used (row 10 (too_short out (converted program to src used)) ∷ []) r.1.1.1.1.1.1) in
      ((good-buffer src used b.0).low, (header_of src used, q.0, subst (λ (x : Header). ProgramIn x q.0 src used) is q.1))

  pub term-taken : (convert_call term to src used out).number ≡ 0 → (length src ≤ 16384) × ((h : Header) × (t : Term) × TermIn all_vars (converted_header (opposite to) h) t src used)
  term-taken z =
      let r = rows_none term to src used out z in
      let b = or-false (bad_buffer src used) (too_long out) r.0 in
      let g = edition-good term to src used r.1.0 in
      let q = passes-term src used hb (b.0, (g.0, (r.1.1.0, (r.1.1.1.0, (r.1.1.1.1.0, (r.1.1.1.1.1.0, tt)))))) in
      let is = source-header term to src used q.1.header r.1.0 (last-large to src used (row 10 (too_short out (converted term to src used)) ∷ []) r.1.1.1.1.1.1) in
      ((good-buffer src used b.0).low, (header_of src used, q.0, subst (λ (x : Header). TermIn all_vars x q.0 src used) is q.1))
