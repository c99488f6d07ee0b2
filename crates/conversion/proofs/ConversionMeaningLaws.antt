-- What the conversions answer, proved.
use Prim.Native.Nat.{◌+◌, ℕ, ◌≤◌}
use mathlib.Core.Path.{ap, ap₂, refl, subst, sym, ◌∙◌, ◌≡◌}
use mathlib.Core.Logic.{inl}
use mathlib.Core.List.{List, [], ◌∷◌}
use mathlib.Core.Option.{some}
use lib.ListN.{length, take}
use native.Mathlib.Omega.{arith}
use Rattle.buffer.specs.LittleEndian.{Bytes}
use Rattle.record.specs.Answers.{Wrote, padded, too_short, wrote_by}
use Rattle.record.specs.declared.Conversion.{Conversion}
use Rattle.record.specs.declared.Conversion.TheVariants.{ToFirst, ToSecond}
use Rattle.record.specs.declared.Header.{Header}
use Rattle.record.specs.declared.Sort.{Sort}
use Rattle.record.specs.declared.Sort.TheVariants as sort
use Rattle.record.specs.Header.{converted_header, encode_program, encode_term, opposite, program, term}
use Rattle.record.specs.Holding.{ProgramIn, TermIn}
use Rattle.record.specs.Rows.{bad_buffer, first_row, limited_program_rows, limited_term_rows, row, too_long}
use Rattle.record.proofs.HeldLaws.{short-buffer}
use Rattle.record.proofs.RowLaws.{first-none, is_none-some, or-false, or_else-some}
use Rattle.rules.specs.FreeVariables.{all_vars}
use Rattle.rules.specs.ReadBack.{read_back}
use Rattle.rules.specs.Syntax.{Block, Term, empty}
use Rattle.rules.specs.Translation.{translate}
use Rattle.record.proofs.ConvertedLaws.{converted-start}
use Rattle.record.proofs.EditionLaws.{k-converted}
use Rattle.record.proofs.HeaderLaws.{length-encode_program, length-encode_term}
use Rattle.record.proofs.HoldingLaws.{padded-program, program-passes, program-size, term-header, term-passes, term-size}
use Rattle.record.proofs.PaddedLaws.{length-padded}
use Rattle.rules.proofs.ReadBackLaws.{read_back-translate}
use Rattle.term.specs.Calls.{no_source, read_back_call, read_back_rows, source_bytes, source_of, translate_call, translated}
use Rattle.term.proofs.CallLaws.{read_back-number, source_is, translate-holds, translate-length, translate-out, translate-writes, translated-is}
use Rattle.term.proofs.CallMeaningLaws.{calls-mean}
use Rattle.conversion.specs.Convert.{convert_call}
use Rattle.conversion.specs.ConversionMeaning.{ConversionMeans}
use Rattle.conversion.proofs.ConvertLaws.{behind-source, into, into-accepts, into-fits, into-long, program-into, program-moved, program-taken, term-into, term_moved, term-taken}

-- WHAT AN ACCEPTED CONVERSION LEAVES

-- of a call that writes some bytes
writes : (w : Wrote) (bytes out : List ℕ) → w ≡ into bytes out → w.number ≡ 0 → w ≡ record { number = 0; used = length bytes; written = padded (length out) bytes }
writes w bytes out e z =
    let q = into-accepts bytes out (sym (ap (λ (x : Wrote). x.number) e) ∙ z) in
    e ∙ into-fits bytes out q.0 q.1

low-out : (w : Wrote) (bytes out : List ℕ) → w ≡ into bytes out → w.number ≡ 0 → length (padded (length out) bytes) ≤ 16384
low-out w bytes out e z =
    let q = into-accepts bytes out (sym (ap (λ (x : Wrote). x.number) e) ∙ z) in
    omega (arith, length-padded (length out) bytes q.1, q.0)

twice : (to : Conversion) → opposite (opposite to) ≡ to
twice ToFirst = refl
twice ToSecond = refl

-- A PROGRAM

module _ (to : Conversion) (h : Header) {P : Block} {src : List ℕ} {used : ℕ} (p : ProgramIn (converted_header (opposite to) h) P src used) (l : length src ≤ 16384) (out : List ℕ)
    (z : (convert_call program to src used out).number ≡ 0) where
  pub program-writes : convert_call program to src used out
      ≡ record { number = 0; used = length (encode_program (converted_header to h) P); written = padded (length out) (encode_program (converted_header to h) P) }
  program-writes = writes (convert_call program to src used out) (encode_program (converted_header to h) P) out (program-into to h p l out) z

  pub program-leaves : ProgramIn (converted_header to h) P (convert_call program to src used out).written (convert_call program to src used out).used
  program-leaves = subst (λ (w : Wrote). ProgramIn (converted_header to h) P w.written w.used) (sym program-writes) (program-moved to h p (length out))

  pub program-low : length (convert_call program to src used out).written ≤ 16384
  program-low =
      subst (λ (w : Wrote). length w.written ≤ 16384) (sym program-writes) (low-out (convert_call program to src used out) (encode_program (converted_header to h) P) out (program-into to h p l out) z)

  program-back : ProgramIn (converted_header (opposite (opposite to)) h) P (convert_call program to src used out).written (convert_call program to src used out).used
  program-back =
      subst (λ (x : Conversion). ProgramIn (converted_header x h) P (convert_call program to src used out).written (convert_call program to src used out).used) (sym (twice to)) program-leaves

  program-round : (back : List ℕ) → length back ≤ 16384 → used ≤ length back
      → convert_call program (opposite to) (convert_call program to src used out).written (convert_call program to src used out).used back
      ≡ record { number = 0; used = used; written = padded (length back) (take used src) }
  program-round back lb fits =
      program-into (opposite to) h program-back program-low back
      ∙ into-fits (encode_program (converted_header (opposite to) h) P) back lb (omega (arith, program-size p))
      ∙ ap₂ (λ (n : ℕ) (b : List ℕ). record { number = 0; used = n; written = padded (length back) b }) (sym (program-size p)) (sym p.bytes)

-- A TERM

module _ (to : Conversion) (h : Header) {t : Term} {src : List ℕ} {used : ℕ} (p : TermIn all_vars (converted_header (opposite to) h) t src used) (l : length src ≤ 16384) (out : List ℕ)
    (z : (convert_call term to src used out).number ≡ 0) where
  pub term-writes : convert_call term to src used out
      ≡ record { number = 0; used = length (encode_term (converted_header to h) t); written = padded (length out) (encode_term (converted_header to h) t) }
  term-writes = writes (convert_call term to src used out) (encode_term (converted_header to h) t) out (term-into to h p l out) z

  pub term-leaves : TermIn all_vars (converted_header to h) t (convert_call term to src used out).written (convert_call term to src used out).used
  term-leaves = subst (λ (w : Wrote). TermIn all_vars (converted_header to h) t w.written w.used) (sym term-writes) (term_moved to h p (length out))

  pub term-low : length (convert_call term to src used out).written ≤ 16384
  term-low =
      subst (λ (w : Wrote). length w.written ≤ 16384) (sym term-writes) (low-out (convert_call term to src used out) (encode_term (converted_header to h) t) out (term-into to h p l out) z)

  term-back : TermIn all_vars (converted_header (opposite (opposite to)) h) t (convert_call term to src used out).written (convert_call term to src used out).used
  term-back =
      subst (λ (x : Conversion). TermIn all_vars (converted_header x h) t (convert_call term to src used out).written (convert_call term to src used out).used) (sym (twice to)) term-leaves

  term-round : (back : List ℕ) → length back ≤ 16384 → used ≤ length back
      → convert_call term (opposite to) (convert_call term to src used out).written (convert_call term to src used out).used back
      ≡ record { number = 0; used = used; written = padded (length back) (take used src) }
  term-round back lb fits =
      term-into (opposite to) h term-back term-low back
      ∙ into-fits (encode_term (converted_header (opposite to) h) t) back lb (omega (arith, term-size p))
      ∙ ap₂ (λ (n : ℕ) (b : List ℕ). record { number = 0; used = n; written = padded (length back) b }) (sym (term-size p)) (sym p.bytes)

-- 4 BYTES MORE

pub program-longer : (h : Header) (P : Block) → length (encode_program (converted_header ToSecond h) P) ≡ 4 + length (encode_program (converted_header ToFirst h) P)
program-longer h P = omega (arith, length-encode_program (converted_header ToSecond h) P, length-encode_program (converted_header ToFirst h) P, converted-start h)

pub term-longer : (h : Header) (t : Term) → length (encode_term (converted_header ToSecond h) t) ≡ 4 + length (encode_term (converted_header ToFirst h) t)
term-longer h t = omega (arith, length-encode_term (converted_header ToSecond h) t, length-encode_term (converted_header ToFirst h) t, converted-start h)

longer : (s : Sort) (src : List ℕ) (used : ℕ) (out : List ℕ) → Bytes src → (convert_call s ToSecond src used out).number ≡ 0 → (convert_call s ToSecond src used out).used ≡ 4 + used
longer sort.Program src used out hb z =
    let q = program-taken ToSecond src used out hb z in
    omega (arith, ap (λ (w : Wrote). w.used) (program-writes ToSecond q.1.0 q.1.2 q.0 out z), program-longer q.1.0 q.1.1, program-size q.1.2)
longer sort.Term src used out hb z =
    let q = term-taken ToSecond src used out hb z in
    omega (arith, ap (λ (w : Wrote). w.used) (term-writes ToSecond q.1.0 q.1.2 q.0 out z), term-longer q.1.0 q.1.1, term-size q.1.2)

shorter : (s : Sort) (src : List ℕ) (used : ℕ) (out : List ℕ) → Bytes src → (convert_call s ToFirst src used out).number ≡ 0 → 4 + (convert_call s ToFirst src used out).used ≡ used
shorter sort.Program src used out hb z =
    let q = program-taken ToFirst src used out hb z in
    omega (arith, ap (λ (w : Wrote). w.used) (program-writes ToFirst q.1.0 q.1.2 q.0 out z), program-longer q.1.0 q.1.1, program-size q.1.2)
shorter sort.Term src used out hb z =
    let q = term-taken ToFirst src used out hb z in
    omega (arith, ap (λ (w : Wrote). w.used) (term-writes ToFirst q.1.0 q.1.2 q.0 out z), term-longer q.1.0 q.1.1, term-size q.1.2)

round-trip : (s : Sort) (to : Conversion) (src : List ℕ) (used : ℕ) (out back : List ℕ) → Bytes src → (convert_call s to src used out).number ≡ 0 → length back ≤ 16384 → used ≤ length back
    → convert_call s (opposite to) (convert_call s to src used out).written (convert_call s to src used out).used back
    ≡ record { number = 0; used = used; written = padded (length back) (take used src) }
round-trip sort.Program to src used out back hb z lb fits = let q = program-taken to src used out hb z in program-round to q.1.0 q.1.2 q.0 out z back lb fits
round-trip sort.Term to src used out back hb z lb fits = let q = term-taken to src used out hb z in term-round to q.1.0 q.1.2 q.0 out z back lb fits

-- TRANSLATE AND READ BACK, into any buffer

pub translate-into : {h : Header} {P : Block} {src : List ℕ} {used : ℕ} → ProgramIn h P src used → length src ≤ 16384 → (out : List ℕ)
    → translate_call src used out ≡ into (encode_term h (translate h.k P)) out
unfolding translate_call into
translate-into {h} {P} {src} {used} p l out =
    let r = program-passes p l [] tt in
    ap (λ (n : ℕ). wrote_by n (translated src used) out) (behind-source (too_long out) (bad_buffer src used) (limited_program_rows src used []) (row 10 (too_short out (translated src used)) ∷ []) r.0 r.1)
    ∙ ap (λ (b : List ℕ). wrote_by (first_row (row 1 (too_long out) ∷ row 10 (too_short out b) ∷ [])) b out) (translated-is p l [] (omega arith))

translates : (to : Conversion) (src : List ℕ) (used : ℕ) (a b out : List ℕ) → Bytes src → (convert_call program to src used a).number ≡ 0 → (translate_call src used b).number ≡ 0
    → translate_call (convert_call program to src used a).written (convert_call program to src used a).used out
    ≡ convert_call term to (translate_call src used b).written (translate_call src used b).used out
translates to src used a b out hb z y =
    let q = program-taken to src used a hb z in
    let h : Header = q.1.0 in
    let P : Block = q.1.1 in
    let p = q.1.2 in
    let lb = translate-out src used b y in
    let same : (converted_header to h).k ≡ (converted_header (opposite to) h).k = k-converted to h ∙ sym (k-converted (opposite to) h) in
    translate-into (program-leaves to h p q.0 a z) (program-low to h p q.0 a z) out
    ∙ ap (λ (k : ℕ). into (encode_term (converted_header to h) (translate k P)) out) same
    ∙ sym (term-into to h (translate-holds p q.0 b lb y) (omega (arith, translate-length p q.0 b lb y)) out)
    ∙ ap (λ (w : Wrote). convert_call term to w.written w.used out) (sym (translate-writes p q.0 b lb y))

-- a term that some program translates to
pub read_back-into : {h : Header} {t : Term} {src : List ℕ} {used : ℕ} → TermIn all_vars h t src used → length src ≤ 16384 → (P : Block) → read_back h.k t ≡ some P → (out : List ℕ)
    → read_back_call src used out ≡ into (encode_program h P) out
unfolding read_back_call into no_source
read_back-into {h} {t} {src} {used} p l P e out =
    let r = term-passes p l (row 9 (no_source src used) ∷ []) (is_none-some (source_of src used) P (source_is p l ∙ e), tt) in
    let is : source_bytes src used ≡ encode_program h P = ap₂ encode_program (term-header p) (or_else-some empty (source_of src used) P (source_is p l ∙ e)) in
    ap (λ (n : ℕ). wrote_by n (source_bytes src used) out)
    (behind-source (too_long out) (bad_buffer src used) (limited_term_rows src used (row 9 (no_source src used) ∷ [])) (row 10 (too_short out (source_bytes src used)) ∷ []) r.0 r.1)
    ∙ ap (λ (b : List ℕ). wrote_by (first_row (row 1 (too_long out) ∷ row 10 (too_short out b) ∷ [])) b out) is

read_back-out : (src : List ℕ) (used : ℕ) (out : List ℕ) → (read_back_call src used out).number ≡ 0 → length out ≤ 16384
read_back-out src used out z =
    let r = first-none (read_back_rows src used out) refl (sym (read_back-number src used out) ∙ z) in
    short-buffer out (or-false (bad_buffer src used) (too_long out) r.0).1

reads-back : (to : Conversion) (src : List ℕ) (used : ℕ) (a b out : List ℕ) → Bytes src → (convert_call term to src used a).number ≡ 0 → (read_back_call src used b).number ≡ 0
    → read_back_call (convert_call term to src used a).written (convert_call term to src used a).used out
    ≡ convert_call program to (read_back_call src used b).written (read_back_call src used b).used out
reads-back to src used a b out hb z y =
    let q = term-taken to src used a hb z in
    let h : Header = q.1.0 in
    let t : Term = q.1.1 in
    let p = q.1.2 in
    let lb = read_back-out src used b y in
    let found = (calls-mean.reads_back (converted_header (opposite to) h) t src used b p q.0 lb).0 (inl y) in
    let P : Block = found.0 in
    let from : read_back (converted_header (opposite to) h).k t ≡ some P = ap (read_back (converted_header (opposite to) h).k) (sym found.2) ∙ read_back-translate (converted_header (opposite to) h).k P in
    let there : read_back (converted_header to h).k t ≡ some P = ap (λ (k : ℕ). read_back k t) (k-converted to h ∙ sym (k-converted (opposite to) h)) ∙ from in
    let wrote = read_back-into p q.0 P from b in
    let w : read_back_call src used b ≡ record { number = 0; used = length (encode_program (converted_header (opposite to) h) P); written = padded (length b) (encode_program (converted_header (opposite to) h) P) } =
    writes (read_back_call src used b) (encode_program (converted_header (opposite to) h) P) b wrote y in
    let holds = padded-program (converted_header (opposite to) h) P (length b) p.header found.1 in
    read_back-into (term-leaves to h p q.0 a z) (term-low to h p q.0 a z) P there out
    ∙ sym (program-into to h holds (low-out (read_back_call src used b) (encode_program (converted_header (opposite to) h) P) b wrote y) out)
    ∙ ap (λ (x : Wrote). convert_call program to x.written x.used out) (sym w)

pub conversion-means : ConversionMeans
conversion-means = record {
  converts = λ to h P src used out p l lo fits. program-into to h p l out ∙ into-fits (encode_program (converted_header to h) P) out lo fits;
  converts_not = λ to h P src used out p l lo long. ap (λ (w : Wrote). w.number) (program-into to h p l out) ∙ into-long (encode_program (converted_header to h) P) out lo long;
  takes = λ to src used out hb z. let q = program-taken to src used out hb z in (q.1.0, q.1.1, q.1.2, program-leaves to q.1.0 q.1.2 q.0 out z);
  converts_term = λ to h t src used out p l lo fits. term-into to h p l out ∙ into-fits (encode_term (converted_header to h) t) out lo fits;
  converts_term_not = λ to h t src used out p l lo long. ap (λ (w : Wrote). w.number) (term-into to h p l out) ∙ into-long (encode_term (converted_header to h) t) out lo long;
  takes_term = λ to src used out hb z. let q = term-taken to src used out hb z in (q.1.0, q.1.1, q.1.2, term-leaves to q.1.0 q.1.2 q.0 out z);
  longer = longer;
  shorter = shorter;
  round_trip = round-trip;
  translates = translates;
  reads_back = reads-back;
}
