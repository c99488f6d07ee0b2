-- What the four calls answer, proved.
use Prim.Native.Nat.{◌+◌, ℕ, ◌≤◌}
use mathlib.Core.Path.{ap, ap₂, refl, subst, sym, ◌∙◌, ◌≡◌}
use mathlib.Core.Logic.{inl, ◌↔◌, ◌⊎◌}
use mathlib.Core.Bool.{not, true}
use mathlib.Core.List.{List, [], map, ◌∷◌}
use mathlib.Core.Option.{some}
use lib.ListN.{length, take}
use native.Mathlib.Omega.{arith}
use Rattle.buffer.specs.LittleEndian.{Bytes}
use Rattle.record.specs.Answers.{Wrote, check_program, padded, too_short}
use Rattle.record.specs.declared.Header.{Header}
use Rattle.record.specs.Header.{encode_program, encode_term, ok_of}
use Rattle.record.specs.Holding.{IsProgram, ProgramIn, TermIn}
use Rattle.record.specs.Rows.{bad_buffer, finished_term, first_row, header_of, limited_program_rows, limited_term_rows, row, the_term_of, too_long}
use Rattle.rules.specs.FreeVariables.{Free, all_vars, closed, no_vars}
use Rattle.rules.specs.ReadBack.{read_back}
use Rattle.rules.specs.Replaced.{references}
use Rattle.rules.specs.Sound.{SmallValues, SoundTerm}
use Rattle.rules.specs.Substitution.{from_store, substitute}
use Rattle.rules.specs.Syntax.{Atom, Block, Term, num, tuple}
use Rattle.rules.specs.Translation.{translate}
use Rattle.record.proofs.AnswerLaws.{stored-accepted, ten-iff}
use Rattle.record.proofs.HeaderLaws.{ok-limit}
use Rattle.record.proofs.HeldLaws.{good-buffer, short-buffer}
use Rattle.record.proofs.HoldingLaws.{padded-program, passes-program, passes-term, program-checked, program-header, program-size, term-header, term_is, term-size, tuple-finished}
use Rattle.record.proofs.PaddedLaws.{length-padded}
use Rattle.record.proofs.RowLaws.{first-applies, first-none, first-skips, none_first, none-split, not-intro, or-false}
use Rattle.record.proofs.RowMeaningLaws.{finished-iff, none-iff, not_iff}
use Rattle.record.proofs.SizeLaws.{program-shorter}
use Rattle.rules.proofs.FreeVariablesLaws.{free-closed}
use Rattle.rules.proofs.ReadBackLaws.{read_back-translate, translate-read_back}
use Rattle.rules.proofs.SoundTermLaws.{sound-closed, translate-sound}
use Rattle.rules.proofs.ReplacedLaws.{replaced-references}
use Rattle.rules.proofs.SubstitutionLaws.{values-num}
use Rattle.term.specs.CallMeaning.{CallsMean, GivesBack}
use Rattle.term.specs.Calls.{Substituted, no_source, numerals, read_back_call, read_back_rows, result_call, result_rows, source_bytes, source_of, substitute_call, translate_call, translate_rows, translated}
use Rattle.term.proofs.CallLaws.{read_back-fits, read_back-long, read_back-number, read_back-roomy, reads-back, reads_none, result-first, result-number, source_is, substitute-gives, translate-fits, translate-holds, translate-length, translate-long, translate-number, translate-writes}

-- READ BACK, of a term in a buffer

module _ {hd : Header} {t : Term} {src : List ℕ} {used : ℕ} (h : TermIn all_vars hd t src used) where
  -- what translates to a term that rows 1 to 5 and 15 let through is a program
  source-program : (P : Block) → translate hd.k P ≡ t → IsProgram hd P
  source-program P e =
      let q = translate-sound (ok_of hd) (ok-limit hd) hd.k P (subst (SoundTerm (ok_of hd) hd.k all_vars) (sym e) h.sound) in
      record { variables = q.0; literals = q.1 }

  source-shorter : (P : Block) → translate hd.k P ≡ t → length (encode_program hd P) ≤ used
  source-shorter P e = omega (arith, program-shorter hd P, term-size h, ap (λ (u : Term). length (encode_term hd u)) e)

  module _ (l : length src ≤ 16384) where
    nine-iff : (no_source src used ≡ true) ↔ ((P : Block) → IsProgram hd P → translate hd.k P ≡ t → ⊥)
    unfolding no_source
    nine-iff =
        let i =
        none-iff {Q = λ P. translate hd.k P ≡ t} (source_of src used)
        (λ P q. translate-read_back hd.k t P (sym (source_is h l) ∙ q))
        (λ P p. source_is h l ∙ ap (read_back hd.k) (sym p) ∙ read_back-translate hd.k P) in
        ((λ z P p e. i.0 z P e), (λ n. i.1 (λ P e. n P (source-program P e) e)))

    module _ (out : List ℕ) (lo : length out ≤ 16384) where
      reads-program : (((read_back_call src used out).number ≡ 0) ⊎ ((read_back_call src used out).number ≡ 10)) ↔ ((P : Block) × IsProgram hd P × (translate hd.k P ≡ t))
      reads-program =
          let i = reads-back h l out lo in
          ((λ v. let q = i.0 v in (q.0, source-program q.0 q.1, q.1)), (λ q. i.1 (q.0, q.2)))

      reads-no-program : ((read_back_call src used out).number ≡ 9) ↔ ((P : Block) → IsProgram hd P → translate hd.k P ≡ t → ⊥)
      reads-no-program =
          let i = reads_none h l out lo in
          ((λ z P p e. i.0 z P e), (λ n. i.1 (λ P e. n P (source-program P e) e)))

      reads-roomy : used ≤ length out → ((read_back_call src used out).number ≡ 0) ↔ ((P : Block) × IsProgram hd P × (translate hd.k P ≡ t))
      reads-roomy f = (
        (λ z. reads-program.0 (inl z)),
        (λ q.
            let e : read_back hd.k t ≡ some q.0 = ap (read_back hd.k) (sym q.2) ∙ read_back-translate hd.k q.0 in
            ap (λ (w : Wrote). w.number) (read_back-fits h l out lo q.0 e (omega (arith, source-shorter q.0 q.2)))),
      )

-- and where it gives a program
module _ {hd : Header} (P : Block) {src : List ℕ} {used : ℕ} (h : TermIn all_vars hd (translate hd.k P) src used) (l : length src ≤ 16384)
    (out : List ℕ) (lo : length out ≤ 16384) where
  gives-back : length (encode_program hd P) ≤ length out → GivesBack hd P out (read_back_call src used out)
  gives-back f =
      let a = read_back-fits h l out lo P (read_back-translate hd.k P) f in
      let p = padded-program hd P (length out) h.header (source-program h P refl) in
      record {
        answers = a;
        holds = subst (λ (w : Wrote). ProgramIn hd P w.written w.used) (sym a) p;
        checked = subst (λ (w : Wrote). check_program w.written w.used ≡ record { number = 0; k = hd.k }) (sym a) (program-checked p (rw (length-padded (length out) (encode_program hd P) f) lo));
      }

  -- read back and translated: the same bytes
  back-again : (back : List ℕ) → length back ≤ 16384 → used ≤ length back → (read_back_call src used out).number ≡ 0
      → translate_call (read_back_call src used out).written (read_back_call src used out).used back ≡ record { number = 0; used = used; written = padded (length back) (take used src) }
  back-again back lb fb z =
      let f = read_back-roomy h l out lo P (read_back-translate hd.k P) z in
      let g = gives-back f in
      let n : length (encode_term hd (translate hd.k P)) ≡ used = sym (term-size h) in
      let low : length (read_back_call src used out).written ≤ 16384 =
      rw (ap (λ (w : Wrote). length w.written) g.answers, length-padded (length out) (encode_program hd P) f) lo in
      translate-fits g.holds low back lb (rw n fb)
      ∙ ap₂ (λ (m : ℕ) (b : List ℕ). record { number = 0; used = m; written = padded (length back) b }) n (sym h.bytes)

-- THE HEADER TRAVELS

module _ (src : List ℕ) (used : ℕ) (out : List ℕ) (hb : Bytes src) where
  travels : (translate_call src used out).number ≡ 0 → header_of (translate_call src used out).written (translate_call src used out).used ≡ header_of src used
  travels z =
      let r = first-none (translate_rows src used out) refl (sym (translate-number src used out) ∙ z) in
      let one = or-false (bad_buffer src used) (too_long out) r.0 in
      let l = (good-buffer src used one.0).low in
      let lo = short-buffer out one.1 in
      let p = (passes-program src used hb (one.0, (none-split (limited_program_rows src used []) (row 10 (too_short out (translated src used)) ∷ []) r.1).0)).1 in
      ap (λ (w : Wrote). header_of w.written w.used) (translate-writes p l out lo z) ∙ term-header (translate-holds p l out lo z)

  travels-back : (read_back_call src used out).number ≡ 0 → header_of (read_back_call src used out).written (read_back_call src used out).used ≡ header_of src used
  travels-back z =
      let hd : Header = header_of src used in
      let r = first-none (read_back_rows src used out) refl (sym (read_back-number src used out) ∙ z) in
      let one = or-false (bad_buffer src used) (too_long out) r.0 in
      let l = (good-buffer src used one.0).low in
      let lo = short-buffer out one.1 in
      let t = (passes-term src used hb (one.0, (none-split (limited_term_rows src used []) (row 9 (no_source src used) ∷ row 10 (too_short out (source_bytes src used)) ∷ []) r.1).0)).1 in
      let q = (reads-back t l out lo).0 (inl z) in
      let h : TermIn all_vars hd (translate hd.k q.0) src used = subst (λ (u : Term). TermIn all_vars hd u src used) (sym q.1) t in
      program-header (gives-back q.0 h l out lo (read_back-roomy h l out lo q.0 (read_back-translate hd.k q.0) z)).holds

-- RESULT

pub result-gives : {hd : Header} {values buf : List ℕ} {used : ℕ} (h : TermIn no_vars hd (tuple (map num values)) buf used) → length buf ≤ 16384 → (store : List ℕ) → length store ≡ hd.k
    → result_call buf used store ≡ record { number = 0; store = values }
unfolding result_call numerals
result-gives {hd} {values} {buf} {used} h l store e =
    let t : Term = tuple (map num values) in
    let z : first_row (result_rows buf used store) ≡ 0 =
    result-first h l store e
    ∙ none_first (row 7 (not (closed t)) ∷ row 8 (not (finished_term t)) ∷ [])
    (not-intro (sound-closed (ok_of hd) hd.k t h.sound), (not-intro (tuple-finished (map num values)), tt)) in
    stored-accepted (first_row (result_rows buf used store)) (numerals (the_term_of buf used)) store z
    ∙ ap (λ (v : List ℕ). record { number = 0; store = v }) (rw (term_is h l) (values-num values))

result-open : {hd : Header} {t : Term} {buf : List ℕ} {used : ℕ} (h : TermIn all_vars hd t buf used) → length buf ≤ 16384 → (store : List ℕ) → length store ≡ hd.k
    → ((x : ℕ) × Free x t) → (result_call buf used store).number ≡ 7
result-open {hd} {t} {buf} {used} h l store e f =
    result-number buf used store ∙ result-first h l store e ∙ first-applies 7 (not (closed t)) _ (ap not (free-closed t f.0 f.1))

result-unfinished : {hd : Header} {t : Term} {buf : List ℕ} {used : ℕ} (h : TermIn no_vars hd t buf used) → length buf ≤ 16384 → (store : List ℕ) → length store ≡ hd.k
    → (((l : List Atom) × (t ≡ tuple l)) → ⊥) → (result_call buf used store).number ≡ 8
result-unfinished {hd} {t} {buf} {used} h l store e n =
    result-number buf used store ∙ result-first h l store e
    ∙ first-skips 7 (not (closed t)) _ (not-intro (sound-closed (ok_of hd) hd.k t h.sound))
    ∙ first-applies 8 (not (finished_term t)) [] ((not_iff (finished_term t) (finished-iff t)).1 n)

-- TRANSLATED AND READ BACK, AND THE OTHER WAY

round-trip : {hd : Header} {P : Block} {src : List ℕ} {used : ℕ} (h : ProgramIn hd P src used) → length src ≤ 16384 → (out back : List ℕ) → length out ≤ 16384 → length back ≤ 16384
    → used ≤ length back → (translate_call src used out).number ≡ 0
    → read_back_call (translate_call src used out).written (translate_call src used out).used back ≡ record { number = 0; used = used; written = padded (length back) (take used src) }
round-trip {hd} {P} {src} {used} h l out back lo lb fb z =
    let T : List ℕ = encode_term hd (translate hd.k P) in
    let n : length (encode_program hd P) ≡ used = sym (program-size h) in
    let low : length (padded (length out) T) ≤ 16384 = rw (translate-length h l out lo z) lo in
    ap (λ (x : Wrote). read_back_call x.written x.used back) (translate-writes h l out lo z)
    ∙ read_back-fits (translate-holds h l out lo z) low back lb P (read_back-translate hd.k P) (rw n fb)
    ∙ ap₂ (λ (m : ℕ) (b : List ℕ). record { number = 0; used = m; written = padded (length back) b }) n (sym h.bytes)

round-trip-back : {hd : Header} {t : Term} {src : List ℕ} {used : ℕ} (h : TermIn all_vars hd t src used) → length src ≤ 16384 → (out back : List ℕ) → length out ≤ 16384 → length back ≤ 16384
    → used ≤ length back → (read_back_call src used out).number ≡ 0
    → translate_call (read_back_call src used out).written (read_back_call src used out).used back ≡ record { number = 0; used = used; written = padded (length back) (take used src) }
round-trip-back {hd} {t} {src} {used} h l out back lo lb fb z =
    let q = (reads-back h l out lo).0 (inl z) in
    back-again q.0 (subst (λ (u : Term). TermIn all_vars hd u src used) (sym q.1) h) l out lo back lb fb z

-- SUBSTITUTE

replaces : {hd : Header} {t : Term} {buf : List ℕ} {used : ℕ} → TermIn all_vars hd t buf used → length buf ≤ 16384 → (store : List ℕ) → length store ≡ hd.k → SmallValues (ok_of hd) store
    → references t ≡ (substitute_call buf used store).replaced + references (substitute (from_store store) t)
replaces {hd} {t} h l store e v =
    replaced-references (from_store store) t ∙ ap (λ (s : Substituted). s.replaced + references (substitute (from_store store) t)) (sym (substitute-gives h l store e v))

-- ALL OF IT

pub calls-mean : CallsMean
calls-mean = record {
  nine = λ hd t src used h l. nine-iff h l;
  ten = ten-iff;
  translates = λ hd P src used out h l lo. translate-fits h l out lo;
  translates_not = λ hd P src used out h l lo. translate-long h l out lo;
  reads_back = λ hd t src used out h l lo. reads-program h l out lo;
  reads_back_not = λ hd t src used out h l lo. reads-no-program h l out lo;
  reads_back_roomy = λ hd t src used out h l lo. reads-roomy h l out lo;
  gives_back = λ hd P src used out h l lo. gives-back P h l out lo;
  gives_back_not = λ hd P src used out h l lo. read_back-long h l out lo P (read_back-translate hd.k P);
  no_longer = λ hd P src used h. source-shorter h P refl;
  round_trip = λ hd P src used out back h l lo lb fb z. round-trip h l out back lo lb fb z;
  round_trip_back = λ hd t src used out back h l lo lb fb z. round-trip-back h l out back lo lb fb z;
  travels = travels;
  travels_back = travels-back;
  substitutes = λ hd t buf used store h l. substitute-gives h l store;
  replaces = λ hd t buf used store h l. replaces h l store;
  results = λ hd values buf used store h l. result-gives h l store;
  results_open = λ hd t buf used store h l. result-open h l store;
  results_unfinished = λ hd t buf used store h l. result-unfinished h l store;
}
