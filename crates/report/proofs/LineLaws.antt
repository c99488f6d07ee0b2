-- THE LINE, by what the calls answer.
use Prim.Native.Nat.{◌*◌, ◌+◌, ◌-◌, suc, zero, ℕ, ◌≤◌}
use mathlib.Core.Path.{ap, refl, subst, sym, ◌∙◌, ◌≡◌}
use mathlib.Core.Bool.{Bool, false, not, true, ◌||◌}
use mathlib.Core.List.{◌++◌, List, [], ◌∷◌, append-nil}
use borrow.Author.Tests.{eq-eqb, eqb-true, ltb-false, not-false}
use lib.Dec.{eqb}
use lib.ListN.{drop, length, length-drop, length-replicate, length-take, replicate, take}
use lib.Seq.{drop-length, length-take-le, take-take}
use native.Mathlib.Omega.{arith}
use Rattle.buffer.specs.LittleEndian.{val}
use Rattle.buffer.specs.Slice.{part, put, zeros}
use Rattle.buffer.proofs.SliceLaws.{length-zeros}
use Rattle.record.specs.Answers.{Checked, Wrote, check_program_rows, padded, too_short}
use Rattle.record.specs.declared.Header.{Header}
use Rattle.record.specs.Header.{contents_at, header_in, largest_of, program}
use Rattle.record.specs.Rows.{NoRow, Row, bad_buffer, first_row, header_of, limited_program_rows, row, too_long, values_above}
use Rattle.record.proofs.AnswerLaws.{checked-accepted, checked-number, short-same, wrote-accepted}
use Rattle.record.proofs.PaddedLaws.{padded-zeros}
use Rattle.record.proofs.HeldLaws.{good-header, header_at, not-long, values-read}
use Rattle.record.proofs.HoldingLaws.{passed-k, passed_length}
use Rattle.record.proofs.RowLaws.{first-applies, first-before, first-behind, first-none, first-skips, none-split, or-intro}
use Rattle.rules.specs.Literals.{small_values}
use Rattle.rules.specs.Store.{up_to}
use Rattle.reducer.specs.RunReducer.{run_reducer}
use Rattle.std.proofs.Common.{Result, Ok, Err}
use Rattle.record.specs.declared.refusal.Refusal.{Refusal}
use Rattle.term.specs.Answer.{substituted_of}
use Rattle.term.specs.declared.substitute.Filled.{Filled}
use Rattle.run.specs.RunAnswer.{RunAnswer}
use Rattle.stepper.specs.RunStepper.{run_stepper}
use Rattle.term.specs.Calls.{Substituted, substitute_call, translate_call, translate_rows, translated}
use Rattle.term.proofs.CallLaws.{translate-number}
use Rattle.print.specs.Words.{ran_line, refused_line}
use Rattle.report.specs.Line.{input_rows, k_of_input, line, line_by, line_rows, program_budget, program_buffer, record_of, reducer_from, reducer_run, runs_line, said_length, stepper_run, store_of, substituted_from, term_of_input, values_in}
use Rattle.report.specs.Reads.{Reads, WholeRecord}
use Rattle.report.proofs.InputLaws.{values-within}
use Rattle.report.proofs.InputRowsLaws.{InputChecked, record-buffer, row6, rows_behind, said_read}

-- The rows behind those of the input alone.
abbrev last_rows : List ℕ → List Row
last_rows input = row 16 (values_above (record_of input) (said_length input) (store_of input)) ∷ row 10 (too_short (replicate program_buffer 0) (translated (record_of input) (said_length input))) ∷ []

blank : length (replicate {A = ℕ} program_buffer 0) ≡ program_buffer
blank = length-replicate {A = ℕ} program_buffer 0

-- the two kinds of line
line_refused : (input : List ℕ) (n : ℕ) → first_row (line_rows input) ≡ n → (n ≡ 0 → ⊥) → line input ≡ refused_line n
unfolding line line_by
line_refused input n e z = ap (λ (m : ℕ). line_by m input) e ∙ go n z
  where
    go : (n : ℕ) → (n ≡ 0 → ⊥) → line_by n input ≡ refused_line n
    go zero z = absurd (z refl)
    go (suc n) z = refl

line-ran : (input : List ℕ) → first_row (line_rows input) ≡ 0 → line input ≡ runs_line (stepper_run input) (reducer_run input)
unfolding line line_by
line-ran input e = rw e refl

-- A translation that is accepted depends on the output buffer's length alone.
translate-same : (src : List ℕ) (used : ℕ) (out other : List ℕ) → length out ≡ length other → (translate_call src used out).number ≡ 0 → (translate_call src used other).number ≡ 0
    → translate_call src used out ≡ translate_call src used other
unfolding translate_call
translate-same src used out other e y z =
    wrote-accepted (first_row (translate_rows src used out)) (translated src used) out (sym (translate-number src used out) ∙ y)
    ∙ ap (λ (n : ℕ). record { number = 0; used = length (translated src used); written = padded n (translated src used) }) e
    ∙ sym (wrote-accepted (first_row (translate_rows src used other)) (translated src used) other (sym (translate-number src used other) ∙ z))

-- What the calls answer, each given what the one before it left.
pub runs-answer : (a : List ℕ) (said : ℕ) (b : List ℕ) (used : ℕ) (store after : List ℕ) (filled : Substituted) (s r : RunAnswer)
    → filled ≡ substitute_call b used store
    → s ≡ (run_stepper a said store program_budget).answer → after ≡ (run_stepper a said store program_budget).store
    → r ≡ (run_reducer filled.written filled.used program_budget).answer
    → ran_line s r after ≡ runs_line (run_stepper a said store program_budget) (reducer_from (substitute_call b used store))
unfolding reducer_from
runs-answer a said b used store after filled s r f g i j = rw (g, i, j, f) refl

-- The line of two runs is by their outcomes and steps.
pub shown-alike : (s s' r r' : RunAnswer) (store : List ℕ) → s.outcome ≡ s'.outcome → s.steps ≡ s'.steps → r.outcome ≡ r'.outcome → r.steps ≡ r'.steps → ran_line s r store ≡ ran_line s' r' store
unfolding ran_line
shown-alike s s' r r' store a b c d = rw (a, b, c, d) refl

-- The buffer that substituting left, refused or not.
pub substituted-written : (answer : Result Filled Refusal) (buf : List ℕ) → (substituted_of answer buf).written ≡ buf
substituted-written (Ok filled) buf = refl
substituted-written (Err refusal) buf = refl

-- the first k of the program's 16 values
abbrev pub no_values : List ℕ
no_values = 0 ∷ 0 ∷ 0 ∷ 0 ∷ 0 ∷ 0 ∷ 0 ∷ 0 ∷ 0 ∷ 0 ∷ 0 ∷ 0 ∷ 0 ∷ 0 ∷ 0 ∷ 0 ∷ []

pub values-made : (k : ℕ) → k ≤ 16 → length (take k no_values) ≡ k
values-made k h = length-take-le k no_values h

-- WHAT AN ACCEPTED INPUT IS

pub record Accepted (input : List ℕ) (k : ℕ) : Type 0 where
  pub whole : WholeRecord input
  pub rows : NoRow (check_program_rows (record_of input) (said_length input))
  pub is-k : k_of_input input ≡ k
  pub low : k ≤ 16
  pub rest : length input - said_length input ≡ 4 * k

pub input-refused : (input : List ℕ) (c : Checked) → InputChecked input c → (c.number ≡ 0 → ⊥) → line input ≡ refused_line c.number
input-refused input c e z =
    let n : first_row (input_rows input []) ≡ c.number =
    sym (checked-number (first_row (input_rows input [])) (k_of_input input)) ∙ sym (ap (λ (d : Checked). d.number) e) in
    line_refused input c.number (first-before (input_rows input []) (last_rows input) (λ y. z (sym n ∙ y)) ∙ n) z

pub input-passes : (input : List ℕ) (c : Checked) → InputChecked input c → c.number ≡ 0 → Accepted input c.k
input-passes input c e z =
    let n : first_row (input_rows input []) ≡ 0 =
    sym (checked-number (first_row (input_rows input [])) (k_of_input input)) ∙ sym (ap (λ (d : Checked). d.number) e) ∙ z in
    let r = first-none (input_rows input []) refl n in
    let w : WholeRecord input = record { two = ltb-false (length input) 2 r.0; fits = ltb-false 16384 (said_length input) r.1.0; there = ltb-false (length input) (said_length input) r.1.1.0 } in
    let k : k_of_input input ≡ c.k = sym (ap (λ (d : Checked). d.k) (e ∙ checked-accepted (first_row (input_rows input [])) (k_of_input input) n)) in
    let v = none-split (limited_program_rows (record_of input) (said_length input) []) (row6 input ∷ []) r.1.1.1 in
    let rows : NoRow (check_program_rows (record_of input) (said_length input)) = (record-buffer input w, v.0) in
    let q = eqb-true (length input - said_length input) (4 * k_of_input input) (not-false (eqb (length input - said_length input) (4 * k_of_input input)) v.1.0) in
    record {
      whole = w;
      rows = rows;
      is-k = k;
      low = omega (arith, passed-k (record_of input) (said_length input) rows);
      rest = q ∙ ap (λ (j : ℕ). 4 * j) k;
    }

-- AN ACCEPTED INPUT'S LINE. s is the length read, a's first bytes are the record.

module _ {input a b behind : List ℕ} {total : ℕ} (h : Reads input a b behind total) {k : ℕ} (p : Accepted input k) where
  pub said-is : (s : ℕ) → s ≡ val (part a 0 2) → s ≡ said_length input
  said-is s e = said_read input a total h.lead s (omega (arith, h.lead.counted, p.whole.two)) e

  said_fits : said_length input ≤ length a
  unfolding program_buffer
  said_fits = omega (arith, h.lead.size, p.whole.fits)

  -- the term is the last row
  translation-rows : (out : List ℕ) → length out ≤ 16384
      → first_row (translate_rows (record_of input) (said_length input) out) ≡ first_row (row 10 (too_short out (translated (record_of input) (said_length input))) ∷ [])
  translation-rows out l =
      first-behind (row 1 (bad_buffer (record_of input) (said_length input) || too_long out) ∷ limited_program_rows (record_of input) (said_length input) []) _
      (or-intro p.rows.0 (not-long out l), p.rows.1)

  last-rows : first_row (line_rows input) ≡ first_row (last_rows input)
  last-rows =
      let t : eqb (length input - said_length input) (4 * k_of_input input) ≡ true =
      eq-eqb (length input - said_length input) (4 * k_of_input input) (p.rest ∙ ap (λ (j : ℕ). 4 * j) (sym p.is-k)) in
      rows_behind input p.whole _ p.rows ∙ first-skips 6 (row6 input).applies _ (ap not t)

  -- the header as code reads it
  header_is : (hd : Header) → hd ≡ header_in a → header_of (record_of input) (said_length input) ≡ hd
  header_is hd e =
      let there : take (said_length input) a ≡ record_of input = h.lead.whole p.whole in
      let same : header_of (record_of input) (said_length input) ≡ header_of a (said_length input) =
      ap header_in (take-take (said_length input) (said_length input) input (omega arith) ∙ sym there) in
      let start = (good-header program (record_of input) (said_length input) p.rows.1.0).start in
      same ∙ header_at a (said_length input) (subst (λ (x : Header). contents_at x ≤ said_length input) same start) ∙ sym e

  -- the values
  behind-is : behind ≡ take 65 (drop (said_length input) input)
  behind-is = h.values p.whole (omega (arith, passed_length (record_of input) (said_length input) p.rows))

  pub values-there : 4 * k ≤ length behind
  values-there =
      let d = length-drop (said_length input) input in
      let t = length-take 65 (drop (said_length input) input) in
      let e : length behind ≡ length (take 65 (drop (said_length input) input)) = ap (length {A = ℕ}) behind-is in
      omega (arith, p.rest, p.low)

  store_is : values_in k behind ≡ store_of input
  store_is =
      ap (values_in k) behind-is ∙ values-within k 65 (drop (said_length input) input) (omega (arith, p.low))
      ∙ ap (λ (n : ℕ). values_in n (drop (said_length input) input)) (sym p.is-k)

  -- the store that code reads them to, which has k values
  pub store-read : (store : List ℕ) → store ≡ values_in (length (take k no_values)) behind → store ≡ store_of input
  store-read store e = e ∙ ap (λ (n : ℕ). values_in n behind) (values-made k p.low) ∙ store_is

  -- row 16, by what is read of the header and of the values
  module _ (hd : Header) (e : hd ≡ header_in a) (largest : ℕ) (limits : largest ≡ largest_of hd) (store : List ℕ) (r : store ≡ store_of input) (above : Bool) (tells : above ≡ not (small_values (up_to largest) store)) where
    values-as : values_above (record_of input) (said_length input) (store_of input) ≡ above
    values-as =
        values-read (record_of input) (said_length input) hd (header_is hd e) largest limits (store_of input) above
        (tells ∙ ap (λ (vs : List ℕ). not (small_values (up_to largest) vs)) r)

    pub values-refused : above ≡ true → line input ≡ refused_line 16
    values-refused t = line_refused input 16 (last-rows ∙ first-applies 16 (values_above (record_of input) (said_length input) (store_of input)) _ (values-as ∙ t)) (λ z. omega arith)

    pub values-fit : above ≡ false → values_above (record_of input) (said_length input) (store_of input) ≡ false
    values-fit f = values-as ∙ f

-- AN ACCEPTED INPUT WHOSE VALUES FIT

module _ {input a b behind : List ℕ} {total : ℕ} (h : Reads input a b behind total) {k : ℕ} (p : Accepted input k)
    (fits : values_above (record_of input) (said_length input) (store_of input) ≡ false) where
  last_row : first_row (line_rows input) ≡ first_row (row 10 (too_short (replicate program_buffer 0) (translated (record_of input) (said_length input))) ∷ [])
  last_row = last-rows h p ∙ first-skips 16 (values_above (record_of input) (said_length input) (store_of input)) _ fits

  line-number : (out : List ℕ) → length out ≡ program_buffer → first_row (line_rows input) ≡ (translate_call (record_of input) (said_length input) out).number
  unfolding program_buffer
  line-number out e =
      last_row
      ∙ ap (λ (t : Bool). first_row (row 10 t ∷ [])) (short-same (replicate program_buffer 0) out (translated (record_of input) (said_length input)) (blank ∙ sym e))
      ∙ sym (translation-rows h p out (omega arith)) ∙ sym (translate-number (record_of input) (said_length input) out)

  -- what the calls are given
  module _ (s : ℕ) (q : s ≡ said_length input) where
    translate-record : translate_call (take s a) s b ≡ translate_call (record_of input) (said_length input) b
    translate-record =
        let r : take s a ≡ record_of input = ap (λ (n : ℕ). take n a) q ∙ h.lead.whole p.whole in
        ap (λ (l : List ℕ). translate_call l s b) r ∙ ap (λ (n : ℕ). translate_call (record_of input) n b) q

    pub translate-refuses : (t : Wrote) → t ≡ translate_call (take s a) s b → (t.number ≡ 0 → ⊥) → line input ≡ refused_line t.number
    translate-refuses t e z =
        line_refused input t.number (line-number b h.room ∙ ap (λ (u : Wrote). u.number) (sym (e ∙ translate-record))) z

    term_is : (t : Wrote) → t ≡ translate_call (take s a) s b → t.number ≡ 0 → t ≡ term_of_input input
    term_is t e z =
        let f : t ≡ translate_call (record_of input) (said_length input) b = e ∙ translate-record in
        let y : (translate_call (record_of input) (said_length input) b).number ≡ 0 = sym (ap (λ (u : Wrote). u.number) f) ∙ z in
        let n = blank in
        f ∙ translate-same (record_of input) (said_length input) b (replicate program_buffer 0) (h.room ∙ sym n) y
        (sym (line-number (replicate program_buffer 0) n) ∙ line-number b h.room ∙ y)

    -- the stepper's buffer once the bytes behind the record are zero
    buffer-is : (a₁ : List ℕ) → a₁ ≡ put a s (zeros (length a - s)) → a₁ ≡ padded program_buffer (record_of input)
    unfolding put
    buffer-is a₁ e =
        let n : ℕ = length a - s in
        let z = length-zeros n in
        let room = said_fits h p in
        let i : s + length (zeros n) ≡ length a = omega arith in
        let d : drop (s + length (zeros n)) a ≡ [] = ap (λ (j : ℕ). drop j a) i ∙ drop-length a in
        let r : take s a ≡ record_of input = ap (λ (j : ℕ). take j a) q ∙ h.lead.whole p.whole in
        let l : length (record_of input) ≡ said_length input = length-take-le (said_length input) input p.whole.there in
        let m : program_buffer - length (record_of input) ≡ n = omega (arith, h.lead.size) in
        e ∙ ap (λ (x : List ℕ). take s a ++ (zeros n ++ x)) d ∙ ap (λ (x : List ℕ). take s a ++ x) (append-nil (zeros n))
        ∙ ap (λ (x : List ℕ). x ++ zeros n) r ∙ sym (padded-zeros program_buffer n (record_of input) m)

  pub runs-line : (s : ℕ) → s ≡ said_length input → (t : Wrote) → t ≡ translate_call (take s a) s b → t.number ≡ 0
      → (a₁ : List ℕ) → a₁ ≡ put a s (zeros (length a - s)) → (store : List ℕ) → store ≡ store_of input
      → runs_line (run_stepper a₁ s store program_budget) (reducer_from (substitute_call t.written t.used store)) ≡ line input
  unfolding stepper_run reducer_run substituted_from
  runs-line s q t e z a₁ f store r =
      rw (buffer-is s q a₁ f, r, q, term_is s q t e z) (sym (line-ran input (line-number b h.room ∙ ap (λ (u : Wrote). u.number) (sym (e ∙ translate-record s q)) ∙ z)))
