-- THE REFUSALS OF THE INPUT, one law for each way out.
use Prim.Native.Nat.{◌*◌, ◌-◌, ◌<◌, ℕ, ◌≤◌}
use mathlib.Core.Path.{ap, refl, sym, ◌∙◌, ◌≡◌}
use mathlib.Core.Bool.{false, not, true}
use mathlib.Core.List.{List, [], ◌∷◌}
use borrow.Author.Tests.{eq-eqb, le-ltb, lt-ltb, ne_eqb}
use lib.Dec.{eqb, ltb}
use lib.ListN.{length, take}
use lib.Seq.{length-take-le}
use native.Mathlib.Omega.{arith}
use Rattle.buffer.specs.LittleEndian.{Bytes, val}
use Rattle.buffer.specs.Slice.{part}
use Rattle.buffer.proofs.LittleEndianLaws.{bytes_take}
use Rattle.record.specs.Answers.{Checked, check_program, check_program_rows, checked_by}
use Rattle.record.specs.declared.Header.{Header}
use Rattle.record.specs.Holding.{ProgramIn}
use Rattle.record.specs.Rows.{NoRow, Row, bad_buffer, first_row, limited_program_rows, row}
use Rattle.record.proofs.AnswerLaws.{check-program-number, check-program-refused, checked-accepted, checked_refused}
use Rattle.record.proofs.CheckedRowLaws.{program-accepted}
use Rattle.record.proofs.HeldLaws.{buffer-good}
use Rattle.record.proofs.HoldingLaws.{check-program, program-k}
use Rattle.record.proofs.RowLaws.{first-applies, first-before, first-behind, first-none, first-skips, none_first}
use Rattle.rules.specs.Syntax.{Block}
use Rattle.report.specs.Line.{input_rows, k_of_input, record_of, said_length}
use Rattle.report.specs.Reads.{RecordRead, WholeRecord}

-- The row behind the record's own.
abbrev pub row6 : List ℕ → Row
row6 input = row 6 (not (eqb (length input - said_length input) (4 * k_of_input input)))

module _ (input : List ℕ) where
  -- rows of the length
  rows-two : (more : List Row) → length input < 2 → first_row (input_rows input more) ≡ 2
  rows-two more t = first-applies 2 (ltb (length input) 2) _ (lt-ltb (length input) 2 t)

  rows_long : (more : List Row) → 2 ≤ length input → 16384 < said_length input → first_row (input_rows input more) ≡ 1
  rows_long more t l =
      first-skips 2 (ltb (length input) 2) _ (le-ltb (length input) 2 t)
      ∙ first-applies 1 (ltb 16384 (said_length input)) _ (lt-ltb 16384 (said_length input) l)

  rows_short : (more : List Row) → 2 ≤ length input → said_length input ≤ 16384 → length input < said_length input → first_row (input_rows input more) ≡ 2
  rows_short more t l s =
      first-skips 2 (ltb (length input) 2) _ (le-ltb (length input) 2 t)
      ∙ first-skips 1 (ltb 16384 (said_length input)) _ (le-ltb 16384 (said_length input) l)
      ∙ first-applies 2 (ltb (length input) (said_length input)) _ (lt-ltb (length input) (said_length input) s)

  rows_whole : (more : List Row) → WholeRecord input → first_row (input_rows input more) ≡ first_row (limited_program_rows (record_of input) (said_length input) (row6 input ∷ more))
  rows_whole more w =
      first-skips 2 (ltb (length input) 2) _ (le-ltb (length input) 2 w.two)
      ∙ first-skips 1 (ltb 16384 (said_length input)) _ (le-ltb 16384 (said_length input) w.fits)
      ∙ first-skips 2 (ltb (length input) (said_length input)) _ (le-ltb (length input) (said_length input) w.there)

  -- rows of the record
  module _ (w : WholeRecord input) where
    record-size : length (record_of input) ≡ said_length input
    record-size = length-take-le (said_length input) input w.there

    pub record-buffer : bad_buffer (record_of input) (said_length input) ≡ false
    record-buffer =
        buffer-good (record_of input) (said_length input) record { low = omega (arith, record-size, w.fits); within = omega (arith, record-size) }

    checked-rows : first_row (check_program_rows (record_of input) (said_length input)) ≡ first_row (limited_program_rows (record_of input) (said_length input) [])
    checked-rows = first-skips 1 (bad_buffer (record_of input) (said_length input)) _ record-buffer

    rows-checked : (more : List Row) → (first_row (check_program_rows (record_of input) (said_length input)) ≡ 0 → ⊥)
        → first_row (input_rows input more) ≡ first_row (check_program_rows (record_of input) (said_length input))
    rows-checked more n =
        rows_whole more w
        ∙ first-before (limited_program_rows (record_of input) (said_length input) []) (row6 input ∷ more) (λ z. n (checked-rows ∙ z))
        ∙ sym checked-rows

    pub rows_behind : (more : List Row) → NoRow (check_program_rows (record_of input) (said_length input)) → first_row (input_rows input more) ≡ first_row (row6 input ∷ more)
    rows_behind more r =
        rows_whole more w
        ∙ first-behind (limited_program_rows (record_of input) (said_length input) []) (row6 input ∷ more) r.1

-- WHAT THE CODE ANSWERS

-- Whatever the input, the checker accepts at most 16 values.
pub checked-k : (a : List ℕ) (s : ℕ) → Bytes a → (c : Checked) → c ≡ check_program (take s a) s → c.number ≡ 0 → c.k ≤ 16
checked-k a s b c e z =
    let p = (program-accepted (take s a) s c.number c.k (sym e) z (bytes_take s a b)).1 in
    omega (arith, p.2, p.3.header.k-high)

-- A refusal says nothing of what is accepted.
pub not-accepted : {P : Type 0} (n : ℕ) (c : Checked) → c ≡ record { number = n; k = 0 } → (n ≡ 0 → ⊥) → c.number ≡ 0 → P
not-accepted n c e z y = absurd (z (sym (ap (λ (d : Checked). d.number) e) ∙ y))

abbrev pub InputChecked : List ℕ → Checked → Type 0
InputChecked input c = c ≡ checked_by (first_row (input_rows input [])) (k_of_input input)

module _ (input a : List ℕ) (total : ℕ) (h : RecordRead input a total) where
  refuses : (n : ℕ) (c : Checked) → c ≡ record { number = n; k = 0 } → (n ≡ 0 → ⊥) → first_row (input_rows input []) ≡ n → InputChecked input c
  refuses n c e z f = e ∙ sym (checked_refused n (k_of_input input) z) ∙ ap (λ (m : ℕ). checked_by m (k_of_input input)) (sym f)

  pub said_read : (s : ℕ) → 2 ≤ total → s ≡ val (part a 0 2) → s ≡ said_length input
  unfolding part
  said_read s t e = e ∙ ap val (h.first (omega (arith, h.counted)))

  pub under-two : (c : Checked) → c ≡ record { number = 2; k = 0 } → total < 2 → InputChecked input c
  under-two c e t = refuses 2 c e (λ z. omega arith) (rows-two input [] (omega (arith, h.counted)))

  pub said-long : (c : Checked) (s : ℕ) → c ≡ record { number = 1; k = 0 } → 2 ≤ total → s ≡ val (part a 0 2) → 16384 < s → InputChecked input c
  said-long c s e t v l =
      let q = said_read s t v in
      refuses 1 c e (λ z. omega arith) (rows_long input [] (omega (arith, h.counted)) (omega arith))

  pub said_more : (c : Checked) (s : ℕ) → c ≡ record { number = 2; k = 0 } → 2 ≤ total → s ≡ val (part a 0 2) → s ≤ 16384 → total < s → InputChecked input c
  said_more c s e t v l m =
      let q = said_read s t v in
      refuses 2 c e (λ z. omega arith) (rows_short input [] (omega (arith, h.counted)) (omega arith) (omega (arith, h.counted)))

  pub whole-read : (s : ℕ) → 2 ≤ total → s ≡ val (part a 0 2) → s ≤ 16384 → s ≤ total → WholeRecord input
  whole-read s t v l m =
      let q = said_read s t v in
      record { two = omega (arith, h.counted); fits = omega arith; there = omega (arith, h.counted) }

  pub record-read : (s : ℕ) → 2 ≤ total → s ≡ val (part a 0 2) → s ≤ 16384 → s ≤ total → check_program (take s a) s ≡ check_program (record_of input) (said_length input)
  record-read s t v l m =
      let q = said_read s t v in
      let r : take s a ≡ record_of input = ap (λ (n : ℕ). take n a) q ∙ h.whole (whole-read s t v l m) in
      ap (λ (b : List ℕ). check_program b s) r ∙ ap (check_program (record_of input)) q

  module _ (w : WholeRecord input) (c : Checked) (e : c ≡ check_program (record_of input) (said_length input)) where
    checked-number : c.number ≡ first_row (check_program_rows (record_of input) (said_length input))
    checked-number = ap (λ (d : Checked). d.number) e ∙ check-program-number (record_of input) (said_length input)

    pub check-refuses : (c.number ≡ 0 → ⊥) → InputChecked input c
    check-refuses n =
        let z : first_row (check_program_rows (record_of input) (said_length input)) ≡ 0 → ⊥ = λ z. n (checked-number ∙ z) in
        refuses (first_row (check_program_rows (record_of input) (said_length input))) c (e ∙ check-program-refused (record_of input) (said_length input) z) z (rows-checked input w [] z)

    module _ (z : c.number ≡ 0) where
      no_row : NoRow (check_program_rows (record_of input) (said_length input))
      no_row = first-none (check_program_rows (record_of input) (said_length input)) refl (sym checked-number ∙ z)

      held : (hd : Header) × (P : Block) × (hd.k ≡ c.k) × ProgramIn hd P (record_of input) (said_length input)
      held =
          ((check-program c.k (record_of input) (said_length input) (bytes_take (said_length input) input h.bytes)).0
          (sym e ∙ ap (λ (n : ℕ). record { number = n; k = c.k }) z)).1

      pub held-k : k_of_input input ≡ c.k
      held-k = program-k held.3 ∙ held.2

      pub rest-refuses : (d : Checked) (s : ℕ) → d ≡ record { number = 6; k = 0 } → s ≡ said_length input → (total - s ≡ 4 * c.k → ⊥) → InputChecked input d
      rest-refuses d s f q n =
          let t : eqb (length input - said_length input) (4 * k_of_input input) ≡ false =
          ne_eqb (length input - said_length input) (4 * k_of_input input) (λ y. n (omega (arith, h.counted, held-k, y))) in
          refuses 6 d f (λ y. omega arith) (rows_behind input w [] no_row ∙ first-applies 6 (row6 input).applies [] (ap not t))

      pub input-accepted : (s : ℕ) → s ≡ said_length input → total - s ≡ 4 * c.k → InputChecked input c
      input-accepted s q n =
          let t : eqb (length input - said_length input) (4 * k_of_input input) ≡ true =
          eq-eqb (length input - said_length input) (4 * k_of_input input) (omega (arith, h.counted, held-k)) in
          let f : first_row (input_rows input []) ≡ 0 = rows_behind input w [] no_row ∙ first-skips 6 (row6 input).applies [] (ap not t) ∙ none_first [] tt in
          ap (λ (n : ℕ). record { number = n; k = c.k }) z ∙ ap (λ (k : ℕ). record { number = 0; k = k }) (sym held-k)
          ∙ sym (checked-accepted (first_row (input_rows input [])) (k_of_input input) f)
