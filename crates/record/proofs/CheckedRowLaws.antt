-- A call's rows begin with the checker's: where the checker refuses, its number is the call's, and where it accepts, the rows
-- behind decide.
use Prim.Native.Nat.{ℕ, ◌≤◌}
use mathlib.Core.Path.{ap, refl, sym, ◌∙◌, ◌≡◌}
use mathlib.Core.Logic.{inl, inr, ◌⊎◌}
use mathlib.Core.Bool.{Bool, false, true}
use mathlib.Core.List.{◌++◌, List, [], ◌∷◌}
use lib.ListN.{length}
use native.Mathlib.Omega.{arith}
use Rattle.buffer.specs.LittleEndian.{Bytes}
use Rattle.rules.specs.FreeVariables.{Vars, all_vars, closed, no_vars}
use Rattle.rules.specs.Syntax.{Block, Term}
use Rattle.rules.proofs.LiteralsLaws.{sound-numerals}
use Rattle.rules.proofs.SoundTermLaws.{sound-in_range}
use Rattle.record.specs.Answers.{Checked, check_program, check_program_rows, check_term, check_term_rows}
use Rattle.record.specs.declared.Header.{Header}
use Rattle.record.specs.Header.{ok_of}
use Rattle.record.specs.Holding.{ProgramIn, TermIn}
use Rattle.record.specs.Rows.{NoRow, Row, bad_buffer, block_above, first_row, limited_program_rows, limited_term_rows, program_rows, row}
use Rattle.record.proofs.AnswerLaws.{check-program-number, check-term-number}
use Rattle.record.proofs.HeaderLaws.{ok-word}
use Rattle.record.proofs.HoldingLaws.{check-program, check-term}
use Rattle.record.proofs.RowLaws.{first-applies, first-before, first-behind, first-none, first_past, first-skips, none_first, numbered}
use Rattle.record.proofs.WordsLaws.{sound-words, words-sound}

-- BEHIND A CHECK, by the number n that it gives for row 1 and its other rows. `one` is row 1 of the call, which may look at an
-- output buffer as well (`or_right`).

module _ (bad : Bool) (rows : List Row) (n : ℕ) (first : first_row (row 1 bad ∷ rows) ≡ n) (one : Bool) (same : one ≡ bad) (more : List Row) where
  refuses : (n ≡ 0 → ⊥) → first_row (row 1 one ∷ (rows ++ more)) ≡ n
  refuses h = ap (λ (b : Bool). first_row (row 1 b ∷ (rows ++ more))) same ∙ first-before (row 1 bad ∷ rows) more (λ z. h (sym first ∙ z)) ∙ first

  accepts : numbered (row 1 bad ∷ rows) ≡ true → n ≡ 0 → first_row (row 1 one ∷ (rows ++ more)) ≡ first_row more
  accepts q z = ap (λ (b : Bool). first_row (row 1 b ∷ (rows ++ more))) same ∙ first-behind (row 1 bad ∷ rows) more (first-none (row 1 bad ∷ rows) q (first ∙ z))

-- OF A PROGRAM, by what the checker answers

module _ (buf : List ℕ) (used n k : ℕ) (answer : check_program buf used ≡ record { number = n; k = k }) where
  program-row : first_row (check_program_rows buf used) ≡ n
  program-row = sym (check-program-number buf used) ∙ ap (λ (c : Checked). c.number) answer

  pub program-refuses : (n ≡ 0 → ⊥) → (one : Bool) → one ≡ bad_buffer buf used → (more : List Row) → first_row (row 1 one ∷ limited_program_rows buf used more) ≡ n
  program-refuses h one e more = refuses (bad_buffer buf used) (limited_program_rows buf used []) n program-row one e more h

  pub program-accepts : n ≡ 0 → (one : Bool) → one ≡ bad_buffer buf used → (more : List Row) → first_row (row 1 one ∷ limited_program_rows buf used more) ≡ first_row more
  program-accepts z one e more = accepts (bad_buffer buf used) (limited_program_rows buf used []) n program-row one e more refl z

  -- WHERE ANOTHER ROW COMES BETWEEN rows 1 to 5 and row 15 (02 C-17: row 12 of the counting stepper's calls): where the number is that
  -- of one of rows 1 to 5, it is the call's; where it is 0 or 15, none of these applies, and row 15 gives it
  abbrev five : List Row
  five = row 1 (bad_buffer buf used) ∷ program_rows buf used []

  abbrev fifteen : List Row
  fifteen = row 15 (block_above buf used) ∷ []

  pub five-refuses : (n ≡ 0 → ⊥) → (n ≡ 15 → ⊥) → (more : List Row) → first_row (row 1 (bad_buffer buf used) ∷ program_rows buf used more) ≡ n
  five-refuses h g more =
      let some : first_row five ≡ 0 → ⊥ = λ z. last (block_above buf used) refl (sym (first-behind five fifteen (first-none five refl z)) ∙ program-row) in
      first-before five more some ∙ sym (first-before five fifteen some) ∙ program-row
    where
      last : (b : Bool) → block_above buf used ≡ b → first_row fifteen ≡ n → ⊥
      last true e f = g (sym f ∙ first-applies 15 (block_above buf used) [] e)
      last false e f = h (sym f ∙ first-skips 15 (block_above buf used) [] e ∙ none_first [] tt)

  pub five-accepts : (n ≡ 0) ⊎ (n ≡ 15) → NoRow five × (first_row fifteen ≡ n)
  five-accepts (inl z) = let r = first_past five fifteen 0 refl (program-row ∙ z) in (r.0, r.1 ∙ sym z)
  five-accepts (inr z) = let r = first_past five fifteen 15 refl (program-row ∙ z) in (r.0, r.1 ∙ sym z)

  -- what the buffer holds then
  pub program-accepted : n ≡ 0 → Bytes buf → (length buf ≤ 16384) × ((h : Header) × (P : Block) × (h.k ≡ k) × ProgramIn h P buf used)
  program-accepted z hb = (check-program k buf used hb).0 (answer ∙ ap (λ (m : ℕ). record { number = m; k = k }) z)

-- OF A TERM

module _ (buf : List ℕ) (used n k : ℕ) (answer : check_term buf used ≡ record { number = n; k = k }) where
  term-row : first_row (check_term_rows buf used) ≡ n
  term-row = sym (check-term-number buf used) ∙ ap (λ (c : Checked). c.number) answer

  pub term-refuses : (n ≡ 0 → ⊥) → (one : Bool) → one ≡ bad_buffer buf used → (more : List Row) → first_row (row 1 one ∷ limited_term_rows buf used more) ≡ n
  term-refuses h one e more = refuses (bad_buffer buf used) (limited_term_rows buf used []) n term-row one e more h

  pub term-accepts : n ≡ 0 → (one : Bool) → one ≡ bad_buffer buf used → (more : List Row) → first_row (row 1 one ∷ limited_term_rows buf used more) ≡ first_row more
  term-accepts z one e more = accepts (bad_buffer buf used) (limited_term_rows buf used []) n term-row one e more refl z

  pub term-accepted : n ≡ 0 → Bytes buf → (length buf ≤ 16384) × ((h : Header) × (t : Term) × (h.k ≡ k) × TermIn all_vars h t buf used)
  term-accepted z hb = (check-term k buf used hb).0 (answer ∙ ap (λ (m : ℕ). record { number = m; k = k }) z)

-- a term that row 7 lets pass
pub closed-term : {S : Vars} {h : Header} {t : Term} {buf : List ℕ} {used : ℕ} → TermIn S h t buf used → closed t ≡ true → TermIn no_vars h t buf used
unfolding closed
closed-term {S} {h} {t} p e =
    record {
      within = p.within;
      header = p.header;
      bytes = p.bytes;
      sound = words-sound (ok_of h) h.k no_vars t (sound-words (ok_of h) (ok-word h p.header) h.k S t (omega (arith, p.header.k-high)) p.sound)
          (sound-numerals (ok_of h) h.k S t p.sound) (sound-in_range (ok_of h) h.k S t p.sound) e;
    }
