-- Rows 1 to 5 and 15 by what code reads: one law for each way out of a check.
use Prim.Native.Nat.{◌<◌, ℕ, ◌≤◌}
use mathlib.Core.Path.{◌≡◌, ap, refl, sym, ◌∙◌}
use mathlib.Core.Logic.{inl, inr, ◌⊎◌}
use mathlib.Core.Bool.{Bool, false, not, true}
use mathlib.Core.List.{List, [], ◌∷◌}
use mathlib.Core.Option.{Option, none, some}
use borrow.Author.Tests.{ltb-false, ltb-true}
use lib.Dec.{ltb}
use lib.ListN.{take}
use native.Mathlib.Omega.{arith}
use Rattle.rules.specs.Literals.{literals_in, numerals_in, small_values}
use Rattle.rules.specs.Store.{up_to}
use Rattle.rules.specs.Scope.{Within, block_in_range, term_in_range}
use Rattle.record.specs.Answers.{check_program, check_term, checked_by}
use Rattle.record.specs.Front.{u16}
use Rattle.record.specs.declared.Header.{Header}
use Rattle.record.specs.declared.Sort.{Sort}
use Rattle.record.specs.Header.{block_in, contents_at, header_in, kind_field, kind_of, largest_of, length_field, ok_of, program, term, term_in}
use Rattle.record.specs.HeaderRows.{contents_row, header_row, range_row}
use Rattle.record.specs.Rows.{NoRow, Row, bad_block, bad_buffer, bad_header, bad_k, bad_term, block_above, block_of, block_outside, first_row, header_of, header_rows, holds, is_none, k_of, pick_row, row, term_above, term_of, term_outside}
use Rattle.record.proofs.AnswerLaws.{checked_refused}
use Rattle.record.proofs.BetweenLaws.{between}
use Rattle.record.proofs.HeaderLaws.{contents_at-low}
use Rattle.record.proofs.HeldLaws.{at-start, contents-at, good-header, header_at, header-good, k-at, k-good, kind_at, length_at, start-at}
use Rattle.record.proofs.RowLaws.{first-applies, first-before, first-behind, first-none, first-skips}
use Rattle.record.proofs.RowMeaningLaws.{header-bad, rows-mean}

-- ROWS 2 AND 3

module _ (s : Sort) (buf : List ℕ) (used : ℕ) where
  header-two : ((used < contents_at (header_of buf used)) ⊎ ((kind_field (take used buf) ≡ kind_of s (header_of buf used) → ⊥) ⊎ (length_field (take used buf) ≡ used → ⊥))) → header_row s buf used ≡ 2
  unfolding header_row
  header-two h = first-applies 2 (bad_header s buf used) _ ((header-bad s buf used).1 h)

  pub header-cut : used < contents_at (header_in buf) → header_row s buf used ≡ 2
  header-cut h = header-two (inl (go (ltb used (contents_at (header_of buf used))) refl))
    where
      go : (b : Bool) → ltb used (contents_at (header_of buf used)) ≡ b → used < contents_at (header_of buf used)
      go true e = ltb-true used (contents_at (header_of buf used)) e
      go false e = absurd (omega (arith, h, at-start buf used (ltb-false used (contents_at (header_of buf used)) e)))

  module _ (whole : contents_at (header_in buf) ≤ used) where
    start : contents_at (header_of buf used) ≤ used
    start = start-at buf used whole

    eight : 8 ≤ used
    eight = omega (arith, start, contents_at-low (header_of buf used))

    pub header-kind : (u16 buf 2 ≡ kind_of s (header_in buf) → ⊥) → header_row s buf used ≡ 2
    header-kind h = header-two (inr (inl (λ e. h (sym (kind_at buf used (omega (arith, eight))) ∙ e ∙ ap (kind_of s) (header_at buf used start)))))

    pub header-length : (u16 buf 0 ≡ used → ⊥) → header_row s buf used ≡ 2
    header-length h = header-two (inr (inr (λ e. h (sym (length_at buf used (omega (arith, eight))) ∙ e))))

    module _ (is-kind : u16 buf 2 ≡ kind_of s (header_in buf)) (is-length : u16 buf 0 ≡ used) where
      skip-two : (more : List Row) → first_row (header_rows s buf used more) ≡ first_row (row 3 (bad_k buf used) ∷ more)
      skip-two more =
          first-skips 2 (bad_header s buf used) _
          (header-good s buf used (record {
            start = start;
            is-kind = kind_at buf used (omega (arith, eight)) ∙ is-kind ∙ ap (kind_of s) (sym (header_at buf used start));
            is-length = length_at buf used (omega (arith, eight)) ∙ is-length;
          }))

      pub header-three : (Within 16 (header_in buf).k → ⊥) → header_row s buf used ≡ 3
      unfolding header_row
      header-three h = skip-two [] ∙ first-applies 3 (bad_k buf used) [] ((rows-mean.three buf used).1 (rw (k-at buf used eight) h))

      pub header-none : 1 ≤ (header_in buf).k → (header_in buf).k ≤ 16 → header_row s buf used ≡ 0
      unfolding header_row first_row
      header-none a b = skip-two [] ∙ first-skips 3 (bad_k buf used) [] (k-good buf used (rw (k-at buf used eight) a) (rw (k-at buf used eight) b))

  -- what is known where neither applies
  header-pass : header_row s buf used ≡ 0 → NoRow (header_rows s buf used [])
  unfolding header_row
  header-pass e = first-none (header_rows s buf used []) refl e

  header-start : header_row s buf used ≡ 0 → contents_at (header_of buf used) ≤ used
  header-start e = (good-header s buf used (header-pass e).0).start

  header_is : header_row s buf used ≡ 0 → header_of buf used ≡ header_in buf
  header_is e = header_at buf used (header-start e)

  pub header-room : header_row s buf used ≡ 0 → contents_at (header_in buf) ≤ used
  header-room e = at-start buf used (header-start e)

-- ROWS 4, 5 AND 15

rows-contents : {A : Type 0} (p q : A → Bool) (o : Option A)
    → first_row (row 4 (is_none o) ∷ row 5 (holds (λ t. not (p t)) o) ∷ row 15 (holds (λ t. not (q t)) o) ∷ []) ≡ contents_row p q o
unfolding first_row pick_row is_none holds
rows-contents p q none = refl
rows-contents p q (some a) = go (p a) (q a)
  where
    go : (b c : Bool) → pick_row (not b) 5 (pick_row (not c) 15 0) ≡ range_row b c
    go true true = refl
    go true false = refl
    go false true = refl
    go false false = refl

-- THE CHECKS: row 1 decides, or the header, or what the record holds

module _ (buf : List ℕ) (used : ℕ) (more : List Row) where
  rows-one : (k : ℕ) → bad_buffer buf used ≡ true → checked_by (first_row (row 1 (bad_buffer buf used) ∷ more)) k ≡ checked_by 1 0
  rows-one k b =
      ap (λ (m : ℕ). checked_by m k) (first-applies 1 (bad_buffer buf used) more b) ∙ checked_refused 1 k (λ z. omega arith) ∙ sym (checked_refused 1 0 (λ z. omega arith))

  module _ (s : Sort) (fine : bad_buffer buf used ≡ false) where
    rows-header : (k : ℕ) → (header_row s buf used ≡ 0 → ⊥) → checked_by (first_row (row 1 (bad_buffer buf used) ∷ header_rows s buf used more)) k ≡ checked_by (header_row s buf used) 0
    unfolding header_row
    rows-header k h =
        let n : ℕ = first_row (header_rows s buf used []) in
        ap (λ (m : ℕ). checked_by m k) (first-skips 1 (bad_buffer buf used) _ fine ∙ first-before (header_rows s buf used []) more h) ∙ checked_refused n k h ∙ sym (checked_refused n 0 h)

    rows-after : header_row s buf used ≡ 0 → first_row (row 1 (bad_buffer buf used) ∷ header_rows s buf used more) ≡ first_row more
    rows-after e = first-skips 1 (bad_buffer buf used) _ fine ∙ first-behind (header_rows s buf used []) more (header-pass s buf used e)

module _ (buf : List ℕ) (used : ℕ) where
  pub check-program-one : bad_buffer buf used ≡ true → check_program buf used ≡ checked_by 1 0
  unfolding check_program
  check-program-one b = rows-one buf used _ (k_of buf used) b

  pub check-term-one : bad_buffer buf used ≡ true → check_term buf used ≡ checked_by 1 0
  unfolding check_term
  check-term-one b = rows-one buf used _ (k_of buf used) b

  module _ (fine : bad_buffer buf used ≡ false) where
    pub check-program-header : (header_row program buf used ≡ 0 → ⊥) → check_program buf used ≡ checked_by (header_row program buf used) 0
    unfolding check_program
    check-program-header h = rows-header buf used _ program fine (k_of buf used) h

    pub check-program-contents : header_row program buf used ≡ 0 → (h : Header) → h ≡ header_in buf → (start : ℕ) → start ≡ contents_at h → (largest : ℕ) → largest ≡ largest_of h
        → check_program buf used ≡ checked_by (contents_row (block_in_range h.k) (λ t. small_values (up_to largest) (literals_in t)) (block_in (between buf start used))) h.k
    unfolding check_program bad_block block_outside block_above
    check-program-contents e h is start starts largest limits =
        rw (rows-after buf used _ program fine e, rows-contents (block_in_range (k_of buf used)) (λ t. small_values (ok_of (header_of buf used)) (literals_in t)) (block_of buf used), contents-at buf used, starts, limits)
        (ap (λ (x : Header). checked_by (contents_row (block_in_range x.k) (λ t. small_values (ok_of x) (literals_in t)) (block_in (between buf (contents_at x) used))) x.k) (header_is program buf used e ∙ sym is))

    pub check-term-header : (header_row term buf used ≡ 0 → ⊥) → check_term buf used ≡ checked_by (header_row term buf used) 0
    unfolding check_term
    check-term-header h = rows-header buf used _ term fine (k_of buf used) h

    pub check-term-contents : header_row term buf used ≡ 0 → (h : Header) → h ≡ header_in buf → (start : ℕ) → start ≡ contents_at h → (largest : ℕ) → largest ≡ largest_of h
        → check_term buf used ≡ checked_by (contents_row (term_in_range h.k) (λ t. small_values (up_to largest) (numerals_in t)) (term_in h.k (between buf start used))) h.k
    unfolding check_term bad_term term_outside term_above
    check-term-contents e h is start starts largest limits =
        rw (rows-after buf used _ term fine e, rows-contents (term_in_range (k_of buf used)) (λ t. small_values (ok_of (header_of buf used)) (numerals_in t)) (term_of buf used), contents-at buf used, starts, limits)
        (ap (λ (x : Header). checked_by (contents_row (term_in_range x.k) (λ t. small_values (ok_of x) (numerals_in t)) (term_in x.k (between buf (contents_at x) used))) x.k) (header_is term buf used e ∙ sym is))
