-- Laws of the batch: its number, a refusal, one law for each way out of its code, and what its rows let through.
use Prim.Native.Nat.{◌*◌, ◌+◌, ◌<◌, suc, zero, ℕ, ◌≤◌}
use mathlib.Core.Path.{ap, refl, subst, sym, ◌∙◌, ◌≡◌}
use mathlib.Core.Logic.{◌↔◌, ◌⊎◌}
use mathlib.Core.Bool.{Bool, false, not, true, ◌||◌}
use mathlib.Core.List.{List, [], ◌∷◌}
use lib.Dec.{eqb}
use lib.ListN.{length, replicate, take}
use borrow.Author.Tests.{eq-eqb, eqb-true, not-false}
use native.Mathlib.Omega.{arith}
use Rattle.buffer.specs.LittleEndian.{Bytes}
use Rattle.buffer.specs.Slice.{zeros}
use Rattle.record.specs.Answers.{Checked, check_program, padded, too_short}
use Rattle.record.specs.declared.Header.{Header}
use Rattle.record.specs.Header.{encode_term, header_in, largest_of, ok_of}
use Rattle.record.specs.Holding.{ProgramIn, TermIn}
use Rattle.record.specs.Rows.{NoRow, Row, bad_buffer, first_row, header_of, k_of, limited_program_rows, row, too_long, values_above}
use Rattle.record.proofs.AnswerLaws.{check-program-number, fits_out, out-fits, ten-iff}
use Rattle.record.proofs.HeaderLaws.{ok-limit}
use Rattle.record.proofs.HeldLaws.{buffer-good, good-buffer, good-values, not-long, short-buffer, values-good, values-read}
use Rattle.record.proofs.HoldingLaws.{padded-term, passes-program, program-as-read, program-first, program-header, program-k}
use Rattle.record.proofs.RowLaws.{first-applies, first-before, first-none, first-skips, none_first, none-split, not-intro, or-false, or-intro, or-true}
use Rattle.record.proofs.RowMeaningLaws.{eqb-iff, not_iff, or-iff}
use Rattle.rules.specs.FreeVariables.{all_vars}
use Rattle.rules.specs.Literals.{small_values}
use Rattle.rules.specs.Scope.{Within, in_range}
use Rattle.rules.specs.Sound.{SmallValues}
use Rattle.rules.specs.Store.{up_to}
use Rattle.rules.specs.Syntax.{Block}
use Rattle.rules.specs.Translation.{translate}
use Rattle.rules.proofs.ScopeLaws.{in_range-within, within-in_range}
use Rattle.rules.proofs.SoundTermLaws.{sound-translate}
use Rattle.term.specs.Calls.{translated}
use Rattle.term.proofs.CallLaws.{translated-is}
use Rattle.batch.specs.RunBatch.{BatchCall, answers_of, bad_batch, bad_values, batch_by, batch_rows, check_batch_rows, jobs, longer_than_either, run_batch}
use Rattle.batch.specs.Running.{Given, Passed}

-- THE TESTS OF THE ROWS, in plain facts

pub batch-iff : (budgets : List ℕ) → (bad_batch budgets ≡ true) ↔ (Within 64 (length budgets) → ⊥)
unfolding bad_batch
batch-iff budgets = not_iff (in_range 64 (length budgets)) (in_range-within 64 (length budgets), within-in_range 64 (length budgets))

pub good-batch : (budgets : List ℕ) → bad_batch budgets ≡ false → Within 64 (length budgets)
unfolding bad_batch
good-batch budgets e = in_range-within 64 (length budgets) (not-false (in_range 64 (length budgets)) e)

batch-good : (budgets : List ℕ) → Within 64 (length budgets) → bad_batch budgets ≡ false
unfolding bad_batch
batch-good budgets w = not-intro (within-in_range 64 (length budgets) w)

good-sizes : (program : List ℕ) (used : ℕ) (budgets values answers : List ℕ) → bad_values program used budgets values answers ≡ false
    → (length values ≡ length budgets * k_of program used) × (length answers ≡ length budgets * (k_of program used + 2))
unfolding bad_values
good-sizes program used budgets values answers e =
    let m : ℕ = length budgets * k_of program used in
    let n : ℕ = length budgets * (k_of program used + 2) in
    let both = or-false (not (eqb (length values) m)) (not (eqb (length answers) n)) e in
    (eqb-true (length values) m (not-false (eqb (length values) m) both.0), eqb-true (length answers) n (not-false (eqb (length answers) n) both.1))

pub values-iff : (program : List ℕ) (used : ℕ) (budgets values answers : List ℕ)
    → (bad_values program used budgets values answers ≡ true)
    ↔ ((length values ≡ length budgets * k_of program used → ⊥) ⊎ (length answers ≡ length budgets * (k_of program used + 2) → ⊥))
unfolding bad_values
values-iff program used budgets values answers =
    let m : ℕ = length budgets * k_of program used in
    let n : ℕ = length budgets * (k_of program used + 2) in
    or-iff (not (eqb (length values) m)) (not (eqb (length answers) n))
    (not_iff (eqb (length values) m) (eqb-iff (length values) m)) (not_iff (eqb (length answers) n) (eqb-iff (length answers) n))

values-fit : (program : List ℕ) (used : ℕ) (budgets values answers : List ℕ) → length values ≡ length budgets * k_of program used
    → length answers ≡ length budgets * (k_of program used + 2) → bad_values program used budgets values answers ≡ false
unfolding bad_values
values-fit program used budgets values answers e f =
    or-intro (not-intro (eq-eqb (length values) (length budgets * k_of program used) e)) (not-intro (eq-eqb (length answers) (length budgets * (k_of program used + 2)) f))

pub longer-iff : (term work answer : List ℕ) → (longer_than_either term work answer ≡ true) ↔ ((length term < length answer) ⊎ (length work < length answer))
unfolding longer_than_either
longer-iff term work answer = or-iff (too_short term answer) (too_short work answer) (ten-iff term answer) (ten-iff work answer)

not-longer : (term work answer : List ℕ) → longer_than_either term work answer ≡ false → (length answer ≤ length term) × (length answer ≤ length work)
unfolding longer_than_either
not-longer term work answer e =
    let both = or-false (too_short term answer) (too_short work answer) e in
    (out-fits term answer both.0, out-fits work answer both.1)

longer-not : (term work answer : List ℕ) → length answer ≤ length term → length answer ≤ length work → longer_than_either term work answer ≡ false
unfolding longer_than_either
longer-not term work answer a b = or-intro (fits_out term answer a) (fits_out work answer b)

module _ (program : List ℕ) (used : ℕ) (term work budgets : List ℕ) where
  -- ROWS 1, 14, 2 TO 5 AND 15, as the check finds them

  one-applies : (more : List Row) → (bad_buffer program used || (too_long term || too_long work)) ≡ true → 1 ≡ first_row (check_batch_rows program used term work budgets more)
  one-applies more e = sym (first-applies 1 (bad_buffer program used || (too_long term || too_long work)) _ e)

  pub check-program-buffer : bad_buffer program used ≡ true → 1 ≡ first_row (check_batch_rows program used term work budgets [])
  check-program-buffer e = one-applies [] (ap (λ (b : Bool). b || (too_long term || too_long work)) e)

  pub check-term-buffer : too_long term ≡ true → 1 ≡ first_row (check_batch_rows program used term work budgets [])
  check-term-buffer e = one-applies [] (or-true (bad_buffer program used) (too_long term || too_long work) (ap (λ (b : Bool). b || too_long work) e))

  pub check-work-buffer : too_long work ≡ true → 1 ≡ first_row (check_batch_rows program used term work budgets [])
  check-work-buffer e = one-applies [] (or-true (bad_buffer program used) (too_long term || too_long work) (or-true (too_long term) (too_long work) e))

  module _ (a : bad_buffer program used ≡ false) (b : too_long term ≡ false) (c : too_long work ≡ false) where
    behind-one : (more : List Row) → first_row (check_batch_rows program used term work budgets more) ≡ first_row (row 14 (bad_batch budgets) ∷ limited_program_rows program used more)
    behind-one more = first-skips 1 (bad_buffer program used || (too_long term || too_long work)) _ (or-intro a (or-intro b c))

    pub check-batch : (Within 64 (length budgets) → ⊥) → 14 ≡ first_row (check_batch_rows program used term work budgets [])
    check-batch n = sym (behind-one [] ∙ first-applies 14 (bad_batch budgets) _ ((batch-iff budgets).1 n))

    -- where rows 1 and 14 do not apply, the first row is that of a call on the program alone
    behind-batch : Within 64 (length budgets) → (more : List Row)
        → first_row (check_batch_rows program used term work budgets more) ≡ first_row (row 1 (bad_buffer program used) ∷ limited_program_rows program used more)
    behind-batch w more =
        behind-one more ∙ first-skips 14 (bad_batch budgets) _ (batch-good budgets w) ∙ sym (first-skips 1 (bad_buffer program used) (limited_program_rows program used more) a)

    pub check-record : Within 64 (length budgets) → (n k : ℕ) → check_program program used ≡ record { number = n; k = k } → n ≡ first_row (check_batch_rows program used term work budgets [])
    check-record w n k e = sym (behind-batch w [] ∙ sym (check-program-number program used) ∙ ap (λ (x : Checked). x.number) e)

  -- and what they let through
  module _ (none : NoRow (check_batch_rows program used term work budgets [])) where
    ones : (bad_buffer program used ≡ false) × ((too_long term || too_long work) ≡ false)
    ones = or-false (bad_buffer program used) (too_long term || too_long work) none.0

    pub passed-of : {h : Header} {P : Block} → ProgramIn h P program used → Passed h P program used term work budgets
    passed-of p =
        let longs = or-false (too_long term) (too_long work) ones.1 in
        record {
          holds = p;
          low = (good-buffer program used ones.0).low;
          low_term = short-buffer term longs.0;
          low_work = short-buffer work longs.1;
          many = good-batch budgets none.1.0;
        }

    held : Bytes program → (P : Block) × ProgramIn (header_of program used) P program used
    held bytes = passes-program program used bytes (ones.0, none.1.1)

  module _ (z : 0 ≡ first_row (check_batch_rows program used term work budgets [])) (bytes : Bytes program) where
    no_row : NoRow (check_batch_rows program used term work budgets [])
    no_row = first-none (check_batch_rows program used term work budgets []) refl (sym z)

    pub passed : (h : Header) → h ≡ header_in program → (P : Block) × Passed h P program used term work budgets
    passed h e = let p = held no_row bytes in (p.0, passed-of no_row (program-as-read p.1 h e))

-- NUMBER AND REFUSAL

by_number : (n : ℕ) (bytes given term work answers : List ℕ) → (batch_by n bytes given term work answers).number ≡ n
unfolding batch_by
by_number zero bytes given term work answers = refl
by_number (suc n) bytes given term work answers = refl

by-refused : (n : ℕ) (bytes given term work answers : List ℕ) → (n ≡ 0 → ⊥)
    → batch_by n bytes given term work answers ≡ record { number = n; used = 0; term = term; work = work; answers = answers }
unfolding batch_by
by-refused zero bytes given term work answers h = absurd (h refl)
by-refused (suc n) bytes given term work answers h = refl

by-accepted : (n : ℕ) (bytes given term work answers : List ℕ) → n ≡ 0
    → batch_by n bytes given term work answers
    ≡ record { number = 0; used = length bytes; term = padded (length term) bytes; work = replicate (length work) 0; answers = given }
unfolding batch_by
by-accepted n bytes given term work answers e = rw e refl

module _ (program : List ℕ) (used : ℕ) (term work budgets values answers : List ℕ) where
  abbrev rows : List Row
  rows = batch_rows program used term work budgets values answers

  abbrev call : BatchCall
  call = run_batch program used term work budgets values answers

  -- what an accepted call answers
  abbrev given : List ℕ
  given = answers_of (k_of program used) (translated program used) (length work) (jobs (k_of program used) budgets values)

  pub batch-number : call.number ≡ first_row rows
  unfolding run_batch
  batch-number = by_number (first_row rows) (translated program used) given term work answers

  pub batch-refused : (first_row rows ≡ 0 → ⊥) → call ≡ record { number = first_row rows; used = 0; term = term; work = work; answers = answers }
  unfolding run_batch
  batch-refused h = by-refused (first_row rows) (translated program used) given term work answers h

  pub batch-accepted : first_row rows ≡ 0
      → call ≡ record { number = 0; used = length (translated program used); term = padded (length term) (translated program used); work = replicate (length work) 0; answers = given }
  unfolding run_batch
  batch-accepted z = by-accepted (first_row rows) (translated program used) given term work answers z

  -- ONE LAW FOR EACH WAY OUT

  -- A refusal of the batch.
  abbrev refused : ℕ → BatchCall
  refused n = record { number = n; used = 0; term = term; work = work; answers = answers }

  batch-row : (n : ℕ) → first_row rows ≡ n → (n ≡ 0 → ⊥) → refused n ≡ call
  batch-row n e h =
      sym (batch-refused (λ z. h (sym e ∙ z)) ∙ ap (λ (m : ℕ). record { number = m; used = 0; term = term; work = work; answers = answers }) e)

  -- a row that the check gives
  pub batch-checked : (n : ℕ) → n ≡ first_row (check_batch_rows program used term work budgets []) → (n ≡ 0 → ⊥) → refused n ≡ call
  batch-checked n e h =
      batch-row n (first-before (check_batch_rows program used term work budgets []) _ (λ z. h (e ∙ z)) ∙ sym e) h

  module _ {h : Header} {P : Block} (p : Passed h P program used term work budgets) where
    abbrev bytes : List ℕ
    bytes = encode_term h (translate h.k P)

    is-translated : translated program used ≡ bytes
    is-translated = translated-is p.holds p.low term p.low_term

    is-k : k_of program used ≡ h.k
    is-k = program-k p.holds

    behind : first_row rows ≡ first_row (row 6 (bad_values program used budgets values answers) ∷ row 16 (values_above program used values) ∷ row 10 (longer_than_either term work (translated program used)) ∷ [])
    behind =
        let a = buffer-good program used (record { low = p.low; within = p.holds.within }) in
        behind-batch program used term work budgets a (not-long term p.low_term) (not-long work p.low_work) p.many _
        ∙ program-first p.holds p.low (bad_buffer program used) refl _

    -- what the jobs are given once the term is written
    pub given-term : (n : ℕ) → n ≡ length bytes → n ≤ length work → (term₁ : List ℕ) → term₁ ≡ padded (length term) bytes → Given h (translate h.k P) term₁ n work
    given-term n e b term₁ et =
        let sound = sound-translate (ok_of h) (ok-limit h) h.k P p.holds.is_program.variables p.holds.is_program.literals in
        let held = padded-term all_vars h (translate h.k P) (length term) p.holds.header sound in
        record {
          holds = subst (λ (l : List ℕ). TermIn all_vars h (translate h.k P) l n) (sym et) (subst (λ (m : ℕ). TermIn all_vars h (translate h.k P) (padded (length term) bytes) m) (sym e) held);
          fits = b;
          low = p.low_work;
        }

    -- row 6
    pub batch-six : ((length values ≡ length budgets * h.k → ⊥) ⊎ (length answers ≡ length budgets * (h.k + 2) → ⊥)) → refused 6 ≡ call
    batch-six e =
        batch-row 6 (behind ∙ first-applies 6 (bad_values program used budgets values answers) _ ((values-iff program used budgets values answers).1 (rw is-k e))) (λ z. omega (arith, z))

    module _ (values-many : length values ≡ length budgets * h.k) (answers-many : length answers ≡ length budgets * (h.k + 2)) where
      behind-six : first_row rows ≡ first_row (row 16 (values_above program used values) ∷ row 10 (longer_than_either term work (translated program used)) ∷ [])
      behind-six = behind ∙ first-skips 6 (bad_values program used budgets values answers) _ (values-fit program used budgets values answers (rw is-k values-many) (rw is-k answers-many))

      -- row 16, by the largest value of the header
      module _ (largest : ℕ) (limits : largest ≡ largest_of h) (above : Bool) (tells : above ≡ not (small_values (up_to largest) values)) where
        values-as : values_above program used values ≡ above
        values-as = values-read program used h (program-header p.holds) largest limits values above tells

        pub batch-sixteen : above ≡ true → refused 16 ≡ call
        batch-sixteen t =
            batch-row 16 (behind-six ∙ first-applies 16 (values_above program used values) _ (values-as ∙ t)) (λ z. omega (arith, z))

        pub values-small : above ≡ false → SmallValues (ok_of h) values
        values-small f = subst (λ (x : Header). SmallValues (ok_of x) values) (program-header p.holds) (good-values program used values (values-as ∙ f))

      module _ (small : SmallValues (ok_of h) values) where
        last_row : first_row rows ≡ first_row (row 10 (longer_than_either term work (translated program used)) ∷ [])
        last_row =
            behind-six
            ∙ first-skips 16 (values_above program used values) _ (values-good program used values (subst (λ (x : Header). SmallValues (ok_of x) values) (sym (program-header p.holds)) small))

        -- row 10
        pub batch-ten : (n : ℕ) → n ≡ length bytes → ((length term < n) ⊎ (length work < n)) → refused 10 ≡ call
        batch-ten n e l =
            batch-row 10 (last_row ∙ first-applies 10 (longer_than_either term work (translated program used)) [] ((longer-iff term work (translated program used)).1 (rw (is-translated, sym e) l))) (λ z. omega (arith, z))

        -- none
        pub no-row-behind : length bytes ≤ length term → length bytes ≤ length work → first_row rows ≡ 0
        no-row-behind a b =
            last_row ∙ none_first (row 10 (longer_than_either term work (translated program used)) ∷ [])
            (longer-not term work (translated program used) (rw is-translated a) (rw is-translated b), tt)

        pub batch-zero : (n : ℕ) → n ≡ length bytes → n ≤ length term → n ≤ length work
            → (term₁ : List ℕ) → term₁ ≡ padded (length term) bytes → (work₁ : List ℕ) → work₁ ≡ zeros (length work)
            → (answers₁ : List ℕ) → answers₁ ≡ answers_of h.k (take n term₁) (length work) (jobs h.k budgets values)
            → record { number = 0; used = n; term = term₁; work = work₁; answers = answers₁ } ≡ call
        unfolding zeros
        batch-zero n e a b term₁ et work₁ ew answers₁ ea =
            let z = no-row-behind (omega arith) (omega arith) in
            let own = ea ∙ ap (λ (l : List ℕ). answers_of h.k l (length work) (jobs h.k budgets values)) (given-term n e b term₁ et).holds.bytes in
            sym (batch-accepted z ∙ rw (is-translated, is-k, sym e, sym et, sym ew, sym own) refl)

-- WHAT ALL ROWS LET THROUGH

pub record Lets (h : Header) (P : Block) (program : List ℕ) (used : ℕ) (term work budgets values answers : List ℕ) : Type 0 where
  pub passed : Passed h P program used term work budgets
  pub valued : length values ≡ length budgets * h.k
  pub placed : length answers ≡ length budgets * (h.k + 2)
  pub small : SmallValues (ok_of h) values
  pub fits_term : length (encode_term h (translate h.k P)) ≤ length term
  pub fits_work : length (encode_term h (translate h.k P)) ≤ length work

module _ (program : List ℕ) (used : ℕ) (term work budgets values answers : List ℕ) where
  module _ (z : (run_batch program used term work budgets values answers).number ≡ 0) where
    split : NoRow (check_batch_rows program used term work budgets [])
        × NoRow (row 6 (bad_values program used budgets values answers) ∷ row 16 (values_above program used values) ∷ row 10 (longer_than_either term work (translated program used)) ∷ [])
    split =
        none-split (check_batch_rows program used term work budgets []) (row 6 (bad_values program used budgets values answers) ∷ row 16 (values_above program used values) ∷ row 10 (longer_than_either term work (translated program used)) ∷ [])
        (first-none (batch_rows program used term work budgets values answers) refl (sym (batch-number program used term work budgets values answers) ∙ z))

  pub batch-takes : Bytes program → (run_batch program used term work budgets values answers).number ≡ 0 → (P : Block) × ProgramIn (header_of program used) P program used
  batch-takes bytes z = held program used term work budgets (split z).0 bytes

  pub batch-lets : {h : Header} {P : Block} → ProgramIn h P program used → (run_batch program used term work budgets values answers).number ≡ 0
      → Lets h P program used term work budgets values answers
  batch-lets {h} {P} p z =
      let n = split z in
      let q = passed-of program used term work budgets n.0 p in
      let v = good-sizes program used budgets values answers n.1.0 in
      let f = not-longer term work (translated program used) n.1.1.1.0 in
      let e = is-k program used term work budgets values answers q in
      let t = is-translated program used term work budgets values answers q in
      record {
        passed = q;
        valued = v.0 ∙ ap (λ (m : ℕ). length budgets * m) e;
        placed = v.1 ∙ ap (λ (m : ℕ). length budgets * (m + 2)) e;
        small = subst (λ (x : Header). SmallValues (ok_of x) values) (program-header p) (good-values program used values n.1.1.0);
        fits_term = omega (arith, f.0, ap length t);
        fits_work = omega (arith, f.1, ap length t);
      }

  pub lets-accepted : {h : Header} {P : Block} → Lets h P program used term work budgets values answers
      → run_batch program used term work budgets values answers
      ≡ record {
        number = 0;
        used = length (encode_term h (translate h.k P));
        term = padded (length term) (encode_term h (translate h.k P));
        work = replicate (length work) 0;
        answers = answers_of h.k (encode_term h (translate h.k P)) (length work) (jobs h.k budgets values);
      }
  lets-accepted {h} {P} l =
      let p = l.passed in
      let t = is-translated program used term work budgets values answers p in
      let z : first_row (batch_rows program used term work budgets values answers) ≡ 0 =
      no-row-behind program used term work budgets values answers p l.valued l.placed l.small l.fits_term l.fits_work in
      batch-accepted program used term work budgets values answers z ∙ rw (t, is-k program used term work budgets values answers p) refl
