-- One law for each way out of the check: of the program's record a row from 1 to 5, 12, 15 or none; behind them 6, and by 13 and 16.
use Prim.Native.Nat.{◌+◌, ◌≤◌, ℕ}
use mathlib.Core.Path.{ap, refl, sym, ◌∙◌, ◌≡◌}
use mathlib.Core.Logic.{◌⊎◌}
use mathlib.Core.Bool.{Bool, false, not, true}
use mathlib.Core.List.{◌++◌, List, [], ◌∷◌}
use mathlib.Core.Option.{some}
use lib.Dec.{ltb}
use lib.ListN.{length}
use native.Mathlib.Omega.{arith}
use Rattle.buffer.specs.LittleEndian.{Bytes}
use Rattle.record.specs.Answers.{check_program}
use Rattle.record.specs.declared.Header.{Header}
use Rattle.record.specs.Header.{contents_at, header_in, largest_of}
use Rattle.record.specs.Holding.{ProgramIn}
use Rattle.record.specs.Program.{block_size}
use Rattle.record.specs.Rows.{NoRow, Row, bad_buffer, bad_store, block_above, block_of, first_row, header_of, program_rows, row}
use Rattle.record.proofs.CheckedRowLaws.{five-accepts, five-refuses}
use Rattle.record.proofs.HeldLaws.{good-buffer, store-good, values-read}
use Rattle.record.proofs.HoldingLaws.{BlockHeld, block-as-read, block-is, block-whole, passes-block, passes-program, program-as-read, program-block, program-header, program-k}
use Rattle.record.proofs.RowLaws.{first-applies, first-before, first-behind, first-none, first-skips, none_both, none_first, none-split}
use Rattle.record.proofs.RowMeaningLaws.{rows-mean}
use Rattle.rules.specs.Literals.{small_values}
use Rattle.rules.specs.Store.{up_to}
use Rattle.rules.specs.Syntax.{Block}
use Rattle.place.specs.ProgramView.{BlockAt}
use Rattle.place.proofs.WholeLaws.{commands-at, commands-used, program-at, program-used}
use Rattle.counting.specs.CountingCall.{bad_state, counting_rows, lent_rows, state_above, too_deep}
use Rattle.counting.specs.Depth.{nesting}
use Rattle.counting.specs.ReadState.{is_right}
use Rattle.counting.specs.SmallState.{counts_in, counts_of}
use Rattle.counting.specs.StateWords.{decode_state, unpacked}
use Rattle.counting.proofs.CountingCallLaws.{bad-state, state-above}
use Rattle.counting.proofs.CountingRanLaws.{deep_is, not-wrong}
use Rattle.counting.proofs.SmallStateLaws.{decode-counts}
use Rattle.counter.specs.CheckRows.{record_rows}

-- THE PROGRAM'S RECORD

-- What the functions that look at the program's commands ask: they stand at `start`, and end where the record does.
pub record Commands (buf : List ℕ) (used start : ℕ) : Type 0 where
  pub P : Block
  pub stands : BlockAt buf start P
  pub ends : used ≡ start + block_size P
  pub low : length buf ≤ 16384
  pub within : used ≤ length buf
  pub block : block_of buf used ≡ some P

module _ (buf : List ℕ) (used n k : ℕ) (checked : check_program buf used ≡ record { number = n; k = k }) where
  -- Rows 1 to 5, and those that are behind them here.
  abbrev five : List Row
  five = row 1 (bad_buffer buf used) ∷ program_rows buf used []

  abbrev behind : List Row
  behind = row 12 (too_deep buf used) ∷ row 15 (block_above buf used) ∷ []

  -- one of rows 1 to 5
  pub gives-early : (n ≡ 0 → ⊥) × (n ≡ 15 → ⊥) → n ≡ first_row (record_rows buf used)
  gives-early h = sym (five-refuses buf used n k checked h.0 h.1 behind)

  -- where none of them applies, a block's record is held, whatever its literals are
  module _ (z : (n ≡ 0) ⊎ (n ≡ 15)) (bytes : Bytes buf) where
    passed : NoRow five × (first_row (row 15 (block_above buf used) ∷ []) ≡ n)
    passed = five-accepts buf used n k checked z

    held : (P : Block) × BlockHeld (header_of buf used) P buf used
    held = passes-block buf used bytes passed.0

    pub header-whole : contents_at (header_in buf) ≤ length buf
    header-whole = block-whole held.1

    pub commands : (h : Header) → h ≡ header_in buf → (start : ℕ) → start ≡ contents_at h + 4 → Commands buf used start
    commands h e start s =
        let b = block-as-read held.1 h e in
        let low = (good-buffer buf used passed.0.0).low in
        record {
          P = held.0;
          stands = rw s (commands-at b low);
          ends = omega (arith, commands-used b, s);
          low = low;
          within = b.within;
          block = block-is b low;
        }

    -- by what the function answers that looks how deep the program is nested
    module _ (h : Header) (e : h ≡ header_in buf) (start : ℕ) (s : start ≡ contents_at h + 4) (deep : Bool)
        (answer : (P : Block) → BlockAt buf start P → used ≡ start + block_size P → deep ≡ ltb 32 (nesting P)) where
      deep-as : too_deep buf used ≡ deep
      deep-as = let c = commands h e start s in deep_is buf used c.P c.block [] [] ∙ sym (answer c.P c.stands c.ends)

      -- row 12
      pub gives-deep : deep ≡ true → 12 ≡ first_row (record_rows buf used)
      gives-deep t = sym (first-behind five behind passed.0 ∙ first-applies 12 (too_deep buf used) _ (deep-as ∙ t))

      -- row 15, or none
      pub gives-number : deep ≡ false → n ≡ first_row (record_rows buf used)
      gives-number f = sym (first-behind five behind passed.0 ∙ first-skips 12 (too_deep buf used) _ (deep-as ∙ f) ∙ passed.1)

-- ROWS 13 AND 16, by the two tests

module _ (wrong above : Bool) where
  pub row-wrong : wrong ≡ true → 13 ≡ first_row (row 13 wrong ∷ row 16 above ∷ [])
  row-wrong t = sym (first-applies 13 wrong _ t)

  pub row-above : wrong ≡ false → above ≡ true → 16 ≡ first_row (row 13 wrong ∷ row 16 above ∷ [])
  row-above f t = sym (first-skips 13 wrong _ f ∙ first-applies 16 above [] t)

  pub row-none : wrong ≡ false → above ≡ false → 0 ≡ first_row (row 13 wrong ∷ row 16 above ∷ [])
  row-none f g = sym (first-skips 13 wrong _ f ∙ first-skips 16 above [] g ∙ none_first [] tt)

-- WHAT IS LENT with a program that the rows before let through

module _ {h : Header} {P : Block} {buf : List ℕ} {used : ℕ} (p : ProgramIn h P buf used) (low : length buf ≤ 16384) where
  -- its commands
  module _ (start : ℕ) (s : start ≡ contents_at h + 4) where
    pub lent-stands : BlockAt buf start P
    lent-stands = rw s (program-at p low)

    pub lent-ends : used ≡ start + block_size P
    lent-ends = omega (arith, program-used p, s)

  -- row 6
  pub gives-store : (words store : List ℕ) → (length store ≡ h.k → ⊥) → 6 ≡ first_row (lent_rows buf used words store [])
  gives-store words store f = sym (first-applies 6 (bad_store buf used store) _ ((rows-mean.six buf used store).1 (λ e. f (e ∙ program-k p))))

  -- rows 13 and 16, by what is found of the words and of the values
  module _ (words store : List ℕ) (count : length store ≡ h.k) (is-right : Bool) (reads : is-right ≡ is_right (decode_state P words)) (largest : ℕ) (limits : largest ≡ largest_of h)
      (above : Bool) (tells : above ≡ not (small_values (up_to largest) (store ++ counts_of (unpacked words)))) where
    block : block_of buf used ≡ some P
    block = program-block p low

    state-as : bad_state buf used words ≡ not is-right
    state-as = bad-state buf used P words block ∙ ap not (sym reads)

    above_as : is-right ≡ true → state_above buf used words store ≡ above
    above_as t =
        let q = not-wrong (decode_state P words) (ap not (sym reads ∙ t)) in
        state-above buf used P words store q.0 block q.1
        ∙ values-read buf used h (program-header p) largest limits (store ++ counts_in q.0) above
        (tells ∙ ap (λ (l : List ℕ). not (small_values (up_to largest) (store ++ l))) (sym (decode-counts P words q.0 q.1)))

    both-as : first_row (row 13 (bad_state buf used words) ∷ row 16 (state_above buf used words store) ∷ []) ≡ first_row (row 13 (not is-right) ∷ row 16 above ∷ [])
    both-as = go is-right refl
      where
        go : (b : Bool) → is-right ≡ b → first_row (row 13 (bad_state buf used words) ∷ row 16 (state_above buf used words store) ∷ []) ≡ first_row (row 13 (not is-right) ∷ row 16 above ∷ [])
        go true t = rw (state-as, above_as t) refl
        go false f = first-applies 13 (bad_state buf used words) _ (state-as ∙ ap not f) ∙ row-wrong (not is-right) above (ap not f)

    pub gives-state : (n : ℕ) → n ≡ first_row (row 13 (not is-right) ∷ row 16 above ∷ []) → n ≡ first_row (lent_rows buf used words store [])
    gives-state n e = e ∙ sym (first-skips 6 (bad_store buf used store) _ (store-good buf used store (count ∙ sym (program-k p))) ∙ both-as)

-- ALL OF THEM

module _ (buf : List ℕ) (used : ℕ) (words store : List ℕ) (n : ℕ) (first : n ≡ first_row (record_rows buf used)) where
  pub gives-record : (n ≡ 0 → ⊥) → n ≡ first_row (counting_rows buf used words store)
  gives-record f = first ∙ sym (first-before (record_rows buf used) (lent_rows buf used words store []) (λ z. f (first ∙ z)))

  module _ (z : n ≡ 0) (bytes : Bytes buf) where
    none : NoRow (record_rows buf used)
    none = first-none (record_rows buf used) refl (sym first ∙ z)

    abbrev before : List Row
    before = row 1 (bad_buffer buf used) ∷ program_rows buf used []

    -- what the buffer holds then
    program : (P : Block) × ProgramIn (header_of buf used) P buf used
    program =
        let q = none-split before (row 12 (too_deep buf used) ∷ row 15 (block_above buf used) ∷ []) none in
        passes-program buf used bytes (none_both before (row 15 (block_above buf used) ∷ []) q.0 q.1.1)

    pub lent-to : (h : Header) → h ≡ header_in buf → ((P : Block) × ProgramIn h P buf used) × (length buf ≤ 16384)
    lent-to h e = ((program.0, program-as-read program.1 h e), (good-buffer buf used none.0).low)

    pub gives-lent : (m : ℕ) → m ≡ first_row (lent_rows buf used words store []) → m ≡ first_row (counting_rows buf used words store)
    gives-lent m e = e ∙ sym (first-behind (record_rows buf used) (lent_rows buf used words store []) none)
