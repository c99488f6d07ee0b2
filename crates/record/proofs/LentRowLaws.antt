-- A program and its store as code looks at them, rows 1 to 6, 15 and 16 of a call that reads both, whatever rows stand behind: one law for
-- each way out, by what the checker answers.
use Prim.Native.Nat.{ℕ, ◌≤◌}
use mathlib.Core.Path.{refl, subst, sym, ◌∙◌, ◌≡◌}
use mathlib.Core.Bool.{Bool, false, not, true}
use mathlib.Core.List.{List, ◌∷◌}
use lib.ListN.{length}
use Rattle.buffer.specs.LittleEndian.{Bytes}
use Rattle.rules.specs.Literals.{small_values}
use Rattle.rules.specs.Sound.{SmallValues}
use Rattle.rules.specs.Store.{up_to}
use Rattle.rules.specs.Syntax.{Block}
use Rattle.record.specs.Answers.{check_program}
use Rattle.record.specs.declared.Header.{Header}
use Rattle.record.specs.Header.{contents_at, header_in, largest_of, ok_of}
use Rattle.record.specs.Holding.{ProgramIn, ProgramWithStore}
use Rattle.record.specs.Rows.{Row, bad_buffer, bad_store, first_row, limited_program_rows, row, store_rows, values_above}
use Rattle.record.proofs.CheckedRowLaws.{program-accepted, program-accepts, program-refuses}
use Rattle.record.proofs.HeldLaws.{good-values, store-good, values-read}
use Rattle.record.proofs.HoldingLaws.{program-as-read, program-header, program-k, program-whole}
use Rattle.record.proofs.RowLaws.{first-applies, first-skips}
use Rattle.record.proofs.RowMeaningLaws.{rows-mean}

module _ (buf : List ℕ) (used : ℕ) (store : List ℕ) (n k : ℕ) (checked : check_program buf used ≡ record { number = n; k = k }) (more : List Row) where
  abbrev pub lent_rows : List Row
  lent_rows = row 1 (bad_buffer buf used) ∷ limited_program_rows buf used (store_rows buf used store more)

  -- rows 1 to 5 and 15
  pub lent-record : (n ≡ 0 → ⊥) → first_row lent_rows ≡ n
  lent-record h = program-refuses buf used n k checked h (bad_buffer buf used) refl (store_rows buf used store more)

  module _ (z : n ≡ 0) (bytes : Bytes buf) where
    behind : first_row lent_rows ≡ first_row (store_rows buf used store more)
    behind = program-accepts buf used n k checked z (bad_buffer buf used) refl (store_rows buf used store more)

    -- row 6
    pub lent-store : (length store ≡ k → ⊥) → first_row lent_rows ≡ 6
    lent-store h =
        let a = (program-accepted buf used n k checked z bytes).1 in
        behind ∙ first-applies 6 (bad_store buf used store) _ ((rows-mean.six buf used store).1 (λ e. h (e ∙ program-k a.3 ∙ a.2)))

    -- the header as code reads it
    pub lent-whole : contents_at (header_in buf) ≤ length buf
    lent-whole = program-whole (program-accepted buf used n k checked z bytes).1.3

    module _ (count : length store ≡ k) (hd : Header) (e : hd ≡ header_in buf) (largest : ℕ) (limits : largest ≡ largest_of hd)
        (above : Bool) (tells : above ≡ not (small_values (up_to largest) store)) where
      abbrev held : (P : Block) × ProgramIn hd P buf used
      held = let a = (program-accepted buf used n k checked z bytes).1 in (a.1, program-as-read a.3 hd e)

      sized : length store ≡ hd.k
      sized = let a = (program-accepted buf used n k checked z bytes).1 in count ∙ sym a.2 ∙ sym (program-k a.3) ∙ program-k held.1

      values-as : values_above buf used store ≡ above
      values-as = values-read buf used hd (program-header held.1) largest limits store above tells

      -- row 16
      pub lent-values : above ≡ true → first_row lent_rows ≡ 16
      lent-values t =
          behind ∙ first-skips 6 (bad_store buf used store) _ (store-good buf used store (sized ∙ sym (program-k held.1)))
          ∙ first-applies 16 (values_above buf used store) more (values-as ∙ t)

      -- none
      pub lent-held : above ≡ false → (P : Block) × ProgramWithStore hd P buf used store
      lent-held f = (
        held.0,
        record {
          holds = held.1;
          short = (program-accepted buf used n k checked z bytes).0;
          count = sized;
          values = subst (λ (x : Header). SmallValues (ok_of x) store) (program-header held.1) (good-values buf used store (values-as ∙ f));
        },
      )
