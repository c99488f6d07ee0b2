-- One order to the counting stepper in both editions: the same answer, words and store, whatever room there is.
use Prim.Native.Nat.{◌+◌, suc, zero, ℕ}
use mathlib.Core.Path.{ap, ap₂, refl, sym, ◌∙◌, ◌≡◌}
use mathlib.Core.Bool.{Bool, false}
use mathlib.Core.List.{◌++◌, List, [], ◌∷◌}
use Rattle.counting.specs.CountStep.{count_step}
use Rattle.counting.specs.CountingCall.{CountingCall, bad_state, counted_to, counting_by, counting_rows, lent, no_bytes, or_start, run_counting, state_above, state_rows, too_deep}
use Rattle.counting.specs.SmallState.{counts_in}
use Rattle.counting.specs.StateWords.{decode_state}
use Rattle.counting.proofs.CountingCallLaws.{bad-state}
use Rattle.counting.proofs.CountingRanLaws.{counting-refused, counting-takes, deep_is}
use Rattle.record.specs.declared.Header.{Header}
use Rattle.record.specs.Header.{ok_of}
use Rattle.record.specs.Rows.{NoRow, Row, bad_block, bad_buffer, bad_k, bad_store, block_above, block_outside, first_row, header_of, program_of, program_rows, row, values_above}
use Rattle.record.proofs.ConvertedLaws.{same_store, same-values}
use Rattle.record.proofs.HoldingLaws.{program-block, program-is, program-passes}
use Rattle.record.proofs.RowLaws.{first-behind, first-none, none-split}
use Rattle.rules.specs.Syntax.{Block}
use Rattle.run.specs.RunAnswer.{refusal, run_in}
use Rattle.editions.proofs.MovedLaws.{Programs, program-records, records-k, records-longer, records-ok, same_first}
use Rattle.editions.proofs.OrderLaws.{by_number}

-- the run depends on the header by its largest value alone
by-same : (m : ℕ) (g h : Header) → ok_of g ≡ ok_of h → (P : Block) (words store : List ℕ) (budget : ℕ) → counting_by m g P words store budget ≡ counting_by m h P words store budget
unfolding counting_by
by-same zero g h e P words store budget = ap (λ (ok : ℕ → Bool). counted_to P budget (run_in (count_step ok) no_bytes 0 budget (lent P words store))) e
by-same (suc m) g h e P words store budget = refl

module _ {P : Block} {buf : List ℕ} {used : ℕ} {other : List ℕ} {n : ℕ} {h : Header} (p : Programs h P buf used other n) (words store : List ℕ) (budget : ℕ) where
  -- rows 12, 15, 6, 13 and 16 say the same of both
  deep-same : too_deep other n ≡ too_deep buf used
  deep-same =
      deep_is other n P (program-block p.second p.low_other) words store ∙ sym (deep_is buf used P (program-block p.first p.low) words store)

  state-same : bad_state other n words ≡ bad_state buf used words
  state-same = bad-state other n P words (program-block p.second p.low_other) ∙ sym (bad-state buf used P words (program-block p.first p.low))

  above_same : state_above other n words store ≡ state_above buf used words store
  unfolding state_above
  above_same =
      ap (λ (Q : Block). values_above other n (store ++ counts_in (or_start (decode_state Q words)))) (program-is p.second p.low_other ∙ sym (program-is p.first p.low))
      ∙ same-values other n buf used (store ++ counts_in (or_start (decode_state (program_of buf used) words))) (sym (records-ok (program-records p)))

  abbrev five : List ℕ → ℕ → List Row
  five b u = row 1 (bad_buffer b u) ∷ program_rows b u []

  -- rows 1 to 5 apply to neither, nor does row 15
  none-first-five : NoRow (five buf used) × (block_above buf used ≡ false)
  none-first-five = let r = none-split (five buf used) (row 15 (block_above buf used) ∷ []) (program-passes p.first p.low [] tt) in (r.0, r.1.0)

  none-second-five : NoRow (five other n) × (block_above other n ≡ false)
  none-second-five = let r = none-split (five other n) (row 15 (block_above other n) ∷ []) (program-passes p.second p.low_other [] tt) in (r.0, r.1.0)

  own-rows : first_row (counting_rows other n words store) ≡ first_row (counting_rows buf used words store)
  own-rows =
      first-behind (five other n) (state_rows other n words store []) none-second-five.0
      ∙ ap₂ (λ (x y : Bool). first_row (row 12 x ∷ row 15 y ∷ row 6 (bad_store other n store) ∷ row 13 (bad_state other n words) ∷ row 16 (state_above other n words store) ∷ [])) deep-same (none-second-five.1 ∙ sym none-first-five.1)
      ∙ ap₂ (λ (x y : Bool). first_row (row 12 (too_deep buf used) ∷ row 15 (block_above buf used) ∷ row 6 x ∷ row 13 y ∷ row 16 (state_above other n words store) ∷ [])) (same_store other n buf used store (sym (records-k (program-records p)))) state-same
      ∙ ap (λ (x : Bool). first_row (row 12 (too_deep buf used) ∷ row 15 (block_above buf used) ∷ row 6 (bad_store buf used store) ∷ row 13 (bad_state buf used words) ∷ row 16 x ∷ [])) above_same
      ∙ sym (first-behind (five buf used) (state_rows buf used words store []) none-first-five.0)

  -- what stands behind row 2
  abbrev rest : List ℕ → ℕ → List Row
  rest b u = row 3 (bad_k b u) ∷ row 4 (bad_block b u) ∷ row 5 (block_outside b u) ∷ state_rows b u words store []

  pub counting-rows : (m : ℕ) → bad_buffer buf m ≡ bad_buffer other (4 + m) → first_row (counting_rows buf m words store) ≡ first_row (counting_rows other (4 + m) words store)
  counting-rows m one = same_first (program-records p) rest (sym own-rows) m one

  own_same : run_counting other n words store budget ≡ run_counting buf used words store budget
  unfolding run_counting
  own_same =
      let ok_same : ok_of (header_of other n) ≡ ok_of (header_of buf used) = sym (records-ok (program-records p)) in
      ap₂ (λ (i : ℕ) (Q : Block). counting_by i (header_of other n) Q words store budget) own-rows (program-is p.second p.low_other ∙ sym (program-is p.first p.low))
      ∙ by-same (first_row (counting_rows buf used words store)) (header_of other n) (header_of buf used) ok_same (program_of buf used) words store budget

  pub counting-same : (m : ℕ) → bad_buffer buf m ≡ bad_buffer other (4 + m) → run_counting other (4 + m) words store budget ≡ run_counting buf m words store budget
  counting-same m one = by_number (first_row (counting_rows buf m words store)) accepts refuses
    where
      accepts : first_row (counting_rows buf m words store) ≡ 0 → run_counting other (4 + m) words store budget ≡ run_counting buf m words store budget
      accepts z =
          let t = counting-takes p.first m words store (first-none (counting_rows buf m words store) refl z) in
          ap (λ (u : ℕ). run_counting other u words store budget) (ap (λ (u : ℕ). 4 + u) t.same ∙ sym (records-longer (program-records p))) ∙ own_same
          ∙ ap (λ (u : ℕ). run_counting buf u words store budget) (sym t.same)

      refuses : (first_row (counting_rows buf m words store) ≡ 0 → ⊥) → run_counting other (4 + m) words store budget ≡ run_counting buf m words store budget
      refuses x =
          counting-refused other (4 + m) words store budget (λ z. x (counting-rows m one ∙ z))
          ∙ ap (λ (i : ℕ). refused i) (sym (counting-rows m one))
          ∙ sym (counting-refused buf m words store budget x)
        where
          refused : ℕ → CountingCall
          refused i = record { answer = refusal i; words = words; store = store }
