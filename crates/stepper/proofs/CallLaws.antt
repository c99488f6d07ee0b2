-- One law for each way out of the call's code: a row that the checker gives, row 6, row 16, and the run of what is accepted.
use Prim.Native.Nat.{ℕ}
use mathlib.Core.Path.{ap, subst, sym, ◌∙◌, ◌≡◌}
use mathlib.Core.Bool.{Bool, false, not, true}
use mathlib.Core.List.{List, []}
use lib.ListN.{length}
use native.Mathlib.Omega.{arith}
use Rattle.buffer.specs.LittleEndian.{Bytes}
use Rattle.record.specs.Answers.{check_program}
use Rattle.record.specs.declared.Header.{Header}
use Rattle.record.specs.Header.{header_in, largest_of}
use Rattle.record.specs.Rows.{first_row}
use Rattle.record.proofs.LentRowLaws.{lent-held, lent-record, lent-store, lent-values}
use Rattle.rules.specs.Literals.{small_values}
use Rattle.rules.specs.Store.{up_to}
use Rattle.rules.specs.Syntax.{Block}
use Rattle.run.specs.declared.RunEnd.{RunEnd}
use Rattle.run.specs.RunAnswer.{refusal}
use Rattle.stepper.specs.RunStepper.{StepperCall, run_stepper, stepper_rows}
use Rattle.stepper.specs.Running.{Accepted, Gives, accepted_run}
use Rattle.stepper.proofs.RunStepperLaws.{stepper-is, stepper-refused}

-- A REFUSAL is by the first row that applies, and nothing has changed

-- The answer is the refusal n of the call, and buffer and store are as they came.
abbrev Refuses : List ℕ → ℕ → List ℕ → ℕ → ℕ → Type 0
Refuses buf used store budget n =
    (refusal n ≡ (run_stepper buf used store budget).answer) × (buf ≡ (run_stepper buf used store budget).buf) × (store ≡ (run_stepper buf used store budget).store)

refuses : (buf : List ℕ) (used : ℕ) (store : List ℕ) (budget n : ℕ) → first_row (stepper_rows buf used store) ≡ n → (n ≡ 0 → ⊥) → Refuses buf used store budget n
refuses buf used store budget n e h =
    let is : run_stepper buf used store budget ≡ record { answer = refusal n; buf = buf; store = store } =
    stepper-refused buf used store budget (λ z. h (sym e ∙ z)) ∙ ap (λ (m : ℕ). record { answer = refusal m; buf = buf; store = store }) e in
    (ap (λ (c : StepperCall). c.answer) (sym is), ap (λ (c : StepperCall). c.buf) (sym is), ap (λ (c : StepperCall). c.store) (sym is))

module _ (buf : List ℕ) (used : ℕ) (store : List ℕ) (budget n k : ℕ) (checked : check_program buf used ≡ record { number = n; k = k }) where
  -- rows 1 to 5 and 15
  pub refuses-record : (n ≡ 0 → ⊥) → Refuses buf used store budget n
  refuses-record h = refuses buf used store budget n (lent-record buf used store n k checked [] h) h

  module _ (z : n ≡ 0) (bytes : Bytes buf) where
    -- row 6
    pub refuses-store : (length store ≡ k → ⊥) → Refuses buf used store budget 6
    refuses-store h = refuses buf used store budget 6 (lent-store buf used store n k checked [] z bytes h) (λ e. omega arith)

    module _ (count : length store ≡ k) (hd : Header) (e : hd ≡ header_in buf) (largest : ℕ) (limits : largest ≡ largest_of hd)
        (above : Bool) (tells : above ≡ not (small_values (up_to largest) store)) where
      -- row 16
      pub refuses-values : above ≡ true → Refuses buf used store budget 16
      refuses-values t = refuses buf used store budget 16 (lent-values buf used store n k checked [] z bytes count hd e largest limits above tells t) (λ e. omega arith)

      -- none
      pub accepts : above ≡ false → (P : Block) × Accepted hd P buf used store
      accepts f =
          let held = lent-held buf used store n k checked [] z bytes count hd e largest limits above tells f in
          (held.0, record { holds = held.1.holds; short = held.1.short; count = held.1.count; values = held.1.values })

pub accepted-gives : (hd : Header) (P : Block) (buf : List ℕ) (used : ℕ) (store : List ℕ) (budget : ℕ) → Accepted hd P buf used store
    → (r : RunEnd) (buf₁ store₁ : List ℕ) → Gives r buf₁ store₁ (accepted_run hd P (length buf) store budget) → Gives r buf₁ store₁ (run_stepper buf used store budget)
accepted-gives hd P buf used store budget h r buf₁ store₁ =
    subst (Gives r buf₁ store₁) (sym (stepper-is h.holds h.short store h.count h.values budget))
