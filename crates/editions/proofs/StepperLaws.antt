-- One order to 01's stepper in both editions: refused in both, or the same run.
use Prim.Native.Nat.{◌+◌, ℕ, ◌≤◌}
use mathlib.Core.Path.{ap, ap₂, refl, sym, ◌∙◌, ◌≡◌}
use mathlib.Core.Bool.{Bool}
use mathlib.Core.List.{List, [], ◌∷◌}
use lib.ListN.{length}
use Rattle.record.specs.declared.Header.{Header}
use Rattle.record.specs.Header.{ok_of}
use Rattle.record.specs.Holding.{ProgramIn}
use Rattle.record.specs.Rows.{Row, bad_block, bad_buffer, bad_k, block_above, block_outside, first_row, row, store_rows}
use Rattle.record.proofs.ConvertedLaws.{same_store, same-values}
use Rattle.record.proofs.HoldingLaws.{program-first}
use Rattle.conversion.proofs.ConversionMeaningLaws.{program-longer}
use Rattle.rules.specs.Sound.{SmallValues}
use Rattle.rules.specs.Step.{step}
use Rattle.rules.specs.Syntax.{Block, Config}
use Rattle.stepper.specs.RunStepper.{StepperCall, run_stepper, stepped_to, stepper_rows}
use Rattle.stepper.proofs.RunStepperLaws.{stepper-is, stepper-ran, stepper-refused, stepper-takes}
use Rattle.stepping.specs.State.{config_bytes}
use Rattle.editions.proofs.MovedLaws.{Programs, program-records, records-k, records-longer, records-ok, same_first}
use Rattle.editions.proofs.OrderLaws.{Done, Ended, OrderSame, ended_same, order_same}
use Rattle.editions.proofs.RoomLaws.{RoomIn}

-- What the call leaves: the store besides.
abbrev pub stepper_done : StepperCall → Done (List ℕ)
stepper_done r = record { answer = r.answer; buf = r.buf; besides = r.store }

abbrev pub StepperSame : Header → List ℕ → ℕ → List ℕ → ℕ → StepperCall → StepperCall → Type 0
StepperSame h buf used other n r r' = OrderSame ProgramIn h buf used other n (stepper_done r) (stepper_done r')

-- A configuration's block stands in the buffer, and its store is left besides.
abbrev holding : Config → Block
holding c = c.block

abbrev leaving : (ℕ → Bool) → ℕ → Config → List ℕ
leaving ok i c = c.store

-- an accepted run, in either edition
stepper-ended : {h : Header} {P : Block} {buf : List ℕ} {used : ℕ} → ProgramIn h P buf used → length buf ≤ 16384 → (store : List ℕ) → length store ≡ h.k → SmallValues (ok_of h) store → (budget : ℕ)
    → Ended ProgramIn holding step config_bytes leaving (record { block = P; store = store }) budget h (length buf) (stepper_done (run_stepper buf used store budget))
unfolding stepped_to
stepper-ended p low store count values budget =
    let ran = stepper-ran p low store count values budget in
    record {
      state = ran.c;
      long = _;
      is = ap (λ (x : StepperCall). x.answer) (stepper-is p low store count values budget);
      stepped = ran.ran.stepped;
      again = ran.again;
      same_room = ran.same_room;
      leaves = ran.values;
    }

module _ {P : Block} {buf : List ℕ} {used : ℕ} {other : List ℕ} {n : ℕ} {h : Header} (p : Programs h P buf used other n) (m : ℕ) (store : List ℕ) (budget : ℕ) where
  -- rows 6 and 16 say the same of both
  own-rows : first_row (stepper_rows buf used store) ≡ first_row (stepper_rows other n store)
  own-rows =
      program-first p.first p.low (bad_buffer buf used) refl (store_rows buf used store [])
      ∙ ap₂ (λ (a b : Bool). first_row (row 6 a ∷ row 16 b ∷ [])) (same_store buf used other n store (records-k (program-records p))) (same-values buf used other n store (records-ok (program-records p)))
      ∙ sym (program-first p.second p.low_other (bad_buffer other n) refl (store_rows other n store []))

  -- what stands behind row 2
  abbrev rest : List ℕ → ℕ → List Row
  rest b u = row 3 (bad_k b u) ∷ row 4 (bad_block b u) ∷ row 5 (block_outside b u) ∷ row 15 (block_above b u) ∷ store_rows b u store []

  -- the numbers of both are the same where row 1 says the same
  pub stepper-rows : bad_buffer buf m ≡ bad_buffer other (4 + m) → first_row (stepper_rows buf m store) ≡ first_row (stepper_rows other (4 + m) store)
  stepper-rows one = same_first (program-records p) rest own-rows m one

  abbrev runs : List ℕ → ℕ → StepperCall
  runs b u = run_stepper b u store budget

  -- any order that has room
  pub stepper-same : RoomIn buf other (runs buf m).answer (runs other (4 + m)).answer → StepperSame h buf used other n (runs buf m) (runs other (4 + m))
  stepper-same =
      order_same ProgramIn (λ b u. stepper_rows b u store) (λ b u. stepper_done (runs b u)) store (λ b u z. ap stepper_done (stepper-refused b u store budget z)) p (records-longer (program-records p)) own-rows
      (λ i z. (stepper-takes p.first i store z).same) (λ j z. (stepper-takes p.second j store z).same) accepts m
    where
      accepts : first_row (stepper_rows buf used store) ≡ 0 → first_row (stepper_rows other n store) ≡ 0
          → RoomIn buf other (runs buf used).answer (runs other n).answer → StepperSame h buf used other n (runs buf used) (runs other n)
      accepts z z' room =
          let t = stepper-takes p.first used store z in
          let t' = stepper-takes p.second n store z' in
          ended_same ProgramIn holding step config_bytes leaving (record { block = P; store = store }) budget h (λ c. program-longer h c.block) buf other
          (stepper-ended p.first p.low store t.count t.values budget) (stepper-ended p.second p.low_other store t'.count t'.values budget) room
          used n p.low p.low_other
