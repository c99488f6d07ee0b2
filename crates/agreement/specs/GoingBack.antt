-- GOING BACK to 01's stepper: "The expansion can be written out, so a user who goes back to the old stepper mid-load loses no step"
-- (02 C-14).
use Rattle.std.specs.Prelude.{◌<◌, ℕ, ◌≤◌, ◌≡◌, ◌↔◌, List, length, take}
use Rattle.std.proofs.Math.Option.{some}
use Rattle.counting.specs.CountingCall.{expand_call}
use Rattle.counting.specs.Depth.{nesting}
use Rattle.record.specs.Answers.{Wrote}
use Rattle.record.specs.declared.Header.{Header}
use Rattle.record.specs.Header.{encode_program, ok_of}
use Rattle.record.specs.Holding.{ProgramIn}
use Rattle.rules.specs.Run.{iterate}
use Rattle.rules.specs.Step.{step}
use Rattle.rules.specs.Syntax.{Block, Config}
use Rattle.agreement.specs.Demand3.{Agreed, HoldsBlock, Refuses, Start, start_world}
use Rattle.agreement.specs.Orders.{AllAllowed, Order, Stepper, World, change, counted, play, recorded, steps}
use Rattle.agreement.specs.Together.{StopTogether}

-- What is written out of the counting stepper's state in the world w, a buffer with the program and an output buffer being lent.
abbrev pub written_out : World → List ℕ → ℕ → List ℕ → Wrote
written_out w buf used out = expand_call buf used (w (steps counted)).memory.words (w (steps counted)).memory.store out

-- The world in which 01's stepper goes on from there: it holds the record written out and the counting stepper's store, and its total is
-- begun at the counting stepper's.
unfoldable pub went_back : World → Wrote → World
went_back w r =
    change (steps recorded) (record {
      memory = record { buf = r.written; used = r.used; store = (w (steps counted)).memory.store };
      total = (w (steps counted)).total;
    }) w

-- No step is lost: 01's stepper holds the configuration that is as many steps from the program P and the store μ as its total says.
pub record NoStepLost (h : Header) (P : Block) (μ : List ℕ) (w : World) : Type 0 where
  pub c : Config
  pub reached : iterate (step (ok_of h)) (w (steps recorded)).total (record { block = P; store = μ }) ≡ some c
  pub holds : ProgramIn h c.block (w (steps recorded)).memory.buf (w (steps recorded)).memory.used
  pub store : (w (steps recorded)).memory.store ≡ c.store

-- When the state is written out, the program's buffer and the output buffer being no longer than 16,384 bytes and P nested no more than
-- 32 deep: exactly where the record of the block that it holds fits; else the refusal is 10.
pub record WritesOut (h : Header) (P : Block) (w : World) : Type 0 where
  pub Q : Block
  pub holds : HoldsBlock h P counted (w (steps counted)).memory Q
  pub accepts : (buf out : List ℕ) → take (length (encode_program h P)) buf ≡ encode_program h P → length buf ≤ 16384 → nesting P ≤ 32 → length out ≤ 16384
      → ((written_out w buf (length (encode_program h P)) out).number ≡ 0) ↔ (length (encode_program h Q) ≤ length out)
  pub ten : (buf out : List ℕ) → take (length (encode_program h P)) buf ≡ encode_program h P → length buf ≤ 16384 → nesting P ≤ 32 → length out ≤ 16384
      → ((written_out w buf (length (encode_program h P)) out).number ≡ 10) ↔ (length out < length (encode_program h Q))

-- For every start and after every list of orders.
unfoldable pub WritingOut : Type 0
WritingOut = (h : Header) (P : Block) (μ : List ℕ) (s : Start h P μ) (os : List Order) → AllAllowed h (encode_program h P) os
    → WritesOut h P (play (start_world h P μ s) os)

-- What is so after going back, as it is from the start: besides, demand 3's conclusions of either stepper, which orders are refused, when
-- the state is written out again, and that either stepper and the reducer stop for the ceiling together (02 C-17).
pub record GoesOn (h : Header) (P : Block) (μ : List ℕ) (w : World) : Type 0 where
  pub no_step_lost : NoStepLost h P μ w
  pub agrees : (e : Stepper) → Agreed h P e w
  pub refuses : Refuses h P w
  pub writes_out : WritesOut h P w
  pub together : (e : Stepper) → StopTogether h P e w

-- For every start: after any list of orders, its world being w, an accepted writing out, and any further list of orders.
unfoldable pub GoingBack : Type 0
GoingBack = (h : Header) (P : Block) (μ : List ℕ) (s : Start h P μ) (os : List Order) → AllAllowed h (encode_program h P) os
    → (w : World) → w ≡ play (start_world h P μ s) os
    → (buf : List ℕ) (used : ℕ) (out : List ℕ) → take (length (encode_program h P)) buf ≡ encode_program h P → (written_out w buf used out).number ≡ 0
    → (ps : List Order) → AllAllowed h (encode_program h P) ps → GoesOn h P μ (play (went_back w (written_out w buf used out)) ps)
