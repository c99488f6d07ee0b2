-- "The stepper's and the reducer's room may give out at different totals" (01 "Run orders").
use Rattle.std.specs.Prelude.{ℕ, ◌≡◌, List, length}
use Rattle.record.specs.declared.Header.{Header}
use Rattle.reducer.specs.RunReducer.{run_reducer}
use Rattle.rules.specs.Run.{no_room}
use Rattle.rules.specs.Syntax.{Block}
use Rattle.run.specs.RunAnswer.{RunAnswer}
use Rattle.stepper.specs.RunStepper.{run_stepper}
use Rattle.agreement.specs.Demand3.{Start}
use Rattle.agreement.specs.Examples.{budget}

-- A run that stops for want of room after n steps. (Refused it would have the outcome refused.)
pub record StopsForRoom (answer : RunAnswer) (n : ℕ) : Type 0 where
  pub outcome : answer.outcome ≡ no_room
  pub steps : answer.steps ≡ n

-- There are a program and a store, both accepted, as demand 3 has them at its start, and two buffers of the same length, in which
-- the first order of a large budget to each engine stops for want of room, at totals that are not equal.
pub record RoomsDiffer : Type 0 where
  pub header : Header
  pub program : Block
  pub store : List ℕ
  pub start : Start header program store
  pub same_length : length start.stepper_buf ≡ length start.reducer_buf
  pub stepper_total : ℕ
  pub reducer_total : ℕ
  pub stepper_stops : StopsForRoom (run_stepper start.stepper_buf start.check_used store budget).answer stepper_total
  pub reducer_stops : StopsForRoom (run_reducer start.reducer_buf start.reducer_used budget).answer reducer_total
  pub differ : stepper_total ≡ reducer_total → ⊥
