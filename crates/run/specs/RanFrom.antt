-- WHAT AN ACCEPTED RUN ANSWERS (demand 2), of any machine: f is its step, `bytes` the record of a state.
use Rattle.std.specs.Prelude.{◌+◌, ◌<◌, ℕ, ◌≤◌, ◌≡◌, ◌↔◌, List, length}
use Rattle.std.proofs.Math.Option.{some}
use Rattle.rules.specs.Run.{is_finished, is_over, iterate, no_room, refused, spent}
use Rattle.rules.specs.Syntax.{Answer, finished, next, over}
use Rattle.run.specs.RunAnswer.{RunAnswer}

-- A further step is possible in a buffer of `room` bytes: the state is not finished, its next value not too large, and its
-- next state fits.
abbrev pub FurtherIn : {A : Type 0} → (A → Answer A) → (A → List ℕ) → ℕ → A → Type 0
FurtherIn {A} f bytes room a = (b : A) × (f a ≡ next b) × (length (bytes b) ≤ room)

-- From a₀ under a budget, the state left being `state`.
pub record RanFrom {A : Type 0} (f : A → Answer A) (bytes : A → List ℕ) (a₀ : A) (room budget : ℕ) (answer : RunAnswer) (state : A) : Type 0 where
  pub number : answer.number ≡ 0
  -- the state left is as many steps on as the answer says
  pub stepped : iterate f answer.steps a₀ ≡ some state
  pub used : answer.used ≡ length (bytes state)
  pub left : answer.steps + answer.left ≡ budget
  -- after each number i of steps that it made, it makes a further one exactly when budget is left and one is possible
  pub makes : (i : ℕ) → i ≤ answer.steps → (i < answer.steps) ↔ ((i < budget) × ((b : A) × (iterate f i a₀ ≡ some b) × FurtherIn f bytes room b))
  -- the outcome is read from the state left, first match
  pub finishes : (answer.outcome ≡ is_finished) ↔ ((vs : List ℕ) × (f state ≡ finished vs))
  pub overs : (answer.outcome ≡ is_over) ↔ (f state ≡ over)
  pub no_rooms : (answer.outcome ≡ no_room) ↔ ((b : A) × (f state ≡ next b) × (room < length (bytes b)))
  pub spends : (answer.outcome ≡ spent) ↔ ((answer.steps ≡ budget) × FurtherIn f bytes room state)
  pub not_refused : answer.outcome ≡ refused → ⊥
