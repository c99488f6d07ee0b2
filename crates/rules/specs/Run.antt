-- A run of either machine with a budget and a room (01 "Run orders"). The machine is its step `f`, the room a test `fits`
-- of a state.
use Rattle.std.specs.Prelude.{suc, zero, ℕ, ◌≡◌, Bool, cond, false, true}
use Rattle.std.proofs.Math.Option.{Option, none, some}
use Rattle.rules.specs.Syntax.{Answer, finished, next, over}

-- ANY NUMBER OF STEPS

-- What `more` makes of the next state, where there is one.
unfoldable pub or_stop : {A : Type 0} → Answer A → (A → Option A) → Option A
or_stop (finished vs) more = none
or_stop over more = none
or_stop (next a) more = more a

-- The state after n steps, if n can be made.
unfoldable pub iterate : {A : Type 0} → (A → Answer A) → ℕ → A → Option A
iterate f zero a = some a
iterate f (suc n) a = or_stop (f a) (λ b. iterate f n b)

-- A further step is possible: there is a next state, and it fits.
abbrev pub Further : {A : Type 0} → (A → Answer A) → (A → Bool) → A → Type 0
Further {A} f fits a = (b : A) × (f a ≡ next b) × (fits b ≡ true)

-- THE RUN

-- 01's outcomes; a call that is refused has the last.
pub data Outcome : Type 0 where
  is_finished is_over no_room spent refused : Outcome

-- The steps made, the outcome, the state left.
pub record Ran (A : Type 0) : Type 0 where
  pub count : ℕ
  pub outcome : Outcome
  pub state : A

module _ {A : Type 0} (f : A → Answer A) (fits : A → Bool) where
  -- The outcome is read from the state left, from what a step of it would come to: finished, over, no room, or spent.
  unfoldable pub outcome_of : Answer A → Outcome
  outcome_of (finished vs) = is_finished
  outcome_of over = is_over
  outcome_of (next b) = cond (fits b) spent no_room

  -- A run that makes no step: a is the state left, and the outcome is read from it.
  unfoldable pub stop : A → Ran A
  stop a = record { count = 0; outcome = outcome_of (f a); state = a }

  -- The run r with one step more in its count.
  unfoldable pub one_more : Ran A → Ran A
  one_more r = record { count = suc r.count; outcome = r.outcome; state = r.state }

  -- By whether the next state b fits: a step to b and what `more` makes of it, or a stop at a.
  unfoldable pub go_on : A → Bool → (A → Ran A) → A → Ran A
  go_on a false more b = stop a
  go_on a true more b = one_more (more b)

  -- By what a step of a comes to: it goes on where there is a next state and that fits, and else stops at a.
  unfoldable pub run_on : A → (A → Ran A) → Answer A → Ran A
  run_on a more (finished vs) = stop a
  run_on a more over = stop a
  run_on a more (next b) = go_on a (fits b) more b

  -- A run of a budget: a step where there is budget, a next state, and room for it.
  unfoldable pub run : ℕ → A → Ran A
  run zero a = stop a
  run (suc n) a = run_on a (λ b. run n b) (f a)
