-- "WHERE NEITHER LANE RUNS OUT OF ROOM OR BUDGET, one stops for the ceiling exactly when the other does, and at the same total" (02 C-17). Of
-- every start and every list of orders, and of either stepper.
use Rattle.std.specs.Prelude.{◌+◌, ℕ, ◌≡◌, ◌↔◌, List, length, take}
use Rattle.counting.specs.CountingCall.{run_counting}
use Rattle.counting.specs.CountingRan.{no_record}
use Rattle.record.specs.declared.Header.{Header}
use Rattle.record.specs.Header.{encode_program, encode_term, ok_of}
use Rattle.record.specs.Program.{BlockWords}
use Rattle.record.specs.Term.{TermWords}
use Rattle.reducer.specs.RunReducer.{run_reducer}
use Rattle.rules.specs.Reduction.{reduce}
use Rattle.rules.specs.Run.{Outcome, is_over, no_room, outcome_of, spent}
use Rattle.rules.specs.Step.{step}
use Rattle.rules.specs.Syntax.{Block, Term}
use Rattle.run.specs.RunAnswer.{RunAnswer, room_for}
use Rattle.stepper.specs.RunStepper.{run_stepper}
use Rattle.stepping.specs.State.{config_bytes}
use Rattle.agreement.specs.Demand3.{HoldsBlock, Start, start_world}
use Rattle.agreement.specs.Orders.{AllAllowed, AllowedTo, Engine, Memory, Order, OrderTo, Stepper, World, counted, play, recorded, reduces, steps, values_lent}

-- Neither room nor budget is what stopped it.
abbrev pub Stopped : Outcome → Type 0
Stopped o = (o ≡ no_room → ⊥) × (o ≡ spent → ⊥)

-- READ FROM THE TWO STATES, whatever outcome was returned (01 "Where an order stops": the outcome is read from the state left)

-- What a stepper reads that holds m and the block Q; the counting stepper has room for every state.
abbrev pub stepper_reads : Header → (e : Stepper) → Memory (steps e) → Block → Outcome
stepper_reads h recorded m Q =
    outcome_of (step (ok_of h)) (room_for (config_bytes h) (length m.buf)) (step (ok_of h) (record { block = Q; store = m.store }))
stepper_reads h counted m Q = outcome_of (step (ok_of h)) (room_for no_record 0) (step (ok_of h) (record { block = Q; store = m.store }))

-- What the reducer reads that holds n and the term t.
abbrev pub reducer_reads : Header → Memory reduces → Term → Outcome
reducer_reads h n t = outcome_of (reduce (ok_of h)) (room_for (encode_term h) (length n.buf)) (reduce (ok_of h) t)

-- What the two engines hold in the world w, and the sentence of it.
pub record StopTogether (h : Header) (P : Block) (e : Stepper) (w : World) : Type 0 where
  pub Q : Block
  pub t : Term
  pub stepper_holds : HoldsBlock h P e (w (steps e)).memory Q
  pub reducer_holds : take (w reduces).memory.used (w reduces).memory.buf ≡ encode_term h t
  pub program_words : BlockWords Q
  pub term_words : TermWords h.k t
  pub together : Stopped (stepper_reads h e (w (steps e)).memory Q) → Stopped (reducer_reads h (w reduces).memory t)
      → ((stepper_reads h e (w (steps e)).memory Q ≡ is_over) ↔ (reducer_reads h (w reduces).memory t ≡ is_over))
      × ((w (steps e)).total ≡ (w reduces).total)

-- For every start and after every list of orders.
unfoldable pub Together : Type 0
Together = (e : Stepper) (h : Header) (P : Block) (μ : List ℕ) (s : Start h P μ) (os : List Order) → AllAllowed h (encode_program h P) os
    → StopTogether h P e (play (start_world h P μ s) os)

-- AS THE LANES ANSWER

-- What an engine that holds m answers an order.
abbrev pub answer_to : (e : Engine) → Memory e → OrderTo e → RunAnswer
answer_to (steps recorded) m o = (run_stepper m.buf o.used (values_lent o.lent m.store) o.budget).answer
answer_to (steps counted) m o = (run_counting o.buf o.used m.words (values_lent o.lent m.store) o.budget).answer
answer_to reduces m o = (run_reducer m.buf o.used o.budget).answer

-- For every start, after every list of orders, its world being w: of one more order to the stepper and one more to the reducer, both
-- accepted and neither answered with no room or spent, the one is answered with over exactly when the other is, and the totals are equal.
unfoldable pub TogetherAnswered : Type 0
TogetherAnswered = (e : Stepper) (h : Header) (P : Block) (μ : List ℕ) (s : Start h P μ) (os : List Order) → AllAllowed h (encode_program h P) os
    → (w : World) → w ≡ play (start_world h P μ s) os
    → (o : OrderTo (steps e)) → AllowedTo h (encode_program h P) (steps e) o → (p : OrderTo reduces)
    → (a b : RunAnswer) → a ≡ answer_to (steps e) (w (steps e)).memory o → b ≡ answer_to reduces (w reduces).memory p
    → a.number ≡ 0 → b.number ≡ 0 → Stopped a.outcome → Stopped b.outcome
    → ((a.outcome ≡ is_over) ↔ (b.outcome ≡ is_over)) × ((w (steps e)).total + a.steps ≡ (w reduces).total + b.steps)
