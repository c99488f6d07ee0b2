-- Some of 01's loads on the counting stepper, and the words of some states, computed.
use Prim.Native.Nat.{ℕ}
use mathlib.Core.Path.{refl, ◌≡◌}
use mathlib.Core.Bool.{true}
use mathlib.Core.List.{List, [], ◌∷◌}
use mathlib.Core.Option.{Option, map, some}
use lib.ListN.{take}
use Rattle.place.proofs.ProgramBytesLaws.{block_size-assign, block_size-empty, block_size-loop}
use Rattle.rules.specs.Run.{Outcome, Ran, go_on, is_finished, iterate, one_more, or_stop, outcome_of, run, run_on, stop}
use Rattle.rules.specs.Step.{bound_value}
use Rattle.rules.specs.Store.{lookup, minus_one, no_limit, update}
use Rattle.rules.specs.Syntax.{Block, assign, empty, inc, lit, loop, upto, upto_var, var}
use Rattle.counting.specs.CountStep.{count_step, enter_loop, step_here, step_in, step_state, step_sum, turn_done}
use Rattle.counting.specs.Counting.{Counting, start}
use Rattle.counting.specs.Held.{around, held_loop, left_at_loop, numbers, shut_at, turn_numbers}
use Rattle.counting.specs.Place.{place_of}
use Rattle.counting.specs.Size.{expand_size, turns_size}
use Rattle.counting.specs.StateWords.{encode_state, held_words, packed}

-- ADD: {x3 := x1; for x4 := 1 to x2 {x3 := x3 + 1}}
abbrev add : Block
add = assign 3 (var 1) (loop 4 (upto_var 2) (assign 3 (inc 3) empty) empty)

-- The outcome, the steps and the store of a run with 01's budget.
pub record Seen : Type 0 where
  pub outcome : Outcome
  pub steps : ℕ
  pub values : List ℕ

abbrev seen : Ran Counting → Seen
seen r = record { outcome = r.outcome; steps = r.count; values = r.state.store }

abbrev go : Block → List ℕ → Seen
go P μ = seen (run (count_step no_limit) (λ c. true) 1000000 (record { state = start P; store = μ }))

pub p1 : go add (7 ∷ 3 ∷ 0 ∷ 0 ∷ []) ≡ record { outcome = is_finished; steps = 18; values = 7 ∷ 3 ∷ 10 ∷ 3 ∷ [] }
unfolding count_step step_state step_here step_in step_sum enter_loop turn_done run run_on go_on one_more stop outcome_of bound_value lookup update minus_one
p1 = refl

pub p7 : go (loop 1 (upto 3) (assign 1 (lit 0) empty) empty) (9 ∷ []) ≡ record { outcome = is_finished; steps = 14; values = 0 ∷ [] }
unfolding count_step step_state step_here step_in step_sum enter_loop turn_done run run_on go_on one_more stop outcome_of bound_value lookup update minus_one
p7 = refl

pub p8 : go (loop 2 (upto_var 1) (assign 1 (inc 1) empty) empty) (2 ∷ 0 ∷ []) ≡ record { outcome = is_finished; steps = 12; values = 4 ∷ 2 ∷ [] }
unfolding count_step step_state step_here step_in step_sum enter_loop turn_done run run_on go_on one_more stop outcome_of bound_value lookup update minus_one
p8 = refl

-- The first words of P1's state after n steps: the three of all states, and the six of the first entry.
abbrev words : ℕ → Option (List ℕ)
words n = map (λ (c : Counting). take 9 (encode_state add c.state)) (iterate (count_step no_limit) n (record { state = start add; store = 7 ∷ 3 ∷ 0 ∷ 0 ∷ [] }))

-- 2 steps: the loop at 16 unrolls, its literal 2; 5: it runs at 0; 6: turn 1 is to store its index; 8: a sum waits in its body; 18: the end
pub words-2 : words 2 ≡ some (16 ∷ 0 ∷ 0 ∷ 2 ∷ 16 ∷ 3 ∷ 2 ∷ 0 ∷ 0 ∷ [])
unfolding count_step step_state step_here step_in step_sum enter_loop turn_done iterate or_stop bound_value lookup update minus_one encode_state packed held_words numbers shut_at turn_numbers around held_loop left_at_loop place_of
words-2 = simp (block_size-assign, block_size-loop, block_size-empty)

pub words-5 : words 5 ≡ some (16 ∷ 0 ∷ 0 ∷ 2 ∷ 16 ∷ 3 ∷ 0 ∷ 1 ∷ 0 ∷ [])
unfolding count_step step_state step_here step_in step_sum enter_loop turn_done iterate or_stop bound_value lookup update minus_one encode_state packed held_words numbers shut_at turn_numbers around held_loop left_at_loop place_of
words-5 = simp (block_size-assign, block_size-loop, block_size-empty)

pub words-6 : words 6 ≡ some (16 ∷ 0 ∷ 0 ∷ 2 ∷ 16 ∷ 3 ∷ 1 ∷ 1 ∷ 1 ∷ [])
unfolding count_step step_state step_here step_in step_sum enter_loop turn_done iterate or_stop bound_value lookup update minus_one encode_state packed held_words numbers shut_at turn_numbers around held_loop left_at_loop place_of
words-6 = simp (block_size-assign, block_size-loop, block_size-empty)

pub words-8 : words 8 ≡ some (16 ∷ 1 ∷ 8 ∷ 2 ∷ 16 ∷ 3 ∷ 1 ∷ 1 ∷ 38 ∷ [])
unfolding count_step step_state step_here step_in step_sum enter_loop turn_done iterate or_stop bound_value lookup update minus_one encode_state packed held_words numbers shut_at turn_numbers around held_loop left_at_loop place_of
words-8 = simp (block_size-assign, block_size-loop, block_size-empty)

pub words-18 : words 18 ≡ some (52 ∷ 0 ∷ 0 ∷ 0 ∷ 0 ∷ 0 ∷ 0 ∷ 0 ∷ 0 ∷ [])
unfolding count_step step_state step_here step_in step_sum enter_loop turn_done iterate or_stop bound_value lookup update minus_one encode_state packed held_words numbers shut_at turn_numbers around held_loop left_at_loop place_of
words-18 = simp (block_size-assign, block_size-loop, block_size-empty)

-- P1's configuration needs 156 bytes (01): 12 before the outermost block's commands, and the expansion after 4 steps
pub size-4 : map (λ (c : Counting). expand_size c.state) (iterate (count_step no_limit) 4 (record { state = start add; store = 7 ∷ 3 ∷ 0 ∷ 0 ∷ [] })) ≡ some 144
unfolding count_step step_state step_here step_in step_sum enter_loop turn_done iterate or_stop bound_value lookup update minus_one expand_size turns_size
size-4 = simp (block_size-assign, block_size-empty)
