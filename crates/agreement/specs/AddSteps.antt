-- ADD IN GENERAL (01 "Bench loads"): "ADD is k = 4, {x3 := x1; for x4 := 1 to x2 {x3 := x3 + 1}}: 64 bytes, term 172 bytes,
-- 3 + 5·x2 steps." P1 and P2 have two of its stores; here it is said of every one.
use Rattle.std.specs.Prelude.{◌*◌, ◌+◌, suc, zero, ℕ, ◌≤◌, ◌≡◌, Bool, List, [], ◌∷◌, map, length, take}
use Rattle.std.proofs.Math.Option.{some}
use Rattle.record.specs.Header.{encode_program, encode_term, largest_of, ok_of}
use Rattle.reducer.specs.RunReducer.{reduced_to, run_reducer}
use Rattle.rules.specs.Rules.{at}
use Rattle.rules.specs.Run.{is_finished, iterate}
use Rattle.rules.specs.Sound.{SmallValues}
use Rattle.rules.specs.Step.{step}
use Rattle.rules.specs.Store.{no_limit}
use Rattle.rules.specs.Substitution.{state_of}
use Rattle.rules.specs.Syntax.{empty, num, tuple}
use Rattle.rules.specs.Translation.{translate}
use Rattle.stepper.specs.RunStepper.{run_stepper, stepped_to}
use Rattle.agreement.specs.Examples.{add, of_variables}

-- The index after a loop of n turns: the number of the last turn, and untouched where there is none (01 "Stepper").
unfoldable pub index_after : ℕ → ℕ → ℕ
index_after zero x = x
index_after (suc q) x = suc q

-- The number of ADD's steps, where variable 2 has the value x2.
abbrev pub add_steps : ℕ → ℕ
add_steps x2 = 3 + 5 * x2

-- A store of four values.
abbrev pub four : ℕ → ℕ → ℕ → ℕ → List ℕ
four x1 x2 x3 x4 = x1 ∷ x2 ∷ x3 ∷ x4 ∷ []

-- The store at ADD's end: x3 is the sum, x4 the last turn's number (P1: 7,3,10,3; P2: 7,0,7,0).
abbrev pub add_end : ℕ → ℕ → ℕ → List ℕ
add_end x1 x2 x4 = four x1 x2 (x1 + x2) (index_after x2 x4)

-- What 01 says of ADD, of every start store.
pub record AddSteps : Type 0 where
  pub program_length : length (encode_program (of_variables 4) add) ≡ 64
  pub term_length : length (encode_term (of_variables 4) (translate 4 add)) ≡ 172
  -- by the rules with no largest value: after 3 + 5·x2 steps the outermost block is empty
  pub finishes : (x1 x2 x3 x4 : ℕ) → iterate (step no_limit) (add_steps x2) (at add (four x1 x2 x3 x4)) ≡ some (at empty (add_end x1 x2 x4))
  -- and under any test for too large a value it is empty after no other number of steps, and with no other store
  pub no_other : (ok : ℕ → Bool) (x1 x2 x3 x4 n : ℕ) (ν : List ℕ) → iterate (step ok) n (at add (four x1 x2 x3 x4)) ≡ some (at empty ν)
      → (n ≡ add_steps x2) × (ν ≡ add_end x1 x2 x4)
  -- THE CALLS: where the sum is a value, the buffer has room for x2 turns and the budget is enough, a run finishes in so many steps.
  -- Room for three turns is 156 bytes, 01's number for P1
  pub stepper_runs : (x1 x2 x3 x4 : ℕ) (buf : List ℕ) (budget : ℕ) → SmallValues (ok_of (of_variables 4)) (four x1 x2 x3 x4) → x1 + x2 ≤ largest_of (of_variables 4)
      → take 64 buf ≡ encode_program (of_variables 4) add → length buf ≤ 16384 → 48 + 36 * x2 ≤ length buf → add_steps x2 ≤ budget
      → run_stepper buf 64 (four x1 x2 x3 x4) budget
      ≡ stepped_to (of_variables 4) (length buf) budget (record { count = add_steps x2; outcome = is_finished; state = at empty (add_end x1 x2 x4) })
  -- the same of the reducer: room for three turns is 384 bytes, 01's number for P1
  pub reducer_runs : (x1 x2 x3 x4 : ℕ) (buf : List ℕ) (budget : ℕ) → SmallValues (ok_of (of_variables 4)) (four x1 x2 x3 x4) → x1 + x2 ≤ largest_of (of_variables 4)
      → take 172 buf ≡ encode_term (of_variables 4) (state_of 4 (at add (four x1 x2 x3 x4))) → length buf ≤ 16384 → 156 + 76 * x2 ≤ length buf → add_steps x2 ≤ budget
      → run_reducer buf 172 budget
      ≡ reduced_to (of_variables 4) (length buf) budget (state_of 4 (at add (four x1 x2 x3 x4))) (record { count = add_steps x2; outcome = is_finished; state = tuple (map num (add_end x1 x2 x4)) })
