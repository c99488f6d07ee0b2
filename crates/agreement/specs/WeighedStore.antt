-- "THE ENGINES TAKE THE STORE EITHER GIVES, where it has k values" (02 C-11, of the store that C-15 gives; either: of the two rules); "the
-- engines now take a weighed store whose values are within the ceiling" (02 C-17). Over the calls, both rules at once.
use Rattle.std.specs.Prelude.{◌<◌, ℕ, ◌≤◌, ◌≡◌, List, length, replicate, take}
use Rattle.counting.specs.CountingCall.{run_counting}
use Rattle.counting.specs.Depth.{nesting}
use Rattle.record.specs.Answers.{check_program}
use Rattle.record.specs.declared.Header.{Header}
use Rattle.record.specs.Header.{encode_program, encode_term, largest_of, ok_of}
use Rattle.record.specs.Program.{BlockWords}
use Rattle.reducer.specs.RunReducer.{run_reducer}
use Rattle.rules.specs.Sound.{SmallValues}
use Rattle.rules.specs.Syntax.{Block}
use Rattle.rules.specs.Translation.{translate}
use Rattle.stepper.specs.RunStepper.{run_stepper}
use Rattle.term.specs.Calls.{substitute_call, translate_call}
use Rattle.weighing.specs.Weigh.{weigh_call}
use Rattle.agreement.specs.Demand3.{Start, begun, start_world}

-- The record of the program's term stands first in a buffer that is not too long.
pub record TermLent (h : Header) (P : Block) (buf : List ℕ) (used : ℕ) : Type 0 where
  pub low : length buf ≤ 16384
  pub within : used ≤ length buf
  pub bytes : take used buf ≡ encode_term h (translate h.k P)

-- The engines take the store μ for the program P, whose record with the header h is the first cu bytes of cb.
pub record EnginesTake (h : Header) (P : Block) (cb : List ℕ) (cu : ℕ) (μ : List ℕ) : Type 0 where
  -- the stepper's run accepts it, with any budget, in every buffer that begins with the program's record and is not too long
  pub stepper : (buf : List ℕ) (budget : ℕ) → length buf ≤ 16384 → take cu buf ≡ take cu cb → (run_stepper buf cu μ budget).answer.number ≡ 0
  -- the counting stepper's run accepts it too, from the words of the start, where the program is nested no more than 32 deep
  pub counting : (buf : List ℕ) (budget : ℕ) → length buf ≤ 16384 → take cu buf ≡ take cu cb → nesting P ≤ 32
      → (run_counting buf cu (replicate 189 0) μ budget).answer.number ≡ 0
  -- substituting it in the program's term is accepted; and what translate writes, where it accepts, is that term
  pub substitutes : (buf : List ℕ) (used : ℕ) → TermLent h P buf used → (substitute_call buf used μ).number ≡ 0
  pub translates : (out : List ℕ) → (translate_call cb cu out).number ≡ 0 → TermLent h P (translate_call cb cu out).written (translate_call cb cu out).used
  -- the reducer's run accepts what substituting left, with any budget
  pub reducer : (buf : List ℕ) (used : ℕ) → TermLent h P buf used → (budget : ℕ)
      → (run_reducer (substitute_call buf used μ).written (substitute_call buf used μ).used budget).answer.number ≡ 0
  -- so it is a start of demand 3: with any two buffers that begin with the program's record and with what substituting left
  pub start : (buf : List ℕ) (used : ℕ) → TermLent h P buf used → (stepper_buf : List ℕ) → take cu stepper_buf ≡ take cu cb
      → (reducer_buf : List ℕ) → (substitute_call buf used μ).used ≤ length reducer_buf
      → take (substitute_call buf used μ).used reducer_buf ≡ take (substitute_call buf used μ).used (substitute_call buf used μ).written
      → (s : Start h P μ) × (start_world h P μ s
      ≡ begun (record { buf = stepper_buf; used = cu; store = μ }) (record { buf = reducer_buf; used = (substitute_call buf used μ).used; replaced = 0 }))

-- Of every accepted weighing, by whichever rule, and every accepted program of as many variables as it gives values, none of them above
-- the program's ceiling; the 1 that C-15 gives variable 2 is such a value. (That a program is accepted is said as at demand 3's start.)
unfoldable pub WeighedStore : Type 0
WeighedStore = (rule gross tare : ℕ) (store : List ℕ) → (weigh_call rule gross tare store).number ≡ 0
    → (h : Header) (P : Block) (cb : List ℕ) (cu : ℕ) → check_program cb cu ≡ record { number = 0; k = h.k } → take cu cb ≡ encode_program h P → BlockWords P
    → largest_of h < 4294967296 → length store ≡ h.k → SmallValues (ok_of h) (weigh_call rule gross tare store).store
    → EnginesTake h P cb cu (weigh_call rule gross tare store).store

-- Where gross and tare are values within the ceiling, every weighed store is such a one: under a header of edition 1 of every
-- gross and tare of 32 bits.
unfoldable pub WeighedWithin : Type 0
WeighedWithin = (rule gross tare : ℕ) (store : List ℕ) → (weigh_call rule gross tare store).number ≡ 0
    → (h : Header) → gross ≤ largest_of h → tare ≤ largest_of h → SmallValues (ok_of h) (weigh_call rule gross tare store).store
