-- The answer of a run, and a run in a buffer: what the engines share (01 "Run orders").
use Rattle.std.specs.Prelude.{◌-◌, ℕ, Bool, cond, List, leb, length}
use Rattle.rules.specs.Run.{Outcome, Ran, is_finished, is_over, no_room, refused, run, spent}
use Rattle.rules.specs.Syntax.{Answer}

-- 01's words and C-16's numbers for the outcomes: finished, over, no room, spent. Refused is ours.
unfoldable pub outcome_number : Outcome → ℕ
outcome_number refused = 0
outcome_number is_finished = 1
outcome_number is_over = 2
outcome_number no_room = 3
outcome_number spent = 4

-- Number, outcome, steps made, budget left, the new used length.
pub record RunAnswer : Type 0 where
  pub number : ℕ
  pub outcome : Outcome
  pub steps : ℕ
  pub left : ℕ
  pub used : ℕ

-- A refused run: 0 for everything else.
abbrev pub refusal : ℕ → RunAnswer
refusal n = record { number = n; outcome = refused; steps = 0; left = 0; used = 0 }

-- An accepted run of a budget, its state left being `used` bytes long.
abbrev pub accepted : {A : Type 0} → ℕ → Ran A → ℕ → RunAnswer
accepted budget r used = record { number = 0; outcome = r.outcome; steps = r.count; left = budget - r.count; used = used }

-- Room: a state, of which `bytes` gives the record, is not longer than the buffer.
unfoldable pub room_for : {A : Type 0} → (A → List ℕ) → ℕ → A → Bool
room_for bytes room a = leb (length (bytes a)) room

-- The outcome that a state reads in a buffer of `room` bytes where its next state has n bytes.
unfoldable pub room_reads : ℕ → ℕ → Outcome
room_reads n room = cond (leb n room) spent no_room

-- The run of a machine in a buffer of `room` bytes.
abbrev pub run_in : {A : Type 0} → (A → Answer A) → (A → List ℕ) → ℕ → ℕ → A → Ran A
run_in f bytes room budget a = run f (room_for bytes room) budget a
