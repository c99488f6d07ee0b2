-- The plan of a next step, of either engine: its parts, the plans of plus one and of a turn, and what it says of the run.
use Rattle.std.specs.Prelude.{ℕ, zero, suc, ◌+◌, ◌-◌, Bool, false, true}
use Rattle.rules.specs.Run.{Outcome, is_finished, is_over}
use Rattle.run.specs.RunAnswer.{room_reads}
use Rattle.plan.specs.declared.Plan.{Plan}
use Rattle.plan.specs.declared.Rule.{Rule}
use Rattle.plan.specs.declared.Rule.TheVariants.{Bind, Evaluate, Finished, Leave, Over, Stop, Unroll}

-- A plan for the command or redex at `at`, with so many blocks or let-alls open around it.
abbrev pub plan : ℕ → ℕ → Rule → ℕ → ℕ → ℕ → ℕ → Plan
plan levels at rule variable value up down =
    record { rule = rule; levels = levels; at = at; variable = variable; value = value; up = up; down = down }

-- Plus one, or succ, becomes the number n, which takes `down` bytes less, where n is not too large.
unfoldable pub plan_raise : ℕ → ℕ → ℕ → ℕ → ℕ → Bool → Plan
plan_raise levels at x n down true = plan levels at Evaluate x n 0 down
plan_raise levels at x n down false = plan levels at Over x 0 0 0

-- A loop, or a rec, whose body has n bytes (a loop's commands; the record of a rec's body), by the value of its bound or count. Of 0:
-- 16 bytes and the body go. Of q + 1: a head of 4 bytes, the 16 bytes that give the index that value, and the body once more come.
unfoldable pub plan_turn : ℕ → ℕ → ℕ → ℕ → ℕ → Plan
plan_turn levels at x n zero = plan levels at Stop x 0 0 (16 + n)
plan_turn levels at x n (suc q) = plan levels at Unroll x (suc q) (20 + n) 0

-- The outcome that a state of `used` bytes reads, by the plan of its next step, which says how many bytes come and go.
unfoldable pub plan_reads : Plan → Rule → ℕ → ℕ → Outcome
plan_reads p Finished used room = is_finished
plan_reads p Over used room = is_over
plan_reads p Bind used room = room_reads (used + p.up - p.down) room
plan_reads p Evaluate used room = room_reads (used + p.up - p.down) room
plan_reads p Leave used room = room_reads (used + p.up - p.down) room
plan_reads p Stop used room = room_reads (used + p.up - p.down) room
plan_reads p Unroll used room = room_reads (used + p.up - p.down) room

-- The rule makes a step.
abbrev pub Moves : Rule → Type 0
Moves Finished = ⊥
Moves Over = ⊥
Moves Bind = Unit {0}
Moves Evaluate = Unit {0}
Moves Leave = Unit {0}
Moves Stop = Unit {0}
Moves Unroll = Unit {0}
