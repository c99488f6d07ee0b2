-- A plan made: what it does to the bytes and to the store, and what the next state is.
use Rattle.std.specs.Prelude.{ℕ, ◌*◌, ◌+◌, ◌-◌, ◌<◌, ◌≤◌, ◌≡◌, List, length}
use Rattle.buffer.specs.Slice.{put}
use Rattle.rules.specs.Rules.{at}
use Rattle.rules.specs.Scope.{Within}
use Rattle.rules.specs.Step.{step}
use Rattle.rules.specs.Store.{update}
use Rattle.rules.specs.Syntax.{Block, Config, next}
use Rattle.place.specs.Edit.{lead, leaf_bytes, removed, unrolled}
use Rattle.place.specs.Heads.{record_head}
use Rattle.record.specs.Answers.{padded}
use Rattle.record.specs.declared.Header.{Header}
use Rattle.record.specs.Header.{contents_at, ok_of}
use Rattle.plan.specs.Plan.{Moves}
use Rattle.plan.specs.declared.Plan.{Plan}
use Rattle.plan.specs.declared.Rule.{Rule}
use Rattle.plan.specs.declared.Rule.TheVariants.{Bind, Evaluate, Finished, Leave, Over, Stop, Unroll}
use Rattle.command.specs.Plan.{plan_of}
use Rattle.stepping.specs.State.{Stands, config_bytes}

-- THE BYTES

-- A loop of the variable x whose bound's value is v, unrolled: a block's head before it, the literal v - 1 for its bound, and
-- the assignment of v behind it.
unfoldable pub unrolled_at : List ℕ → ℕ → ℕ → ℕ → ℕ → ℕ → List ℕ
unrolled_at l p n used x v = unrolled l p n 20 used (record_head 1 (n + n)) (leaf_bytes 16 (v - 1)) (lead 2 16 x 16 v)

-- A loop of which n bytes go, and an empty block's head stays.
unfoldable pub stopped_at : List ℕ → ℕ → ℕ → ℕ → List ℕ
stopped_at l p n used = put (removed l (p + 4) n used) p (record_head 1 4)

-- The first `used` bytes after the command of a plan has changed, with the lengths around it still to be brought up to date.
unfoldable pub edited : Plan → Rule → ℕ → List ℕ → List ℕ
edited p Finished used l = l
edited p Over used l = l
edited p Bind used l = removed l p.at 16 used
edited p Evaluate used l = put l (p.at + 8) (leaf_bytes 16 p.value)
edited p Leave used l = removed l p.at 4 used
edited p Stop used l = stopped_at l p.at p.down used
edited p Unroll used l = unrolled_at l p.at p.up used p.variable p.value

-- What the edit of a plan asks of the numbers: its bytes lie within the record, and the record grows within the buffer.
abbrev pub EditFits : Plan → Rule → ℕ → ℕ → Type 0
EditFits p Finished used room = Unit {0}
EditFits p Over used room = Unit {0}
EditFits p Bind used room = p.at + 16 ≤ used
EditFits p Evaluate used room = p.at + 16 ≤ used
EditFits p Leave used room = p.at + 4 ≤ used
EditFits p Stop used room = p.at + 4 + p.down ≤ used
EditFits p Unroll used room = (20 ≤ p.up) × (p.at + p.up ≤ used) × (used + p.up ≤ room) × (0 < p.value)

-- THE STORE

-- The store after a plan: only Bind changes it.
unfoldable pub valued : Plan → Rule → List ℕ → List ℕ
valued p Finished s = s
valued p Over s = s
valued p Bind s = update s p.variable p.value
valued p Evaluate s = s
valued p Leave s = s
valued p Stop s = s
valued p Unroll s = s

-- A plan that stores names a variable of the store.
abbrev pub ValueFits : Plan → Rule → ℕ → Type 0
ValueFits p Finished k = Unit {0}
ValueFits p Over k = Unit {0}
ValueFits p Bind k = Within k p.variable
ValueFits p Evaluate k = Unit {0}
ValueFits p Leave k = Unit {0}
ValueFits p Stop k = Unit {0}
ValueFits p Unroll k = Unit {0}

-- All that the code asks of the numbers of a plan, in a buffer of `room` bytes and a store of k values.
pub record PlanFits (contents : ℕ) (p : Plan) (used room k : ℕ) : Type 0 where
  pub edit : EditFits p p.rule used room
  pub value : ValueFits p p.rule k
  pub levels : contents + 4 * (p.levels + 1) ≤ room
  pub up : p.up ≤ 16384
  pub down : p.down ≤ used + p.up

-- THE STEP

-- What stands before a step: the program P with the store, its plan, which makes a step, and room for the next state.
pub record Ready (h : Header) (P : Block) (buf : List ℕ) (used : ℕ) (store : List ℕ) (p : Plan) : Type 0 where
  pub stands : Stands h (at P store) buf used
  pub plans : p ≡ plan_of (contents_at h) (ok_of h) P store
  pub moves : Moves p.rule
  pub fits : used + p.up ≤ length buf + p.down

-- From the configuration c in a buffer of `room` bytes: the rules' next configuration stands in the buffer, with zeros behind
-- it, and in the store, and `used` is its length.
pub record Performed (h : Header) (c : Config) (room : ℕ) (buf : List ℕ) (store : List ℕ) (used : ℕ) : Type 0 where
  pub after : Config
  pub steps : step (ok_of h) c ≡ next after
  pub bytes : buf ≡ padded room (config_bytes h after)
  pub values : store ≡ after.store
  pub size : used ≡ length (config_bytes h after)
  pub stands : Stands h after buf used
