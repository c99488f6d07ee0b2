-- A plan made: what it does to the bytes, and what the next state is.
use Rattle.std.specs.Prelude.{ℕ, ◌*◌, ◌+◌, ◌-◌, ◌<◌, ◌≤◌, ◌≡◌, List, map, length}
use Rattle.buffer.specs.LittleEndian.{le, val}
use Rattle.buffer.specs.Slice.{part, put}
use Rattle.rules.specs.Reduction.{reduce}
use Rattle.rules.specs.Replaced.{replaced, replaced_next}
use Rattle.rules.specs.Substitution.{from_store, only, substitute}
use Rattle.rules.specs.Syntax.{Term, next, num, tuple}
use Rattle.record.specs.Answers.{padded}
use Rattle.record.specs.declared.Header.{Header}
use Rattle.record.specs.Header.{contents_at, encode_term, ok_of}
use Rattle.record.specs.Term.{encode_term_record}
use Rattle.place.specs.Edit.{lead, leaf_bytes, removed, unrolled}
use Rattle.place.specs.Heads.{record_head}
use Rattle.place.specs.TermView.{TermAt}
use Rattle.substitution.specs.Ranged.{RangedTerm}
use Rattle.redex.specs.Plan.{plan_of}
use Rattle.plan.specs.Plan.{Moves}
use Rattle.plan.specs.declared.Plan.{Plan}
use Rattle.plan.specs.declared.Rule.{Rule}
use Rattle.plan.specs.declared.Rule.TheVariants.{Bind, Evaluate, Finished, Leave, Over, Stop, Unroll}
use Rattle.reducing.specs.State.{Stands}

-- THE BYTES

-- The term u stored n bytes behind p, and those n bytes gone.
unfoldable pub filled_at : List ℕ → ℕ → ℕ → Term → ℕ → List ℕ
filled_at l p n u used = removed (put l (p + n) (encode_term_record u)) p n used

-- A let-one of succ or pred at p made one of the numeral v: 4 bytes go, and its length says so.
unfoldable pub numeral_at : List ℕ → ℕ → ℕ → ℕ → List ℕ
numeral_at l p used v = put (put (removed l (p + 8) 4 used) p (le 2 (val (part l p 2) - 4))) (p + 8) (leaf_bytes 32 v)

-- A rec of which n bytes go, and its start tuple of k atoms stays.
unfoldable pub stopped_at : List ℕ → ℕ → ℕ → ℕ → ℕ → List ℕ
stopped_at l p k n used = removed (put l p (part l (p + 16) (4 + 8 * k))) (p + (4 + 8 * k)) n used

-- A rec of the variable x, with a start tuple of k atoms, whose count's value is v, unrolled into `up` bytes more: a let-all's
-- head before it, the numeral v - 1 for its count, and a let-one of v before the body once more.
unfoldable pub unrolled_at : List ℕ → ℕ → ℕ → ℕ → ℕ → ℕ → ℕ → List ℕ
unrolled_at l p k up used x v =
    unrolled l p (up + 8 * k) (20 + 8 * k) used (record_head 38 (up + 8 * k + up)) (leaf_bytes 32 (v - 1)) (lead 37 (up - 4) x 32 v)

-- What the edit of a plan makes of the bytes l, with the lengths around the redex still to be brought up to date, and the n variables
-- that it replaces. The terms that are substituted into are those that stand in l.
abbrev pub Edited : ℕ → Plan → Rule → ℕ → List ℕ → List ℕ → ℕ → Type 0
Edited k p Finished used l m n = (m ≡ l) × (n ≡ 0)
Edited k p Over used l m n = (m ≡ l) × (n ≡ 0)
Edited k p Bind used l m n =
    (u : Term) → RangedTerm l (p.at + 16) k u
    → (m ≡ filled_at l p.at 16 (substitute (only p.variable p.value) u) used) × (n ≡ replaced (only p.variable p.value) u)
Edited k p Evaluate used l m n = (m ≡ numeral_at l p.at used p.value) × (n ≡ 0)
Edited k p Leave used l m n =
    (vs : List ℕ) (u : Term) → TermAt l (p.at + 4) k (tuple (map num vs)) → RangedTerm l (p.at + p.down) k u
    → (m ≡ filled_at l p.at p.down (substitute (from_store vs) u) used) × (n ≡ replaced (from_store vs) u)
Edited k p Stop used l m n = (m ≡ stopped_at l p.at k p.down used) × (n ≡ 0)
Edited k p Unroll used l m n = (m ≡ unrolled_at l p.at k p.up used p.variable p.value) × (n ≡ 0)

-- What the edit of a plan asks: the terms that it substitutes into, its bytes within the record, and growth within the buffer.
abbrev pub EditFits : ℕ → Plan → Rule → List ℕ → ℕ → Type 0
EditFits k p Finished l used = Unit {0}
EditFits k p Over l used = Unit {0}
EditFits k p Bind l used = ((u : Term) × RangedTerm l (p.at + 16) k u) × (p.variable < 17) × (p.at + 16 ≤ used)
EditFits k p Evaluate l used = (p.at + 20 ≤ used) × (4 ≤ val (part l p.at 2))
EditFits k p Leave l used =
    ((vs : List ℕ) × TermAt l (p.at + 4) k (tuple (map num vs))) × ((u : Term) × RangedTerm l (p.at + p.down) k u) × (k ≤ 16) × (p.at + p.down ≤ used)
EditFits k p Stop l used = (16 ≤ p.down) × (p.at + (4 + 8 * k) + p.down ≤ used)
EditFits k p Unroll l used = (24 ≤ p.up) × (p.at + (p.up + 8 * k) ≤ used) × (used + p.up ≤ length l) × (0 < p.value)

-- All that the code asks of a plan.
pub record PlanFits (contents k : ℕ) (p : Plan) (l : List ℕ) (used : ℕ) : Type 0 where
  pub edit : EditFits k p p.rule l used
  pub levels : contents + 4 * p.levels ≤ length l
  pub up : p.up ≤ 16384
  pub down : p.down ≤ used + p.up

-- THE REDUCTION

-- What stands before a reduction: the term t, its plan, which makes one, and room for the next state.
pub record Ready (h : Header) (t : Term) (buf : List ℕ) (used : ℕ) (p : Plan) : Type 0 where
  pub stands : Stands h t buf used
  pub plans : p ≡ plan_of (contents_at h) (ok_of h) t
  pub moves : Moves p.rule
  pub fits : used + p.up ≤ length buf + p.down

-- From the term t in a buffer of `room` bytes: the rules' next term stands in the buffer, with zeros behind it, `used` is its
-- length, and n the variables replaced.
pub record Performed (h : Header) (t : Term) (room : ℕ) (buf : List ℕ) (used n : ℕ) : Type 0 where
  pub after : Term
  pub reduces : reduce (ok_of h) t ≡ next after
  pub bytes : buf ≡ padded room (encode_term h after)
  pub size : used ≡ length (encode_term h after)
  pub replaces : n ≡ replaced_next t
  pub stands : Stands h after buf used
