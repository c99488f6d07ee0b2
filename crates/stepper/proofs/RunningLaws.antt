-- Laws of the stepper's run as it is made: it starts from a configuration that stands, every turn leaves one, and its end is
-- the end of the rules' run.
use Prim.Native.Nat.{◌+◌, ◌-◌, ◌<◌, ℕ, ◌≤◌}
use mathlib.Core.Path.{ap, ap₂, subst, sym, ◌∙◌, ◌≡◌}
use mathlib.Core.Bool.{false, true}
use mathlib.Core.List.{List}
use lib.ListN.{length}
use native.Mathlib.Omega.{arith}
use Rattle.buffer.specs.Slice.{put, zeros}
use Rattle.record.specs.Answers.{padded}
use Rattle.record.specs.declared.Header.{Header}
use Rattle.record.specs.Header.{contents_at, encode_program, largest_of, ok_of}
use Rattle.record.specs.Holding.{ProgramIn}
use Rattle.record.proofs.PaddedLaws.{cleared-padded, length-padded}
use Rattle.record.proofs.HoldingLaws.{padded-program, program-size}
use Rattle.rules.specs.Rules.{at}
use Rattle.rules.specs.Run.{Ran}
use Rattle.rules.specs.Step.{step}
use Rattle.rules.specs.Store.{up_to}
use Rattle.rules.specs.Syntax.{Block, Config}
use Rattle.run.specs.declared.Outcome.{Outcome}
use Rattle.run.specs.declared.RunEnd.{RunEnd}
use Rattle.run.specs.declared.Tally.{Tally}
use Rattle.run.specs.RanFrom.{FurtherIn}
use Rattle.run.specs.Represents.{answered, as_outcome, as_run_answer}
use Rattle.run.specs.RunAnswer.{accepted}
use Rattle.run.specs.Tally.{advanced, ends_with, started}
use Rattle.run.proofs.GoingLaws.{Going, going-answers, going-ends, going-further, going_on, going_start, reads}
use Rattle.plan.specs.Plan.{plan_reads}
use Rattle.plan.specs.declared.Plan.{Plan}
use Rattle.plan.proofs.TellsLaws.{tells-further, tells-reads}
use Rattle.command.specs.Plan.{plan_of}
use Rattle.command.proofs.PlanMeaningLaws.{plan-tells}
use Rattle.stepping.specs.Perform.{Performed, Ready}
use Rattle.stepping.specs.State.{Stands, config_bytes}
use Rattle.stepping.proofs.PerformLaws.{plan-sums}
use Rattle.stepper.specs.RunStepper.{stepped_to, steps}
use Rattle.stepper.specs.Running.{Accepted, Gives}

-- THE START: zeros behind the record, and the configuration stands

pub accepted-stands : {hd : Header} {P : Block} {buf : List ℕ} {used : ℕ} {store : List ℕ} → Accepted hd P buf used store → (l : List ℕ) → l ≡ put buf used (zeros (length buf - used))
    → Stands hd (at P store) l used
accepted-stands {hd} {P} {buf} {used} {store} h l e =
    let bytes : List ℕ = encode_program hd P in
    let size : used ≡ length bytes = program-size h.holds in
    let is : l ≡ padded (length buf) bytes = e ∙ cleared-padded buf bytes used h.holds.bytes h.holds.within in
    let long : length l ≡ length buf = ap length is ∙ length-padded (length buf) bytes (omega (arith, h.holds.within)) in
    record {
      holds = subst (λ (q : List ℕ). ProgramIn hd P q used) (sym is)
          (subst (λ (n : ℕ). ProgramIn hd P (padded (length buf) bytes) n) (sym size)
          (padded-program hd P (length buf) h.holds.header h.holds.is_program));
      short = omega (arith, h.short);
      clear = is ∙ ap (λ (n : ℕ). padded n bytes) (sym long);
      count = h.count;
      values = h.values;
    }

-- THE PLAN, by the numbers that the code is given

pub looked : (hd : Header) (contents largest : ℕ) (P : Block) (s : List ℕ) (q : Plan) → contents_at hd ≡ contents → largest ≡ largest_of hd
    → q ≡ plan_of contents (up_to largest) P s → q ≡ plan_of (contents_at hd) (ok_of hd) P s
looked hd contents largest P s q e f g = g ∙ ap₂ (λ (m n : ℕ). plan_of m (up_to n) P s) (sym e) f

-- WHAT A STATE READS, and that a further step can be made, by the plan of its next step

module _ {hd : Header} {P : Block} {s l : List ℕ} {used : ℕ} (h : Stands hd (at P s) l used) (q : Plan) (e : q ≡ plan_of (contents_at hd) (ok_of hd) P s) where
  plan-reads : (room : ℕ) → plan_reads q q.rule used room ≡ reads (step (ok_of hd)) (config_bytes hd) room (at P s)
  plan-reads room = tells-reads (step (ok_of hd)) (config_bytes hd) room (at P s) used (program-size h.holds) q q.rule (plan-tells (ok_of hd) hd (contents_at hd) P s q e)

  further-ready : FurtherIn (step (ok_of hd)) (config_bytes hd) (length l) (at P s) → Ready hd P l used s q
  further-ready g =
      let m = tells-further (step (ok_of hd)) (config_bytes hd) (length l) (at P s) used (program-size h.holds) q q.rule (plan-tells (ok_of hd) hd (contents_at hd) P s q e) g in
      record { stands = h; plans = e; moves = m.0; fits = m.1 }

-- BETWEEN TWO STEPS of the run from c₀: a configuration stands in the buffer and the store, and from it the run goes on

pub record Between (hd : Header) (c₀ : Config) (room budget : ℕ) (t : Tally) (buf : List ℕ) (used : ℕ) (store : List ℕ) : Type 0 where
  pub block : Block
  pub stands : Stands hd (at block store) buf used
  pub going : Going (step (ok_of hd)) (config_bytes hd) room budget c₀ t (at block store)

pub between_start : {hd : Header} {P : Block} {s l : List ℕ} {used : ℕ} → Stands hd (at P s) l used → (room budget : ℕ) (t : Tally) → t ≡ started budget
    → Between hd (at P s) room budget t l used s
between_start {hd} {P} {s} {l} {used} h room budget t e =
    subst (λ (q : Tally). Between hd (at P s) room budget q l used s) (sym e)
    (record { block = P; stands = h; going = going_start (step (ok_of hd)) (config_bytes hd) room budget (at P s) })

-- what the code asks before it looks at the outcome
pub between-sums : {hd : Header} {c₀ : Config} {room budget : ℕ} {t : Tally} {l s : List ℕ} {used : ℕ} (b : Between hd c₀ room budget t l used s)
    → (p : Plan) → p ≡ plan_of (contents_at hd) (ok_of hd) b.block s → (used ≤ 16384) × (p.up ≤ used) × (p.down ≤ used)
between-sums b p e =
    let m = plan-sums b.stands p e in
    (omega (arith, b.stands.holds.within, b.stands.short), m.0, m.1)

-- a turn: the plan, and the outcome that the code reads from it
module _ {hd : Header} {c₀ : Config} {room budget : ℕ} {t : Tally} {l s : List ℕ} {used : ℕ} (b : Between hd c₀ room budget t l used s) (long : length l ≡ room)
    (p : Plan) (plans : p ≡ plan_of (contents_at hd) (ok_of hd) b.block s) (o : Outcome) (read : as_outcome o ≡ plan_reads p p.rule used room) where
  abbrev now : Config
  now = at b.block s

  is_read : as_outcome o ≡ reads (step (ok_of hd)) (config_bytes hd) room now
  is_read = read ∙ plan-reads b.stands p plans room

  -- it goes on
  on : ends_with o t ≡ false → (0 < t.left) × FurtherIn (step (ok_of hd)) (config_bytes hd) room now
  on e = going-further (step (ok_of hd)) (config_bytes hd) room now t o is_read e

  pub between_left : ends_with o t ≡ false → (0 < t.left) × (t.steps + t.left ≡ budget)
  between_left e = ((on e).0, b.going.total)

  pub between-ready : ends_with o t ≡ false → Ready hd b.block l used s p
  between-ready e = further-ready b.stands p plans (subst (λ (n : ℕ). FurtherIn (step (ok_of hd)) (config_bytes hd) n now) (sym long) (on e).1)

  pub between-on : ends_with o t ≡ false → (l₁ s₁ : List ℕ) (used₁ : ℕ) → Performed hd now (length l) l₁ s₁ used₁ → length l₁ ≡ length l → (t₁ : Tally) → t₁ ≡ advanced t
      → Between hd c₀ room budget t₁ l₁ used₁ s₁
  between-on e l₁ s₁ used₁ q kept t₁ et =
      let d : Config = q.after in
      let fits : length (config_bytes hd d) ≤ room = omega (arith, q.size, q.stands.holds.within) in
      let g : Going (step (ok_of hd)) (config_bytes hd) room budget c₀ (advanced t) d =
      going_on (step (ok_of hd)) (config_bytes hd) room budget c₀ t now d b.going q.steps fits (on e).0 in
      subst (λ (y : Tally). Between hd c₀ room budget y l₁ used₁ s₁) (sym et)
      (subst (λ (y : List ℕ). Between hd c₀ room budget (advanced t) l₁ used₁ y) (sym q.values) (record { block = d.block; stands = q.stands; going = g }))

  -- it ends
  pub between_ends : ends_with o t ≡ true → (a : RunEnd) → as_run_answer a ≡ answered o t used → Gives a l s (stepped_to hd room budget (steps hd room budget c₀))
  unfolding stepped_to
  between_ends e a ea =
      let r = steps hd room budget c₀ in
      let left : r.state ≡ now = ap (λ (q : Ran Config). q.state) (going-ends (step (ok_of hd)) (config_bytes hd) room budget c₀ t now o b.going is_read e) in
      let size : used ≡ length (config_bytes hd r.state) = program-size b.stands.holds ∙ ap (λ (c : Config). length (config_bytes hd c)) (sym left) in (
        ea ∙ going-answers (step (ok_of hd)) (config_bytes hd) room budget c₀ t now o used b.going is_read e ∙ ap (accepted budget r) size,
        b.stands.clear ∙ ap (λ (n : ℕ). padded n (config_bytes hd now)) long ∙ ap (λ (c : Config). padded room (config_bytes hd c)) (sym left),
        ap (λ (c : Config). c.store) (sym left),
      )
