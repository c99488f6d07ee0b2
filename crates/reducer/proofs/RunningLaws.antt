-- Laws of the reducer's run as it is made: it starts from a term that stands, every turn leaves one, and its end is the end of
-- the rules' run.
use Prim.Native.Nat.{◌*◌, ◌+◌, ◌-◌, ◌<◌, ℕ, ◌≤◌}
use mathlib.Core.Path.{ap, ap₂, subst, sym, ◌∙◌, ◌≡◌}
use mathlib.Core.Bool.{false, true}
use mathlib.Core.List.{List}
use lib.ListN.{length}
use native.Mathlib.Omega.{arith}
use Rattle.buffer.specs.Slice.{put, zeros}
use Rattle.record.specs.Answers.{padded}
use Rattle.record.specs.declared.Header.{Header}
use Rattle.record.specs.Header.{contents_at, encode_term, largest_of, ok_of}
use Rattle.record.specs.Holding.{TermIn}
use Rattle.record.proofs.PaddedLaws.{cleared-padded, length-padded}
use Rattle.record.proofs.HeaderLaws.{length-encode_term}
use Rattle.record.proofs.HoldingLaws.{padded-term, term-size}
use Rattle.record.proofs.SizeLaws.{replaced_next-most}
use Rattle.rules.proofs.ReplacedLaws.{reduce-replacing, replacing-last, replacing-sum}
use Rattle.rules.proofs.SoundTermLaws.{sound-closed}
use Rattle.redex.specs.Plan.{plan_of}
use Rattle.plan.specs.Plan.{plan_reads}
use Rattle.plan.specs.declared.Plan.{Plan}
use Rattle.plan.proofs.TellsLaws.{tells-further, tells-reads}
use Rattle.redex.proofs.PlanMeaningLaws.{plan-tells}
use Rattle.reducing.specs.Perform.{Performed, Ready}
use Rattle.reducing.specs.State.{Stands}
use Rattle.reducing.proofs.PerformLaws.{plan-sums}
use Rattle.rules.specs.FreeVariables.{no_vars}
use Rattle.rules.specs.Reduction.{reduce}
use Rattle.rules.specs.Replaced.{ReduceReplacing, ReductionsReplacing, done, replaced_next, replaced_sum}
use Rattle.rules.specs.Run.{Ran}
use Rattle.rules.specs.Store.{up_to}
use Rattle.rules.specs.Syntax.{Term}
use Rattle.run.specs.declared.Outcome.{Outcome}
use Rattle.run.specs.declared.Tally.{Tally}
use Rattle.run.specs.RanFrom.{FurtherIn}
use Rattle.run.specs.Represents.{answered, as_outcome, as_run_answer}
use Rattle.run.specs.RunAnswer.{accepted}
use Rattle.run.specs.Tally.{advanced, ends_with, started}
use Rattle.run.proofs.GoingLaws.{Going, going-answers, going-ends, going-further, going_on, going_start, reads}
use Rattle.reducer.specs.declared.answer.Reduced.{Reduced}
use Rattle.reducer.specs.RunReducer.{reduced_to, reductions}
use Rattle.reducer.specs.Running.{Accepted, Gives, accepted_run}

-- THE START: zeros behind the record, and the term stands

pub accepted-stands : {hd : Header} {t : Term} {buf : List ℕ} {used : ℕ} → Accepted hd t buf used → (l : List ℕ) → l ≡ put buf used (zeros (length buf - used)) → Stands hd t l used
accepted-stands {hd} {t} {buf} {used} h l e =
    let bytes : List ℕ = encode_term hd t in
    let size : used ≡ length bytes = term-size h.holds in
    let is : l ≡ padded (length buf) bytes = e ∙ cleared-padded buf bytes used h.holds.bytes h.holds.within in
    let long : length l ≡ length buf = ap length is ∙ length-padded (length buf) bytes (omega (arith, h.holds.within)) in
    record {
      holds = subst (λ (q : List ℕ). TermIn no_vars hd t q used) (sym is)
          (subst (λ (n : ℕ). TermIn no_vars hd t (padded (length buf) bytes) n) (sym size)
          (padded-term no_vars hd t (length buf) h.holds.header h.holds.sound));
      short = omega (arith, h.short);
      clear = is ∙ ap (λ (n : ℕ). padded n bytes) (sym long);
    }

-- THE PLAN, by the numbers that the code is given

pub looked : (hd : Header) (contents largest : ℕ) (t : Term) (q : Plan) → contents_at hd ≡ contents → largest ≡ largest_of hd → q ≡ plan_of contents (up_to largest) t
    → q ≡ plan_of (contents_at hd) (ok_of hd) t
looked hd contents largest t q e f g = g ∙ ap₂ (λ (m n : ℕ). plan_of m (up_to n) t) (sym e) f

-- WHAT A TERM READS, and that a further reduction can be made, by the plan of its next reduction

module _ {hd : Header} {t : Term} {l : List ℕ} {used : ℕ} (h : Stands hd t l used) (q : Plan) (e : q ≡ plan_of (contents_at hd) (ok_of hd) t) where
  plan-reads : (room : ℕ) → plan_reads q q.rule used room ≡ reads (reduce (ok_of hd)) (encode_term hd) room t
  plan-reads room = tells-reads (reduce (ok_of hd)) (encode_term hd) room t used (term-size h.holds) q q.rule (plan-tells (ok_of hd) hd (contents_at hd) t q e)

  further-ready : FurtherIn (reduce (ok_of hd)) (encode_term hd) (length l) t → Ready hd t l used q
  further-ready g =
      let m = tells-further (reduce (ok_of hd)) (encode_term hd) (length l) t used (term-size h.holds) q q.rule (plan-tells (ok_of hd) hd (contents_at hd) t q e) g in
      record { stands = h; plans = e; moves = m.0; fits = m.1 }

-- BETWEEN TWO REDUCTIONS of the run from t₀: a term stands in the buffer, n variables were replaced, and from it the run goes on

pub record Between (hd : Header) (t₀ : Term) (room budget : ℕ) (y : Tally) (n : ℕ) (buf : List ℕ) (used : ℕ) : Type 0 where
  pub term : Term
  pub stands : Stands hd term buf used
  -- n is the count of the rules, of at most 2,048 for each reduction
  pub counted : ReductionsReplacing (ok_of hd) t₀ y.steps n term
  pub most : n ≤ y.steps * 2048
  pub going : Going (reduce (ok_of hd)) (encode_term hd) room budget t₀ y term

pub between_start : {hd : Header} {t : Term} {l : List ℕ} {used : ℕ} → Stands hd t l used → (room budget : ℕ) (y : Tally) → y ≡ started budget → Between hd t room budget y 0 l used
between_start {hd} {t} {l} {used} h room budget y e =
    subst (λ (q : Tally). Between hd t room budget q 0 l used) (sym e)
    (record { term = t; stands = h; counted = done; most = omega arith; going = going_start (reduce (ok_of hd)) (encode_term hd) room budget t })

-- what the code asks before it looks at the outcome
pub between-sums : {hd : Header} {t₀ : Term} {room budget : ℕ} {y : Tally} {n : ℕ} {l : List ℕ} {used : ℕ} (b : Between hd t₀ room budget y n l used)
    → (p : Plan) → p ≡ plan_of (contents_at hd) (ok_of hd) b.term → (used ≤ 16384) × (p.up ≤ used) × (p.down ≤ used)
between-sums b p e =
    let m = plan-sums b.stands p e in
    (omega (arith, b.stands.holds.within, b.stands.short), m.0, m.1)

-- a turn: the plan, and the outcome that the code reads from it
module _ {hd : Header} {t₀ : Term} {room budget : ℕ} {y : Tally} {n : ℕ} {l : List ℕ} {used : ℕ} (b : Between hd t₀ room budget y n l used) (long : length l ≡ room)
    (p : Plan) (plans : p ≡ plan_of (contents_at hd) (ok_of hd) b.term) (o : Outcome) (read : as_outcome o ≡ plan_reads p p.rule used room) where
  is_read : as_outcome o ≡ reads (reduce (ok_of hd)) (encode_term hd) room b.term
  is_read = read ∙ plan-reads b.stands p plans room

  -- it goes on
  on : ends_with o y ≡ false → (0 < y.left) × FurtherIn (reduce (ok_of hd)) (encode_term hd) room b.term
  on e = going-further (reduce (ok_of hd)) (encode_term hd) room b.term y o is_read e

  pub between_left : ends_with o y ≡ false → (0 < y.left) × (y.steps + y.left ≡ budget)
  between_left e = ((on e).0, b.going.total)

  pub between-ready : ends_with o y ≡ false → Ready hd b.term l used p
  between-ready e = further-ready b.stands p plans (subst (λ (n : ℕ). FurtherIn (reduce (ok_of hd)) (encode_term hd) n b.term) (sym long) (on e).1)

  -- the sum of what is replaced takes 64 bits
  pub between-fits : ends_with o y ≡ false → budget < 4294967296 → (m : ℕ) → m ≡ replaced_next b.term → n + m < 18446744073709551616
  between-fits e small m is =
      omega (arith, b.most, (between_left e).1, replaced_next-most b.term, length-encode_term hd b.term, term-size b.stands.holds, b.stands.holds.within, b.stands.short)

  pub between-on : ends_with o y ≡ false → (l₁ : List ℕ) (used₁ m : ℕ) → Performed hd b.term (length l) l₁ used₁ m → length l₁ ≡ length l → (y₁ : Tally) → y₁ ≡ advanced y
      → Between hd t₀ room budget y₁ (n + m) l₁ used₁
  between-on e l₁ used₁ m q kept y₁ ey =
      let d : Term = q.after in
      let fits : length (encode_term hd d) ≤ room = omega (arith, q.size, q.stands.holds.within) in
      let g : Going (reduce (ok_of hd)) (encode_term hd) room budget t₀ (advanced y) d =
      going_on (reduce (ok_of hd)) (encode_term hd) room budget t₀ y b.term d b.going q.reduces fits (on e).0 in
      let closes = sound-closed (ok_of hd) hd.k b.term b.stands.holds.sound in
      let made = reduce-replacing (ok_of hd) b.term d closes q.reduces in
      let is = q.replaces in
      subst (λ (z : Tally). Between hd t₀ room budget z (n + m) l₁ used₁) (sym ey) (record {
        term = d;
        stands = q.stands;
        counted = replacing-last (ok_of hd) b.counted (subst (λ (c : ℕ). ReduceReplacing (ok_of hd) b.term c d) (sym is) made);
        most = omega (arith, b.most, replaced_next-most b.term, length-encode_term hd b.term, term-size b.stands.holds, b.stands.holds.within, b.stands.short);
        going = g;
      })

  -- it ends
  pub between_ends : ends_with o y ≡ true → (a : Reduced) → as_run_answer a.end ≡ answered o y used → a.replaced ≡ n → Gives a l (accepted_run hd t₀ room budget)
  unfolding reduced_to
  between_ends e a ea ec =
      let r = reductions hd room budget t₀ in
      let whole = going-ends (reduce (ok_of hd)) (encode_term hd) room budget t₀ y b.term o b.going is_read e in
      let left : r.state ≡ b.term = ap (λ (q : Ran Term). q.state) whole in
      let made : y.steps ≡ r.count = ap (λ (q : Ran Term). q.count) (sym whole) in
      let size : used ≡ length (encode_term hd r.state) = term-size b.stands.holds ∙ ap (λ (c : Term). length (encode_term hd c)) (sym left) in (
        ea ∙ going-answers (reduce (ok_of hd)) (encode_term hd) room budget t₀ y b.term o used b.going is_read e ∙ ap (accepted budget r) size,
        ec ∙ sym (replacing-sum (ok_of hd) b.counted) ∙ ap (λ (i : ℕ). replaced_sum (ok_of hd) i t₀) made,
        b.stands.clear ∙ ap (λ (i : ℕ). padded i (encode_term hd b.term)) long ∙ ap (λ (c : Term). padded room (encode_term hd c)) (sym left),
      )
