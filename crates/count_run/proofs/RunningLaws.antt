-- Laws of the counting run as it is made: between two steps the words hold a state, from which the run goes on.
use Prim.Native.Nat.{◌+◌, ◌<◌, ◌^◌, ℕ}
use mathlib.Core.Path.{ap, refl, subst, sym, ◌∙◌, ◌≡◌}
use mathlib.Core.Bool.{Bool, false, true}
use mathlib.Core.List.{List}
use lib.ListN.{length}
use native.Mathlib.Omega.{arith}
use Rattle.rules.specs.Run.{Ran}
use Rattle.rules.specs.Scope.{BlockWithin}
use Rattle.rules.specs.Store.{up_to}
use Rattle.rules.specs.Syntax.{Answer, Block, next}
use Rattle.rules.proofs.IterateLaws.{OnNext}
use Rattle.record.specs.declared.Header.{Header}
use Rattle.record.specs.Header.{largest_of}
use Rattle.run.specs.declared.Outcome.{Outcome}
use Rattle.run.specs.declared.RunEnd.{RunEnd}
use Rattle.run.specs.declared.Tally.{Tally}
use Rattle.run.specs.RanFrom.{FurtherIn}
use Rattle.run.specs.Represents.{answered, as_outcome, as_run_answer}
use Rattle.run.specs.RunAnswer.{room_for, run_in}
use Rattle.run.specs.Tally.{advanced, ends_with, started}
use Rattle.run.proofs.GoingLaws.{Going, going-answers, going-ends, going-further, going_on, going_start, reads}
use Rattle.counting.specs.CountStep.{count_step, step_state}
use Rattle.counting.specs.Counting.{Counting, State}
use Rattle.counting.specs.CountingCall.{counted_to, counts, no_bytes}
use Rattle.counting.specs.StateOf.{StateOf}
use Rattle.counting.specs.StateWords.{encode_state}
use Rattle.counting.proofs.StateOfLaws.{state-of}
use Rattle.count_step.specs.Inner.{Holds}
use Rattle.count_step.specs.Makes.{Goes, Makes, reads_as}
use Rattle.count_run.specs.Gives.{Gives}

abbrev at : State → List ℕ → Counting
at s μ = record { state = s; store = μ }

-- there is room for every state
same_reads : (ok : ℕ → Bool) (s : State) (μ : List ℕ) → reads_as ok s μ ≡ reads (count_step ok) no_bytes 0 (at s μ)
unfolding room_for count_step
same_reads ok s μ = refl

next_of : (P : Block) (o : Answer Counting) (c : Counting) → o ≡ next c → OnNext (λ d. StateOf P 0 d.state) o → StateOf P 0 c.state
next_of P o c e h = subst (OnNext (λ d. StateOf P 0 d.state)) e h

-- From c₀ under a budget the tally has come to t, and the words and the store hold the state reached, in which n are open.
pub record Between (start used n : ℕ) (P : Block) (largest : ℕ) (c₀ : Counting) (budget : ℕ) (t : Tally) (buf words store : List ℕ) : Type 0 where
  pub state : State
  pub holds : Holds start used n P state buf words (length store)
  pub going : Going (count_step (up_to largest)) no_bytes 0 budget c₀ t (at state store)

pub between_start : {start used n : ℕ} {P : Block} {s : State} {buf words : List ℕ} (store : List ℕ) → Holds start used n P s buf words (length store)
    → (largest budget : ℕ) (t : Tally) → t ≡ started budget → Between start used n P largest (at s store) budget t buf words store
between_start {start} {used} {n} {P} {s} {buf} {words} store h largest budget t e =
    subst (λ (q : Tally). Between start used n P largest (at s store) budget q buf words store) (sym e)
    (record { state = s; holds = h; going = going_start (count_step (up_to largest)) no_bytes 0 budget (at s store) })

module _ {start used n : ℕ} {P : Block} {largest : ℕ} {c₀ : Counting} {budget : ℕ} {t : Tally} {buf words store : List ℕ} (b : Between start used n P largest c₀ budget t buf words store)
    (o : Outcome) (read : as_outcome o ≡ reads_as (up_to largest) b.state store) where
  abbrev step : Counting → Answer Counting
  step = count_step (up_to largest)

  is_read : as_outcome o ≡ reads step no_bytes 0 (at b.state store)
  is_read = read ∙ same_reads (up_to largest) b.state store

  on : ends_with o t ≡ false → (0 < t.left) × FurtherIn step no_bytes 0 (at b.state store)
  on e = going-further step no_bytes 0 (at b.state store) t o is_read e

  pub between_left : ends_with o t ≡ false → (0 < t.left) × (t.steps + t.left ≡ budget)
  between_left e = ((on e).0, b.going.total)

  next-is : ends_with o t ≡ false → (c : Counting) × (step_state (up_to largest) b.state store ≡ next c)
  unfolding count_step
  next-is e = ((on e).1.0, (on e).1.1)

  pub between-goes : ends_with o t ≡ false → largest < 2 ^ 32 → Goes b.state store
  between-goes e l = (largest, l, (next-is e).0, (next-is e).1)

  pub between-on : ends_with o t ≡ false → (ws after : List ℕ) (m : ℕ) → Makes P b.state store ws after m → length after ≡ length store → (t₁ : Tally) → t₁ ≡ advanced t
      → Between start used m P largest c₀ budget t₁ buf ws after
  between-on e ws after m k kept t₁ et =
      let d : Counting = (next-is e).0 in
      let q = k (up_to largest) d (next-is e).1 in
      let h = b.holds in
      let steps : step (at b.state store) ≡ next d = unfold count_step in (next-is e).1 in
      let go : Going step no_bytes 0 budget c₀ (advanced t) d = going_on step no_bytes 0 budget c₀ t (at b.state store) d b.going steps (omega arith) (on e).0 in
      subst (λ (y : Tally). Between start used m P largest c₀ budget y buf ws after) (sym et)
      (record {
        state = d.state;
        holds = record {
          stands = h.stands;
          ends = h.ends;
          low = h.low;
          scope = subst (λ (count : ℕ). BlockWithin count P) (sym kept) h.scope;
          deep = h.deep;
          of = next_of P (step_state (up_to largest) b.state store) d (next-is e).1 (state-of (up_to largest) b.state P 0 store h.of);
          many = q.2;
          same = q.0;
        };
        going = subst (λ (μ : List ℕ). Going step no_bytes 0 budget c₀ (advanced t) (at d.state μ)) (sym q.1) go;
      })

  -- THE END

  abbrev Ends : (ℕ → Bool) → RunEnd → Type 0
  Ends ok a = Gives a words store (counted_to P budget (run_in (count_step ok) no_bytes 0 budget c₀))

  ends-here : ends_with o t ≡ true → (a : RunEnd) → as_run_answer a ≡ answered o t 0 → Ends (up_to largest) a
  unfolding counted_to
  ends-here e a ea =
      let r = going-ends step no_bytes 0 budget c₀ t (at b.state store) o b.going is_read e in (
        ea ∙ going-answers step no_bytes 0 budget c₀ t (at b.state store) o 0 b.going is_read e,
        b.holds.same ∙ ap (λ (q : Ran Counting). encode_state P q.state.state) (sym r),
        ap (λ (q : Ran Counting). q.state.store) (sym r),
      )

  pub between_ends : ends_with o t ≡ true → (a : RunEnd) → as_run_answer a ≡ answered o t 0 → (h : Header) → largest ≡ largest_of h → Gives a words store (counted_to P budget (counts h budget c₀))
  between_ends e a ea h el = subst (λ (m : ℕ). Ends (up_to m) a) el (ends-here e a ea)
