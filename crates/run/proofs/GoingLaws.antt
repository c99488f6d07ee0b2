-- A run made step by step, of either machine: what is still to be run from the state reached, with the budget left, comes to
-- the whole run. Laws for the start, a step, and the end.
use Prim.Native.Nat.{◌+◌, ◌-◌, ◌<◌, suc, ℕ, ◌≤◌}
use mathlib.Core.Path.{ap, sym, ◌∙◌, ◌≡◌}
use mathlib.Core.Bool.{Bool, cond, false, true}
use mathlib.Core.List.{List}
use borrow.Author.Tests.{eqb-true}
use lib.ListN.{length}
use native.Mathlib.Nat.{zero-add}
use native.Mathlib.Omega.{arith}
use Rattle.rules.specs.Run.{Further, Outcome, Ran, go_on, is_finished, is_over, no_room, one_more, outcome_of, refused, run, run_on, spent, stop}
use Rattle.rules.specs.Syntax.{Answer, finished, next, over}
use Rattle.rules.proofs.OutcomeLaws.{run-reads}
use Rattle.rules.proofs.RunLaws.{run-stopped}
use Rattle.rules.proofs.Tests.{true-false}
use Rattle.run.specs.declared.Outcome as code
use Rattle.run.specs.declared.Outcome.TheVariants.{Finished, NoRoom, Over, Refused, Spent}
use Rattle.run.specs.declared.Tally.{Tally}
use Rattle.run.specs.RanFrom.{FurtherIn}
use Rattle.run.specs.Represents.{answered, as_outcome}
use Rattle.run.specs.RunAnswer.{accepted, outcome_number, room_for, room_reads, run_in}
use Rattle.run.specs.Tally.{advanced, ends_with, started}
use Rattle.run.proofs.RanLaws.{fits-room, room_fits}
use Rattle.run.proofs.RepresentsLaws.{answered-accepted}
use Rattle.run.proofs.TallyLaws.{advanced-total, not-spent, started-total}

-- so many steps made before a run
unfoldable pub later : {A : Type 0} → ℕ → Ran A → Ran A
later n r = record { count = n + r.count; outcome = r.outcome; state = r.state }

-- from a₀ under a budget the tally has come to t, and the state to a
pub record Going {A : Type 0} (f : A → Answer A) (bytes : A → List ℕ) (room budget : ℕ) (a₀ : A) (t : Tally) (a : A) : Type 0 where
  pub total : t.steps + t.left ≡ budget
  pub whole : run_in f bytes room budget a₀ ≡ later t.steps (run_in f bytes room t.left a)

module _ {A : Type 0} (f : A → Answer A) (bytes : A → List ℕ) (room : ℕ) where
  abbrev fits : A → Bool
  fits = room_for bytes room

  -- the outcome that a state reads
  abbrev pub reads : A → Outcome
  reads a = outcome_of f fits (f a)

  -- WHAT A STATE READS, by what its step comes to

  pub reads-finished : (a : A) (vs : List ℕ) → f a ≡ finished vs → is_finished ≡ reads a
  unfolding outcome_of
  reads-finished a vs e = sym (ap (outcome_of f fits) e)

  pub reads_over : (a : A) → f a ≡ over → is_over ≡ reads a
  unfolding outcome_of
  reads_over a e = sym (ap (outcome_of f fits) e)

  pub reads-next : (a b : A) (n : ℕ) → f a ≡ next b → n ≡ length (bytes b) → room_reads n room ≡ reads a
  unfolding outcome_of room_reads room_for
  reads-next a b n e l = ap (λ (m : ℕ). room_reads m room) l ∙ sym (ap (outcome_of f fits) e)

  -- A STATE THAT READS SPENT has a further step, and no other

  reads-further : (a : A) → spent ≡ reads a → Further f fits a
  unfolding run stop
  reads-further a e = (run-reads f fits 0 a).furthers.0 (sym e)

  further-reads : (a : A) → Further f fits a → reads a ≡ spent
  unfolding outcome_of
  further-reads a h = ap (outcome_of f fits) h.1 ∙ ap (λ (b : Bool). cond b spent no_room) h.2

  reads-not : (a : A) (o : Outcome) → o ≡ reads a → (outcome_number o ≡ outcome_number spent → ⊥) → Further f fits a → ⊥
  reads-not a o e n h = n (ap outcome_number (e ∙ further-reads a h))

  -- THE RUN FROM A STATE

  stops : (a : A) (t : Tally) (o : code.Outcome) → as_outcome o ≡ reads a → ends_with o t ≡ true → run f fits t.left a ≡ stop f fits a
  unfolding ends_with outcome_number run
  stops a t Finished e h = run-stopped f fits t.left a (reads-not a is_finished e (λ z. omega arith))
  stops a t Over e h = run-stopped f fits t.left a (reads-not a is_over e (λ z. omega arith))
  stops a t NoRoom e h = run-stopped f fits t.left a (reads-not a no_room e (λ z. omega arith))
  stops a t Spent e h = ap (λ n. run f fits n a) (eqb-true t.left 0 h)
  stops a t Refused e h = run-stopped f fits t.left a (reads-not a refused e (λ z. omega arith))

  makes : (a b : A) (n : ℕ) → f a ≡ next b → fits b ≡ true → run f fits (suc n) a ≡ one_more f fits (run f fits n b)
  unfolding run run_on go_on
  makes a b n e h = ap (run_on f fits a (run f fits n)) e ∙ ap (λ (t : Bool). go_on f fits a t (run f fits n) b) h

  later_more : (n : ℕ) (r : Ran A) → later n (one_more f fits r) ≡ later (n + 1) r
  unfolding later one_more
  later_more n r = ap (λ m. record { count = m; outcome = r.outcome; state = r.state }) {x = n + suc r.count} {y = n + 1 + r.count} (omega arith)

  -- A FURTHER STEP is one that the machine makes, and there is room for it

  pub further-fits : (a b : A) → f a ≡ next b → FurtherIn f bytes room a → length (bytes b) ≤ room
  further-fits a b e g = omega (arith, g.2, ap (λ (c : A). length (bytes c)) (next-injective b g.0 (sym e ∙ g.1)))
    where
      next-injective : (c d : A) → next c ≡ next d → c ≡ d
      next-injective c d e = cc

  pub further-not-finished : (a : A) (vs : List ℕ) → f a ≡ finished vs → FurtherIn f bytes room a → ⊥
  further-not-finished a vs e g = let q = g.1 in let z : ◌≡◌ {A = ℕ} 0 1 = cc in omega arith

  pub further-not-over : (a : A) → f a ≡ over → FurtherIn f bytes room a → ⊥
  further-not-over a e g = let q = g.1 in let z : ◌≡◌ {A = ℕ} 0 1 = cc in omega arith

  -- it is made where the run does not end

  pub going-further : (a : A) (t : Tally) (o : code.Outcome) → as_outcome o ≡ reads a → ends_with o t ≡ false → (0 < t.left) × FurtherIn f bytes room a
  unfolding ends_with
  going-further a t Finished e h = absurd (true-false h)
  going-further a t Over e h = absurd (true-false h)
  going-further a t NoRoom e h = absurd (true-false h)
  going-further a t Spent e h = let g = reads-further a e in (not-spent t h, (g.0, g.1, room_fits f bytes room g.0 g.2))
  going-further a t Refused e h = absurd (true-false h)

  module _ (budget : ℕ) (a₀ : A) where
    pub going_start : Going f bytes room budget a₀ (started budget) a₀
    unfolding later
    going_start =
        let r = run_in f bytes room budget a₀ in
        record {
          total = started-total budget;
          whole = ap (λ n. record { count = n; outcome = r.outcome; state = r.state }) (sym (zero-add r.count));
        }

    pub going_on : (t : Tally) (a b : A) → Going f bytes room budget a₀ t a → f a ≡ next b → length (bytes b) ≤ room → 0 < t.left
        → Going f bytes room budget a₀ (advanced t) b
    going_on t a b g e h l =
        let n : t.left ≡ suc (t.left - 1) = omega arith in
        record {
          total = advanced-total t budget l g.total;
          whole = g.whole ∙ ap (λ m. later t.steps (run f fits m a)) n
              ∙ ap (later t.steps) (makes a b (t.left - 1) e (fits-room f bytes room b h)) ∙ later_more t.steps (run f fits (t.left - 1) b);
        }

    -- THE END: the answer that the code gives is that of the whole run, whose state is the one reached

    pub going-ends : (t : Tally) (a : A) (o : code.Outcome) → Going f bytes room budget a₀ t a → as_outcome o ≡ reads a → ends_with o t ≡ true
        → run_in f bytes room budget a₀ ≡ record { count = t.steps; outcome = as_outcome o; state = a }
    unfolding later stop
    going-ends t a o g e h =
        g.whole ∙ ap (later t.steps) (stops a t o e h)
        ∙ ap (λ m. record { count = m; outcome = reads a; state = a }) {x = t.steps + 0} {y = t.steps} (omega arith)
        ∙ ap (λ (q : Outcome). record { count = t.steps; outcome = q; state = a }) (sym e)

    pub going-answers : (t : Tally) (a : A) (o : code.Outcome) (used : ℕ) → Going f bytes room budget a₀ t a → as_outcome o ≡ reads a → ends_with o t ≡ true
        → answered o t used ≡ accepted budget (run_in f bytes room budget a₀) used
    going-answers t a o used g e h =
        let r = going-ends t a o g e h in
        answered-accepted (run_in f bytes room budget a₀) o t budget used (ap (λ (q : Ran A). q.outcome) (sym r)) (ap (λ (q : Ran A). q.count) (sym r)) g.total
