-- What a plan tells of the next step, before it is made: finished, over, or the next state and its length. Of either machine: f
-- is its step, `size` the length of a state.
use Prim.Native.Nat.{ℕ, ◌+◌, ◌-◌, ◌≤◌}
use mathlib.Core.Path.{◌≡◌, ◌∙◌, ap}
use mathlib.Core.Bool.{Bool, cond, false, true}
use mathlib.Core.List.{List}
use lib.ListN.{length}
use native.Mathlib.Omega.{arith}
use Rattle.rules.specs.Reduction.{on_next}
use Rattle.rules.specs.Syntax.{Answer, finished, next, over}
use Rattle.run.specs.RanFrom.{FurtherIn}
use Rattle.run.proofs.GoingLaws.{further-fits, further-not-finished, further-not-over, reads, reads-finished, reads-next, reads_over}
use Rattle.plan.specs.Plan.{Moves, plan_raise, plan_reads}
use Rattle.plan.specs.declared.Plan.{Plan}
use Rattle.plan.specs.declared.Rule.{Rule}
use Rattle.plan.specs.declared.Rule.TheVariants.{Bind, Evaluate, Finished, Leave, Over, Stop, Unroll}

-- a next state, so many bytes longer and so many shorter
abbrev pub NextBy : {A : Type 0} → (A → Answer A) → (A → ℕ) → A → Plan → Type 0
NextBy {A} f size a q = (b : A) × (f a ≡ next b) × (size b + q.down ≡ size a + q.up)

abbrev pub Tells : {A : Type 0} → (A → Answer A) → (A → ℕ) → A → Plan → Rule → Type 0
Tells f size a q Finished = (vs : List ℕ) × (f a ≡ finished vs)
Tells f size a q Over = f a ≡ over
Tells f size a q Bind = NextBy f size a q
Tells f size a q Evaluate = NextBy f size a q
Tells f size a q Leave = NextBy f size a q
Tells f size a q Stop = NextBy f size a q
Tells f size a q Unroll = NextBy f size a q

-- plus one
pub tells-raise : {A : Type 0} (f : A → Answer A) (size : A → ℕ) (a b : A) (levels at x n down : ℕ) (t : Bool) → f a ≡ cond t (next b) over → size b + down ≡ size a
    → Tells f size a (plan_raise levels at x n down t) (plan_raise levels at x n down t).rule
unfolding plan_raise
tells-raise f size a b levels at x n down true e s = (b, e, omega arith)
tells-raise f size a b levels at x n down false e s = e

-- OF A STATE a whose step is that of b inside it: what the plan tells of b it tells of a. `part` is the length of what is inside,
-- and what stands around it keeps its length.
module _ {A : Type 0} (f : A → Answer A) (part size : A → ℕ) (g : A → A) (a b : A) (is : f a ≡ on_next g (f b)) (sizes : (c : A) → size (g c) + part b ≡ size a + part c) (q : Plan) where
  next-around : NextBy f part b q → NextBy f size a q
  unfolding on_next
  next-around h = (g h.0, is ∙ ap (on_next g) h.1, omega (arith, sizes h.0, h.2))

  pub tells-around : (r : Rule) → Tells f part b q r → Tells f size a q r
  unfolding on_next
  tells-around Finished h = (h.0, is ∙ ap (on_next g) h.1)
  tells-around Over h = is ∙ ap (on_next g) h
  tells-around Bind h = next-around h
  tells-around Evaluate h = next-around h
  tells-around Leave h = next-around h
  tells-around Stop h = next-around h
  tells-around Unroll h = next-around h

-- OF A STATE OF `used` BYTES in a buffer of `room`
module _ {A : Type 0} (f : A → Answer A) (bytes : A → List ℕ) (room : ℕ) (a : A) (used : ℕ) (size : used ≡ length (bytes a)) (q : Plan) where
  abbrev Told : Rule → Type 0
  Told r = Tells f (λ (b : A). length (bytes b)) a q r

  -- what it reads

  next-reads : (t : Told Bind) → used + q.up - q.down ≡ length (bytes t.0)
  next-reads t = omega (arith, t.2)

  by-room : (t : Told Bind) → plan_reads q Bind used room ≡ reads f bytes room a
  unfolding plan_reads
  by-room t = reads-next f bytes room a t.0 (used + q.up - q.down) t.1 (next-reads t)

  pub tells-reads : (r : Rule) → Told r → plan_reads q r used room ≡ reads f bytes room a
  unfolding plan_reads
  tells-reads Finished t = reads-finished f bytes room a t.0 t.1
  tells-reads Over t = reads_over f bytes room a t
  tells-reads Bind t = by-room t
  tells-reads Evaluate t = by-room t
  tells-reads Leave t = by-room t
  tells-reads Stop t = by-room t
  tells-reads Unroll t = by-room t

  -- a further step is one that the plan makes, and there is room for it

  abbrev Further : Type 0
  Further = FurtherIn f bytes room a

  next_fits : Told Bind → Further → used + q.up ≤ room + q.down
  next_fits t g = omega (arith, t.2, further-fits f bytes room a t.0 t.1 g)

  pub tells-further : (r : Rule) → Told r → Further → Moves r × (used + q.up ≤ room + q.down)
  tells-further Finished t g = absurd (further-not-finished f bytes room a t.0 t.1 g)
  tells-further Over t g = absurd (further-not-over f bytes room a t g)
  tells-further Bind t g = (tt, next_fits t g)
  tells-further Evaluate t g = (tt, next_fits t g)
  tells-further Leave t g = (tt, next_fits t g)
  tells-further Stop t g = (tt, next_fits t g)
  tells-further Unroll t g = (tt, next_fits t g)
