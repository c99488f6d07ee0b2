-- A WALK is a number of steps of a machine with a fact of every state that it comes to. Where the fact is that the state fits, a
-- run with budget enough goes the walk to its end.
use Prim.Native.Nat.{◌+◌, suc, zero, ℕ, ◌≤◌}
use mathlib.Core.Path.{ap, refl, subst, sym, ◌∙◌, ◌≡◌}
use mathlib.Core.Bool.{Bool, true}
use mathlib.Core.List.{List}
use mathlib.Core.Option.{some-injective, some}
use native.Mathlib.Nat.{suc-add, zero-add}
use native.Mathlib.Omega.{arith}
use Rattle.rules.specs.Reduction.{on_next, reduce}
use Rattle.rules.specs.Rules.{at}
use Rattle.rules.specs.Run.{go_on, iterate, one_more, or_stop, outcome_of, run, run_on, stop}
use Rattle.rules.specs.Scope.{ConfigWithin}
use Rattle.rules.specs.Step.{step, step_block, step_inside}
use Rattle.rules.specs.Substitution.{state_of}
use Rattle.rules.specs.Syntax.{Answer, Atom, Block, Config, Term, empty, finished, nest, next, over, tuple}
use Rattle.rules.proofs.LockStep.{lock-step}
use Rattle.rules.proofs.RunLaws.{run-stopped}
use Rattle.rules.proofs.ScopeLaws.{WithinAnswer, within_step}

-- no step is possible
abbrev pub Halts : {A : Type 0} → (A → Answer A) → A → Type 0
Halts {A} f a = (b : A) → f a ≡ next b → ⊥

pub empty-halts : (ok : ℕ → Bool) (μ : List ℕ) → Halts (step ok) (at empty μ)
unfolding step step_block
empty-halts ok μ b e = let z : ◌≡◌ {A = ℕ} 0 1 = cc in omega arith

pub tuple-halts : (ok : ℕ → Bool) (l : List Atom) → Halts (reduce ok) (tuple l)
unfolding reduce
tuple-halts ok l b e = let z : ◌≡◌ {A = ℕ} 0 1 = cc in omega arith

-- n steps from a to b, and P of each state after the first
pub data Walk {A : Type 0} (f : A → Answer A) (P : A → Type 0) : ℕ → A → A → Type 0 where
  here : {a : A} → Walk f P 0 a a
  onward : {n : ℕ} {a b c : A} → f a ≡ next b → P b → Walk f P n b c → Walk f P (suc n) a c

module _ {A : Type 0} (f : A → Answer A) (P : A → Type 0) where
  -- two walks are one
  pub walk-on : {i j : ℕ} {x y z : A} → Walk f P i x y → Walk f P j y z → Walk f P (i + j) x z
  walk-on {i} {j} {x} {y} {z} here v = subst (λ (m : ℕ). Walk f P m y z) (sym (zero-add j)) v
  walk-on {i} {j} {x} {y} {z} (onward {n} e p w) v = subst (λ (m : ℕ). Walk f P m x z) (sym (suc-add n j)) (onward e p (walk-on w v))

  -- it ends that many steps on
  pub walk-reaches : {n : ℕ} {a b : A} → Walk f P n a b → iterate f n a ≡ some b
  unfolding iterate or_stop
  walk-reaches here = refl
  walk-reaches (onward {n} e p w) = ap (λ (o : Answer A). or_stop o (λ (c : A). iterate f n c)) e ∙ walk-reaches w

  -- where P is of every state, any number of steps is a walk
  pub reaches-walk : ((a : A) → P a) → (n : ℕ) (a b : A) → iterate f n a ≡ some b → Walk f P n a b
  unfolding iterate
  reaches-walk always zero a b e = subst (λ (c : A). Walk f P 0 a c) (some-injective a b e) here
  reaches-walk always (suc n) a b e = go (λ c g. reaches-walk always n c b g) (f a) refl e
    where
      go : ((c : A) → iterate f n c ≡ some b → Walk f P n c b) → (o : Answer A) → f a ≡ o → or_stop o (λ c. iterate f n c) ≡ some b → Walk f P (suc n) a b
      go more (finished vs) q g = unfold or_stop in absurd (let z : ◌≡◌ {A = ℕ} 0 1 = cc in omega arith)
      go more over q g = unfold or_stop in absurd (let z : ◌≡◌ {A = ℕ} 0 1 = cc in omega arith)
      go more (next c) q g = unfold or_stop in (onward q (always c) (more c g))

  -- where every state of it fits and no step is possible from its end, a run with budget enough goes it and stops there
  pub walk-runs : (fits : A → Bool) → ((a : A) → P a → fits a ≡ true) → {n : ℕ} {a b : A} → Walk f P n a b → Halts f b → (budget : ℕ) → n ≤ budget
      → run f fits budget a ≡ record { count = n; outcome = outcome_of f fits (f b); state = b }
  unfolding run run_on go_on one_more stop
  walk-runs fits room {n} {a} here h budget l = run-stopped f fits budget a (λ v. h v.0 v.1)
  walk-runs fits room (onward e p w) h zero l = absurd (omega arith)
  walk-runs fits room (onward {n} {a} {b} {c} e p w) h (suc budget) l =
      ap (run_on f fits a (λ (x : A). run f fits budget x)) e
      ∙ ap (λ (t : Bool). go_on f fits a t (λ (x : A). run f fits budget x) b) (room b p)
      ∙ ap (one_more f fits) (walk-runs fits room w h budget (omega arith))

  -- a machine g that steps as f does, from a state of f's on, goes the same walk; I is what f's steps keep
  pub walk-map : {B : Type 0} (g : B → Answer B) (Q : B → Type 0) (to : A → B) (I : A → Type 0)
      → ((a b : A) → I a → f a ≡ next b → (g (to a) ≡ next (to b)) × I b) → ((a : A) → P a → Q (to a))
      → {n : ℕ} {a b : A} → I a → Walk f P n a b → Walk g Q n (to a) (to b)
  walk-map g Q to I moves keeps i here = here
  walk-map g Q to I moves keeps i (onward {n} {a} {b} e p w) =
      let m = moves a b i e in
      onward m.0 (keeps b p) (walk-map g Q to I moves keeps m.1 w)

-- A BLOCK THAT STANDS FIRST goes its walk inside the block around it, the rest r behind it
module _ (ok : ℕ → Bool) (r : Block) where
  abbrev pub around : Config → Config
  around c = at (nest c.block r) c.store

  around-next : (c d : Config) → step ok c ≡ next d → step ok (around c) ≡ next (around d)
  unfolding step step_block step_inside
  around-next c d e = ap (step_inside r) e

  pub walk_inside : (P Q : Config → Type 0) → ((c : Config) → P c → Q (around c)) → {n : ℕ} {c d : Config} → Walk (step ok) P n c d → Walk (step ok) Q n (around c) (around d)
  walk_inside P Q keeps w = walk-map (step ok) P (step ok) Q around (λ c. Unit {0}) (λ c d i e. (around-next c d e, tt)) keeps tt w

-- LOCK STEP: the reducer goes the stepper's walk
module _ (ok : ℕ → Bool) (k : ℕ) where
  locked : (c d : Config) → ConfigWithin k c → step ok c ≡ next d → (reduce ok (state_of k c) ≡ next (state_of k d)) × ConfigWithin k d
  unfolding on_next
  locked c d g e = (lock-step ok k c g ∙ ap (on_next (state_of k)) e, subst (WithinAnswer k) e (within_step ok k c g))

  pub walk-locked : (P : Config → Type 0) (Q : Term → Type 0) → ((c : Config) → P c → Q (state_of k c)) → {n : ℕ} {c d : Config} → ConfigWithin k c
      → Walk (step ok) P n c d → Walk (reduce ok) Q n (state_of k c) (state_of k d)
  walk-locked P Q keeps g w = walk-map (step ok) P (reduce ok) Q (state_of k) (ConfigWithin k) locked keeps g w
