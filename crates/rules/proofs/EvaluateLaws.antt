-- TERMINATION: with no largest value every program finishes, and the stepper's steps and end store are the evaluator's. Under
-- a limit a run that gets there is the same.
use Prim.Native.Nat.{◌+◌, suc, zero, ℕ, ◌≤◌}
use mathlib.Core.Path.{◌≡◌, ap, refl, subst, sym, ◌∙◌}
use mathlib.Core.Bool.{Bool, true}
use mathlib.Core.List.{List}
use mathlib.Core.Option.{some-injective, some}
use native.Mathlib.Omega.{arith}
use Rattle.rules.specs.Evaluate.{Evaluated, after, assign_steps, evaluate, expr_value, then_evaluate, turns}
use Rattle.rules.specs.Rules.{at}
use Rattle.rules.specs.Run.{is_finished, iterate, or_stop, outcome_of, run}
use Rattle.rules.specs.Step.{bound_value, step, step_assign, step_block, step_inside, unroll_loop}
use Rattle.rules.specs.Store.{lookup, minus_one, no_limit, update}
use Rattle.rules.specs.Syntax.{Answer, Block, Bound, Config, Expr, assign, dec, empty, finished, inc, lit, loop, nest, next, over, upto, var}
use Rattle.rules.proofs.IterateLaws.{iterate-first, iterate-further}
use Rattle.rules.proofs.OverLaws.{step-no_limit}
use Rattle.rules.proofs.RulesLaws.{rules-step, step-rules}
use Rattle.rules.proofs.WalkLaws.{Halts, empty-halts, reaches-walk, walk-runs}

-- REACHING

-- from c in n steps to d
abbrev Reaches : Config → ℕ → Config → Type 0
Reaches c n d = iterate (step no_limit) n c ≡ some d

one-step : (c d : Config) → step no_limit c ≡ next d → Reaches c 1 d
one-step c d e = iterate-first (step no_limit) 0 c d d e (unfold iterate in refl)

then-reaches : (m n : ℕ) (a b c : Config) → Reaches a m b → Reaches b n c → Reaches a (m + n) c
then-reaches m n a b c = iterate-further (step no_limit) m n a b c

-- what happens in a block happens in it where it stands first in another
inside-next : (b r : Block) (s : List ℕ) (d : Config) → step no_limit (at b s) ≡ next d → step no_limit (at (nest b r) s) ≡ next (at (nest d.block r) d.store)
unfolding step step_block step_inside
inside-next b r s d e = ap (step_inside r) e

reaches-inside : (n : ℕ) (b r : Block) (s : List ℕ) (d : Config) → Reaches (at b s) n d → Reaches (at (nest b r) s) n (at (nest d.block r) d.store)
unfolding iterate
reaches-inside zero b r s d e = ap (λ (c : Config). some (at (nest c.block r) c.store)) (some-injective (at b s) d e)
reaches-inside (suc n) b r s d e = go (λ c f. reaches-inside n c.block r c.store d f) (step no_limit (at b s)) refl e
  where
    go : ((c : Config) → Reaches c n d → Reaches (at (nest c.block r) c.store) n (at (nest d.block r) d.store))
        → (o : Answer Config) → step no_limit (at b s) ≡ o → or_stop o (λ c. iterate (step no_limit) n c) ≡ some d
        → or_stop (step no_limit (at (nest b r) s)) (λ c. iterate (step no_limit) n c) ≡ some (at (nest d.block r) d.store)
    go more (finished vs) q f = unfold or_stop in cc
    go more over q f = unfold or_stop in cc
    go more (next c) q f =
        unfold or_stop in (ap (λ (o : Answer Config). or_stop o (λ (c : Config). iterate (step no_limit) n c)) (inside-next b r s c q)
        ∙ more c f)

-- THE EVALUATOR IS REACHED

-- a block to its end
abbrev Ends : Block → List ℕ → Evaluated → Type 0
Ends b s e = Reaches (at b s) e.steps (at empty e.store)

-- the first command to the rest
abbrev Leads : Block → List ℕ → Block → Evaluated → Type 0
Leads b s r e = Reaches (at b s) e.steps (at r e.store)

leads-ends : (b r : Block) (s : List ℕ) (e f : Evaluated) → Leads b s r e → Ends r e.store f → Ends b s (after e.steps f)
unfolding after
leads-ends b r s e f g h = then-reaches e.steps f.steps (at b s) (at r e.store) (at empty f.store) g h

assign-leads : (x : ℕ) (e : Expr) (r : Block) (s : List ℕ) → Reaches (at (assign x e r) s) (assign_steps e) (at r (update s x (expr_value s e)))
unfolding assign_steps expr_value step step_block step_assign
assign-leads x (lit n) r s = one-step (at (assign x (lit n) r) s) (at r (update s x n)) refl
assign-leads x (var y) r s = one-step (at (assign x (var y) r) s) (at r (update s x (lookup s y))) refl
assign-leads x (inc y) r s =
    then-reaches 1 1 (at (assign x (inc y) r) s) (at (assign x (lit (suc (lookup s y))) r) s) (at r (update s x (suc (lookup s y))))
    (one-step (at (assign x (inc y) r) s) (at (assign x (lit (suc (lookup s y))) r) s) refl)
    (one-step (at (assign x (lit (suc (lookup s y))) r) s) (at r (update s x (suc (lookup s y)))) refl)
assign-leads x (dec y) r s =
    then-reaches 1 1 (at (assign x (dec y) r) s) (at (assign x (lit (minus_one (lookup s y))) r) s) (at r (update s x (minus_one (lookup s y))))
    (one-step (at (assign x (dec y) r) s) (at (assign x (lit (minus_one (lookup s y))) r) s) refl)
    (one-step (at (assign x (lit (minus_one (lookup s y))) r) s) (at r (update s x (minus_one (lookup s y)))) refl)

-- an empty block that stands first goes
empty-leads : (r : Block) (s : List ℕ) → Reaches (at (nest empty r) s) 1 (at r s)
unfolding step step_block step_inside
empty-leads r s = one-step (at (nest empty r) s) (at r s) refl

unrolls : (x n : ℕ) (b : Bound) (body r : Block) (s : List ℕ) → bound_value s b ≡ n → Reaches (at (loop x b body r) s) 1 (at (unroll_loop x n body r) s)
unfolding step step_block
unrolls x n b body r s e = one-step (at (loop x b body r) s) (at (unroll_loop x n body r) s) (ap (λ m. next (at (unroll_loop x m body r) s)) e)

module _ (body : Block) (run-body : List ℕ → Evaluated) (ends : (μ : List ℕ) → Ends body μ (run-body μ)) where
  turns-lead : (x n : ℕ) (b : Bound) (r : Block) (s : List ℕ) → bound_value s b ≡ n → Leads (loop x b body r) s r (turns run-body x n s)
  unfolding turns after then_evaluate unroll_loop bound_value assign_steps expr_value
  turns-lead x zero b r s e =
      then-reaches 1 1 (at (loop x b body r) s) (at (nest empty r) s) (at r s) (unrolls x 0 b body r s e) (empty-leads r s)
  turns-lead x (suc q) b r s e =
      let t = turns run-body x q s in
      let f = run-body (update t.store x (suc q)) in
      let inner : Block = loop x (upto q) body (assign x (lit (suc q)) body) in
      let loops : Leads inner s (assign x (lit (suc q)) body) t = turns-lead x q (upto q) (assign x (lit (suc q)) body) s (refl) in
      let runs : Ends (assign x (lit (suc q)) body) t.store (after 1 f) =
      leads-ends (assign x (lit (suc q)) body) body t.store (record { steps = 1; store = update t.store x (suc q) }) f
      (assign-leads x (lit (suc q)) body t.store) (ends (update t.store x (suc q))) in
      let block = reaches-inside (t.steps + (after 1 f).steps) inner r s (at empty (after 1 f).store) (leads-ends inner (assign x (lit (suc q)) body) s t (after 1 f) loops runs) in
      let closes = then-reaches (t.steps + (after 1 f).steps) 1 (at (nest inner r) s) (at (nest empty r) (after 1 f).store) (at r (after 1 f).store) block (empty-leads r (after 1 f).store) in
      let all = then-reaches 1 (t.steps + (after 1 f).steps + 1) (at (loop x b body r) s) (at (nest inner r) s) (at r (after 1 f).store) (unrolls x (suc q) b body r s e) closes in
      subst (λ n. Reaches (at (loop x b body r) s) n (at r f.store)) (omega arith) all

evaluates : (b : Block) (s : List ℕ) → Ends b s (evaluate b s)
unfolding evaluate iterate after then_evaluate
evaluates empty s = refl
evaluates (assign x e r) s =
    leads-ends (assign x e r) r s (record { steps = assign_steps e; store = update s x (expr_value s e) }) (evaluate r (update s x (expr_value s e)))
    (assign-leads x e r s) (evaluates r (update s x (expr_value s e)))
evaluates (loop x b body r) s =
    let t = turns (λ μ. evaluate body μ) x (bound_value s b) s in
    leads-ends (loop x b body r) r s t (evaluate r t.store)
    (turns-lead body (λ μ. evaluate body μ) (λ μ. evaluates body μ) x (bound_value s b) b r s refl) (evaluates r t.store)
evaluates (nest b r) s =
    let e = evaluate b s in
    let f = evaluate r e.store in
    let inner = reaches-inside e.steps b r s (at empty e.store) (evaluates b s) in
    let rest = then-reaches 1 f.steps (at (nest empty r) e.store) (at r e.store) (at empty f.store) (empty-leads r e.store) (evaluates r e.store) in
    then-reaches e.steps (1 + f.steps) (at (nest b r) s) (at (nest empty r) e.store) (at empty f.store) inner rest

-- THE THEOREMS

-- every program reaches its end, in the evaluator's steps, with the evaluator's store
pub terminates : (P : Block) (μ : List ℕ) → iterate (step no_limit) (evaluate P μ).steps (at P μ) ≡ some (at empty (evaluate P μ).store)
terminates P μ = evaluates P μ

-- ANY MACHINE, and a state from which there is no step

module _ {A : Type 0} (f : A → Answer A) where
  halts-first : (n : ℕ) (a b : A) → Halts f a → iterate f n a ≡ some b → (n ≡ 0) × (a ≡ b)
  unfolding iterate
  halts-first zero a b h e = (refl, some-injective a b e)
  halts-first (suc n) a b h e = go (f a) refl e
    where
      go : (o : Answer A) → f a ≡ o → or_stop o (λ c. iterate f n c) ≡ some b → (suc n ≡ 0) × (a ≡ b)
      go (finished vs) q g = unfold or_stop in absurd (let z : ◌≡◌ {A = ℕ} 0 1 = cc in omega arith)
      go over q g = unfold or_stop in absurd (let z : ◌≡◌ {A = ℕ} 0 1 = cc in omega arith)
      go (next c) q g = absurd (h c q)

  -- it is reached in one number of steps only, and is one state only
  pub halts-once : (m n : ℕ) (a b c : A) → iterate f m a ≡ some b → Halts f b → iterate f n a ≡ some c → Halts f c → (m ≡ n) × (b ≡ c)
  unfolding iterate
  halts-once zero n a b c p hb q hc =
      let same : a ≡ b = some-injective a b p in
      let r = halts-first n a c (λ d e. hb d (ap f (sym same) ∙ e)) q in
      (sym r.0, sym same ∙ r.1)
  halts-once (suc m) zero a b c p hb q hc =
      let same : a ≡ c = some-injective a c q in
      absurd (omega (arith, (halts-first (suc m) a b (λ d e. hc d (ap f (sym same) ∙ e)) p).0))
  halts-once (suc m) (suc n) a b c p hb q hc = go (λ d u v. halts-once m n d b c u hb v hc) (f a) p q
    where
      go : ((d : A) → iterate f m d ≡ some b → iterate f n d ≡ some c → (m ≡ n) × (b ≡ c)) → (o : Answer A)
          → or_stop o (λ d. iterate f m d) ≡ some b → or_stop o (λ d. iterate f n d) ≡ some c → (suc m ≡ suc n) × (b ≡ c)
      go more (finished vs) u v = unfold or_stop in absurd (let z : ◌≡◌ {A = ℕ} 0 1 = cc in omega arith)
      go more over u v = unfold or_stop in absurd (let z : ◌≡◌ {A = ℕ} 0 1 = cc in omega arith)
      go more (next d) u v = unfold or_stop in (let r = more d u v in (ap suc r.0, r.1))

-- EVERY PROGRAM FINISHES

-- with no largest value, room for everything and budget enough, a run finishes with the evaluator's steps and store
pub run-finishes : (fits : Config → Bool) → ((c : Config) → fits c ≡ true) → (P : Block) (μ : List ℕ) (budget : ℕ) → (evaluate P μ).steps ≤ budget
    → run (step no_limit) fits budget (at P μ) ≡ record { count = (evaluate P μ).steps; outcome = is_finished; state = at empty (evaluate P μ).store }
unfolding step step_block outcome_of
run-finishes fits roomy P μ budget l =
    walk-runs (step no_limit) (λ (c : Config). fits c ≡ true) fits (λ c h. h)
    (reaches-walk (step no_limit) (λ (c : Config). fits c ≡ true) roomy (evaluate P μ).steps (at P μ) (at empty (evaluate P μ).store) (terminates P μ))
    (empty-halts no_limit (evaluate P μ).store) budget l

-- UNDER A LIMIT

-- a step under a test is a step with no limit, and so are n of them
pub step-unlimited : (ok : ℕ → Bool) (c d : Config) → step ok c ≡ next d → step no_limit c ≡ next d
step-unlimited ok c d e = rules-step no_limit (step-no_limit (step-rules ok c d e))

pub steps-unlimited : (ok : ℕ → Bool) (n : ℕ) (c d : Config) → iterate (step ok) n c ≡ some d → iterate (step no_limit) n c ≡ some d
unfolding iterate
steps-unlimited ok zero c d e = e
steps-unlimited ok (suc n) c d e = go (λ b g. steps-unlimited ok n b d g) (step ok c) refl e
  where
    go : ((b : Config) → iterate (step ok) n b ≡ some d → iterate (step no_limit) n b ≡ some d) → (o : Answer Config) → step ok c ≡ o
        → or_stop o (λ b. iterate (step ok) n b) ≡ some d → or_stop (step no_limit c) (λ b. iterate (step no_limit) n b) ≡ some d
    go more (finished vs) q g = unfold or_stop in absurd (let z : ◌≡◌ {A = ℕ} 0 1 = cc in omega arith)
    go more over q g = unfold or_stop in absurd (let z : ◌≡◌ {A = ℕ} 0 1 = cc in omega arith)
    go more (next b) q g =
        unfold or_stop in (ap (λ (o : Answer Config). or_stop o (λ (b : Config). iterate (step no_limit) n b)) (step-unlimited ok c b q) ∙ more b g)

-- so wherever a program finishes under a limit, its steps and its end store are the evaluator's
pub finishes-evaluated : (ok : ℕ → Bool) (P : Block) (μ : List ℕ) (n : ℕ) (ν : List ℕ) → iterate (step ok) n (at P μ) ≡ some (at empty ν)
    → (n ≡ (evaluate P μ).steps) × (ν ≡ (evaluate P μ).store)
finishes-evaluated ok P μ n ν e =
    let r = halts-once (step no_limit) n (evaluate P μ).steps (at P μ) (at empty ν) (at empty (evaluate P μ).store)
    (steps-unlimited ok n (at P μ) (at empty ν) e) (empty-halts no_limit ν) (terminates P μ) (empty-halts no_limit (evaluate P μ).store) in
    (r.0, ap (λ (c : Config). c.store) r.1)
