-- OVER, exactly: the next step works out a value that the test does not pass. With no limit the paper's rules have a next
-- state there, and under the test they have none.
use Prim.Native.Nat.{suc, ℕ}
use mathlib.Core.Path.{◌≡◌, ap, refl, subst, sym, ◌∙◌}
use mathlib.Core.Logic.{◌↔◌}
use mathlib.Core.Bool.{Bool, cond, false, true}
use mathlib.Core.List.{List}
use native.Mathlib.Omega.{arith}
use Rattle.rules.specs.FreeVariables.{adding, closed, closed_in, closed_simple, no_vars}
use Rattle.rules.specs.Reduction.{reduce, reduce_inside, reduce_let_one, value_of}
use Rattle.rules.specs.Rules.{Eval, Raises, RaisesTerm, Reduce, Step, at, let_inside, let_pred, let_succ, let_tuple, let_value, raises_first, raises_here, raises_inside, raises_let, rec_suc, rec_zero, rule1, rule2, rule3, rule4, rule5, rule6, rule7, rule8, rule9}
use Rattle.rules.specs.Step.{step, step_assign, step_block, step_inside}
use Rattle.rules.specs.Store.{lookup, no_limit}
use Rattle.rules.specs.Syntax.{Answer, Block, Config, Expr, Simple, Term, assign, dec, empty, finished, inc, let_all, let_one, lit, loop, nest, next, num, over, plain, pred_of, rec, succ_of, tuple, var}
use Rattle.rules.proofs.FinishedLaws.{reduce-finished, step-finished}
use Rattle.rules.proofs.FreeVariablesLaws.{closed-num}
use Rattle.rules.proofs.RulesLaws.{reduce-iff, rules-reduce, rules-step, step-rules}
use Rattle.rules.proofs.Tests.{and_both}

module _ {ok : ℕ → Bool} where
  -- what the rules allow under a test they allow with no limit
  eval-no_limit : {μ : List ℕ} {e : Expr} {n : ℕ} → Eval ok μ e n → Eval no_limit μ e n
  eval-no_limit (rule1 h) = rule1 refl
  eval-no_limit rule2 = rule2

  pub step-no_limit : {c d : Config} → Step ok c d → Step no_limit c d
  step-no_limit rule3 = rule3
  step-no_limit rule4 = rule4
  step-no_limit (rule5 v) = rule5 (eval-no_limit v)
  step-no_limit rule6 = rule6
  step-no_limit (rule7 h) = rule7 (step-no_limit h)
  step-no_limit (rule8 h) = rule8 h
  step-no_limit (rule9 h) = rule9 h

  pub reduce-no_limit : {t u : Term} → Reduce ok t u → Reduce no_limit t u
  reduce-no_limit let_value = let_value
  reduce-no_limit (let_succ h) = let_succ refl
  reduce-no_limit let_pred = let_pred
  reduce-no_limit (let_tuple vs) = let_tuple vs
  reduce-no_limit (let_inside h) = let_inside (reduce-no_limit h)
  reduce-no_limit rec_zero = rec_zero
  reduce-no_limit rec_suc = rec_suc

-- with no limit the step that works the value out is there
pub raises-step : {c : Config} {n : ℕ} → Raises c n → (d : Config) × Step no_limit c d
raises-step (raises_here {x} {y} {s} {μ}) = (at (assign x (lit (suc (lookup μ y))) s) μ, rule5 (rule1 refl))
raises-step (raises_inside {c} {s} {μ} h) = let d = raises-step h in (at (nest d.0.block s) d.0.store, rule7 d.1)

pub raises-reduce : {t : Term} {n : ℕ} → RaisesTerm t n → (u : Term) × Reduce no_limit t u
raises-reduce (raises_let {x} {v} {t}) = (let_one x (plain (num (suc v))) t, let_succ refl)
raises-reduce (raises_first {t} {u} h) = let d = raises-reduce h in (let_all d.0 u, let_inside d.1)

-- over is neither finished nor a next state
module _ {A : Type 0} where
  over-finished : {P : Type 0} {vs : List ℕ} → ◌≡◌ {A = Answer A} over (finished vs) → P
  over-finished e = absurd (let z : ◌≡◌ {A = ℕ} 0 1 = cc in omega arith)

  over-next : {P : Type 0} {a : A} → ◌≡◌ {A = Answer A} over (next a) → P
  over-next e = absurd (let z : ◌≡◌ {A = ℕ} 0 1 = cc in omega arith)

  next-same : {a b : A} → ◌≡◌ {A = Answer A} (next a) (next b) → a ≡ b
  next-same e = cc

  finished-next : {P : Type 0} {vs : List ℕ} {a : A} → ◌≡◌ {A = Answer A} (finished vs) (next a) → P
  finished-next e = absurd (let z : ◌≡◌ {A = ℕ} 0 1 = cc in omega arith)

module _ (ok : ℕ → Bool) where
  -- THE STEPPER

  raises-over : {c : Config} {n : ℕ} → Raises c n → ok n ≡ false → step ok c ≡ over
  unfolding step step_block step_assign step_inside
  raises-over raises_here h = rw h refl
  raises-over (raises_inside {c} {s} {μ} r) h = ap (step_inside s) (raises-over r h)

  -- the value that the step works out, where it is over
  abbrev OverBy : Config → Answer Config → Type 0
  OverBy c (finished vs) = Unit {0}
  OverBy c over = (n : ℕ) × Raises c n × (ok n ≡ false)
  OverBy c (next d) = Unit {0}

  over-assign : (x : ℕ) (e : Expr) (s : Block) (μ : List ℕ) → OverBy (at (assign x e s) μ) (step_assign ok x e s μ)
  unfolding step_assign
  over-assign x (lit n) s μ = tt
  over-assign x (var y) s μ = tt
  over-assign x (inc y) s μ = test (ok (suc (lookup μ y))) refl
    where
      test : (b : Bool) → ok (suc (lookup μ y)) ≡ b → OverBy (at (assign x (inc y) s) μ) (cond b (next (at (assign x (lit (suc (lookup μ y))) s) μ)) over)
      test true e = tt
      test false e = (suc (lookup μ y), raises_here, e)
  over-assign x (dec y) s μ = tt

  over-inside : (b s : Block) (μ : List ℕ) (a : Answer Config) → OverBy (at b μ) a → OverBy (at (nest b s) μ) (step_inside s a)
  unfolding step_inside
  over-inside b s μ (finished vs) h = tt
  over-inside b s μ over h = (h.0, raises_inside h.1, h.2)
  over-inside b s μ (next d) h = tt

  over-block : (b : Block) (μ : List ℕ) → OverBy (at b μ) (step_block ok b μ)
  unfolding step_block
  over-block empty μ = tt
  over-block (assign x e s) μ = over-assign x e s μ
  over-block (loop x e c s) μ = tt
  over-block (nest b s) μ = over-inside b s μ (step_block ok b μ) (over-block b μ)

  over-raises : (c : Config) → step ok c ≡ over → (n : ℕ) × Raises c n × (ok n ≡ false)
  unfolding step
  over-raises c e = subst (OverBy c) e (over-block c.block c.store)

  -- over: the rule's value is one that the test does not pass
  pub step-over : (c : Config) → (step ok c ≡ over) ↔ ((n : ℕ) × Raises c n × (ok n ≡ false))
  step-over c = (over-raises c, (λ v. raises-over v.1 v.2))

  only-over : (c d : Config) → Step no_limit c d → (Step ok c d → ⊥) → (a : Answer Config) → step ok c ≡ a → step ok c ≡ over
  only-over c d s not-ok (finished vs) e =
      finished-next (sym ((step-finished no_limit c).1 ((step-finished ok c).0 (vs, e))).1 ∙ rules-step no_limit s)
  only-over c d s not-ok over e = e
  only-over c d s not-ok (next c₁) e =
      let r = step-rules ok c c₁ e in
      let same : c₁ ≡ d = next-same (sym (rules-step no_limit (step-no_limit r)) ∙ rules-step no_limit s) in
      absurd (not-ok (subst (Step ok c) same r))

  -- over: the paper's rules have a next state, and under the test there is none
  pub step-over-no_limit : (c : Config) → (step ok c ≡ over) ↔ ((d : Config) × Step no_limit c d × (Step ok c d → ⊥))
  step-over-no_limit c = (
    (λ e. let d = raises-step (over-raises c e).1 in (d.0, d.1, (λ s. over-next (sym e ∙ rules-step ok s)))),
    (λ v. only-over c v.0 v.1 v.2 (step ok c) refl),
  )

  -- THE REDUCER, of a closed term

  raises-over_term : {t : Term} {n : ℕ} → RaisesTerm t n → ok n ≡ false → reduce ok t ≡ over
  unfolding reduce reduce_let_one reduce_inside value_of
  raises-over_term raises_let h = rw h refl
  raises-over_term (raises_first {t} {u} r) h = ap (reduce_inside u) (raises-over_term r h)

  abbrev OverByTerm : Term → Answer Term → Type 0
  OverByTerm t (finished vs) = Unit {0}
  OverByTerm t over = (n : ℕ) × RaisesTerm t n × (ok n ≡ false)
  OverByTerm t (next u) = Unit {0}

  over-let_one : (x : ℕ) (s : Simple) (t : Term) → closed_simple no_vars s ≡ true → OverByTerm (let_one x s t) (reduce_let_one ok x s t)
  unfolding reduce_let_one closed_simple
  over-let_one x (plain a) t h = tt
  over-let_one x (succ_of a) t h = test (ok (suc (value_of a))) refl
    where
      test : (b : Bool) → ok (suc (value_of a)) ≡ b → OverByTerm (let_one x (succ_of a) t) (cond b (next (let_one x (plain (num (suc (value_of a)))) t)) over)
      test true e = tt
      test false e = (suc (value_of a), subst (λ b. RaisesTerm (let_one x (succ_of b) t) (suc (value_of a))) (sym (closed-num a h)) raises_let, e)
  over-let_one x (pred_of a) t h = tt

  over_first : (t u : Term) (a : Answer Term) → OverByTerm t a → OverByTerm (let_all t u) (reduce_inside u a)
  unfolding reduce_inside
  over_first t u (finished vs) h = tt
  over_first t u over h = (h.0, raises_first h.1, h.2)
  over_first t u (next s) h = tt

  over-term : (t : Term) → closed_in no_vars t ≡ true → OverByTerm t (reduce ok t)
  unfolding reduce closed_in
  over-term (tuple l) h = tt
  over-term (let_one x s t) h = over-let_one x s t (and_both (closed_simple no_vars s) (closed_in (adding x no_vars) t) h).0
  over-term (let_all t u) h = over_first t u (reduce ok t) (over-term t h)
  over-term (rec x a l t) h = tt

  over-raises_term : (t : Term) → closed t ≡ true → reduce ok t ≡ over → (n : ℕ) × RaisesTerm t n × (ok n ≡ false)
  unfolding closed
  over-raises_term t h e = subst (OverByTerm t) e (over-term t h)

  pub reduce-over : (t : Term) → closed t ≡ true → (reduce ok t ≡ over) ↔ ((n : ℕ) × RaisesTerm t n × (ok n ≡ false))
  reduce-over t h = (over-raises_term t h, (λ v. raises-over_term v.1 v.2))

  only-over_term : (t u : Term) → closed t ≡ true → Reduce no_limit t u → (Reduce ok t u → ⊥) → (a : Answer Term) → reduce ok t ≡ a → reduce ok t ≡ over
  only-over_term t u c s not-ok (finished vs) e =
      finished-next (sym ((reduce-finished no_limit t).1 ((reduce-finished ok t).0 (vs, e))).1 ∙ rules-reduce no_limit s)
  only-over_term t u c s not-ok over e = e
  only-over_term t u c s not-ok (next u₁) e =
      let r = (reduce-iff ok t u₁ c).0 e in
      let same : u₁ ≡ u = next-same (sym (rules-reduce no_limit (reduce-no_limit r)) ∙ rules-reduce no_limit s) in
      absurd (not-ok (subst (Reduce ok t) same r))

  pub reduce-over-no_limit : (t : Term) → closed t ≡ true → (reduce ok t ≡ over) ↔ ((u : Term) × Reduce no_limit t u × (Reduce ok t u → ⊥))
  reduce-over-no_limit t h = (
    (λ e. let d = raises-reduce (over-raises_term t h e).1 in (d.0, d.1, (λ s. over-next (sym e ∙ rules-reduce ok s)))),
    (λ v. only-over_term t v.0 h v.1 v.2 (reduce ok t) refl),
  )
