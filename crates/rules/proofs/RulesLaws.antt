-- `step` and `reduce` are exactly the paper's rules, for every test for a value that is too large.
use Prim.Native.Nat.{suc, zero, ℕ}
use mathlib.Core.Path.{ap, refl, subst, sym, ◌≡◌}
use mathlib.Core.Logic.{◌↔◌}
use mathlib.Core.Bool.{Bool, cond, false, true}
use mathlib.Core.List.{List, map}
use Rattle.rules.specs.FreeVariables.{adding, closed, closed_atom, closed_atoms, closed_in, closed_simple, no_vars}
use Rattle.rules.specs.Reduction.{reduce, reduce_inside, reduce_let_one, unroll_rec, value_of}
use Rattle.rules.specs.Rules.{Eval, Reduce, Step, at, let_inside, let_pred, let_succ, let_tuple, let_value, rec_suc, rec_zero, rule1, rule2, rule3, rule4, rule5, rule6, rule7, rule8, rule9}
use Rattle.rules.specs.Step.{bound_value, step, step_assign, step_block, step_inside, unroll_loop}
use Rattle.rules.specs.Store.{lookup, minus_one}
use Rattle.rules.specs.Substitution.{from_store, only, substitute}
use Rattle.rules.specs.Syntax.{Answer, Atom, Block, Bound, Config, Expr, Simple, Term, assign, dec, empty, finished, inc, let_all, let_one, lit, loop, nest, next, num, over, plain, pred_of, rec, succ_of, tuple, upto, var}
use Rattle.rules.proofs.FreeVariablesLaws.{closed-num, closed-nums}
use Rattle.rules.proofs.SubstitutionLaws.{values-num}
use Rattle.rules.proofs.Tests.{and_both}

-- THE STEPPER: what each rule allows, `step` does

module _ (ok : ℕ → Bool) where
  assign-step : (x : ℕ) (e : Expr) (s : Block) (μ : List ℕ) (n : ℕ) → Eval ok μ e n → step_assign ok x e s μ ≡ next (at (assign x (lit n) s) μ)
  unfolding step_assign
  assign-step x (inc y) s μ n (rule1 h) = rw h refl
  assign-step x (dec y) s μ n rule2 = refl
  assign-step x (lit _) s μ n x3 = elim x3 [ ]
  assign-step x (var _) s μ n x4 = elim x4 [ ]

  turn-zero : (x n : ℕ) (c s : Block) → n ≡ 0 → unroll_loop x n c s ≡ nest empty s
  unfolding unroll_loop
  turn-zero x n c s e = rw e refl

  turn_suc : (x n q : ℕ) (c s : Block) → n ≡ suc q → unroll_loop x n c s ≡ nest (loop x (upto q) c (assign x (lit (suc q)) c)) s
  unfolding unroll_loop
  turn_suc x n q c s e = rw e refl

  pub rules-step : {c d : Config} → Step ok c d → step ok c ≡ next d
  unfolding step step_block step_assign step_inside
  rules-step rule3 = refl
  rules-step rule4 = refl
  rules-step (rule5 {x} {n} {e} {s} {μ} v) = assign-step x e s μ n v
  rules-step rule6 = refl
  rules-step (rule7 {c} {c₁} {s} {μ} {μ₁} h) = ap (step_inside s) (rules-step h)
  rules-step (rule8 {x} {e} {c} {s} {μ} h) = ap (λ b. next (at b μ)) (turn-zero x (bound_value μ e) c s h)
  rules-step (rule9 {x} {q} {e} {c} {s} {μ} h) = ap (λ b. next (at b μ)) (turn_suc x (bound_value μ e) q c s h)

  -- and what `step` does, a rule allows
  abbrev Told : Block → List ℕ → Answer Config → Type 0
  Told b μ (finished vs) = (b ≡ empty) × (vs ≡ μ)
  Told b μ over = Unit {0}
  Told b μ (next d) = Step ok (at b μ) d

  told-assign : (x : ℕ) (e : Expr) (s : Block) (μ : List ℕ) → Told (assign x e s) μ (step_assign ok x e s μ)
  unfolding step_assign
  told-assign x (lit n) s μ = rule3
  told-assign x (var y) s μ = rule4
  told-assign x (inc y) s μ = test (ok (suc (lookup μ y))) refl
    where
      test : (b : Bool) → ok (suc (lookup μ y)) ≡ b → Told (assign x (inc y) s) μ (cond b (next (at (assign x (lit (suc (lookup μ y))) s) μ)) over)
      test true e = rule5 (rule1 e)
      test false e = tt
  told-assign x (dec y) s μ = rule5 rule2

  told-turn : (x n : ℕ) (e : Bound) (c s : Block) (μ : List ℕ) → bound_value μ e ≡ n → Step ok (at (loop x e c s) μ) (at (unroll_loop x n c s) μ)
  unfolding unroll_loop
  told-turn x zero e c s μ h = rule8 h
  told-turn x (suc q) e c s μ h = rule9 h

  told-inside : (b s : Block) (μ : List ℕ) (a : Answer Config) → Told b μ a → Told (nest b s) μ (step_inside s a)
  unfolding step_inside
  told-inside b s μ (finished vs) h =
      subst (λ v. Step ok (at (nest b s) μ) (at s v)) (sym h.1) (subst (λ c. Step ok (at (nest c s) μ) (at s μ)) (sym h.0) rule6)
  told-inside b s μ over h = tt
  told-inside b s μ (next d) h = rule7 h

  told : (b : Block) (μ : List ℕ) → Told b μ (step_block ok b μ)
  unfolding step_block
  told empty μ = (refl, refl)
  told (assign x e s) μ = told-assign x e s μ
  told (loop x e c s) μ = told-turn x (bound_value μ e) e c s μ refl
  told (nest b s) μ = told-inside b s μ (step_block ok b μ) (told b μ)

  pub step-rules : (c d : Config) → step ok c ≡ next d → Step ok c d
  unfolding step
  step-rules c d e = subst (Told c.block c.store) e (told c.block c.store)

  -- THE STEPPER IS THE PAPER'S RULES
  pub step-iff : (c d : Config) → (step ok c ≡ next d) ↔ Step ok c d
  step-iff c d = (step-rules c d, rules-step)

  -- THE REDUCER

  unroll-suc : (x q : ℕ) (l : List Atom) (t : Term) → unroll_rec x (suc q) l t ≡ let_all (rec x (num q) l t) (let_one x (plain (num (suc q))) t)
  unfolding unroll_rec
  unroll-suc x q l t = refl

  pub rules-reduce : {t u : Term} → Reduce ok t u → reduce ok t ≡ next u
  unfolding reduce reduce_let_one reduce_inside value_of unroll_rec
  rules-reduce let_value = refl
  rules-reduce (let_succ h) = rw h refl
  rules-reduce let_pred = refl
  rules-reduce (let_tuple vs {u}) = ap (λ v. next (substitute (from_store v) u)) (values-num vs)
  rules-reduce (let_inside {t} {t₁} {u} h) = ap (reduce_inside u) (rules-reduce h)
  rules-reduce rec_zero = refl
  rules-reduce rec_suc = refl

  abbrev ToldT : Term → Answer Term → Type 0
  ToldT t (finished vs) = t ≡ tuple (map num vs)
  ToldT t over = Unit {0}
  ToldT t (next u) = Reduce ok t u

  told-one : (x : ℕ) (s : Simple) (t : Term) → closed_simple no_vars s ≡ true → ToldT (let_one x s t) (reduce_let_one ok x s t)
  unfolding reduce_let_one closed_simple
  told-one x (plain a) t h = subst (λ b. Reduce ok (let_one x (plain b) t) (substitute (only x (value_of a)) t)) (sym (closed-num a h)) let_value
  told-one x (succ_of a) t h = test (ok (suc (value_of a))) refl
    where
      test : (b : Bool) → ok (suc (value_of a)) ≡ b → ToldT (let_one x (succ_of a) t) (cond b (next (let_one x (plain (num (suc (value_of a)))) t)) over)
      test true e = subst (λ b. Reduce ok (let_one x (succ_of b) t) (let_one x (plain (num (suc (value_of a)))) t)) (sym (closed-num a h)) (let_succ e)
      test false e = tt
  told-one x (pred_of a) t h = subst (λ b. Reduce ok (let_one x (pred_of b) t) (let_one x (plain (num (minus_one (value_of a)))) t)) (sym (closed-num a h)) let_pred

  told-within : (t u : Term) (a : Answer Term) → ToldT t a → ToldT (let_all t u) (reduce_inside u a)
  unfolding reduce_inside
  told-within t u (finished vs) h = subst (λ s. Reduce ok (let_all s u) (substitute (from_store vs) u)) (sym h) (let_tuple vs)
  told-within t u over h = tt
  told-within t u (next s) h = let_inside h

  told-unroll : (x n : ℕ) (l : List Atom) (t : Term) → Reduce ok (rec x (num n) l t) (unroll_rec x n l t)
  unfolding unroll_rec
  told-unroll x zero l t = rec_zero
  told-unroll x (suc q) l t = rec_suc

  told_t : (t : Term) → closed_in no_vars t ≡ true → ToldT t (reduce ok t)
  unfolding reduce closed_in
  told_t (tuple l) h = ap tuple (closed-nums l h)
  told_t (let_one x s t) h = told-one x s t (and_both (closed_simple no_vars s) (closed_in (adding x no_vars) t) h).0
  told_t (let_all t u) h = told-within t u (reduce ok t) (told_t t h)
  told_t (rec x a l t) h =
      let p = and_both (closed_atom no_vars a) (closed_atoms no_vars l) h in
      subst (λ b. Reduce ok (rec x b l t) (unroll_rec x (value_of a) l t)) (sym (closed-num a p.0)) (told-unroll x (value_of a) l t)

  -- THE REDUCER IS FIGURE 1, of a closed term
  pub reduce-iff : (t u : Term) → closed t ≡ true → (reduce ok t ≡ next u) ↔ Reduce ok t u
  unfolding closed
  reduce-iff t u h = ((λ e. subst (ToldT t) e (told_t t h)), rules-reduce)
