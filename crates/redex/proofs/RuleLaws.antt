-- The plan's rule is that of the reduction, by whichever of figure 1's (003) it is made.
use Prim.Native.Nat.{◌*◌, ◌+◌, suc, ℕ}
use mathlib.Core.Path.{ap, refl, ◌∙◌, ◌≡◌}
use mathlib.Core.Bool.{Bool}
use mathlib.Core.List.{List}
use lib.ListN.{length}
use native.Mathlib.Omega.{arith}
use Rattle.rules.specs.Reduction.{reduce, value_of}
use Rattle.rules.specs.Rules.{Reduce, let_inside, let_pred, let_succ, let_tuple, let_value, rec_suc, rec_zero}
use Rattle.rules.specs.Syntax.{Atom, Term, let_all, let_one, next, rec, tuple}
use Rattle.rules.proofs.RulesLaws.{rules-reduce}
use Rattle.place.specs.TermPath.{redex, term_path}
use Rattle.plan.specs.Plan.{plan_raise, plan_turn}
use Rattle.plan.specs.RuleOf.{reduction_of}
use Rattle.redex.specs.Plan.{plan_let_one, plan_of, plan_redex}

module _ (ok : ℕ → Bool) where
  -- a term that reduces is no tuple
  tuple-stays : (l : List Atom) (u : Term) → reduce ok (tuple l) ≡ next u → ⊥
  unfolding reduce
  tuple-stays l u e = let z : ◌≡◌ {A = ℕ} 0 1 = cc in omega arith

  redex-inside : (t r u : Term) → Reduce ok t u → redex (let_all t r) ≡ redex t
  unfolding redex
  redex-inside (tuple l) r u h = absurd (tuple-stays l u (rules-reduce ok h))
  redex-inside (let_one x s t) r u h = refl
  redex-inside (let_all s t) r u h = refl
  redex-inside (rec x a l t) r u h = refl

  redex-rule : (levels p : ℕ) {t u : Term} (h : Reduce ok t u) → (plan_redex ok levels p (redex t)).rule ≡ reduction_of h
  unfolding plan_redex plan_let_one plan_raise plan_turn redex reduction_of value_of
  redex-rule levels p let_value = refl
  redex-rule levels p (let_succ {x} {v} {t} e) = ap (λ (b : Bool). (plan_raise levels p x (suc v) 4 b).rule) e
  redex-rule levels p let_pred = refl
  redex-rule levels p (let_tuple vs) = refl
  redex-rule levels p (let_inside {t} {t₁} {u} h) =
      ap (λ (s : Term). (plan_redex ok levels p s).rule) (redex-inside t u t₁ h) ∙ redex-rule levels p h
  redex-rule levels p rec_zero = refl
  redex-rule levels p rec_suc = refl

  pub plan-rule : (contents : ℕ) {t u : Term} (h : Reduce ok t u) → (plan_of contents ok t).rule ≡ reduction_of h
  unfolding plan_of
  plan-rule contents {t} h = redex-rule (length (term_path t)) (contents + 4 * length (term_path t)) h
