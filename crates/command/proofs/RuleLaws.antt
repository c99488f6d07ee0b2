-- The plan's rule is that of the step, by whichever of 003's rules it is made.
use Prim.Native.Nat.{◌*◌, ◌+◌, suc, ℕ}
use mathlib.Core.Path.{ap, refl, ◌∙◌, ◌≡◌}
use mathlib.Core.Bool.{Bool}
use mathlib.Core.List.{List}
use lib.ListN.{length}
use native.Mathlib.Omega.{arith}
use Rattle.rules.specs.Rules.{Eval, Step, at, rule1, rule2, rule3, rule4, rule5, rule6, rule7, rule8, rule9}
use Rattle.rules.specs.Step.{step, step_block}
use Rattle.rules.specs.Store.{lookup}
use Rattle.rules.specs.Syntax.{Block, Config, Expr, assign, dec, empty, inc, loop, nest, next}
use Rattle.rules.proofs.RulesLaws.{rules-step}
use Rattle.record.specs.Program.{block_size}
use Rattle.place.specs.Path.{path, spot}
use Rattle.plan.specs.Plan.{plan_raise, plan_turn}
use Rattle.plan.specs.RuleOf.{rule_of}
use Rattle.command.specs.Plan.{plan_assign, plan_of, plan_spot}

module _ (ok : ℕ → Bool) where
  -- a block that steps has a command in it
  empty-stays : (μ : List ℕ) (d : Config) → step ok (at empty μ) ≡ next d → ⊥
  unfolding step step_block
  empty-stays μ d e = let z : ◌≡◌ {A = ℕ} 0 1 = cc in omega arith

  spot-inside : (c r : Block) (μ : List ℕ) (d : Config) → Step ok (at c μ) d → spot (nest c r) ≡ spot c
  unfolding spot
  spot-inside empty r μ d h = absurd (empty-stays μ d (rules-step ok h))
  spot-inside (assign x e q) r μ d h = refl
  spot-inside (loop x n b q) r μ d h = refl
  spot-inside (nest b q) r μ d h = refl

  assign-rule : (levels p x : ℕ) (s : Block) (μ : List ℕ) (e : Expr) (n : ℕ) (h : Eval ok μ e n)
      → (plan_spot ok levels p (assign x e s) μ).rule ≡ rule_of (rule5 {x = x} {n = n} {e = e} {s = s} {μ = μ} h)
  unfolding plan_spot plan_assign plan_raise rule_of
  assign-rule levels p x s μ (inc y) n (rule1 v) = ap (λ (t : Bool). (plan_raise levels p x (suc (lookup μ y)) 0 t).rule) v
  assign-rule levels p x s μ (dec y) n rule2 = refl
  assign-rule levels p x s μ (Rattle.rules.specs.Syntax.lit _) n h = elim h [ ]
  assign-rule levels p x s μ (Rattle.rules.specs.Syntax.var _) n h = elim h [ ]

  spot-rule : (levels p : ℕ) {c d : Config} (h : Step ok c d) → (plan_spot ok levels p (spot c.block) c.store).rule ≡ rule_of h
  unfolding plan_spot plan_assign plan_raise plan_turn spot rule_of
  spot-rule levels p rule3 = refl
  spot-rule levels p rule4 = refl
  spot-rule levels p (rule5 {x} {n} {e} {s} {μ} h) = assign-rule levels p x s μ e n h
  spot-rule levels p rule6 = refl
  spot-rule levels p (rule7 {c} {c₁} {s} {μ} {μ₁} h) =
      ap (λ (b : Block). (plan_spot ok levels p b μ).rule) (spot-inside c s μ (at c₁ μ₁) h) ∙ spot-rule levels p h
  spot-rule levels p (rule8 {x} {e} {c} {s} {μ} v) = ap (λ (n : ℕ). (plan_turn levels p x (block_size c) n).rule) v
  spot-rule levels p (rule9 {x} {q} {e} {c} {s} {μ} v) = ap (λ (n : ℕ). (plan_turn levels p x (block_size c) n).rule) v

  pub plan-rule : (contents : ℕ) {c d : Config} (h : Step ok c d) → (plan_of contents ok c.block c.store).rule ≡ rule_of h
  unfolding plan_of
  plan-rule contents {c} h = spot-rule (length (path c.block)) (contents + 4 + 4 * length (path c.block)) h
