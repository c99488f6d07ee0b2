-- Laws of the plan: what it says of the block that it is made for, and which of the paper's rules it is.
use Prim.Native.Nat.{ℕ, zero, suc, ◌+◌}
use mathlib.Core.Path.{◌≡◌, refl}
use mathlib.Core.Bool.{Bool, true, false}
use mathlib.Core.List.{List}
use Rattle.rules.specs.Rules.{Step, at, rule1, rule2, rule3, rule4, rule5, rule6, rule8, rule9}
use Rattle.rules.specs.Step.{bound_value}
use Rattle.rules.specs.Store.{lookup, update}
use Rattle.rules.specs.Syntax.{Expr, lit, var, inc, dec, Bound, upto, Block, empty, assign, loop, nest}
use Rattle.record.specs.Program.{block_size}
use native.Mathlib.Omega.{arith}
use Rattle.place.proofs.PathLaws.{spot_is}
use Rattle.place.proofs.ProgramBytesLaws.{block_size-assign, block_size-loop, block_size-nest}
use Rattle.place.specs.Path.{Spot, spot, spot_assign, spot_empty, spot_loop}
use Rattle.plan.specs.Plan.{plan, plan_raise, plan_turn}
use Rattle.plan.specs.declared.Plan.{Plan}
use Rattle.plan.specs.declared.Rule.TheVariants.{Bind, Evaluate, Finished, Leave, Over, Stop, Unroll}
use Rattle.command.specs.Plan.{plan_assign, plan_spot}

-- The plan of a block at p, with the store s: the first command, and the rule that acts on it.
pub data Planned (ok : ℕ → Bool) (s : List ℕ) (levels p : ℕ) : Block → Plan → Type 0 where
  planned_finished : Planned ok s levels p empty (plan levels p Finished 0 0 0 0)
  planned_over : {b : Block} {x : ℕ} → Planned ok s levels p b (plan levels p Over x 0 0 0)
  planned_bind : {x v : ℕ} {e : Expr} {r : Block} → Step ok (at (assign x e r) s) (at r (update s x v))
      → Planned ok s levels p (assign x e r) (plan levels p Bind x v 0 16)
  planned_evaluate : {x v : ℕ} {e : Expr} {r : Block} → Step ok (at (assign x e r) s) (at (assign x (lit v) r) s)
      → Planned ok s levels p (assign x e r) (plan levels p Evaluate x v 0 0)
  planned_leave : {r : Block} → Step ok (at (nest empty r) s) (at r s) → Planned ok s levels p (nest empty r) (plan levels p Leave 0 0 0 4)
  planned_stop : {x : ℕ} {n : Bound} {b r : Block} → Step ok (at (loop x n b r) s) (at (nest empty r) s)
      → Planned ok s levels p (loop x n b r) (plan levels p Stop x 0 0 (16 + block_size b))
  planned_unroll : {x q : ℕ} {n : Bound} {b r : Block} → Step ok (at (loop x n b r) s) (at (nest (loop x (upto q) b (assign x (lit (suc q)) b)) r) s)
      → Planned ok s levels p (loop x n b r) (plan levels p Unroll x (suc q) (20 + block_size b) 0)

module _ (ok : ℕ → Bool) (s : List ℕ) (levels p : ℕ) where
  planned-raise : (x y : ℕ) (r : Block) (t : Bool) → ok (suc (lookup s y)) ≡ t → Planned ok s levels p (assign x (inc y) r) (plan_raise levels p x (suc (lookup s y)) 0 t)
  unfolding plan_raise
  planned-raise x y r true e = planned_evaluate (rule5 (rule1 e))
  planned-raise x y r false e = planned_over

  planned-assign : (x : ℕ) (e : Expr) (r : Block) → Planned ok s levels p (assign x e r) (plan_assign ok levels p x e s)
  unfolding plan_assign
  planned-assign x (lit n) r = planned_bind rule3
  planned-assign x (var y) r = planned_bind rule4
  planned-assign x (inc y) r = planned-raise x y r (ok (suc (lookup s y))) refl
  planned-assign x (dec y) r = planned_evaluate (rule5 rule2)

  planned-loop : (x : ℕ) (n : Bound) (b r : Block) (v : ℕ) → bound_value s n ≡ v → Planned ok s levels p (loop x n b r) (plan_turn levels p x (block_size b) v)
  unfolding plan_turn
  planned-loop x n b r zero e = planned_stop (rule8 e)
  planned-loop x n b r (suc q) e = planned_unroll (rule9 e)

  planned-spot : (b : Block) → Spot b → Planned ok s levels p b (plan_spot ok levels p b s)
  unfolding plan_spot
  planned-spot (assign x e r) spot_assign = planned-assign x e r
  planned-spot (loop x n b r) spot_loop = planned-loop x n b r (bound_value s n) refl
  planned-spot (nest empty r) spot_empty = planned_leave rule6
  planned-spot empty x' = elim x' [ ]
  planned-spot (nest (assign _ _ _) r) x7 = elim x7 [ ]
  planned-spot (nest (loop _ _ _ _) r) x9 = elim x9 [ ]
  planned-spot (nest (nest _ _) r) x8 = elim x8 [ ]

  planned-empty : Planned ok s levels p (spot empty) (plan_spot ok levels p (spot empty) s)
  unfolding plan_spot spot
  planned-empty = planned_finished

  -- of a program
  pub planned-block : (P : Block) → Planned ok s levels p (spot P) (plan_spot ok levels p (spot P) s)
  planned-block empty = planned-empty
  planned-block (assign x e r) = planned-spot (spot (assign x e r)) (spot_is (assign x e r) (omega (arith, block_size-assign x e r)))
  planned-block (loop x n b r) = planned-spot (spot (loop x n b r)) (spot_is (loop x n b r) (omega (arith, block_size-loop x n b r)))
  planned-block (nest b r) = planned-spot (spot (nest b r)) (spot_is (nest b r) (omega (arith, block_size-nest b r)))
