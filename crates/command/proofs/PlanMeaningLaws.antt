-- What the plan tells of the next step, before it is made: finished, over, or the next configuration and its length.
use Prim.Native.Nat.{◌*◌, ◌+◌, ◌<◌, suc, zero, ℕ}
use mathlib.Core.Path.{ap, refl, subst, sym, ◌∙◌, ◌≡◌}
use mathlib.Core.List.{List}
use lib.ListN.{length}
use native.Mathlib.Omega.{arith}
use Rattle.place.specs.Nesting.{around, plug}
use Rattle.place.specs.Path.{Spot, blocks, path, plug_config, spot, spot_assign, spot_empty, spot_loop}
use mathlib.Core.Bool.{Bool}
use Rattle.record.specs.declared.Header.{Header}
use Rattle.record.specs.Header.{encode_program}
use Rattle.record.specs.Program.{block_size}
use Rattle.rules.specs.Rules.{at}
use Rattle.rules.specs.Step.{bound_value, step, step_assign, step_block, unroll_loop}
use Rattle.rules.specs.Store.{lookup, minus_one, update}
use Rattle.rules.specs.Syntax.{Block, Bound, Config, Expr, assign, dec, empty, inc, lit, loop, nest, next, upto, var}
use Rattle.place.proofs.PathLaws.{block_size-plug, plug-spot, spot_is, step-nest-empty, step-spot}
use Rattle.place.proofs.ProgramBytesLaws.{block_size-assign, block_size-empty, block_size-loop, block_size-nest}
use Rattle.record.proofs.HeaderLaws.{length-encode_program}
use Rattle.plan.specs.Plan.{plan_turn}
use Rattle.plan.specs.declared.Plan.{Plan}
use Rattle.plan.specs.declared.Rule.{Rule}
use Rattle.plan.proofs.TellsLaws.{Tells, tells-around, tells-raise}
use Rattle.command.specs.Plan.{plan_assign, plan_of, plan_spot}

-- of a block whose first command the rules act on
abbrev TellsSpot : (ℕ → Bool) → List ℕ → Block → Plan → Rule → Type 0
TellsSpot ok s b q r = Tells (step ok) (λ (d : Config). block_size d.block) (at b s) q r

module _ (ok : ℕ → Bool) (s : List ℕ) (levels p : ℕ) where
  tells-assign : (x : ℕ) (e : Expr) (r : Block) → TellsSpot ok s (assign x e r) (plan_assign ok levels p x e s) (plan_assign ok levels p x e s).rule
  unfolding plan_assign step step_block step_assign
  tells-assign x (lit n) r = (at r (update s x n), refl, omega (arith, block_size-assign x (lit n) r))
  tells-assign x (var y) r = (at r (update s x (lookup s y)), refl, omega (arith, block_size-assign x (var y) r))
  tells-assign x (inc y) r =
      tells-raise (step ok) (λ (d : Config). block_size d.block) (at (assign x (inc y) r) s) (at (assign x (lit (suc (lookup s y))) r) s) levels p x (suc (lookup s y)) 0 (ok (suc (lookup s y))) refl
      (omega (arith, block_size-assign x (inc y) r, block_size-assign x (lit (suc (lookup s y))) r))
  tells-assign x (dec y) r =
      (at (assign x (lit (minus_one (lookup s y))) r) s, refl, omega (arith, block_size-assign x (dec y) r, block_size-assign x (lit (minus_one (lookup s y))) r))

  tells-loop : (x : ℕ) (n : Bound) (c r : Block) (v : ℕ) → bound_value s n ≡ v
      → TellsSpot ok s (loop x n c r) (plan_turn levels p x (block_size c) v) (plan_turn levels p x (block_size c) v).rule
  unfolding plan_turn step step_block unroll_loop
  tells-loop x n c r zero e =
      (at (nest empty r) s, ap (λ m. next (at (unroll_loop x m c r) s)) e, omega (arith, block_size-loop x n c r, block_size-nest empty r, block_size-empty))
  tells-loop x n c r (suc q) e = (
    at (nest (loop x (upto q) c (assign x (lit (suc q)) c)) r) s,
    ap (λ m. next (at (unroll_loop x m c r) s)) e,
    omega (arith, block_size-loop x n c r, block_size-nest (loop x (upto q) c (assign x (lit (suc q)) c)) r, block_size-loop x (upto q) c (assign x (lit (suc q)) c), block_size-assign x (lit (suc q)) c),
  )

  tells-spot : (b : Block) → Spot b → TellsSpot ok s b (plan_spot ok levels p b s) (plan_spot ok levels p b s).rule
  unfolding plan_spot
  tells-spot (assign x e r) spot_assign = tells-assign x e r
  tells-spot (loop x n c r) spot_loop = tells-loop x n c r (bound_value s n) refl
  tells-spot (nest empty r) spot_empty = (at r s, step-nest-empty ok r s, omega (arith, block_size-nest empty r, block_size-empty))
  tells-spot empty x' = elim x' [ ]
  tells-spot (nest (assign _ _ _) r) x7 = elim x7 [ ]
  tells-spot (nest (loop _ _ _ _) r) x9 = elim x9 [ ]
  tells-spot (nest (nest _ _) r) x8 = elim x8 [ ]

-- OF THE WHOLE PROGRAM

abbrev pub TellsOf : (ℕ → Bool) → Header → Block → List ℕ → Plan → Type 0
TellsOf ok h P s q = Tells (step ok) (λ (d : Config). length (encode_program h d.block)) (at P s) q q.rule

tells-empty : (ok : ℕ → Bool) (h : Header) (contents : ℕ) (s : List ℕ) → TellsOf ok h empty s (plan_of contents ok empty s)
unfolding plan_of plan_spot path spot step step_block
tells-empty ok h contents s = (s, refl)

tells-some : (ok : ℕ → Bool) (h : Header) (contents : ℕ) (P : Block) (s : List ℕ) → 0 < block_size P → TellsOf ok h P s (plan_of contents ok P s)
unfolding plan_of
tells-some ok h contents P s n =
    tells-around (step ok) (λ (d : Config). block_size d.block) (λ (d : Config). length (encode_program h d.block)) (plug_config (path P)) (at P s) (at (spot P) s) (step-spot ok P s n) sizes (plan_of contents ok P s) (plan_of contents ok P s).rule
    (tells-spot ok s (length (path P)) (contents + 4 + 4 * length (path P)) (spot P) (spot_is P n))
  where
    sizes : (d : Config) → length (encode_program h (plug blocks (path P) d.block)) + block_size (spot P) ≡ length (encode_program h P) + block_size d.block
    sizes d =
        let was : block_size P ≡ block_size (spot P) + around blocks (path P) = ap block_size (sym (plug-spot P)) ∙ block_size-plug (path P) (spot P) in
        omega (arith, length-encode_program h (plug blocks (path P) d.block), length-encode_program h P, block_size-plug (path P) d.block)

pub plan-tells : (ok : ℕ → Bool) (h : Header) (contents : ℕ) (P : Block) (s : List ℕ) (q : Plan) → q ≡ plan_of contents ok P s → TellsOf ok h P s q
plan-tells ok h contents P s q e = subst (TellsOf ok h P s) (sym e) (whole P)
  where
    whole : (b : Block) → TellsOf ok h b s (plan_of contents ok b s)
    whole empty = tells-empty ok h contents s
    whole (assign x e r) = tells-some ok h contents (assign x e r) s (omega (arith, block_size-assign x e r))
    whole (loop x n c r) = tells-some ok h contents (loop x n c r) s (omega (arith, block_size-loop x n c r))
    whole (nest b r) = tells-some ok h contents (nest b r) s (omega (arith, block_size-nest b r))
