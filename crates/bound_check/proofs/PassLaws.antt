-- One pass over the bytes of a row steps from head to head, at whatever depth: behind a loop's or a block's head the commands inside it
-- and those behind it read as one row, `append` of the two.
use Prim.Native.Nat.{ℕ}
use mathlib.Core.Path.{◌≡◌, ap, refl, sym, ◌∙◌}
use mathlib.Core.Bool.{◌&&◌, ◌||◌, Bool}
use lib.Dec.{eqb}
use Rattle.std.proofs.Math.Bool.{and_assoc, or_assoc}
use Rattle.rules.specs.Scope.{BlockWithin}
use Rattle.rules.specs.Syntax.{Block, Bound, append, assign, empty, loop, nest}
use Rattle.forecast.specs.Steady.{assigned, bound_outside, bounds_outside}

-- TWO ROWS ONE AFTER THE OTHER

assigned-append : (P Q : Block) (y : ℕ) → assigned (append P Q) y ≡ (assigned P y || assigned Q y)
unfolding append assigned
assigned-append empty Q y = refl
assigned-append (assign x e r) Q y = ap (λ t. eqb y x || t) (assigned-append r Q y) ∙ sym (or_assoc (eqb y x) (assigned r y) (assigned Q y))
assigned-append (loop x b c r) Q y =
    ap (λ t. eqb y x || (assigned c y || t)) (assigned-append r Q y)
    ∙ ap (λ t. eqb y x || t) (sym (or_assoc (assigned c y) (assigned r y) (assigned Q y)))
    ∙ sym (or_assoc (eqb y x) (assigned c y || assigned r y) (assigned Q y))
assigned-append (nest c r) Q y = ap (λ t. assigned c y || t) (assigned-append r Q y) ∙ sym (or_assoc (assigned c y) (assigned r y) (assigned Q y))

outside-append : (S : ℕ → Bool) (P Q : Block) → bounds_outside S (append P Q) ≡ (bounds_outside S P && bounds_outside S Q)
unfolding append bounds_outside
outside-append S empty Q = refl
outside-append S (assign x e r) Q = outside-append S r Q
outside-append S (loop x b c r) Q =
    ap (λ t. bound_outside S b && (bounds_outside S c && t)) (outside-append S r Q)
    ∙ ap (λ t. bound_outside S b && t) (sym (and_assoc (bounds_outside S c) (bounds_outside S r) (bounds_outside S Q)))
    ∙ sym (and_assoc (bound_outside S b) (bounds_outside S c && bounds_outside S r) (bounds_outside S Q))
outside-append S (nest c r) Q = ap (λ t. bounds_outside S c && t) (outside-append S r Q) ∙ sym (and_assoc (bounds_outside S c) (bounds_outside S r) (bounds_outside S Q))

pub within-append : (k : ℕ) (P Q : Block) → BlockWithin k P → BlockWithin k Q → BlockWithin k (append P Q)
unfolding append
within-append k empty Q h i = i
within-append k (assign x e r) Q h i = (h.0, h.1, within-append k r Q h.2 i)
within-append k (loop x b c r) Q h i = (h.0, h.1, h.2, within-append k r Q h.3 i)
within-append k (nest c r) Q h i = (h.0, within-append k r Q h.1 i)

-- PAST A HEAD

module _ (y : ℕ) where
  pub assigned-loop : (x : ℕ) (b : Bound) (c r : Block) → assigned (loop x b c r) y ≡ (eqb y x || assigned (append c r) y)
  unfolding assigned
  assigned-loop x b c r = ap (λ t. eqb y x || t) (sym (assigned-append c r y))

  pub assigned-nest : (c r : Block) → assigned (nest c r) y ≡ assigned (append c r) y
  unfolding assigned
  assigned-nest c r = sym (assigned-append c r y)

module _ (S : ℕ → Bool) where
  pub outside-loop : (x : ℕ) (b : Bound) (c r : Block) → bounds_outside S (loop x b c r) ≡ (bound_outside S b && bounds_outside S (append c r))
  unfolding bounds_outside
  outside-loop x b c r = ap (λ t. bound_outside S b && t) (sym (outside-append S c r))

  pub outside-nest : (c r : Block) → bounds_outside S (nest c r) ≡ bounds_outside S (append c r)
  unfolding bounds_outside
  outside-nest c r = sym (outside-append S c r)
