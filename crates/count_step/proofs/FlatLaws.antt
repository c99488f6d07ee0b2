-- WHERE NO BLOCK CAN BE OPENED: which way the step goes, by what stands there.
use Prim.Native.Nat.{ℕ}
use mathlib.Core.Path.{◌≡◌}
use mathlib.Core.List.{List}
use Rattle.rules.specs.Syntax.{assign, empty, loop}
use Rattle.counting.specs.Counting.{here}
use Rattle.count_step.specs.declared.standing.Standing.{Standing}
use Rattle.count_step.specs.declared.standing.Standing.TheVariants as standing
use Rattle.count_step.specs.Makes.{IsAssign, IsEnd, IsFlat, IsLoop, MakesAs, StandsOn, flat_assign, flat_end, flat_loop, is_assign, is_end, is_loop}

-- p is what stands there
module _ (start n : ℕ) (buf words store : List ℕ) (p : Standing) where
  pub flat-end : p ≡ standing.End → StandsOn start n (IsFlat p) buf words store → StandsOn start n IsEnd buf words store
  flat-end z (used, P, es, i, _, _, flat_assign x e r k, h, g) = absurd (cc)
  flat-end z (used, P, es, i, _, _, flat_loop x m q r k, h, g) = absurd (cc)
  flat-end z (used, P, es, i, _, _, flat_end k, h, g) = (used, P, es, i, empty, here empty, is_end, h, g)

  pub flat-assign : p ≡ standing.Assignment → StandsOn start n (IsFlat p) buf words store → StandsOn start n IsAssign buf words store
  flat-assign z (used, P, es, i, _, _, flat_assign x e r k, h, g) = (used, P, es, i, assign x e r, here (assign x e r), is_assign x e r, h, g)
  flat-assign z (used, P, es, i, _, _, flat_loop x m q r k, h, g) = absurd (cc)
  flat-assign z (used, P, es, i, _, _, flat_end k, h, g) = absurd (cc)

  pub flat-loop : (p ≡ standing.End → ⊥) → (p ≡ standing.Assignment → ⊥) → StandsOn start n (IsFlat p) buf words store → StandsOn start n IsLoop buf words store
  flat-loop y z (used, P, es, i, _, _, flat_assign x e r k, h, g) = absurd (z k)
  flat-loop y z (used, P, es, i, _, _, flat_loop x m q r k, h, g) = (used, P, es, i, loop x m q r, here (loop x m q r), is_loop x m q r, h, g)
  flat-loop y z (used, P, es, i, _, _, flat_end k, h, g) = absurd (y k)

  -- and its step is the state's; c are open afterwards
  module _ (ws after : List ℕ) (c : ℕ) where
    pub makes-end : p ≡ standing.End → MakesAs start n IsEnd buf words store ws after c → MakesAs start n (IsFlat p) buf words store ws after c
    makes-end z m used P es i _ _ (flat_assign x e r k) h = absurd (cc)
    makes-end z m used P es i _ _ (flat_loop x b q r k) h = absurd (cc)
    makes-end z m used P es i _ _ (flat_end k) h = m used P es i empty (here empty) is_end h

    pub makes-assign : p ≡ standing.Assignment → MakesAs start n IsAssign buf words store ws after c → MakesAs start n (IsFlat p) buf words store ws after c
    makes-assign z m used P es i _ _ (flat_assign x e r k) h = m used P es i (assign x e r) (here (assign x e r)) (is_assign x e r) h
    makes-assign z m used P es i _ _ (flat_loop x b q r k) h = absurd (cc)
    makes-assign z m used P es i _ _ (flat_end k) h = absurd (cc)

    pub makes-loop : (p ≡ standing.End → ⊥) → (p ≡ standing.Assignment → ⊥) → MakesAs start n IsLoop buf words store ws after c → MakesAs start n (IsFlat p) buf words store ws after c
    makes-loop y z m used P es i _ _ (flat_assign x e r k) h = absurd (z k)
    makes-loop y z m used P es i _ _ (flat_loop x b q r k) h = m used P es i (loop x b q r) (here (loop x b q r)) (is_loop x b q r) h
    makes-loop y z m used P es i _ _ (flat_end k) h = absurd (y k)
