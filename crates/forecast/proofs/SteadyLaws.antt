-- The test of refusal 18 is the fact.
use Prim.Native.Nat.{ℕ}
use mathlib.Core.Path.{◌≡◌, ap, refl, sym, ◌∙◌}
use mathlib.Core.Bool.{◌&&◌, ◌||◌, Bool, false, true}
use borrow.Author.Tests.{eq-eqb, eqb-true, not-false, not-true}
use lib.Dec.{eqb}
use native.Mathlib.Omega.{arith}
use Rattle.record.proofs.RowLaws.{or-true}
use Rattle.rules.specs.Syntax.{Block, Bound, assign, empty, loop, nest, upto, upto_var}
use Rattle.rules.proofs.Tests.{and_both, true-false}
use Rattle.forecast.specs.Steady.{Assigns, Bounds, Steady, assigned, bound_outside, bounds_outside, steady}

or_left : (a b : Bool) → a ≡ true → (a || b) ≡ true
or_left a b e = rw e refl

module _ {P : Type 0} where
  or_cases : (a b : Bool) → (a || b) ≡ true → (a ≡ true → P) → (b ≡ true → P) → P
  or_cases true b e f g = f refl
  or_cases false b e f g = g e

-- THE VARIABLES THAT ARE ASSIGNED

assigns-assigned : {x : ℕ} {P : Block} → Assigns x P → assigned P x ≡ true
unfolding assigned
assigns-assigned {x} (Assigns.by_assign {y = y} {r = r} e) = or_left (eqb x y) (assigned r x) (eq-eqb x y e)
assigns-assigned {x} (Assigns.after_assign {y = y} {r = r} h) = or-true (eqb x y) (assigned r x) (assigns-assigned h)
assigns-assigned {x} (Assigns.by_loop {y = y} {c = c} {r = r} e) = or_left (eqb x y) (assigned c x || assigned r x) (eq-eqb x y e)
assigns-assigned {x} (Assigns.in_loop {y = y} {c = c} {r = r} h) = or-true (eqb x y) (assigned c x || assigned r x) (or_left (assigned c x) (assigned r x) (assigns-assigned h))
assigns-assigned {x} (Assigns.after_loop {y = y} {c = c} {r = r} h) = or-true (eqb x y) (assigned c x || assigned r x) (or-true (assigned c x) (assigned r x) (assigns-assigned h))
assigns-assigned {x} (Assigns.in_nest {c = c} {r = r} h) = or_left (assigned c x) (assigned r x) (assigns-assigned h)
assigns-assigned {x} (Assigns.after_nest {c = c} {r = r} h) = or-true (assigned c x) (assigned r x) (assigns-assigned h)

assigned-assigns : (P : Block) (x : ℕ) → assigned P x ≡ true → Assigns x P
unfolding assigned
assigned-assigns empty x e = true-false (sym e)
assigned-assigns (assign y e r) x h = or_cases (eqb x y) (assigned r x) h (λ g. Assigns.by_assign (eqb-true x y g)) (λ g. Assigns.after_assign (assigned-assigns r x g))
assigned-assigns (loop y b c r) x h =
    or_cases (eqb x y) (assigned c x || assigned r x) h (λ g. Assigns.by_loop (eqb-true x y g))
    (λ g. or_cases (assigned c x) (assigned r x) g (λ i. Assigns.in_loop (assigned-assigns c x i)) (λ i. Assigns.after_loop (assigned-assigns r x i)))
assigned-assigns (nest c r) x h =
    or_cases (assigned c x) (assigned r x) h (λ i. Assigns.in_nest (assigned-assigns c x i)) (λ i. Assigns.after_nest (assigned-assigns r x i))

-- THE BOUNDS OUTSIDE A SET

bound-outside : (S : ℕ → Bool) (b : Bound) (x : ℕ) → bound_outside S b ≡ true → b ≡ upto_var x → S x ≡ true → ⊥
unfolding bound_outside
bound-outside S (upto n) x h e g = let z : ◌≡◌ {A = ℕ} 0 1 = cc in omega arith
bound-outside S (upto_var y) x h e g = let same : y ≡ x = cc in true-false (sym (ap S same ∙ g) ∙ not-true (S y) h)

outside-bounds : (S : ℕ → Bool) {x : ℕ} {P : Block} → Bounds x P → bounds_outside S P ≡ true → S x ≡ true → ⊥
unfolding bounds_outside
outside-bounds S (Bounds.after_assign i) h g = outside-bounds S i h g
outside-bounds S {x} (Bounds.by_loop {b = b} {c = c} {r = r} e) h g = bound-outside S b x (and_both (bound_outside S b) (bounds_outside S c && bounds_outside S r) h).0 e g
outside-bounds S (Bounds.in_loop {b = b} {c = c} {r = r} i) h g =
    outside-bounds S i (and_both (bounds_outside S c) (bounds_outside S r) (and_both (bound_outside S b) (bounds_outside S c && bounds_outside S r) h).1).0 g
outside-bounds S (Bounds.after_loop {b = b} {c = c} {r = r} i) h g =
    outside-bounds S i (and_both (bounds_outside S c) (bounds_outside S r) (and_both (bound_outside S b) (bounds_outside S c && bounds_outside S r) h).1).1 g
outside-bounds S (Bounds.in_nest {c = c} {r = r} i) h g = outside-bounds S i (and_both (bounds_outside S c) (bounds_outside S r) h).0 g
outside-bounds S (Bounds.after_nest {c = c} {r = r} i) h g = outside-bounds S i (and_both (bounds_outside S c) (bounds_outside S r) h).1 g

-- a bound that is in the set
abbrev Hit : (ℕ → Bool) → Block → Type 0
Hit S P = (x : ℕ) × Bounds x P × (S x ≡ true)

module _ {P : Type 0} where
  and_cases : (a b : Bool) → (a && b) ≡ false → (a ≡ false → P) → (b ≡ false → P) → P
  and_cases true b e f g = g e
  and_cases false b e f g = f refl

bounds-hit : (S : ℕ → Bool) (P : Block) → bounds_outside S P ≡ false → Hit S P
unfolding bounds_outside bound_outside
bounds-hit S empty h = true-false h
bounds-hit S (assign y e r) h = let (x, i, g) = bounds-hit S r h in (x, Bounds.after_assign i, g)
bounds-hit S (loop y b c r) h =
    and_cases (bound_outside S b) (bounds_outside S c && bounds_outside S r) h (here b refl)
    (λ g. and_cases (bounds_outside S c) (bounds_outside S r) g
    (λ j. let (x, i, t) = bounds-hit S c j in (x, Bounds.in_loop i, t))
    (λ j. let (x, i, t) = bounds-hit S r j in (x, Bounds.after_loop i, t)))
  where
    here : (d : Bound) → b ≡ d → bound_outside S d ≡ false → Hit S (loop y b c r)
    here (upto n) e g = true-false g
    here (upto_var x) e g = (x, Bounds.by_loop e, not-false (S x) g)
bounds-hit S (nest c r) h =
    and_cases (bounds_outside S c) (bounds_outside S r) h
    (λ j. let (x, i, t) = bounds-hit S c j in (x, Bounds.in_nest i, t))
    (λ j. let (x, i, t) = bounds-hit S r j in (x, Bounds.after_nest i, t))

-- THE TEST IS THE FACT, and where it fails some command assigns some bound's variable

pub steady-fact : (P : Block) → steady P ≡ true → Steady P
unfolding steady
steady-fact P h x i j = outside-bounds (assigned P) j h (assigns-assigned i)

pub unsteady-fact : (P : Block) → steady P ≡ false → (x : ℕ) × Assigns x P × Bounds x P
unfolding steady
unsteady-fact P h = let (x, i, g) = bounds-hit (assigned P) P h in (x, assigned-assigns P x g, i)

pub fact-steady : (P : Block) → Steady P → steady P ≡ true
fact-steady P h = go (steady P) refl
  where
    go : (b : Bool) → steady P ≡ b → b ≡ true
    go true e = refl
    go false e = let (x, i, j) = unsteady-fact P e in absurd (h x i j)
