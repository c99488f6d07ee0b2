-- THE CONDITION OF REFUSAL 18 (02 C-19): "no command assigns a variable used as a loop bound, loop indexes included", as a fact and as a test.
use Rattle.std.specs.Prelude.{ℕ, ◌≡◌, ◌&&◌, ◌||◌, Bool, false, not, true, eqb}
use Rattle.rules.specs.Syntax.{Block, Bound, Expr, assign, empty, loop, nest, upto, upto_var}

-- THE FACT

-- Some command of the block assigns x: an assignment, or a loop whose index it is.
pub data Assigns (x : ℕ) : Block → Type 0 where
  by_assign : {y : ℕ} {e : Expr} {r : Block} → x ≡ y → Assigns x (assign y e r)
  after_assign : {y : ℕ} {e : Expr} {r : Block} → Assigns x r → Assigns x (assign y e r)
  by_loop : {y : ℕ} {b : Bound} {c r : Block} → x ≡ y → Assigns x (loop y b c r)
  in_loop : {y : ℕ} {b : Bound} {c r : Block} → Assigns x c → Assigns x (loop y b c r)
  after_loop : {y : ℕ} {b : Bound} {c r : Block} → Assigns x r → Assigns x (loop y b c r)
  in_nest : {c r : Block} → Assigns x c → Assigns x (nest c r)
  after_nest : {c r : Block} → Assigns x r → Assigns x (nest c r)

-- Some loop of the block has x for its bound.
pub data Bounds (x : ℕ) : Block → Type 0 where
  after_assign : {y : ℕ} {e : Expr} {r : Block} → Bounds x r → Bounds x (assign y e r)
  by_loop : {y : ℕ} {b : Bound} {c r : Block} → b ≡ upto_var x → Bounds x (loop y b c r)
  in_loop : {y : ℕ} {b : Bound} {c r : Block} → Bounds x c → Bounds x (loop y b c r)
  after_loop : {y : ℕ} {b : Bound} {c r : Block} → Bounds x r → Bounds x (loop y b c r)
  in_nest : {c r : Block} → Bounds x c → Bounds x (nest c r)
  after_nest : {c r : Block} → Bounds x r → Bounds x (nest c r)

-- No command assigns a variable used as a loop bound.
abbrev pub Steady : Block → Type 0
Steady P = (x : ℕ) → Assigns x P → Bounds x P → ⊥

-- THE TEST

-- The variables that the block assigns, as a test of a variable's number.
unfoldable pub assigned : Block → ℕ → Bool
assigned empty y = false
assigned (assign x e r) y = eqb y x || assigned r y
assigned (loop x b c r) y = eqb y x || (assigned c y || assigned r y)
assigned (nest c r) y = assigned c y || assigned r y

-- The bound is a literal, or a variable that is not in S.
unfoldable pub bound_outside : (ℕ → Bool) → Bound → Bool
bound_outside S (upto n) = true
bound_outside S (upto_var x) = not (S x)

-- The same of every bound in a block.
unfoldable pub bounds_outside : (ℕ → Bool) → Block → Bool
bounds_outside S empty = true
bounds_outside S (assign x e r) = bounds_outside S r
bounds_outside S (loop x b c r) = bound_outside S b && (bounds_outside S c && bounds_outside S r)
bounds_outside S (nest c r) = bounds_outside S c && bounds_outside S r

-- Refusal 18 is for a program that fails this.
unfoldable pub steady : Block → Bool
steady P = bounds_outside (assigned P) P
