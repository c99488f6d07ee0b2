-- What the number of an expression or a bound is, by its kind.
use Prim.Native.Nat.{ℕ}
use mathlib.Core.Path.{refl, ◌≡◌}
use mathlib.Core.List.{List}
use native.Mathlib.Omega.{arith}
use Rattle.record.specs.Program.{bound_kind, bound_number, expr_kind, expr_number}
use Rattle.rules.specs.Scope.{BoundWithin, ExprWithin, Within}
use Rattle.rules.specs.Step.{bound_value}
use Rattle.rules.specs.Store.{lookup}
use Rattle.rules.specs.Syntax.{Bound, Expr, dec, inc, lit, upto, upto_var, var}

-- a variable's number is in range
pub expr-variable : (k : ℕ) (e : Expr) → (expr_kind e ≡ 16 → ⊥) → ExprWithin k e → Within k (expr_number e)
unfolding expr_kind expr_number
expr-variable k (lit n) h w = absurd (h refl)
expr-variable k (var x) h w = w
expr-variable k (inc x) h w = w
expr-variable k (dec x) h w = w

pub bound-variable : (k : ℕ) (b : Bound) → (bound_kind b ≡ 16 → ⊥) → BoundWithin k b → Within k (bound_number b)
unfolding bound_kind bound_number
bound-variable k (upto n) h w = absurd (h refl)
bound-variable k (upto_var x) h w = w

-- a bound by its kind
pub bound-upto : (b : Bound) → bound_kind b ≡ 16 → b ≡ upto (bound_number b)
unfolding bound_kind bound_number
bound-upto (upto n) h = refl
bound-upto (upto_var x) h = absurd (omega arith)

pub bound-upto_var : (b : Bound) → (bound_kind b ≡ 16 → ⊥) → b ≡ upto_var (bound_number b)
unfolding bound_kind bound_number
bound-upto_var (upto n) h = absurd (h refl)
bound-upto_var (upto_var x) h = refl

pub bound-literal : (s : List ℕ) (b : Bound) → bound_kind b ≡ 16 → bound_number b ≡ bound_value s b
unfolding bound_kind bound_number bound_value
bound-literal s (upto n) h = refl
bound-literal s (upto_var x) h = absurd (omega arith)

pub bound-lookup : (s : List ℕ) (b : Bound) → (bound_kind b ≡ 16 → ⊥) → lookup s (bound_number b) ≡ bound_value s b
unfolding bound_kind bound_number bound_value
bound-lookup s (upto n) h = absurd (h refl)
bound-lookup s (upto_var x) h = refl
