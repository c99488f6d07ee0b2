-- The verdict on a program's bytes.
use Rattle.std.specs.Prelude.{ℕ}
use Rattle.std.proofs.Math.Option.{Option}
use Rattle.rules.specs.Literals.{bound_literals, expr_literals, literals_in, small_values}
use Rattle.rules.specs.Scope.{block_in_range, bound_in_range, expr_in_range}
use Rattle.rules.specs.Store.{up_to}
use Rattle.rules.specs.Syntax.{Block, Bound, Expr}
use Rattle.checker.specs.declared.Verdict.{Verdict}
use Rattle.checker.specs.Verdict.{rating, verdict}

-- The verdict on the block of a program of k variables and of values up to a largest one.
abbrev pub block_rating : ℕ → ℕ → Block → Verdict
block_rating k largest = rating (block_in_range k) (λ t. small_values (up_to largest) (literals_in t))

-- The same of an expression.
abbrev pub expr_rating : ℕ → ℕ → Expr → Verdict
expr_rating k largest = rating (expr_in_range k) (λ e. small_values (up_to largest) (expr_literals e))

-- The same of a bound.
abbrev pub bound_rating : ℕ → ℕ → Bound → Verdict
bound_rating k largest = rating (bound_in_range k) (λ b. small_values (up_to largest) (bound_literals b))

-- The verdict on the block that was decoded, if one was.
abbrev pub block_verdict : ℕ → ℕ → Option Block → Verdict
block_verdict k largest = verdict (block_rating k largest)
