-- A direct evaluator, by recursion on the program: how many steps a block takes to its end, and the store there. With no
-- largest value and no limit on room the stepper does exactly this (`EvaluateLaws`), so every program finishes.
use Rattle.std.specs.Prelude.{◌+◌, suc, zero, ℕ, List}
use Rattle.rules.specs.Step.{bound_value}
use Rattle.rules.specs.Store.{lookup, minus_one, update}
use Rattle.rules.specs.Syntax.{Block, Expr, assign, dec, empty, inc, lit, loop, nest, var}

-- Steps, and the store at the end.
pub record Evaluated : Type 0 where
  pub steps : ℕ
  pub store : List ℕ

-- So many steps, and then what is left to do from there.
unfoldable pub after : ℕ → Evaluated → Evaluated
after n e = record { steps = n + e.steps; store = e.store }

-- The rest r of a block, after its first command.
unfoldable pub then_evaluate : Evaluated → (List ℕ → Evaluated) → Evaluated
then_evaluate e r = after e.steps (r e.store)

-- The steps of an assignment: a literal or a variable is stored; plus one and minus one are worked out first.
unfoldable pub assign_steps : Expr → ℕ
assign_steps (lit n) = 1
assign_steps (var x) = 1
assign_steps (inc x) = 2
assign_steps (dec x) = 2

-- The value of an expression in the store s.
unfoldable pub expr_value : List ℕ → Expr → ℕ
expr_value s (lit n) = n
expr_value s (var x) = lookup s x
expr_value s (inc x) = suc (lookup s x)
expr_value s (dec x) = minus_one (lookup s x)

-- A loop of n turns: it becomes an empty block, which goes; or a block of the loop of one turn less, the index, the body.
unfoldable pub turns : (List ℕ → Evaluated) → ℕ → ℕ → List ℕ → Evaluated
turns body x zero s = record { steps = 2; store = s }
turns body x (suc q) s = after 1 (then_evaluate (turns body x q s) (λ μ. then_evaluate (after 1 (body (update μ x (suc q)))) (λ ν. record { steps = 1; store = ν })))

-- The steps that a block takes to its end from a store, and the store there.
unfoldable pub evaluate : Block → List ℕ → Evaluated
evaluate empty s = record { steps = 0; store = s }
evaluate (assign x e r) s = after (assign_steps e) (evaluate r (update s x (expr_value s e)))
evaluate (loop x b body r) s = then_evaluate (turns (λ μ. evaluate body μ) x (bound_value s b) s) (λ μ. evaluate r μ)
evaluate (nest b r) s = then_evaluate (evaluate b s) (λ μ. after 1 (evaluate r μ))
