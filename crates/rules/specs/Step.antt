-- One step of the stepper, as a function (01 "Stepper"; 003, rules 1 to 9). `Rules` has the rules one by one.
use Rattle.std.specs.Prelude.{suc, zero, ℕ, Bool, cond, List}
use Rattle.rules.specs.Store.{lookup, minus_one, update}
use Rattle.rules.specs.Syntax.{Answer, Block, Bound, Config, Expr, assign, dec, empty, finished, inc, lit, loop, nest, next, over, upto, upto_var, var}

-- The value of a loop's bound.
unfoldable pub bound_value : List ℕ → Bound → ℕ
bound_value s (upto n) = n
bound_value s (upto_var x) = lookup s x

-- A loop that stands first, its bound's value 0 or q + 1, becomes a block: empty, or the loop with literal q, the
-- assignment of q + 1 to the index, and the body's commands.
unfoldable pub unroll_loop : ℕ → ℕ → Block → Block → Block
unroll_loop x zero body r = nest empty r
unroll_loop x (suc q) body r = nest (loop x (upto q) body (assign x (lit (suc q)) body)) r

-- A block that stands first, given what its own step comes to, and the rest r behind it: an empty one goes.
unfoldable pub step_inside : Block → Answer Config → Answer Config
step_inside r (finished s) = next (record { block = r; store = s })
step_inside r over = over
step_inside r (next c) = next (record { block = nest c.block r; store = c.store })

-- An assignment that stands first. Plus one and minus one become the literal, and are stored by a step of its own.
unfoldable pub step_assign : (ℕ → Bool) → ℕ → Expr → Block → List ℕ → Answer Config
step_assign ok x (lit n) r s = next (record { block = r; store = update s x n })
step_assign ok x (var y) r s = next (record { block = r; store = update s x (lookup s y) })
step_assign ok x (inc y) r s = cond (ok (suc (lookup s y))) (next (record { block = assign x (lit (suc (lookup s y))) r; store = s })) over
step_assign ok x (dec y) r s = next (record { block = assign x (lit (minus_one (lookup s y))) r; store = s })

-- One step of a block on a store, by the command that stands first; with no command left it is finished.
unfoldable pub step_block : (ℕ → Bool) → Block → List ℕ → Answer Config
step_block ok empty s = finished s
step_block ok (assign x e r) s = step_assign ok x e r s
step_block ok (loop x b body r) s = next (record { block = unroll_loop x (bound_value s b) body r; store = s })
step_block ok (nest b r) s = step_inside r (step_block ok b s)

-- One step under the test `ok` for a value that is not too large.
unfoldable pub step : (ℕ → Bool) → Config → Answer Config
step ok c = step_block ok c.block c.store
