-- One step of the counting stepper (02 C-14): it acts on what is open innermost, and unrolls nothing.
use Rattle.std.specs.Prelude.{suc, zero, ℕ, Bool, cond, List}
use Rattle.rules.specs.Step.{bound_value}
use Rattle.rules.specs.Store.{lookup, minus_one, update}
use Rattle.rules.specs.Syntax.{Answer, Block, Expr, assign, dec, empty, finished, inc, lit, loop, nest, next, over, var}
use Rattle.counting.specs.Counting.{Counting, State, at_zero, here, in_block, in_body, storing, summed, unrolling}

-- The next state, with the store.
abbrev pub go : State → List ℕ → Answer Counting
go s μ = next (record { state = s; store = μ })

-- What is open, given what its own step comes to: it is held open around the state after, and `gone` is left where it is done.
unfoldable pub step_in : (State → State) → State → Answer Counting → Answer Counting
step_in hold gone (finished μ) = go gone μ
step_in hold gone over = over
step_in hold gone (next c) = go (hold c.state) c.store

-- An assignment that stands first: a literal or a variable is stored, a plus one or minus one becomes a sum that waits.
unfoldable pub step_sum : (ℕ → Bool) → ℕ → Expr → Block → List ℕ → Answer Counting
step_sum ok x (lit n) r μ = go (here r) (update μ x n)
step_sum ok x (var y) r μ = go (here r) (update μ x (lookup μ y))
step_sum ok x (inc y) r μ = cond (ok (suc (lookup μ y))) (go (summed x (inc y) (suc (lookup μ y)) r) μ) over
step_sum ok x (dec y) r μ = go (summed x (dec y) (minus_one (lookup μ y)) r) μ

-- A loop that stands first, its bound's value 0 or n + 1: running at 0, or unrolling, with n left in it and a turn to come.
unfoldable pub enter_loop : ℕ → ℕ → Block → Block → State
enter_loop x zero p r = at_zero x 0 p r
enter_loop x (suc n) p r = unrolling x n 1 p r

-- After turn c, with d turns to come: the loop is gone, or in its next turn.
unfoldable pub turn_done : ℕ → ℕ → ℕ → Block → Block → State
turn_done x c zero p r = here r
turn_done x c (suc d) p r = storing x (suc c) d p r

-- One step of a block in which nothing is open. A block that stands first is opened for it.
unfoldable pub step_here : (ℕ → Bool) → Block → List ℕ → Answer Counting
step_here ok empty μ = finished μ
step_here ok (assign x e r) μ = step_sum ok x e r μ
step_here ok (loop x b p r) μ = go (enter_loop x (bound_value μ b) p r) μ
step_here ok (nest q r) μ = step_in (λ s. in_block q s r) (here r) (step_here ok q μ)

-- One step of a state on a store.
unfoldable pub step_state : (ℕ → Bool) → State → List ℕ → Answer Counting
step_state ok (here b) μ = step_here ok b μ
step_state ok (summed x e v r) μ = go (here r) (update μ x v)
step_state ok (in_block q s r) μ = step_in (λ t. in_block q t r) (here r) (step_state ok s μ)
step_state ok (unrolling x zero d p r) μ = go (at_zero x d p r) μ
step_state ok (unrolling x (suc c) d p r) μ = go (unrolling x c (suc d) p r) μ
step_state ok (at_zero x d p r) μ = go (turn_done x 0 d p r) μ
step_state ok (storing x c d p r) μ = go (in_body x c d p (here p) r) (update μ x c)
step_state ok (in_body x c d p s r) μ = step_in (λ t. in_body x c d p t r) (turn_done x c d p r) (step_state ok s μ)

-- One step of the counting stepper under the test `ok` for a value that is not too large.
unfoldable pub count_step : (ℕ → Bool) → Counting → Answer Counting
count_step ok c = step_state ok c.state c.store
