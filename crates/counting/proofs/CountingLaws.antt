-- ONE STEP OF THE COUNTING STEPPER IS ONE STEP OF THE EXPANSION (02 C-14), for every state, store and limit.
use Prim.Native.Nat.{◌+◌, suc, zero, ℕ}
use mathlib.Core.Path.{ap, refl, sym, ◌∙◌, ◌≡◌}
use mathlib.Core.Bool.{Bool, cond, false, true}
use mathlib.Core.List.{List}
use native.Mathlib.Nat.{add-zero}
use native.Mathlib.Omega.{arith}
use Rattle.rules.specs.Reduction.{on_next}
use Rattle.rules.specs.Step.{bound_value, step, step_assign, step_block, step_inside, unroll_loop}
use Rattle.rules.specs.Store.{lookup, update}
use Rattle.rules.specs.Syntax.{Answer, Block, Config, Expr, assign, dec, empty, finished, inc, lit, loop, nest, next, over, upto, var}
use Rattle.counting.specs.CountStep.{count_step, enter_loop, step_here, step_in, step_state, step_sum, turn_done}
use Rattle.counting.specs.Counting.{Counting, State, at_zero, expand, expand_config, here, in_block, in_body, storing, summed, turns_around, unrolling}

-- A configuration.
abbrev at : Block → List ℕ → Config
at b μ = record { block = b; store = μ }

-- THE TURNS THAT ARE TO COME

-- one turn more around is the first of them put inside
pub turns-inside : (x c : ℕ) (p : Block) (first : Block → Block) (d : ℕ) (r : Block)
    → turns_around x c p first (suc d) r ≡ turns_around x (suc c) p (nest (first (assign x (lit (suc c)) p))) d r
unfolding turns_around
turns-inside x c p first zero r = rw (add-zero c)
turns-inside x c p first (suc d) r =
    ap (λ (n : ℕ). nest (turns_around x c p first (suc d) (assign x (lit (suc n)) p)) r) {x = c + suc d} {y = suc c + d} (omega arith)
    ∙ ap (λ (b : Block). nest b r) (turns-inside x c p first d (assign x (lit (suc (suc c + d))) p))

module _ (ok : ℕ → Bool) (x : ℕ) (p : Block) (μ : List ℕ) where
  -- what stands innermost makes its step in place
  turns-step : (c : ℕ) (first after : Block → Block) (ν : List ℕ) → ((r : Block) → step_block ok (first r) μ ≡ next (at (after r) ν))
      → (d : ℕ) (r : Block) → step_block ok (turns_around x c p first d r) μ ≡ next (at (turns_around x c p after d r) ν)
  unfolding turns_around step_block step_inside
  turns-step c first after ν h zero r = h r
  turns-step c first after ν h (suc d) r = ap (step_inside r) (turns-step c first after ν h d (assign x (lit (suc (c + d))) p))

  turns-over : (c : ℕ) (first : Block → Block) → ((r : Block) → step_block ok (first r) μ ≡ over)
      → (d : ℕ) (r : Block) → step_block ok (turns_around x c p first d r) μ ≡ over
  unfolding turns_around step_block step_inside
  turns-over c first h zero r = h r
  turns-over c first h (suc d) r = ap (step_inside r) (turns-over c first h d (assign x (lit (suc (c + d))) p))

  -- what stands innermost goes: the next turn is to store its index, or the loop is gone
  turns-done : (c : ℕ) (first : Block → Block) (ν : List ℕ) → ((r : Block) → step_block ok (first r) μ ≡ next (at r ν))
      → (d : ℕ) (r : Block) → step_block ok (turns_around x c p first d r) μ ≡ next (at (expand (turn_done x c d p r)) ν)
  unfolding turn_done expand step_block step_inside
  turns-done c first ν h zero r = unfold turns_around in h r
  turns-done c first ν h (suc d) r =
      let turn : Block = assign x (lit (suc c)) p in
      ap (λ (b : Block). step_block ok b μ) (turns-inside x c p first d r)
      ∙ turns-step (suc c) (nest (first turn)) (nest turn) ν (λ q. ap (step_inside q) (h turn)) d r

-- A BLOCK IN WHICH NOTHING IS OPEN

-- a block that is open, around what its own step comes to
block-step : (q r : Block) (a : Answer Counting) → step_inside r (on_next expand_config a) ≡ on_next expand_config (step_in (λ s. in_block q s r) (here r) a)
unfolding step_inside on_next expand_config step_in expand
block-step q r (finished μ) = refl
block-step q r over = refl
block-step q r (next c) = refl

sum_step : (ok : ℕ → Bool) (x : ℕ) (e : Expr) (r : Block) (μ : List ℕ) → step_assign ok x e r μ ≡ on_next expand_config (step_sum ok x e r μ)
unfolding step_assign on_next expand_config step_sum expand
sum_step ok x (lit n) r μ = refl
sum_step ok x (var y) r μ = refl
sum_step ok x (inc y) r μ = test (ok (suc (lookup μ y)))
  where
    test : (t : Bool) → cond t (next (at (assign x (lit (suc (lookup μ y))) r) μ)) over ≡ on_next expand_config (cond t (next (record { state = summed x (inc y) (suc (lookup μ y)) r; store = μ })) over)
    test true = refl
    test false = refl
sum_step ok x (dec y) r μ = refl

enter_step : (x n : ℕ) (p r : Block) → unroll_loop x n p r ≡ expand (enter_loop x n p r)
unfolding unroll_loop enter_loop expand turns_around
enter_step x zero p r = refl
enter_step x (suc n) p r = rw (add-zero n)

here-step : (ok : ℕ → Bool) (b : Block) (μ : List ℕ) → step_block ok b μ ≡ on_next expand_config (step_here ok b μ)
unfolding step_block step_here on_next expand_config
here-step ok empty μ = refl
here-step ok (assign x e r) μ = sum_step ok x e r μ
here-step ok (loop x b p r) μ = ap (λ (t : Block). next (at t μ)) (enter_step x (bound_value μ b) p r)
here-step ok (nest q r) μ = ap (step_inside r) (here-step ok q μ) ∙ block-step q r (step_here ok q μ)

-- ANY STATE

-- a body that is open, around what its own step comes to
body-step : (ok : ℕ → Bool) (x c d : ℕ) (p : Block) (s : State) (r : Block) (μ : List ℕ) (a : Answer Counting) → step_block ok (expand s) μ ≡ on_next expand_config a
    → step_block ok (turns_around x c p (nest (expand s)) d r) μ ≡ on_next expand_config (step_in (λ t. in_body x c d p t r) (turn_done x c d p r) a)
unfolding step_in on_next expand_config
body-step ok x c d p s r μ (finished ν) h = turns-done ok x p μ c (nest (expand s)) ν (λ q. unfold step_block step_inside in (ap (step_inside q) h)) d r
body-step ok x c d p s r μ over h = turns-over ok x p μ c (nest (expand s)) (λ q. unfold step_block step_inside in (ap (step_inside q) h)) d r
body-step ok x c d p s r μ (next k) h =
    unfold expand in (turns-step ok x p μ c (nest (expand s)) (nest (expand k.state)) k.store (λ q. unfold step_block step_inside in (ap (step_inside q) h)) d r)

nest_step : (ok : ℕ → Bool) (q : Block) (s : State) (r : Block) (μ : List ℕ) (a : Answer Counting) → step_block ok (expand s) μ ≡ on_next expand_config a
    → step_block ok (nest (expand s) r) μ ≡ on_next expand_config (step_in (λ t. in_block q t r) (here r) a)
unfolding step_block
nest_step ok q s r μ a h = ap (step_inside r) h ∙ block-step q r a

pub state-step : (ok : ℕ → Bool) (s : State) (μ : List ℕ) → step_block ok (expand s) μ ≡ on_next expand_config (step_state ok s μ)
unfolding step_state on_next expand_config expand
state-step ok (here b) μ = here-step ok b μ
state-step ok (summed x e v r) μ = unfold step_block step_assign in refl
state-step ok (in_block q s r) μ = nest_step ok q s r μ (step_state ok s μ) (state-step ok s μ)
state-step ok (unrolling x zero d p r) μ = turns-step ok x p μ 0 (loop x (upto 0) p) (nest empty) μ (λ q. unfold step_block bound_value unroll_loop in refl) d r
state-step ok (unrolling x (suc c) d p r) μ =
    turns-step ok x p μ (suc c) (loop x (upto (suc c)) p) (nest (loop x (upto c) p (assign x (lit (suc c)) p))) μ (λ q. unfold step_block bound_value unroll_loop in refl) d r
    ∙ ap (λ (b : Block). next (at b μ)) (sym (turns-inside x c p (loop x (upto c) p) d r))
state-step ok (at_zero x d p r) μ = turns-done ok x p μ 0 (nest empty) μ (λ q. unfold step_block step_inside in refl) d r
state-step ok (storing x c d p r) μ =
    turns-step ok x p μ c (nest (assign x (lit c) p)) (nest p) (update μ x c) (λ q. unfold step_block step_inside step_assign in refl) d r
state-step ok (in_body x c d p s r) μ = body-step ok x c d p s r μ (step_state ok s μ) (state-step ok s μ)

-- THE THEOREM
pub counting-step : (ok : ℕ → Bool) (c : Counting) → step ok (expand_config c) ≡ on_next expand_config (count_step ok c)
unfolding step count_step
counting-step ok c = unfold expand_config in (state-step ok c.state c.store)
