-- WHAT EVERY STEP KEEPS: a state of the program, the store's length, values that pass.
use Prim.Native.Nat.{suc, zero, ℕ}
use mathlib.Core.Path.{◌∙◌, ◌≡◌}
use mathlib.Core.Bool.{Bool, cond, false, true}
use mathlib.Core.List.{List}
use mathlib.Core.Option.{some}
use lib.ListN.{length}
use Rattle.rules.specs.Run.{iterate}
use Rattle.rules.specs.Store.{Limit, lookup}
use Rattle.rules.specs.Syntax.{Answer, Block, Expr, assign, dec, empty, finished, inc, lit, loop, nest, next, over, var}
use Rattle.rules.proofs.IterateLaws.{OnNext, iterate-keeps}
use Rattle.rules.proofs.ScopeLaws.{length-update}
use Rattle.counting.specs.CountStep.{count_step, step_here, step_in, step_state, step_sum, turn_done}
use Rattle.counting.specs.Counting.{Counting, State, at_zero, here, in_block, in_body, storing, summed, unrolling}
use Rattle.counting.specs.StateOf.{StateOf}
use Rattle.counting.proofs.SoundStateLaws.{SmallCounting, SoundBlock, small-step}
use Rattle.counting.proofs.StateOfLaws.{state-of}

-- THE STORE'S LENGTH

-- What a step comes to has a store of n values.
abbrev Sized : ℕ → Answer Counting → Type 0
Sized n (finished μ) = length μ ≡ n
Sized n over = Unit {0}
Sized n (next c) = length c.store ≡ n

sized-in : (n : ℕ) (held : State → State) (gone : State) (o : Answer Counting) → Sized n o → Sized n (step_in held gone o)
unfolding step_in
sized-in n held gone (finished μ) h = h
sized-in n held gone over h = tt
sized-in n held gone (next c) h = h

sized-sum : (ok : ℕ → Bool) (n x : ℕ) (e : Expr) (r : Block) (μ : List ℕ) → length μ ≡ n → Sized n (step_sum ok x e r μ)
unfolding step_sum
sized-sum ok n x (lit v) r μ h = length-update μ x v ∙ h
sized-sum ok n x (var y) r μ h = length-update μ x (lookup μ y) ∙ h
sized-sum ok n x (inc y) r μ h = test (ok (suc (lookup μ y)))
  where
    test : (t : Bool) → Sized n (cond t (next (record { state = summed x (inc y) (suc (lookup μ y)) r; store = μ })) over)
    test true = h
    test false = tt
sized-sum ok n x (dec y) r μ h = h

sized-here : (ok : ℕ → Bool) (n : ℕ) (b : Block) (μ : List ℕ) → length μ ≡ n → Sized n (step_here ok b μ)
unfolding step_here
sized-here ok n empty μ h = h
sized-here ok n (assign x e r) μ h = sized-sum ok n x e r μ h
sized-here ok n (loop x b p r) μ h = h
sized-here ok n (nest q r) μ h = sized-in n (λ s. in_block q s r) (here r) (step_here ok q μ) (sized-here ok n q μ h)

sized-state : (ok : ℕ → Bool) (n : ℕ) (s : State) (μ : List ℕ) → length μ ≡ n → Sized n (step_state ok s μ)
unfolding step_state
sized-state ok n (here b) μ h = sized-here ok n b μ h
sized-state ok n (summed x e v r) μ h = length-update μ x v ∙ h
sized-state ok n (in_block q s r) μ h = sized-in n (λ t. in_block q t r) (here r) (step_state ok s μ) (sized-state ok n s μ h)
sized-state ok n (unrolling x zero d p r) μ h = h
sized-state ok n (unrolling x (suc c) d p r) μ h = h
sized-state ok n (at_zero x d p r) μ h = h
sized-state ok n (storing x c d p r) μ h = length-update μ x c ∙ h
sized-state ok n (in_body x c d p s r) μ h = sized-in n (λ t. in_body x c d p t r) (turn_done x c d p r) (step_state ok s μ) (sized-state ok n s μ h)

sized-next : (n : ℕ) (o : Answer Counting) → Sized n o → OnNext (λ c. length c.store ≡ n) o
sized-next n (finished μ) h = tt
sized-next n over h = tt
sized-next n (next c) h = h

pub steps-size : (ok : ℕ → Bool) (m n : ℕ) (c d : Counting) → length c.store ≡ n → iterate (count_step ok) m c ≡ some d → length d.store ≡ n
steps-size ok m n = iterate-keeps (count_step ok) (λ c. length c.store ≡ n)
    (λ c h. unfold count_step in (sized-next n (step_state ok c.state c.store) (sized-state ok n c.state c.store h))) m

-- VALUES THAT PASS, of a state of a sound program

module _ (ok : ℕ → Bool) (limit : Limit ok) (k : ℕ) (P : Block) (sound : SoundBlock ok limit k P) where
  -- A state of the program whose values pass.
  abbrev Kept : Counting → Type 0
  Kept c = StateOf P 0 c.state × SmallCounting ok limit k c

  both-next : (o : Answer Counting) → OnNext (λ c. StateOf P 0 c.state) o → OnNext (SmallCounting ok limit k) o → OnNext Kept o
  both-next (finished μ) h g = tt
  both-next over h g = tt
  both-next (next c) h g = (h, g)

  kept_step : (c : Counting) → Kept c → OnNext Kept (count_step ok c)
  kept_step c h =
      both-next (count_step ok c) (unfold count_step in (state-of ok c.state P 0 c.store h.0)) (small-step ok limit k P 0 c sound h.0 h.1)

  pub steps-small : (m : ℕ) (c d : Counting) → StateOf P 0 c.state → SmallCounting ok limit k c → iterate (count_step ok) m c ≡ some d → SmallCounting ok limit k d
  steps-small m c d h g e = (iterate-keeps (count_step ok) Kept kept_step m c d (h, g) e).1
