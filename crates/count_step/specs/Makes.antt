-- What a function that makes a step leaves, and what the step's outcome is read from.
use Rattle.std.specs.Prelude.{◌<◌, ◌^◌, suc, ℕ, ◌≡◌, Bool, false, not, true, List, length}
use Rattle.rules.specs.Run.{Outcome, outcome_of}
use Rattle.rules.specs.Store.{lookup, up_to}
use Rattle.rules.specs.Syntax.{Block, Bound, Expr, assign, dec, empty, inc, lit, loop, next, var}
use Rattle.counting.specs.Depth.{open_count}
use Rattle.counting.specs.Entries.{Entry, within}
use Rattle.counting.specs.CountStep.{count_step, step_state}
use Rattle.counting.specs.Counting.{Counting, State, here, summed}
use Rattle.count_step.specs.declared.standing.Standing.{Standing}
use Rattle.count_step.specs.declared.standing.Standing.TheVariants as standing
use Rattle.count_step.specs.Inner.{Inner, Shut}
use Rattle.counting.specs.StateWords.{encode_state}

-- The words, the store and the number of what is open afterwards are those of the state after s, under whatever test.
abbrev pub Makes : Block → State → List ℕ → List ℕ → List ℕ → ℕ → Type 0
Makes P s store words after n = (ok : ℕ → Bool) (c : Counting) → step_state ok s store ≡ next c → (words ≡ encode_state P c.state) × (after ≡ c.store) × (n ≡ open_count c.state)

-- The state s has a next one, under a test that only values of 32 bits pass.
abbrev pub Goes : State → List ℕ → Type 0
Goes s store = (largest : ℕ) × (largest < 2 ^ 32) × (c : Counting) × (step_state (up_to largest) s store ≡ next c)

-- The outcome that a state reads under a test: there is always room.
abbrev pub reads_as : (ℕ → Bool) → State → List ℕ → Outcome
reads_as ok s store = outcome_of (count_step ok) (λ d. true) (step_state ok s store)

-- The expression's value is too large.
unfoldable pub over_expr : (ℕ → Bool) → Expr → List ℕ → Bool
over_expr ok (lit n) store = false
over_expr ok (var y) store = false
over_expr ok (inc y) store = not (ok (suc (lookup store y)))
over_expr ok (dec y) store = false

-- WHAT STANDS INNERMOST, of the block left from its place on and the state

-- an assignment
pub data IsAssign : Block → State → Type 0 where
  is_assign : (x : ℕ) (e : Expr) (r : Block) → IsAssign (assign x e r) (here (assign x e r))

-- a loop
pub data IsLoop : Block → State → Type 0 where
  is_loop : (x : ℕ) (m : Bound) (q r : Block) → IsLoop (loop x m q r) (here (loop x m q r))

-- the end of a block
pub data IsEnd : Block → State → Type 0 where
  is_end : IsEnd empty (here empty)

-- one of these, which is the k: no block that can be opened
pub data IsFlat (k : Standing) : Block → State → Type 0 where
  flat_assign : (x : ℕ) (e : Expr) (r : Block) → k ≡ standing.Assignment → IsFlat k (assign x e r) (here (assign x e r))
  flat_loop : (x : ℕ) (m : Bound) (q r : Block) → k ≡ standing.Loop → IsFlat k (loop x m q r) (here (loop x m q r))
  flat_end : k ≡ standing.End → IsFlat k empty (here empty)

-- nothing is open in it
pub data IsHere : Block → State → Type 0 where
  is_here : (r : Block) → IsHere r (here r)

-- a sum that waits
pub data IsSummed : Block → State → Type 0 where
  is_summed : (x : ℕ) (e : Expr) (v : ℕ) (r : Block) → IsSummed (assign x e r) (summed x e v r)

-- a loop at no place in its body
pub data IsShut : Block → State → Type 0 where
  is_shut : (x : ℕ) (m : Bound) (q r : Block) (t : State) → Shut x q r t → IsShut (loop x m q r) t

-- It stands in the words, n being open in all, and has a next one. The program's first command stands at `start`.
abbrev pub StandsOn : ℕ → ℕ → (Block → State → Type 0) → List ℕ → List ℕ → List ℕ → Type 0
StandsOn start n Shape buf words store =
    (used : ℕ) × (P : Block) × (es : List Entry) × (i : ℕ) × (r : Block) × (t : State) × Shape r t × Inner start used n P es i r t buf words (length store) × Goes (within es t) store

-- Its step is made, and m are open afterwards.
abbrev pub MakesAs : ℕ → ℕ → (Block → State → Type 0) → List ℕ → List ℕ → List ℕ → List ℕ → List ℕ → ℕ → Type 0
MakesAs start n Shape buf words store words_after store_after m =
    (used : ℕ) (P : Block) (es : List Entry) (i : ℕ) (r : Block) (t : State) → Shape r t → Inner start used n P es i r t buf words (length store)
    → Makes P (within es t) store words_after store_after m
