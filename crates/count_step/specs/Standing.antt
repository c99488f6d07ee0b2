-- What stands at the innermost place, what the blocks opened there come to, and whether its value is too large.
use Rattle.std.specs.Prelude.{◌+◌, ℕ, ◌≡◌, Bool, false, true, List, get_or, length}
use Rattle.record.specs.Program.{block_size}
use Rattle.rules.specs.Syntax.{Block, assign, empty, loop, nest}
use Rattle.counting.specs.CountStep.{step_state}
use Rattle.counting.specs.Counting.{State, here}
use Rattle.counting.specs.Entries.{Entry, within}
use Rattle.counting.specs.Frames.{inner_at, inner_block}
use Rattle.count_step.specs.declared.standing.Standing.{Standing}
use Rattle.count_step.specs.declared.standing.Standing.TheVariants as standing
use Rattle.count_step.specs.declared.standing.Way.{Way}
use Rattle.count_step.specs.declared.standing.Way.TheVariants.{Here, Shut, Waits}
use Rattle.count_step.specs.Inner.{Holds, Inner}
use Rattle.count_step.specs.Makes.{Goes, Makes, over_expr}
use Rattle.count_step.specs.Words.{shut_words}

-- What stands first: a block, an assignment, a loop; the end where nothing is left.
unfoldable pub kind_of : Block → Standing
kind_of empty = standing.End
kind_of (assign x e r) = standing.Assignment
kind_of (loop x n q r) = standing.Loop
kind_of (nest q r) = standing.Block

-- Where the innermost block ends.
unfoldable pub inner_end : List Entry → Block → ℕ
inner_end es P = inner_at es P 0 + block_size (inner_block es P)

-- The value of an assignment that stands first is too large.
unfoldable pub over_first : (ℕ → Bool) → Block → List ℕ → Bool
over_first ok empty store = false
over_first ok (assign x e r) store = over_expr ok e store
over_first ok (loop x n q r) store = false
over_first ok (nest q r) store = false

-- Nothing is open at the innermost place.
abbrev pub HereIn : ℕ → ℕ → ℕ → List ℕ → List ℕ → Type 0
HereIn start used n buf words = (P : Block) × (es : List Entry) × (i : ℕ) × (r : Block) × (count : ℕ) × Inner start used n P es i r (here r) buf words count

-- The words hold some state of some program.
abbrev pub SomeState : ℕ → ℕ → ℕ → List ℕ → List ℕ → ℕ → Type 0
SomeState start used n buf words count = (P : Block) × (s : State) × Holds start used n P s buf words count

-- The way p that the next step goes, told by the words: that of a shut loop, of a sum that waits, else of what stands there.
pub data IsWay (start used n : ℕ) (buf words : List ℕ) (p : Way) : Type 0 where
  way_shut : shut_words words n ≡ true → p ≡ Shut → IsWay start used n buf words p
  way_sum : shut_words words n ≡ false → get_or words 1 0 ≡ 1 → p ≡ Waits → IsWay start used n buf words p
  way_here : shut_words words n ≡ false → (get_or words 1 0 ≡ 1 → ⊥)
      → ((P : Block) (es : List Entry) (i : ℕ) (r : Block) (count : ℕ) → Inner start used n P es i r (here r) buf words count → p ≡ Here (kind_of r)) → IsWay start used n buf words p

-- From the state within es, of which r is left, the words now hold one that steps as it does, n being open in it.
pub record Opened (start used n : ℕ) (P : Block) (es : List Entry) (r : Block) (buf words : List ℕ) (count : ℕ) : Type 0 where
  pub around : List Entry
  pub place : ℕ
  pub left : Block
  pub inner : Inner start used n P around place left (here left) buf words count
  pub steps : (ok : ℕ → Bool) (store : List ℕ) → step_state ok (within around (here left)) store ≡ step_state ok (within es (here r)) store

-- The words hold some state that has a next one.
abbrev pub SomeGoing : ℕ → ℕ → ℕ → List ℕ → List ℕ → List ℕ → Type 0
SomeGoing start used n buf words store = (P : Block) × (s : State) × Holds start used n P s buf words (length store) × Goes s store

-- The step of every state that the words hold is made, and m are open afterwards.
abbrev pub MakesStep : ℕ → ℕ → ℕ → List ℕ → List ℕ → List ℕ → List ℕ → List ℕ → ℕ → Type 0
MakesStep start used n buf words store words_after store_after m =
    (P : Block) (s : State) → Holds start used n P s buf words (length store) → Makes P s store words_after store_after m
