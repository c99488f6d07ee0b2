-- The state of the measuring walk (02 C-14).
use Rattle.std.specs.Prelude.{◌+◌, ℕ, ◌≡◌, List}
use Rattle.counting.specs.Counting.{State}
use Rattle.counting.specs.Size.{expand_size}
use Rattle.expansion.specs.Walk.{Left}

-- What was counted and the length of what is left make up the length of the whole.
pub record Sizing (l ws : List ℕ) (start : ℕ) (s : State) (total e p end : ℕ) : Type 0 where
  pub inner : State
  pub left : Left l ws start e p end inner
  pub sum : total + expand_size inner ≡ expand_size s
