-- The state of the writing walk (02 C-14).
use Rattle.std.specs.Prelude.{◌+◌, ◌≤◌, ℕ, ◌≡◌, List, length}
use Rattle.buffer.specs.Slice.{put}
use Rattle.record.specs.Program.{encode_block}
use Rattle.counting.specs.Counting.{State, expand}
use Rattle.counting.specs.Size.{expand_size}
use Rattle.expansion.specs.Walk.{Left}

-- To put `all` at `front` of the output o, it is left to put m at f of the output o₁, where m ends at b.
pub record Narrowed (o o₁ : List ℕ) (front : ℕ) (all : List ℕ) (f b : ℕ) (m : List ℕ) : Type 0 where
  pub same : put o₁ f m ≡ put o front all
  pub fills : f + length m ≡ b
  pub room : b ≤ length o₁

-- To write the expansion of s at `front` of the output o, it is left to write that of `inner` at f of o₁, up to b.
pub record Writing (l ws : List ℕ) (start : ℕ) (s : State) (o o₁ : List ℕ) (front f b e p end : ℕ) : Type 0 where
  pub inner : State
  pub left : Left l ws start e p end inner
  pub same : put o₁ f (encode_block (expand inner)) ≡ put o front (encode_block (expand s))
  pub fills : f + expand_size inner ≡ b
