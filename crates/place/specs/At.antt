-- What stands at an index of a list.
use Rattle.std.specs.Prelude.{ℕ, ◌≡◌, ◌++◌, List, length}

-- The bytes m stand at index p of l.
pub record At (l : List ℕ) (p : ℕ) (m : List ℕ) : Type 0 where
  pub pre : List ℕ
  pub post : List ℕ
  pub is : l ≡ pre ++ (m ++ post)
  pub len : length pre ≡ p
