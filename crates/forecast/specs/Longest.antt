-- THE LONGEST STATE ON THE WAY, of either machine (02 C-19): "the longest configuration and longest term on the way", the start counted.
use Rattle.std.specs.Prelude.{ℕ, ◌≤◌, ◌≡◌}
use Rattle.std.proofs.Math.Option.{some}
use Rattle.rules.specs.Run.{iterate}
use Rattle.rules.specs.Syntax.{Answer}

-- f is the machine's step, `size` the length of a state's record.
module _ {A : Type 0} (f : A → Answer A) (size : A → ℕ) where
  -- Of the states after 0, 1, .. n steps from the start none is longer than the figure, and some one is as long.
  pub record Longest (start : A) (n figure : ℕ) : Type 0 where
    pub most : (m : ℕ) (a : A) → m ≤ n → iterate f m start ≡ some a → size a ≤ figure
    pub met : (m : ℕ) × (a : A) × (m ≤ n) × (iterate f m start ≡ some a) × (size a ≡ figure)
