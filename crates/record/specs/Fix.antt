-- A decoder that calls itself where a measure falls: the fixed point of one level, which takes the decoder for shorter lists.
use Rattle.std.specs.Prelude.{suc, zero, ℕ}
use Rattle.std.proofs.Math.Option.{Option, none}

module _ {X B : Type 0} (measure : X → ℕ) (level : (X → Option B) → X → Option B) where
  -- Fuel, which is seen here and nowhere else (`fixed-level`).
  unfoldable pub fuelled : ℕ → X → Option B
  fuelled zero x = none
  fuelled (suc n) x = level (fuelled n) x

  -- The decoder itself, with fuel for every level that the measure allows.
  unfoldable pub fixed : X → Option B
  fixed x = fuelled (suc (measure x)) x
