-- Row 16's test of values, by what one of them is.
use Rattle.std.proofs.Common.{◌≡◌, ℕ, Bool, false, true, not, ◌&&◌, ◌||◌, List, [], ◌∷◌, nat_lt, refl, arith}
use Rattle.std.specs.List.{list_any}
use Rattle.rules.specs.Literals.{small_values}
use Rattle.rules.specs.Store.{up_to}

above-one : (largest v : ℕ) → nat_lt largest v ≡ not (up_to largest v)
unfolding up_to
above-one largest v = grind arith

above-or : (a b : Bool) → (not a || not b) ≡ not (a && b)
above-or true b = refl
above-or false b = refl

-- Some value is above the largest where not all pass.
pub any_above : (largest : ℕ) (values : List ℕ) → list_any (λ v. nat_lt largest v) values ≡ not (small_values (up_to largest) values)
unfolding small_values
any_above largest [] = refl
any_above largest (v ∷ values) =
    rw (above-one largest v, any_above largest values) (above-or (up_to largest v) (small_values (up_to largest) values))
