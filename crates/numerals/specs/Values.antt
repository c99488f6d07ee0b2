-- A substitution as an array of options.
use Rattle.std.specs.Prelude.{ℕ, List, Option, None, Some, get_or}
use Rattle.std.proofs.Math.Option as maybe
use Rattle.rules.specs.Substitution.{Substitution}

-- What an option gives to the variable for which it stands.
unfoldable pub given_by : Option ℕ → maybe.Option ℕ
given_by None = maybe.none
given_by (Some v) = maybe.some v

-- At index x stands the value of variable x, or None, where x stays.
unfoldable pub substitution_of : List (Option ℕ) → Substitution
substitution_of values x = given_by (get_or values x None)
