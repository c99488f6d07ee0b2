-- What a substitution along the path of a term's free variables leaves of the array that goes along with it.
use Rattle.std.specs.Prelude.{ℕ, List, Option, None, set}
use Rattle.rules.specs.Syntax.{Term, let_all, let_one, rec, tuple}

-- The values that were lent, with None for each variable that a let-one on the path binds: the path goes from a let-one into its last
-- term and from a let-all into its first, and ends in a tuple or in a rec's start tuple.
unfoldable pub values_left : List (Option ℕ) → Term → List (Option ℕ)
values_left values (tuple ys) = values
values_left values (let_one x s t) = values_left (set values x None) t
values_left values (let_all t u) = values_left values t
values_left values (rec x a ys t) = values
