-- A set of variables as an array of marks.
use Rattle.std.specs.Prelude.{Bool, false, List, get_or}
use Rattle.rules.specs.FreeVariables.{Vars}

-- The variables whose numbers are marked.
unfoldable pub marked : List Bool → Vars
marked marks x = get_or marks x false
