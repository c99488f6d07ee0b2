-- After i turns the first i places have their values.
use Rattle.std.proofs.Common.{◌≡◌, ℕ, ◌<◌, List, Some, length, get_or, map, take}
use Rattle.numerals.proofs.values.fill.Given as goal

abbrev pub invariant-loop-i : goal.invariant-loop-i
invariant-loop-i g l =
    (vs : List ℕ) → length vs ≡ length l.initial.slots → ((i v : ℕ) → i < length vs → g.F.Fn.post l.value (i, tt) v → v ≡ get_or vs i 0)
    → take l.i l.slots ≡ map Some (take l.i vs)
