-- After i turns the first i numerals stand in the store.
use Rattle.std.proofs.Common.{◌≡◌, ℕ, List, map, length}
use Rattle.buffer.specs.Slice.{part, put}
use Rattle.rules.specs.Syntax.{num}
use Rattle.place.specs.TermView.{AtomsAt}
use Rattle.numerals.proofs.copy_numerals.Given as goal

abbrev pub invariant-loop-i : goal.invariant-loop-i
invariant-loop-i l =
    (vs : List ℕ) → AtomsAt l.buf l.atoms (map num vs) → length vs ≡ length l.initial.store → l.store ≡ put l.initial.store 0 (part vs 0 l.i)
