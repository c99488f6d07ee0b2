-- To write what is left into the place that is left is to write the whole into the first.
use Rattle.expansion.specs.Walk.{Given}
use Rattle.expansion.specs.Writing.{Writing}
use Rattle.rules.specs.Syntax.{Block}
use Rattle.counting.specs.Counting.{State}
use mathlib.Core.Path.{◌≡◌}
use Prim.Native.Nat.{◌*◌, ◌+◌, ◌≤◌}
use lib.ListN.{length}
use Rattle.expansion.proofs.write_expansion.Given as goal

abbrev pub invariant-loop-i : goal.invariant-loop-i
invariant-loop-i l =
    (length l.out ≡ length l.initial.out) × (l.hole.back ≤ length l.initial.out)
    × ((P : Block) → (s : State) → Given l.program.bytes.now l.program.used l.words l.program.start P s
    → Writing l.program.bytes.now l.words l.program.start s l.initial.out l.out l.front l.hole.front l.hole.back (3 + 6 * l.i) l.p l.end)
