-- What was counted and the length of what is left make up the whole; the number of entries bounds what was counted.
use Rattle.expansion.specs.Walk.{Given}
use Rattle.expansion.specs.Sizing.{Sizing}
use Rattle.rules.specs.Syntax.{Block}
use Rattle.counting.specs.Counting.{State}
use Prim.Native.Nat.{◌*◌, ◌+◌, ◌≤◌}
use Rattle.expansion.proofs.expansion_size.Given as goal

abbrev pub invariant-loop-i : goal.invariant-loop-i
invariant-loop-i l =
    (l.total ≤ 70368744210432 * l.i) × ((P : Block) → (s : State) → Given l.program.bytes.now l.program.used l.words l.program.start P s → Sizing l.program.bytes.now l.words l.program.start s l.total (3 + 6 * l.i) l.p l.end)
