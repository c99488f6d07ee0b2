use mathlib.Core.Path.{◌≡◌}
use Prim.Native.Nat.{◌+◌, ◌-◌}
use Rattle.rules.specs.Syntax.{Block}
use Rattle.record.specs.Program.{block_size}
use Rattle.place.specs.ProgramView.{BlockAt}
use Rattle.state_check.proofs.PlaceLaws.{Walked}
use Rattle.state_check.proofs.stands_at.Given as goal

abbrev pub invariant-loop-q : goal.invariant-loop-q
invariant-loop-q l =
    (b : Block) → BlockAt l.program.bytes.now (l.program.start + l.at.first) b → l.at.first + block_size b ≡ l.at.end → Walked l.program.bytes.now l.program.start b l.at.first l.at.end l.at.p l.q

abbrev pub decreases-loop-q : goal.decreases-loop-q
decreases-loop-q l = l.at.end - l.q
