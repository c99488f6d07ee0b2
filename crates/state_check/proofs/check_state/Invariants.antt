use Rattle.std.proofs.Common.{◌≡◌, ◌≤◌, ◌+◌}
use Rattle.rules.specs.Syntax.{Block}
use Rattle.record.specs.Program.{block_size}
use Rattle.place.specs.ProgramView.{BlockAt}
use Rattle.state_check.proofs.WalkLaws.{Reading}
use Rattle.state_check.proofs.check_state.Given as goal

abbrev pub invariant-loop-j : goal.invariant-loop-j
invariant-loop-j l =
    (l.n ≤ 31) × ((P : Block) → BlockAt l.program.bytes.now l.program.start P → l.program.used ≡ l.program.start + block_size P → Reading P l.program.bytes.now l.words l.program.start l.n l.j l.at.first l.at.end l.at.p)
