use Rattle.std.proofs.Common.{◌≡◌, ◌+◌, ◌-◌, ◌*◌, ltb}
use Rattle.rules.specs.Syntax.{Block}
use Rattle.record.specs.Program.{block_size}
use Rattle.place.specs.ProgramView.{BlockAt}
use Rattle.counting.specs.Depth.{nesting}
use Rattle.nesting_check.specs.Rows.{Scanned}
use Rattle.nesting_check.proofs.too_deep.Given as goal

abbrev pub invariant-loop-q : goal.invariant-loop-q
invariant-loop-q l =
    (P : Block) → BlockAt l.buf l.start P → l.used ≡ l.start + block_size P → Scanned l.buf l.used (ltb 32 (nesting P)) l.rows.ends l.rows.depth l.q

abbrev pub decreases-loop-q : goal.decreases-loop-q
decreases-loop-q l = l.rows.depth + 2 * (l.used - l.q)
