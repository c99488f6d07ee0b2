-- The measure is twice the length, and one more for a block. The loop's invariant: the verdict is the worse of what was found
-- and the verdict on what is left, from `at` up to `end`.
use Prim.Native.Nat.{◌*◌, ◌+◌, ◌-◌, ◌≤◌}
use mathlib.Core.Path.{◌≡◌}
use lib.ListN.{length}
use Rattle.record.specs.Program.{decode_block}
use Rattle.checker.specs.Verdict.{worse}
use Rattle.program_checker.specs.BlockVerdict.{block_verdict}
use Rattle.program_checker.proofs.CommandRowLaws.{row_verdict}
use Rattle.program_checker.proofs.+check_block_check_command.Given as goal

abbrev pub decreases-check_block : goal.decreases-check_block
decreases-check_block l = 2 * length l.s.now + 1

abbrev pub decreases-check_command : goal.decreases-check_command
decreases-check_command l = 2 * length l.s.now

abbrev pub invariant-check_block-loop-at : goal.invariant-check_block-loop-at
invariant-check_block-loop-at l =
    (l.at ≤ l.end) × (l.end ≤ length l.s) × (block_verdict l.limits.k l.limits.largest (decode_block l.s) ≡ worse l.found (row_verdict l.limits.k l.limits.largest l.s l.at l.end))

abbrev pub decreases-check_block-loop-at : goal.decreases-check_block-loop-at
decreases-check_block-loop-at l = l.end - l.at
