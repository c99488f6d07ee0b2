-- One block and nothing after it, or no block.
use mathlib.Core.Path.{ap, sym, ◌∙◌}
use Rattle.record.specs.Program.{decode_block}
use Rattle.record.proofs.BetweenLaws.{between-rest}
use Rattle.record.proofs.FrontLaws.{is_only-front}
use Rattle.record.proofs.ProgramReadLaws.{block_in-not, block_in-only}
use Rattle.program_checker.specs.BlockVerdict.{block_verdict}
use native.Mathlib.Omega.{arith}
use Prim.Native.Nat.{◌+◌}
use lib.ListN.{drop, length-drop}
use lib.Seq.{drop-drop}
use Rattle.program_checker.proofs.check_contents.Goals as goal

pub overflow_add-start : goal.overflow_add-start
overflow_add-start c =
    let s = c.args.s.now in
    let start = c.args.start in
    omega (arith, length-drop start s, (is_only-front 1 (drop start s) (sym c.only_at.ensures ∙ c.if-only_at.true)).least)

pub slice_bounds-check_block-count : goal.slice_bounds-check_block-count
slice_bounds-check_block-count c =
    let s = c.args.s.now in
    let start = c.args.start in
    omega (arith, length-drop start s, (is_only-front 1 (drop start s) (sym c.only_at.ensures ∙ c.if-only_at.true)).least)

pub slice_bounds-check_block-start : goal.slice_bounds-check_block-start
slice_bounds-check_block-start c =
    let s = c.args.s.now in
    let start = c.args.start in
    omega (arith, length-drop start s, (is_only-front 1 (drop start s) (sym c.only_at.ensures ∙ c.if-only_at.true)).least)

pub returns-then-only_at : goal.returns-then-only_at
returns-then-only_at c =
    let s = c.args.s.now in
    let start = c.args.start in
    c.check_block.ensures ∙ ap (block_verdict c.args.limits.k c.args.limits.largest) (ap decode_block (between-rest s (start + 4) ∙ sym (drop-drop 4 start s)) ∙ sym (block_in-only (drop start s) (sym c.only_at.ensures ∙ c.if-only_at.true)))

pub returns-else-only_at : goal.returns-else-only_at
returns-else-only_at c =
    sym (ap (block_verdict c.args.limits.k c.args.limits.largest) (block_in-not (drop c.args.start c.args.s.now) (sym c.only_at.ensures ∙ c.if-only_at.false)))
