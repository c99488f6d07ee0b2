-- The block inside reaches to the record's end; then the index and the bound decide.
use mathlib.Core.Path.{ap, ap₂, sym, ◌∙◌}
use native.Mathlib.Omega.{arith}
use Prim.Native.Nat.{ℕ}
use lib.ListN.{drop, take}
use Rattle.rules.specs.Scope.{in_range}
use Rattle.record.specs.Front.{only, u32}
use Rattle.record.specs.Program.{decode_block, read_bound}
use Rattle.record.proofs.ProgramReadLaws.{decode-loop, decode-loop-no}
use Rattle.checker.specs.Verdict.{rated, worse}
use Rattle.program_checker.specs.BlockVerdict.{block_verdict}
use Rattle.program_checker.proofs.ProgramVerdictLaws.{loop-verdict, opens-none}
use Rattle.rules.proofs.Tests.{true-false}
use Rattle.checker.specs.declared.Verdict.{Verdict}
use Rattle.program_checker.proofs.open_loop.Goals as goal

pub returns-then-s-lt20 : goal.returns-then-s-lt20
returns-then-s-lt20 c =
    opens-none c.args.limits.k c.args.limits.largest c.args.s.now c.no_command.ensures c.requires.front.least (decode-loop-no c.args.s.now c.requires.front c.requires.s_value (λ x y. omega arith))

pub returns-then-only_at : goal.returns-then-only_at
returns-then-only_at c =
    let s = c.args.s.now in
    let k = c.args.limits.k in
    let largest = c.args.limits.largest in
    let is_Block = sym c.only_at.ensures ∙ c.if-only_at.true in
    record {
      least = omega arith;
      most = omega arith;
      both = ap (block_verdict k largest) (decode-loop s c.requires.front c.requires.s_value (omega arith) is_Block)
          ∙ loop-verdict k largest (u32 s 4) (only (read_bound (take 8 (drop 8 s)))) (decode_block (drop 20 s))
          ∙ sym (ap (λ (v : Verdict). worse v (block_verdict k largest (decode_block (drop 20 s)))) (c.worst.ensures ∙ ap₂ worse (c.check_variable-index.ensures ∙ ap (λ (x : ℕ). rated (in_range k x)) c.get_u32.ensures) c.check_bound.ensures));
    }

pub returns-else-only_at : goal.returns-else-only_at
returns-else-only_at c =
    let s = c.args.s.now in
    let not-only = sym c.only_at.ensures ∙ c.if-only_at.false in
    opens-none c.args.limits.k c.args.limits.largest s c.no_command-else-only_at.ensures c.requires.front.least (decode-loop-no s c.requires.front c.requires.s_value (λ x y. true-false (sym y ∙ not-only)))
