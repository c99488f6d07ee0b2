-- The record is 16 bytes; then its two parts decide.
use mathlib.Core.Path.{ap, ap₂, sym, ◌∙◌}
use native.Mathlib.Omega.{arith}
use Prim.Native.Nat.{ℕ}
use Rattle.rules.specs.Scope.{in_range}
use Rattle.record.proofs.ProgramReadLaws.{decode-assign, decode-assign-no}
use Rattle.checker.specs.Verdict.{rated, worse}
use Rattle.program_checker.specs.BlockVerdict.{block_verdict}
use Rattle.program_checker.proofs.ProgramVerdictLaws.{assign-verdict}
use lib.ListN.{drop, take}
use Rattle.record.specs.Front.{only, u32}
use Rattle.record.specs.Program.{read_expr}
use Rattle.program_checker.proofs.check_assignment.Goals as goal

pub returns-then-s-ne16 : goal.returns-then-s-ne16
returns-then-s-ne16 c =
    sym (ap (block_verdict c.args.limits.k c.args.limits.largest) (decode-assign-no c.args.s.now c.requires.front c.requires.s_value (omega arith)))

pub returns : goal.returns
returns c =
    let s = c.args.s.now in
    c.worst.ensures
    ∙ ap₂ worse (c.check_variable.ensures ∙ ap (λ (x : ℕ). rated (in_range c.args.limits.k x)) c.get_u32.ensures) c.check_expression.ensures
    ∙ sym (ap (block_verdict c.args.limits.k c.args.limits.largest) (decode-assign s c.requires.front c.requires.s_value (omega arith)) ∙ assign-verdict c.args.limits.k c.args.limits.largest (u32 s 4) (only (read_expr (take 8 (drop 8 s)))))
