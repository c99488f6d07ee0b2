-- A literal or a variable is read as a bound as it is as an expression.
use mathlib.Core.Path.{ap, sym, ◌∙◌}
use native.Mathlib.Omega.{arith}
use Rattle.record.proofs.ExpressionReadLaws.{bound-expr, bound-no-kind}
use Rattle.record.specs.Front.{only, u16}
use Rattle.record.specs.Program.{read_bound}
use Rattle.program_checker.specs.BlockVerdict.{bound_rating, expr_rating}
use Rattle.checker.specs.Verdict.{verdict}
use Rattle.program_checker.proofs.ProgramVerdictLaws.{bound-verdict}
use Rattle.std.proofs.Common.{◌≤◌}
use Rattle.record.specs.declared.kind.Kind.TheVariants.{Literal, Variable}
use Rattle.record.proofs.KindLaws.{named-number, not-number}
use Rattle.program_checker.proofs.check_bound.Goals as goal

pub returns-in-Literal : goal.returns-in-Literal
returns-in-Literal c =
    let low : u16 c.args.s.now 2 ≤ 17 = grind (arith, named-number c.read.ensures, c.in-Literal.is) in
    c.check_expression.ensures
    ∙ ap (verdict (expr_rating c.args.limits.k c.args.limits.largest)) (bound-expr c.args.s.now c.requires low)
    ∙ bound-verdict c.args.limits.k c.args.limits.largest (only (read_bound c.args.s.now))

pub returns-in_default : goal.returns-in_default
returns-in_default c =
    sym (ap (verdict (bound_rating c.args.limits.k c.args.limits.largest)) (bound-no-kind c.args.s.now (not-number Literal tt c.read.ensures c.in_default.not-Literal) (not-number Variable tt c.read.ensures c.in_default.not-Variable)))
