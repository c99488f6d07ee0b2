-- By the length stored, then by the class, then by the kind.
use mathlib.Core.Path.{ap, sym, ◌∙◌}
use Prim.Native.Nat.{ℕ}
use native.Mathlib.Omega.{arith}
use Rattle.rules.specs.Scope.{in_range}
use Rattle.rules.specs.Store.{up_to}
use Rattle.record.proofs.ExpressionReadLaws.{expr-literal, expr-no-class, expr-no-length, expr-variable}
use Rattle.program_checker.specs.BlockVerdict.{expr_rating}
use Rattle.checker.specs.Verdict.{rated, valued, verdict}
use Rattle.record.specs.Class.{class_of}
use Rattle.record.specs.Front.{only}
use Rattle.record.specs.Program.{read_expr}
use Rattle.program_checker.proofs.ProgramVerdictLaws.{literal-verdict, variable-verdict}
use Rattle.record.specs.declared.kind.Kind.TheVariants.{Literal}
use Rattle.record.proofs.KindLaws.{named-number, not-number}
use Rattle.program_checker.proofs.check_expression.Goals as goal

pub returns-then-get_u16-ne8 : goal.returns-then-get_u16-ne8
returns-then-get_u16-ne8 c =
    sym (ap (verdict (expr_rating c.args.limits.k c.args.limits.largest)) (expr-no-length c.args.s.now (omega arith)))

pub returns-in-Literal : goal.returns-in-Literal
returns-in-Literal c =
    let is-literal = sym c.get_u16-kind.ensures.0 ∙ named-number c.in-Literal.ensures in
    c.check_value.ensures
    ∙ ap (λ (v : ℕ). valued (up_to c.args.limits.largest v)) c.get_u32.ensures
    ∙ sym (ap (verdict (expr_rating c.args.limits.k c.args.limits.largest)) (expr-literal c.args.s.now c.requires (omega arith) is-literal) ∙ literal-verdict c.args.limits.k c.args.limits.largest _)

pub returns-in_default-named : goal.returns-in_default-named
returns-in_default-named c =
    let class = ap class_of (sym c.get_u16-kind.ensures.0) ∙ sym c.class_of.ensures ∙ c.in-Expression.is in
    let other = not-number Literal tt c.named.ensures c.in_default-named.not-Literal in
    c.check_variable.ensures
    ∙ ap (λ (x : ℕ). rated (in_range c.args.limits.k x)) c.get_u32-in_default-named.ensures
    ∙ sym (variable-verdict c.args.limits.k c.args.limits.largest (only (read_expr c.args.s.now)) _ (expr-variable c.args.s.now c.requires (omega arith) class (λ e. other (c.get_u16-kind.ensures.0 ∙ e))))

pub returns-in_default : goal.returns-in_default
returns-in_default c =
    sym (ap (verdict (expr_rating c.args.limits.k c.args.limits.largest)) (expr-no-class c.args.s.now (λ e. c.in_default.not-Expression (c.class_of.ensures ∙ ap class_of c.get_u16-kind.ensures.0 ∙ e))))
