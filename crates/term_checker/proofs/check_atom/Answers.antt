-- By the length, then by the kind.
use Prim.Native.Nat.{ℕ}
use mathlib.Core.Path.{ap, sym, ◌∙◌}
use native.Mathlib.Omega.{arith}
use Rattle.rules.specs.Scope.{in_range}
use Rattle.rules.specs.Store.{up_to}
use Rattle.record.specs.declared.kind.Kind.TheVariants.{Numeral, Reference}
use Rattle.record.proofs.TermReadLaws.{only_atom-long, only_atom-num, only_atom-other, only_atom-ref}
use Rattle.checker.specs.Verdict.{rated, valued}
use Rattle.term_checker.proofs.WalkLaws.{kind_here, kind-other, length_here, none_here, number_here}
use Rattle.term_checker.proofs.TermWalkLaws.{atom-none}
use Rattle.term_checker.proofs.TermVerdictLaws.{numeral-verdict, none-malformed, reference-verdict}
use Rattle.term_checker.proofs.check_atom.Goals as goal

pub returns-in_default : goal.returns-in_default
returns-in_default c = none-malformed _ (atom-none _ (none_here _ _ c.head_at.ensures c.in_default.not-Record))

pub returns-then-length-ne8 : goal.returns-then-length-ne8
returns-then-length-ne8 c = none-malformed _ (only_atom-long _ (λ q. c.if-length-ne8.true (length_here _ _ c.in-Record.ensures ∙ q)))

pub returns-in-Numeral : goal.returns-in-Numeral
returns-in-Numeral c =
    let limits = c.args.limits in
    let record_is = c.in-Record.ensures in
    c.check_value.ensures
    ∙ ap (λ (v : ℕ). valued (up_to limits.largest v)) (c.get_u32.ensures ∙ number_here _ _ record_is (omega arith))
    ∙ sym (numeral-verdict limits.k limits.largest _ _ (only_atom-num _ (sym (length_here _ _ record_is) ∙ c.if-length-ne8.false) (kind_here _ _ record_is c.in-Numeral.ensures)))

pub returns-in-Reference : goal.returns-in-Reference
returns-in-Reference c =
    let limits = c.args.limits in
    let record_is = c.in-Record.ensures in
    c.check_variable.ensures
    ∙ ap (λ (x : ℕ). rated (in_range limits.k x)) (c.get_u32-in-Reference.ensures ∙ number_here _ _ record_is (omega arith))
    ∙ sym (reference-verdict limits.k limits.largest _ _ (only_atom-ref _ (sym (length_here _ _ record_is) ∙ c.if-length-ne8.false) (kind_here _ _ record_is c.in-Reference.ensures)))

pub returns-in_default-named : goal.returns-in_default-named
returns-in_default-named c =
    let other = c.in_default-named in
    none-malformed _ (only_atom-other _ (kind-other _ _ c.in-Record.ensures Numeral tt c.named.ensures other.not-Numeral) (kind-other _ _ c.in-Record.ensures Reference tt c.named.ensures other.not-Reference))
