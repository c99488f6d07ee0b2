use mathlib.Core.Path.{refl, sym, ◌∙◌}
use Rattle.record.specs.declared.refusal.Refusal.TheVariants.{BadBuffer}
use Rattle.record.proofs.HeaderReadLaws.{check-program-one}
use Rattle.checker.proofs.AnswerLaws.{refused-by}
use Rattle.program_checker.proofs.check_program.Goals as goal

pub returns-then-bad_buffer-clause-checks : goal.returns-then-bad_buffer-clause-checks
returns-then-bad_buffer-clause-checks c = refused-by BadBuffer 1 0 refl ∙ sym (check-program-one _ _ (sym c.bad_buffer.ensures ∙ c.if-bad_buffer.true))

pub check_record-requires : goal.check_record-requires
check_record-requires c = sym c.bad_buffer.ensures ∙ c.if-bad_buffer.false
