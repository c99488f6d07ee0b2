use mathlib.Core.Path.{refl, sym, ◌∙◌}
use Rattle.record.specs.declared.refusal.Refusal.TheVariants.{BadBuffer}
use Rattle.record.proofs.HeaderReadLaws.{check-term-one}
use Rattle.checker.proofs.AnswerLaws.{refused-by}
use Rattle.term_checker.proofs.check_term.Goals as goal

pub returns-then-bad_buffer-clause-checks : goal.returns-then-bad_buffer-clause-checks
returns-then-bad_buffer-clause-checks c = refused-by BadBuffer 1 0 refl ∙ sym (check-term-one _ _ (sym c.bad_buffer.ensures ∙ c.if-bad_buffer.true))
