-- One law for each way out.
use mathlib.Core.Path.{◌∙◌, sym}
use native.Mathlib.Omega.{arith}
use Rattle.record.proofs.HeldLaws.{long-is}
use Rattle.batch.proofs.RunBatchLaws.{check-batch, check-program-buffer, check-record, check-term-buffer, check-work-buffer}
use Rattle.checker.proofs.AnswerLaws.{checked-is}
use Rattle.batch.proofs.check.Goals as goal

pub returns-then-bad_buffer-clause-rows : goal.returns-then-bad_buffer-clause-rows
returns-then-bad_buffer-clause-rows c =
    check-program-buffer c.args.program.now c.args.used c.args.term.now c.args.work.now c.args.budgets.now (sym c.bad_buffer.ensures ∙ c.if-bad_buffer.true)

pub returns-then-too_long-clause-rows : goal.returns-then-too_long-clause-rows
returns-then-too_long-clause-rows c =
    check-term-buffer c.args.program.now c.args.used c.args.term.now c.args.work.now c.args.budgets.now (sym (long-is c.args.term.now) ∙ sym c.too_long.ensures ∙ c.if-too_long.true)

pub returns-then-too_long-2-clause-rows : goal.returns-then-too_long-2-clause-rows
returns-then-too_long-2-clause-rows c =
    check-work-buffer c.args.program.now c.args.used c.args.term.now c.args.work.now c.args.budgets.now (sym (long-is c.args.work.now) ∙ sym c.too_long-2.ensures ∙ c.if-too_long-2.true)

pub check_record-requires : goal.check_record-requires
check_record-requires c =
    sym c.bad_buffer.ensures ∙ c.if-bad_buffer.false

pub returns-in-1-to-64-clause-rows : goal.returns-in-1-to-64-clause-rows
returns-in-1-to-64-clause-rows c =
    check-record c.args.program.now c.args.used c.args.term.now c.args.work.now c.args.budgets.now (sym c.bad_buffer.ensures ∙ c.if-bad_buffer.false) (sym (long-is c.args.term.now) ∙ sym c.too_long.ensures ∙ c.if-too_long.false) (sym (long-is c.args.work.now) ∙ sym c.too_long-2.ensures ∙ c.if-too_long-2.false) (omega arith, omega arith) _ _ (checked-is c.check_record.result c.check_record.ensures.checks)

pub returns-in_default-clause-rows : goal.returns-in_default-clause-rows
returns-in_default-clause-rows c =
    check-batch c.args.program.now c.args.used c.args.term.now c.args.work.now c.args.budgets.now (sym c.bad_buffer.ensures ∙ c.if-bad_buffer.false) (sym (long-is c.args.term.now) ∙ sym c.too_long.ensures ∙ c.if-too_long.false) (sym (long-is c.args.work.now) ∙ sym c.too_long-2.ensures ∙ c.if-too_long-2.false) (λ w. omega (arith, w.0, w.1))

pub returns-in_default-2-clause-rows : goal.returns-in_default-2-clause-rows
returns-in_default-2-clause-rows c =
    check-batch c.args.program.now c.args.used c.args.term.now c.args.work.now c.args.budgets.now (sym c.bad_buffer.ensures ∙ c.if-bad_buffer.false) (sym (long-is c.args.term.now) ∙ sym c.too_long.ensures ∙ c.if-too_long.false) (sym (long-is c.args.work.now) ∙ sym c.too_long-2.ensures ∙ c.if-too_long-2.false) (λ w. omega (arith, w.0, w.1))
