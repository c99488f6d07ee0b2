-- A row that the check gives, or the batch of what it lets through.
use native.Mathlib.Omega.{arith}
use Rattle.buffer.proofs.LittleEndianLaws.{bytes_of}
use Rattle.batch.proofs.RunBatchLaws.{batch-checked, passed}
use Rattle.checker.proofs.AnswerLaws.{raised, refusal-some}
use Rattle.batch.proofs.run_batch.Goals as goal

pub returns-in_err-h : goal.returns-in_err-h
returns-in_err-h c =
    rw (raised c.from_residual.ensures) (batch-checked c.args.program.now c.args.used c.args.term.now c.args.work.now c.args.budgets.now c.args.values.now c.args.answers.now _ c.in_err-h.ensures.rows (refusal-some c.in_err-h.field-0.0))

pub run_checked-requires : goal.run_checked-requires
run_checked-requires c =
    let h = c.in_ok-h in
    passed c.args.program.now c.args.used c.args.term.now c.args.work.now c.args.budgets.now h.ensures.rows (bytes_of c.args.program.now (λ i _. omega (arith, c.shared_slice_known-1.given i))) h.h h.ensures.header
