-- The rows of the record, and then the others.
use mathlib.Core.Path.{refl}
use native.Mathlib.Omega.{arith}
use Rattle.buffer.proofs.LittleEndianLaws.{bytes_of}
use Rattle.checker.proofs.AnswerLaws.{raised, refusal-some}
use Rattle.counter.proofs.CheckLaws.{gives-lent, gives-record, lent-to}
use Rattle.counter.proofs.check.check.Goals as goal

pub returns-in_err-h-clause-rows : goal.returns-in_err-h-clause-rows
returns-in_err-h-clause-rows c =
    rw (raised c.from_residual.ensures) (gives-record c.args.program.now c.args.used c.args.state.now c.args.store.now _ c.in_err-h.ensures.rows (refusal-some c.in_err-h.field-0.0))

pub check_lent-requires : goal.check_lent-requires
check_lent-requires c =
    let h = c.in_ok-h in
    let bytes = bytes_of c.args.program.now (λ i _. omega (arith, c.shared_slice_known-1.given i)) in
    lent-to c.args.program.now c.args.used c.args.state.now c.args.store.now _ h.ensures.rows refl bytes h.h h.ensures.header

pub returns-in_err-check_lent-clause-rows : goal.returns-in_err-check_lent-clause-rows
returns-in_err-check_lent-clause-rows c =
    let h = c.in_ok-h in
    let bytes = bytes_of c.args.program.now (λ i _. omega (arith, c.shared_slice_known-1.given i)) in
    rw (raised c.from_residual-in_err-check_lent.ensures) (gives-lent c.args.program.now c.args.used c.args.state.now c.args.store.now _ h.ensures.rows refl bytes _ c.in_err-check_lent.ensures)

pub returns-clause-rows : goal.returns-clause-rows
returns-clause-rows c =
    let h = c.in_ok-h in
    let bytes = bytes_of c.args.program.now (λ i _. omega (arith, c.shared_slice_known-1.given i)) in
    gives-lent c.args.program.now c.args.used c.args.state.now c.args.store.now _ h.ensures.rows refl bytes _ c.in_ok-check_lent.ensures
