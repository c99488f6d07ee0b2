use mathlib.Core.Path.{refl, sym}
use native.Mathlib.Omega.{arith}
use Rattle.buffer.proofs.LittleEndianLaws.{bytes_of}
use Rattle.checker.proofs.AnswerLaws.{raised, refusal-some}
use Rattle.forecaster.proofs.CallLaws.{lent, refuses-record, refuses-store, refuses-values}
use Rattle.forecaster.proofs.forecast_run.Goals as goal

pub returns-in_err-h : goal.returns-in_err-h
returns-in_err-h c =
    rw (raised c.from_residual.ensures) (refuses-record c.args.buf.now c.args.used c.args.store.now _ _ (sym c.in_err-h.ensures.checks) (refusal-some c.in_err-h.field-0.0))

pub returns-then-store-h : goal.returns-then-store-h
returns-then-store-h c =
    refuses-store c.args.buf.now c.args.used c.args.store.now _ _ (sym c.in_ok-h.ensures.checks) refl
    (bytes_of c.args.buf.now (λ i _. omega (arith, c.shared_slice_known-1.given i))) c.if-store-h.true

pub returns-then-some_above : goal.returns-then-some_above
returns-then-some_above c =
    let h = c.in_ok-h in
    refuses-values c.args.buf.now c.args.used c.args.store.now _ _ (sym h.ensures.checks) refl
    (bytes_of c.args.buf.now (λ i _. omega (arith, c.shared_slice_known-1.given i))) c.if-store-h.false h.h h.ensures.header c.largest.result c.largest.ensures c.some_above.result c.some_above.ensures c.if-some_above.true

pub forecast_lent-requires : goal.forecast_lent-requires
forecast_lent-requires c =
    let h = c.in_ok-h in
    lent c.args.buf.now c.args.used c.args.store.now _ _ (sym h.ensures.checks) refl
    (bytes_of c.args.buf.now (λ i _. omega (arith, c.shared_slice_known-1.given i))) c.if-store-h.false h.h h.ensures.header c.largest.result c.largest.ensures c.some_above.result c.some_above.ensures c.if-some_above.false
