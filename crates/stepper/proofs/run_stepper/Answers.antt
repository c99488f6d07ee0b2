-- One law for each way out: rows 1 to 5 and 15 by the checker, rows 6 and 16, and the run.
use mathlib.Core.Path.{refl, sym}
use native.Mathlib.Omega.{arith}
use Rattle.buffer.proofs.LittleEndianLaws.{bytes_of}
use Rattle.checker.proofs.AnswerLaws.{raised, refusal-some}
use Rattle.stepper.proofs.CallLaws.{accepted-gives, accepts, refuses-record, refuses-store, refuses-values}
use Rattle.stepper.proofs.run_stepper.Goals as goal

pub returns-in_err-h : goal.returns-in_err-h
returns-in_err-h c =
    rw (raised c.from_residual.ensures) (refuses-record c.args.buf.now c.args.used c.args.store.now c.args.budget _ _ (sym c.in_err-h.ensures.checks) (refusal-some c.in_err-h.field-0.0))

pub returns-then-store-h : goal.returns-then-store-h
returns-then-store-h c =
    refuses-store c.args.buf.now c.args.used c.args.store.now c.args.budget _ _ (sym c.in_ok-h.ensures.checks) refl
    (bytes_of c.args.buf.now (λ i _. omega (arith, c.slice_known-1.given i))) c.if-store-h.true

pub returns-then-some_above : goal.returns-then-some_above
returns-then-some_above c =
    let a = c.args in
    let header = c.in_ok-h in
    let bytes = bytes_of a.buf.now (λ i _. omega (arith, c.slice_known-1.given i)) in
    refuses-values a.buf.now a.used a.store.now a.budget _ _ (sym header.ensures.checks) refl bytes c.if-store-h.false header.h header.ensures.header c.largest.result c.largest.ensures c.some_above.result c.some_above.ensures c.if-some_above.true

pub run_accepted-requires : goal.run_accepted-requires
run_accepted-requires c =
    let a = c.args in
    let header = c.in_ok-h in
    let bytes = bytes_of a.buf.now (λ i _. omega (arith, c.slice_known-1.given i)) in
    accepts a.buf.now a.used a.store.now a.budget _ _ (sym header.ensures.checks) refl bytes c.if-store-h.false header.h header.ensures.header c.largest.result c.largest.ensures c.some_above.result c.some_above.ensures c.if-some_above.false

pub returns : goal.returns
returns c =
    let a = c.args in
    let header = c.in_ok-h in
    let bytes = bytes_of a.buf.now (λ i _. omega (arith, c.slice_known-1.given i)) in
    let is = accepts a.buf.now a.used a.store.now a.budget _ _ (sym header.ensures.checks) refl bytes c.if-store-h.false header.h header.ensures.header c.largest.result c.largest.ensures c.some_above.result c.some_above.ensures c.if-some_above.false in
    accepted-gives header.h is.0 a.buf.now a.used a.store.now a.budget is.1 c.run_accepted.result _ _
    (c.run_accepted.ensures is.0 is.1)
