-- One law for each way out: rows 1 to 5 and 15 by the checker, row 7, and the run.
use mathlib.Core.Bool.{not}
use mathlib.Core.Path.{ap, refl, sym}
use native.Mathlib.Omega.{arith}
use Rattle.buffer.proofs.LittleEndianLaws.{bytes_of}
use Rattle.checker.proofs.AnswerLaws.{raised, refusal-some}
use Rattle.reducer.proofs.CallLaws.{accepted-gives, accepts, refuses-open, refuses-record, takes}
use Rattle.reducer.proofs.run_reducer.Goals as goal

pub returns-in_err-h : goal.returns-in_err-h
returns-in_err-h c =
    rw (raised c.from_residual.ensures) (refuses-record c.args.buf.now c.args.used c.args.budget _ _ (sym c.in_err-h.ensures.checks) (refusal-some c.in_err-h.field-0.0))

pub is_closed-requires : goal.is_closed-requires
is_closed-requires c =
    let h = c.in_ok-h in
    let a = takes c.args.buf.now c.args.used c.args.budget _ _ (sym h.ensures.checks) refl
    (bytes_of c.args.buf.now (λ i _. omega (arith, c.slice_known-1.given i))) h.h h.ensures.header in
    (a.1, a.0)

pub returns-then-not-is_closed : goal.returns-then-not-is_closed
returns-then-not-is_closed c =
    let h = c.in_ok-h in
    refuses-open c.args.buf.now c.args.used c.args.budget _ _ (sym h.ensures.checks) refl
    (bytes_of c.args.buf.now (λ i _. omega (arith, c.slice_known-1.given i))) h.h h.ensures.header c.is_closed.result c.is_closed.ensures (ap not c.if-not-is_closed.true)

pub run_accepted-requires : goal.run_accepted-requires
run_accepted-requires c =
    let h = c.in_ok-h in
    accepts c.args.buf.now c.args.used c.args.budget _ _ (sym h.ensures.checks) refl
    (bytes_of c.args.buf.now (λ i _. omega (arith, c.slice_known-1.given i))) h.h h.ensures.header c.is_closed.result c.is_closed.ensures (ap not c.if-not-is_closed.false)

pub returns : goal.returns
returns c =
    let h = c.in_ok-h in
    let a = accepts c.args.buf.now c.args.used c.args.budget _ _ (sym h.ensures.checks) refl
    (bytes_of c.args.buf.now (λ i _. omega (arith, c.slice_known-1.given i))) h.h h.ensures.header c.is_closed.result c.is_closed.ensures (ap not c.if-not-is_closed.false) in
    accepted-gives a.1 c.args.budget c.run_accepted.result _ (c.run_accepted.ensures a.0 a.1)
