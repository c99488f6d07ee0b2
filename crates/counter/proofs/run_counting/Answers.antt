use mathlib.Core.Path.{refl}
use native.Mathlib.Omega.{arith}
use Rattle.buffer.proofs.LittleEndianLaws.{bytes_of}
use Rattle.checker.proofs.AnswerLaws.{raised, refusal-some}
use Rattle.counter.proofs.RunLaws.{accepted-gives, accepts, refuses}
use Rattle.counter.proofs.run_counting.Goals as goal

pub returns-in_err-h : goal.returns-in_err-h
returns-in_err-h c =
    rw (raised c.from_residual.ensures) (refuses c.args.program.now c.args.used c.args.state.now c.args.store.now _ c.in_err-h.ensures.rows c.args.budget (refusal-some c.in_err-h.field-0.0))

pub run_accepted-requires : goal.run_accepted-requires
run_accepted-requires c =
    let h = c.in_ok-h in
    accepts c.args.program.now c.args.used c.args.state.now c.args.store.now _ h.ensures.rows refl (bytes_of c.args.program.now (λ i _. omega (arith, c.shared_slice_known-1.given i))) h.h h.ensures.header

pub returns : goal.returns
returns c =
    let h = c.in_ok-h in
    let a = accepts c.args.program.now c.args.used c.args.state.now c.args.store.now _ h.ensures.rows refl (bytes_of c.args.program.now (λ i _. omega (arith, c.shared_slice_known-1.given i))) h.h h.ensures.header in
    accepted-gives a.2 c.args.budget c.run_accepted.result _ _ (c.run_accepted.ensures a.0 a.1 a.2)
