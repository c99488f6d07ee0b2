-- The checker's refusal, or the work on what it accepted.
use mathlib.Core.Path.{refl, sym}
use native.Mathlib.Omega.{arith}
use Rattle.buffer.proofs.LittleEndianLaws.{bytes_of}
use Rattle.record.proofs.CheckedRowLaws.{term-accepted}
use Rattle.term.proofs.AnsweredLaws.{substitute-checked}
use Rattle.record.proofs.HoldingLaws.{term-as-read, term-whole}
use Rattle.checker.proofs.AnswerLaws.{raised, refusal-some}
use Rattle.term.proofs.substitute.substitute.Goals as goal

pub returns-in_err-h : goal.returns-in_err-h
returns-in_err-h c =
    let r = c.in_err-h.field-0.0 in
    rw (raised c.from_residual.ensures) (substitute-checked c.args.buf.now c.args.used _ _ c.args.store.now (sym c.in_err-h.ensures.checks) (refusal-some r))

pub substitute_checked-requires : goal.substitute_checked-requires
substitute_checked-requires c =
    let h = c.in_ok-h in
    let a = term-accepted c.args.buf.now c.args.used _ _ (sym h.ensures.checks) refl (bytes_of c.args.buf.now (λ i _. omega (arith, c.slice_known-1.given i))) in
    ((a.1.1, term-as-read a.1.3 h.h h.ensures.header), a.0)
