-- Row 1 by the output, the checker's refusal, or the work on what it accepted.
use mathlib.Core.Path.{refl, sym, ◌∙◌}
use Rattle.buffer.proofs.LittleEndianLaws.{bytes_of}
use Rattle.record.proofs.CheckedRowLaws.{program-accepted}
use Rattle.term.proofs.AnsweredLaws.{translate-checked, translate-one}
use native.Mathlib.Omega.{arith}
use Rattle.record.proofs.HeldLaws.{long-is, short-buffer}
use Rattle.record.proofs.HoldingLaws.{program-as-read, program-whole}
use Rattle.checker.proofs.AnswerLaws.{raised, refusal-some}
use Rattle.term.proofs.translate.translate.Goals as goal

pub returns-then-too_long : goal.returns-then-too_long
returns-then-too_long c =
    translate-one c.args.src.now c.args.used c.args.out.now (sym (long-is _) ∙ sym c.too_long.ensures ∙ c.if-too_long.true)

pub returns-in_err-h : goal.returns-in_err-h
returns-in_err-h c =
    let r = c.in_err-h.field-0.0 in
    rw (raised c.from_residual.ensures) (translate-checked c.args.src.now c.args.used _ _ c.args.out.now (sym c.in_err-h.ensures.checks) (refusal-some r) (sym (long-is _) ∙ sym c.too_long.ensures ∙ c.if-too_long.false))

pub translate_checked-requires : goal.translate_checked-requires
translate_checked-requires c =
    let h = c.in_ok-h in
    let a = program-accepted c.args.src.now c.args.used _ _ (sym h.ensures.checks) refl (bytes_of c.args.src.now (λ i _. omega (arith, c.shared_slice_known-1.given i))) in
    ((a.1.1, program-as-read a.1.3 h.h h.ensures.header), a.0, short-buffer c.args.out.now (sym (long-is _) ∙ sym c.too_long.ensures ∙ c.if-too_long.false))
