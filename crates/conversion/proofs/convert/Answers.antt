-- Row 1 by the output or the source, row 2 by the edition, the check's refusal, or the work on what it accepted.
use native.Mathlib.Omega.{arith}
use mathlib.Core.Path.{refl, sym, ◌∙◌}
use Rattle.buffer.proofs.LittleEndianLaws.{bytes_of}
use Rattle.record.proofs.HeldLaws.{good-buffer, long-is, short-buffer}
use Rattle.conversion.proofs.AnsweredLaws.{convert-already, convert-checked, convert-long, convert-one, convertible}
use Rattle.checker.proofs.AnswerLaws.{raised, refusal-some}
use Rattle.conversion.proofs.convert.Goals as goal

pub returns-then-too_long : goal.returns-then-too_long
returns-then-too_long c =
    let a = c.args in
    (convert-long a.sort a.to a.src.now a.used a.out.now (sym (long-is _) ∙ sym c.too_long.ensures ∙ c.if-too_long.true))

pub returns-then-bad_buffer : goal.returns-then-bad_buffer
returns-then-bad_buffer c =
    let a = c.args in
    (convert-one a.sort a.to a.src.now a.used a.out.now (sym (long-is _) ∙ sym c.too_long.ensures ∙ c.if-too_long.false) (sym c.bad_buffer.ensures ∙ c.if-bad_buffer.true))

pub is_already-requires : goal.is_already-requires
is_already-requires c =
    (good-buffer c.args.src.now c.args.used (sym c.bad_buffer.ensures ∙ c.if-bad_buffer.false)).within

pub returns-then-is_already : goal.returns-then-is_already
returns-then-is_already c =
    let a = c.args in
    (convert-already a.sort a.to a.src.now a.used a.out.now (sym (long-is _) ∙ sym c.too_long.ensures ∙ c.if-too_long.false) (sym c.bad_buffer.ensures ∙ c.if-bad_buffer.false) (sym c.is_already.ensures ∙ c.if-is_already.true))

pub returns-in_err-h : goal.returns-in_err-h
returns-in_err-h c =
    let a = c.args in
    rw (raised c.from_residual.ensures) (convert-checked a.sort a.to a.src.now a.used a.out.now (sym (long-is _) ∙ sym c.too_long.ensures ∙ c.if-too_long.false) (sym c.is_already.ensures ∙ c.if-is_already.false) _ _ (sym c.in_err-h.ensures.checks) (refusal-some c.in_err-h.field-0.0))

pub convert_checked-requires : goal.convert_checked-requires
convert_checked-requires c =
    let a = c.args in
    let h = c.in_ok-h in
    let low = (good-buffer a.src.now a.used (sym c.bad_buffer.ensures ∙ c.if-bad_buffer.false)).low in
    let bytes = bytes_of a.src.now (λ i _. omega (arith, c.shared_slice_known-1.given i)) in
    (convertible a.sort a.to a.src.now a.used _ _ low (sym c.is_already.ensures ∙ c.if-is_already.false) (sym h.ensures.checks) refl bytes h.h h.ensures.header, short-buffer a.out.now (sym (long-is _) ∙ sym c.too_long.ensures ∙ c.if-too_long.false))
