-- One law for each way out. That the buffers take what is accepted needs no input, only the check's answer.
use native.Mathlib.Omega.{arith}
use mathlib.Core.Path.{ap, refl, ◌∙◌, sym}
use Rattle.std.proofs.Common.{Ok, Err}
use Rattle.print.specs.Words.{refused_line}
use Rattle.checker.proofs.AnswerLaws.{refusal-some}
use lib.Seq.{length-take-le}
use Rattle.checker.specs.Answer.{checked_of}
use Rattle.record.specs.Header.{header_in}
use Rattle.record.proofs.HeaderLaws.{contents_at-high}
use Rattle.report.proofs.LineLaws.{input-passes, input-refused, runs-line, said-is, translate-refuses, values-fit, store-read, values-made, values-refused, values-there}
use Rattle.report.specs.Line.{program_buffer}
use Rattle.term.specs.Answer.{wrote_of}
use Rattle.report.proofs.line.line.Goals as goal

pub check_input-requires : goal.check_input-requires
check_input-requires c = c.requires.0

pub put_refused-requires : goal.put_refused-requires
unfolding program_buffer
put_refused-requires c = omega (arith, c.requires.1)

pub returns-in-Err : goal.returns-in-Err
returns-in-Err c =
    let r = c.in-Err.refusal in
    ((λ input h. c.put_refused.ensures.0 ∙ ap refused_line c.number.ensures ∙ sym (input-refused input (checked_of (Err r)) (c.in-Err.ensures.checks input h.lead) (refusal-some r))), omega (arith, c.put_refused.ensures.1))

pub put_refused-requires-then-behind-h : goal.put_refused-requires-then-behind-h
unfolding program_buffer
put_refused-requires-then-behind-h c =
    omega (arith, c.requires.1)

pub returns-then-behind-h : goal.returns-then-behind-h
returns-then-behind-h c = (
  (λ input h.
      let p = input-passes input (checked_of (Ok c.in-Ok.h)) (c.in-Ok.ensures.checks input h.lead) refl in
      absurd (omega (arith, values-there h p, c.if-behind-h.true))),
  omega (arith, c.put_refused-then-behind-h.ensures.1),
)

pub slice_bounds-values-end : goal.slice_bounds-values-end
slice_bounds-values-end c = c.in-Ok.ensures.fits.1

pub slice_bounds-store-end : goal.slice_bounds-store-end
slice_bounds-store-end c = sym (values-made c.in-Ok.h.k c.in-Ok.ensures.fits.1)

pub read_values-requires : goal.read_values-requires
read_values-requires c = omega (arith, values-made c.in-Ok.h.k c.in-Ok.ensures.fits.1, c.if-behind-h.false)

pub read_header-requires : goal.read_header-requires
unfolding program_buffer
read_header-requires c =
    omega (arith, contents_at-high (header_in c.args.a.now), c.requires.0)

pub put_refused-requires-then-some_above : goal.put_refused-requires-then-some_above
unfolding program_buffer
put_refused-requires-then-some_above c =
    omega (arith, c.requires.1)

pub returns-then-some_above : goal.returns-then-some_above
returns-then-some_above c = (
  (λ input h.
      let p = input-passes input (checked_of (Ok c.in-Ok.h)) (c.in-Ok.ensures.checks input h.lead) refl in
      let r = store-read h p c.read_values.new.store c.read_values.ensures in
      c.put_refused-then-some_above.ensures.0 ∙ ap refused_line c.number-then-some_above.ensures ∙ sym (values-refused h p c.read_header.result c.read_header.ensures c.largest.result c.largest.ensures c.read_values.new.store r c.some_above.result c.some_above.ensures c.if-some_above.true)),
  omega (arith, c.put_refused-then-some_above.ensures.1),
)

pub get_u16-said-requires : goal.get_u16-said-requires
unfolding program_buffer
get_u16-said-requires c =
    omega (arith, c.requires.0)

pub slice_bounds-translate-end : goal.slice_bounds-translate-end
unfolding program_buffer
slice_bounds-translate-end c =
    omega (arith, c.requires.0, c.get_u16-said.ensures.0, c.in-Ok.ensures.fits.0)

pub slice_bounds-translate-end-2 : goal.slice_bounds-translate-end-2
unfolding program_buffer
slice_bounds-translate-end-2 c =
    sym (length-take-le c.get_u16-said.result c.args.a.now (omega (arith, c.requires.0, c.get_u16-said.ensures.0, c.in-Ok.ensures.fits.0)))

pub put_refused-requires-in-Err-translate : goal.put_refused-requires-in-Err-translate
unfolding program_buffer
put_refused-requires-in-Err-translate c =
    omega (arith, c.requires.1, c.translate.auto.out)

pub returns-in-Err-translate : goal.returns-in-Err-translate
returns-in-Err-translate c = (
  (λ input h.
      let p = input-passes input (checked_of (Ok c.in-Ok.h)) (c.in-Ok.ensures.checks input h.lead) refl in
      let r = store-read h p c.read_values.new.store c.read_values.ensures in
      let fits = values-fit h p c.read_header.result c.read_header.ensures c.largest.result c.largest.ensures c.read_values.new.store r c.some_above.result c.some_above.ensures c.if-some_above.false in
      let s = c.get_u16-said.result in
      c.put_refused-in-Err-translate.ensures.0 ∙ ap refused_line c.number-in-Err-translate.ensures ∙ sym (translate-refuses h p fits s (said-is h p s c.get_u16-said.ensures.0) (wrote_of (Err c.in-Err-translate.refusal) c.translate.new.out) c.in-Err-translate.ensures (refusal-some c.in-Err-translate.refusal))),
  omega (arith, c.put_refused-in-Err-translate.ensures.1),
)

pub overflow_sub-a : goal.overflow_sub-a
unfolding program_buffer
overflow_sub-a c =
    omega (arith, c.requires.0, c.get_u16-said.ensures.0, c.in-Ok.ensures.fits.0)

pub zero-requires : goal.zero-requires
unfolding program_buffer
zero-requires c =
    omega (arith, c.requires.0, c.get_u16-said.ensures.0, c.in-Ok.ensures.fits.0)

pub run_both-requires : goal.run_both-requires
run_both-requires c =
    let l = c.in-Ok.ensures.fits.1 in
    (c.translate.auto.out ∙ c.requires.1, omega (arith, l, values-made c.in-Ok.h.k l, c.read_values.auto.store))

pub returns : goal.returns
returns c = (
  (λ input h.
      let p = input-passes input (checked_of (Ok c.in-Ok.h)) (c.in-Ok.ensures.checks input h.lead) refl in
      let r = store-read h p c.read_values.new.store c.read_values.ensures in
      let fits = values-fit h p c.read_header.result c.read_header.ensures c.largest.result c.largest.ensures c.read_values.new.store r c.some_above.result c.some_above.ensures c.if-some_above.false in
      let s = c.get_u16-said.result in
      let t = wrote_of (Ok c.in-Ok-translate.used) c.translate.new.out in
      c.run_both.ensures.0
      ∙ runs-line h p fits s (said-is h p s c.get_u16-said.ensures.0) t c.in-Ok-translate.ensures refl c.zero.new.buf c.zero.ensures c.read_values.new.store r),
  c.run_both.ensures.1,
)
