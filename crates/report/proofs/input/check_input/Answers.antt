-- One law for each way out.
use native.Mathlib.Omega.{arith}
use mathlib.Core.Path.{◌∙◌, refl, sym}
use lib.Seq.{length-take-le}
use Rattle.report.proofs.InputRowsLaws.{check-refuses, input-accepted, record-read, rest-refuses, said-long, said_more, said_read, under-two, whole-read, checked-k}
use Rattle.report.specs.Line.{program_buffer}
use Rattle.buffer.proofs.LittleEndianLaws.{bytes_of}
use Rattle.checker.proofs.AnswerLaws.{raised, refusal-some}
use Rattle.report.proofs.input.check_input.Goals as goal

pub returns-then-total-lt2-clause-checks : goal.returns-then-total-lt2-clause-checks
returns-then-total-lt2-clause-checks c = λ input h. under-two input c.args.a.now c.args.total h _ refl c.if-total-lt2.true

pub get_u16-said-requires : goal.get_u16-said-requires
unfolding program_buffer
get_u16-said-requires c = omega (arith, c.requires)

pub returns-then-said-gt-BUFFER-clause-checks : goal.returns-then-said-gt-BUFFER-clause-checks
returns-then-said-gt-BUFFER-clause-checks c =
    λ input h. said-long input c.args.a.now c.args.total h _ c.get_u16-said.result refl c.if-total-lt2.false c.get_u16-said.ensures.0 c.if-said-gt-BUFFER.true

pub returns-then-total-said-clause-checks : goal.returns-then-total-said-clause-checks
returns-then-total-said-clause-checks c =
    λ input h. said_more input c.args.a.now c.args.total h _ c.get_u16-said.result refl c.if-total-lt2.false c.get_u16-said.ensures.0 c.if-said-gt-BUFFER.false c.if-total-said.true

pub slice_bounds-check_program-end : goal.slice_bounds-check_program-end
unfolding program_buffer
slice_bounds-check_program-end c =
    sym (length-take-le c.get_u16-said.result c.args.a.now (omega (arith, c.requires)))

pub returns-in_err-h-clause-checks : goal.returns-in_err-h-clause-checks
returns-in_err-h-clause-checks c =
    rw (raised c.from_residual.ensures) (λ input h.
    let a = c.args.a.now in
    let s = c.get_u16-said.result in
    let r = record-read input a c.args.total h s c.if-total-lt2.false c.get_u16-said.ensures.0 c.if-said-gt-BUFFER.false c.if-total-said.false in
    let w = whole-read input a c.args.total h s c.if-total-lt2.false c.get_u16-said.ensures.0 c.if-said-gt-BUFFER.false c.if-total-said.false in
    check-refuses input a c.args.total h w _ (c.in_err-h.ensures.checks ∙ r) (refusal-some c.in_err-h.field-0.0))

pub returns-then-total-said-2-clause-checks : goal.returns-then-total-said-2-clause-checks
returns-then-total-said-2-clause-checks c =
    λ input h.
    let a = c.args.a.now in
    let s = c.get_u16-said.result in
    let r = record-read input a c.args.total h s c.if-total-lt2.false c.get_u16-said.ensures.0 c.if-said-gt-BUFFER.false c.if-total-said.false in
    let w = whole-read input a c.args.total h s c.if-total-lt2.false c.get_u16-said.ensures.0 c.if-said-gt-BUFFER.false c.if-total-said.false in
    rest-refuses input a c.args.total h w _ (c.in_ok-h.ensures.checks ∙ r) refl _ s refl (said_read input a c.args.total h s c.if-total-lt2.false c.get_u16-said.ensures.0) c.if-total-said-2.true

pub returns-clause-checks : goal.returns-clause-checks
returns-clause-checks c =
    λ input h.
    let a = c.args.a.now in
    let s = c.get_u16-said.result in
    let r = record-read input a c.args.total h s c.if-total-lt2.false c.get_u16-said.ensures.0 c.if-said-gt-BUFFER.false c.if-total-said.false in
    let w = whole-read input a c.args.total h s c.if-total-lt2.false c.get_u16-said.ensures.0 c.if-said-gt-BUFFER.false c.if-total-said.false in
    input-accepted input a c.args.total h w _ (c.in_ok-h.ensures.checks ∙ r) refl s (said_read input a c.args.total h s c.if-total-lt2.false c.get_u16-said.ensures.0) c.if-total-said-2.false

pub returns-clause-fits : goal.returns-clause-fits
returns-clause-fits c =
    (omega (arith, c.get_u16-said.ensures.0, c.if-said-gt-BUFFER.false), checked-k c.args.a.now c.get_u16-said.result (bytes_of c.args.a.now (λ i _. omega (arith, c.shared_slice_known-1.given i))) _ c.in_ok-h.ensures.checks refl)
