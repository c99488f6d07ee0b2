use mathlib.Core.Path.{refl, sym, ◌∙◌}
use native.Mathlib.Omega.{arith}
use Rattle.buffer.proofs.LittleEndianLaws.{bytes_of}
use Rattle.record.proofs.HeldLaws.{long-is, short-buffer}
use Rattle.counter.proofs.ExpandLaws.{gives-number, gives_one}
use Rattle.counter.proofs.RunLaws.{accepts}
use Rattle.checker.proofs.AnswerLaws.{raised, refusal-some}
use Rattle.counter.proofs.expand.expand.Goals as goal

pub returns-then-too_long : goal.returns-then-too_long
returns-then-too_long c =
    gives_one c.args.program.now c.args.used c.args.state.now c.args.store.now c.args.out.now (sym (long-is _) ∙ sym c.too_long.ensures ∙ c.if-too_long.true)

pub returns-in_err-h : goal.returns-in_err-h
returns-in_err-h c =
    rw (raised c.from_residual.ensures) (gives-number c.args.program.now c.args.used c.args.state.now c.args.store.now c.args.out.now (sym (long-is _) ∙ sym c.too_long.ensures ∙ c.if-too_long.false) _ c.in_err-h.ensures.rows (refusal-some c.in_err-h.field-0.0))

pub expand_accepted-requires : goal.expand_accepted-requires
expand_accepted-requires c =
    let h = c.in_ok-h in
    let a = accepts c.args.program.now c.args.used c.args.state.now c.args.store.now _ h.ensures.rows refl (bytes_of c.args.program.now (λ i _. omega (arith, c.shared_slice_known-1.given i))) h.h h.ensures.header in
    ((c.args.store.now, a.0, a.1, a.2), short-buffer c.args.out.now (sym (long-is _) ∙ sym c.too_long.ensures ∙ c.if-too_long.false))

pub returns : goal.returns
returns c =
    let h = c.in_ok-h in
    let a = accepts c.args.program.now c.args.used c.args.state.now c.args.store.now _ h.ensures.rows refl (bytes_of c.args.program.now (λ i _. omega (arith, c.shared_slice_known-1.given i))) h.h h.ensures.header in
    c.expand_accepted.ensures c.args.store.now a.0 a.1 a.2
