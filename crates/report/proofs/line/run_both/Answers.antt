-- Each call is given what the one before it left, and is shown by its outcome and its steps.
use native.Mathlib.Omega.{arith}
use mathlib.Core.Path.{ap, ap₂, ◌∙◌, sym}
use mathlib.Core.List.{List}
use Prim.Native.Nat.{ℕ}
use Rattle.report.proofs.LineLaws.{runs-answer, shown-alike, substituted-written}
use Rattle.report.specs.Line.{program_budget, program_buffer}
use Rattle.term.specs.Answer.{substituted_of}
use Rattle.reducer.specs.Represents.{answer_of}
use Rattle.reducer.specs.RunReducer.{run_reducer}
use Rattle.record.specs.Refusal.{refusal_number}
use Rattle.run.specs.Represents.{as_run_answer, run_answer_of}
use Rattle.run.specs.RunAnswer.{RunAnswer}
use Rattle.report.proofs.line.run_both.Goals as goal

pub put_ran-requires : goal.put_ran-requires
unfolding program_buffer
put_ran-requires c =
    omega (arith, c.requires.0, c.requires.1, c.substitute.auto.buf, c.run_stepper-stepper.auto.store, c.run_reducer-reducer.auto.buf)

pub returns : goal.returns
unfolding program_budget
returns c =
    let b = c.substitute.new.buf in
    let stepped = run_answer_of refusal_number c.run_stepper-stepper.result in
    let reduced = answer_of c.run_reducer-reducer.result in
    let lent = ap₂ (λ (w : List ℕ) (u : ℕ). (run_reducer w u program_budget).answer) (sym (substituted-written c.substitute.result b)) (c.used_of-filled.ensures b) in (
      c.put_ran.ensures.0
          ∙ shown-alike (as_run_answer c.shown.result) stepped (as_run_answer c.shown-2.result) reduced c.run_stepper-stepper.new.store c.shown.ensures.outcome c.shown.ensures.steps
          (c.shown-2.ensures.outcome ∙ ap (λ (a : RunAnswer). a.outcome) c.end_of.ensures) (c.shown-2.ensures.steps ∙ ap (λ (a : RunAnswer). a.steps) c.end_of.ensures)
          ∙ runs-answer c.args.a.now c.args.said c.args.b.now c.args.used c.args.store.now c.run_stepper-stepper.new.store
          (substituted_of c.substitute.result b) stepped reduced
          c.substitute.ensures c.run_stepper-stepper.ensures.0 c.run_stepper-stepper.ensures.2 (c.run_reducer-reducer.ensures.0 ∙ lent),
      omega (arith, c.requires.1, c.put_ran.ensures.1, c.run_stepper-stepper.auto.store),
    )
