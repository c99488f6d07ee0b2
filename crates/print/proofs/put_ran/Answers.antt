-- Five neighbouring stores, the end of line last.
use native.Mathlib.Omega.{arith}
use mathlib.Core.Path.{◌∙◌}
use lib.ListN.{length-set}
use Rattle.print.proofs.PrintLaws.{ran-put}
use Rattle.run.specs.Represents.{as_run_answer}
use Rattle.print.proofs.put_ran.Goals as goal

pub put_run-second-requires : goal.put_run-second-requires
put_run-second-requires c =
    simp length-set (omega (arith, c.put_run-first.auto.out, c.put_run-first.ensures.2))

pub put_values-end-requires : goal.put_values-end-requires
put_values-end-requires c =
    let k = length-set c.put_run-first.new.out c.put_run-first.result 32 in
    omega (arith, c.put_run-first.auto.out, c.put_run-second.auto.out, c.put_run-first.ensures.2, c.put_run-second.ensures.2)

pub bounds-out-end : goal.bounds-out-end
bounds-out-end c =
    let k = length-set c.put_run-first.new.out c.put_run-first.result 32 in
    omega (arith, c.put_run-first.auto.out, c.put_run-second.auto.out, c.put_values-end.auto.out, c.put_run-first.ensures.2, c.put_run-second.ensures.2, c.put_values-end.ensures.2)

pub shape_of-out : goal.shape_of-out
shape_of-out c =
    length-set c.put_values-end.new.out c.put_values-end.result 10 ∙ c.put_values-end.auto.out ∙ c.put_run-second.auto.out ∙ length-set c.put_run-first.new.out c.put_run-first.result 32 ∙ c.put_run-first.auto.out

pub returns : goal.returns
returns c =
    (ran-put c.args.out.now c.put_run-first.new.out c.put_run-second.new.out c.put_values-end.new.out (as_run_answer c.args.stepper) (as_run_answer c.args.reducer) c.args.store.now c.put_run-first.result c.put_run-second.result c.put_values-end.result c.put_run-first.ensures.0 c.put_run-first.ensures.1 c.put_run-second.ensures.0 c.put_run-second.ensures.1 c.put_values-end.ensures.0 c.put_values-end.ensures.1 (omega (arith, c.put_run-first.ensures.2, c.put_run-second.ensures.2, c.put_values-end.ensures.2)), omega (arith, c.put_run-first.ensures.2, c.put_run-second.ensures.2, c.put_values-end.ensures.2))
