-- The numerals of a finished term, or zeros.
use mathlib.Core.Path.{◌∙◌, ap, sym}
use lib.ListN.{replicate}
use Prim.Native.Nat.{ℕ}
use Rattle.run.specs.Represents.{as_outcome}
use Rattle.batch.specs.Represents.{as_reducer_call}
use Rattle.batch.proofs.JobLaws.{values-finished, values-zeros}
use Rattle.batch.proofs.job.put_values.Goals as goal

pub returns-in-Finished : goal.returns-in-Finished
returns-in-Finished c =
    let a = c.args in
    values-finished a.h (as_reducer_call a.reduced a.work.now) c.requires.1 (ap as_outcome c.in-Finished.is) c.requires.0 c.copy_numerals.new.store c.copy_numerals.ensures

pub returns-in_default : goal.returns-in_default
returns-in_default c =
    let a = c.args in
    c.fill.ensures.after (λ y e. e) ∙ ap (λ (n : ℕ). replicate n 0) c.requires.2
    ∙ sym (values-zeros a.h.k (as_reducer_call a.reduced a.work.now) a.reduced.end.outcome c.in_default.not-Finished)
