-- Outcome and count in front, and the values behind them.
use mathlib.Core.Path.{refl}
use native.Mathlib.Omega.{arith}
use Rattle.batch.specs.Represents.{as_reducer_call}
use Rattle.batch.proofs.JobLaws.{answer-put}
use Rattle.batch.proofs.job.put_answer.Goals as goal

pub returns : goal.returns
returns c =
    let a = c.args in
    answer-put a.h.k (as_reducer_call a.reduced a.work.now) a.answer.now _ _ (omega arith) c.outcome_number.ensures refl c.put_values.new.values c.put_values.ensures
