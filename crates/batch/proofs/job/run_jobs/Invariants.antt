-- After i jobs their answers stand in front; with those of the other jobs behind them they are all the answers.
use Prim.Native.Nat.{◌*◌, ◌+◌}
use lib.ListN.{length, take}
use Rattle.batch.proofs.AnswersLaws.{Done}
use Rattle.batch.proofs.job.run_jobs.Given as goal

abbrev pub invariant-loop-i : goal.invariant-loop-i
invariant-loop-i l = Done l.h.k (take l.used l.term) (length l.initial.work) l.budgets l.values l.i (take (l.i * (l.h.k + 2)) l.answers)
