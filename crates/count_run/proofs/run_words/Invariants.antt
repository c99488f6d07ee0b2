use mathlib.Core.Path.{◌≡◌}
use lib.ListN.{length}
use Rattle.rules.specs.Syntax.{Block}
use Rattle.counting.specs.Counting.{State}
use Rattle.count_step.specs.Inner.{Holds}
use Rattle.count_run.proofs.RunningLaws.{Between}
use Rattle.count_run.proofs.run_words.Given as goal

abbrev pub invariant-loop-way : goal.invariant-loop-way
invariant-loop-way l =
    (length l.store ≡ length l.initial.store)
    × ((P : Block) (s : State) → Holds l.program.start l.program.used l.n P s l.program.bytes.now l.initial.words (length l.initial.store) → Between l.program.start l.program.used l.many P l.program.largest (record { state = s; store = l.initial.store }) l.budget l.tally l.program.bytes.now l.words l.store)

abbrev pub decreases-loop-way : goal.decreases-loop-way
decreases-loop-way l = l.tally.left
