-- Between two reductions a closed term stands, and what is left to run from it comes to the whole run.
use mathlib.Core.Path.{◌≡◌}
use lib.ListN.{length}
use Rattle.rules.specs.Syntax.{Term}
use Rattle.record.specs.declared.Header.{Header}
use Rattle.record.specs.Header.{contents_at, largest_of}
use Rattle.reducing.specs.State.{Stands}
use Rattle.reducer.proofs.RunningLaws.{Between}
use Rattle.reducer.proofs.run_accepted.Given as goal

abbrev pub invariant-loop-plan : goal.invariant-loop-plan
invariant-loop-plan l =
    ((hd : Header) (t : Term) → hd.k ≡ l.k → contents_at hd ≡ l.contents → l.largest ≡ largest_of hd → Stands hd t l.initial.buf l.used → Between hd t l.room l.budget l.tally l.replaced l.buf l.size) × (length l.buf ≡ l.room)

abbrev pub decreases-loop-plan : goal.decreases-loop-plan
decreases-loop-plan l = l.tally.left
