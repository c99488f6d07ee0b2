-- Between two steps a configuration stands, and what is left to run from it comes to the whole run.
use mathlib.Core.Path.{◌≡◌}
use lib.ListN.{length}
use Rattle.rules.specs.Rules.{at}
use Rattle.rules.specs.Syntax.{Block}
use Rattle.stepping.specs.State.{Stands}
use Rattle.stepper.proofs.RunningLaws.{Between}
use Rattle.record.specs.declared.Header.{Header}
use Rattle.record.specs.Header.{contents_at, largest_of}
use Rattle.stepper.proofs.run_accepted.Given as goal

abbrev pub invariant-loop-plan : goal.invariant-loop-plan
invariant-loop-plan l =
    ((hd : Header) → l.contents ≡ contents_at hd → l.largest ≡ largest_of hd → (P : Block) → Stands hd (at P l.initial.store) l.initial.buf l.used → Between hd (at P l.initial.store) l.room l.budget l.tally l.buf l.size l.store)
    × ((length l.buf ≡ l.room) × (length l.store ≡ length l.initial.store))

abbrev pub decreases-loop-plan : goal.decreases-loop-plan
decreases-loop-plan l = l.tally.left
