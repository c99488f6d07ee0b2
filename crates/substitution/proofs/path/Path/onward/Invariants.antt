-- All that was left at first is left where the loop has come to.
use Rattle.rules.specs.Syntax.{Term}
use Rattle.substitution.specs.Path.{Left, Onward}
use Rattle.substitution.proofs.PathLaws.{rank}
use Rattle.substitution.proofs.path.Path.onward.Given as goal

abbrev pub invariant-loop-path : goal.invariant-loop-path
invariant-loop-path l = (t : Term) → Left l.buf l.fn.self l.k t → Onward l.buf l.fn.self l.path l.k t

abbrev pub decreases-loop-path : goal.decreases-loop-path
decreases-loop-path l = rank l.buf l.path
