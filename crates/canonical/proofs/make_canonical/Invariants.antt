use Rattle.counting.specs.Held.{canonical}
use Rattle.counting.specs.StateWords.{packed, unpacked}
use Rattle.canonical.proofs.RowsLaws.{Passed}
use Rattle.canonical.proofs.make_canonical.Given as goal

abbrev pub invariant-loop-j : goal.invariant-loop-j
invariant-loop-j l = Passed (packed (canonical (unpacked l.fn.words))) l.n l.j l.words
