use Rattle.std.proofs.Common.{◌+◌, ◌≤◌, List}
use Rattle.rules.specs.Syntax.{Term}
use Rattle.recognition.specs.Scan.{TermsUpTo}
use Rattle.recognition.proofs.TermsLaws.{Over}
use Rattle.readback.proofs.CommandLaws.{ToCount}
use Rattle.readback.proofs.commands_size.Given as goal

abbrev pub invariant-loop-at : goal.invariant-loop-at
invariant-loop-at l = record {
  next : (goal.iterator-loop-at).can_next l.at-iterator;
  finite : (goal.iterator-loop-at).is_finite l.at-iterator;
  over : Over l.src l.k l.to l.at-iterator;
  left : (ts : List Term) → TermsUpTo l.src l.k l.to l.from ts → ToCount l.src l.k l.to l.n l.at-iterator.at ts;
  low : l.from + l.n ≤ l.at-iterator.at;
}
