use Rattle.record.specs.Holding.{TermIn}
use Rattle.rules.specs.FreeVariables.{all_vars}
use Rattle.rules.specs.Syntax.{Term}
use Rattle.recognition.proofs.RecognitionLaws.{ToRecognise}
use Rattle.recognition.proofs.TermsLaws.{Over}
use Rattle.recognition.proofs.is_translation.Given as goal

abbrev pub invariant-loop-at : goal.invariant-loop-at
invariant-loop-at l = record {
  next : (goal.iterator-loop-at).can_next l.at-iterator;
  finite : (goal.iterator-loop-at).is_finite l.at-iterator;
  over : Over l.src l.h.k l.used l.at-iterator;
  left : (t : Term) → TermIn all_vars l.h t l.src l.used → ToRecognise l.src l.h.k l.used l.first l.at-iterator.at t;
}
