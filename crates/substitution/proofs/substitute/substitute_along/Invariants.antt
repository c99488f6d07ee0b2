-- Invariant: what is left to do, done to the present bytes, gives what was to be done at first, and so with the count of what is
-- replaced and with the array.
use Rattle.std.proofs.Common.{◌≡◌, ◌-◌, length}
use Rattle.buffer.specs.Slice.{put}
use Rattle.record.specs.Term.{encode_term_record}
use Rattle.rules.specs.Replaced.{replaced as replaced_of}
use Rattle.rules.specs.Substitution.{substitute}
use Rattle.rules.specs.Syntax.{Term}
use Rattle.substitution.specs.Path.{place_of}
use Rattle.substitution.specs.Ranged.{RangedTerm}
use Rattle.substitution.specs.ValuesLeft.{values_left}
use Rattle.numerals.specs.Values.{substitution_of}
use Rattle.substitution.proofs.SubstituteAtLaws.{Todo}
use Rattle.substitution.proofs.substitute.substitute_along.Given as goal

abbrev pub invariant-loop-row : goal.invariant-loop-row
invariant-loop-row l = record {
  long : length l.values ≡ 17;
  todo :
      (t : Term) → RangedTerm l.initial.buf l.at l.k t → Todo l.values l.buf l.path l.k (put l.initial.buf l.at (encode_term_record (substitute (substitution_of l.initial.values) t))) l.replaced (replaced_of (substitution_of l.initial.values) t) (values_left l.initial.values t);
}

abbrev pub decreases-loop-row : goal.decreases-loop-row
decreases-loop-row l = length l.buf - place_of l.path
