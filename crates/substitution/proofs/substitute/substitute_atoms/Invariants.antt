-- Invariant: what is left to do of the row, done to the present bytes, gives what was to be done at first, and so with the count of what is
-- replaced.
use Rattle.std.proofs.Common.{◌*◌, ◌+◌, ◌-◌, List, map}
use Rattle.buffer.specs.Slice.{put}
use Rattle.record.specs.Term.{encode_atoms}
use Rattle.rules.specs.Replaced.{replaced_atoms}
use Rattle.rules.specs.Substitution.{substitute_atom}
use Rattle.rules.specs.Syntax.{Atom}
use Rattle.substitution.specs.Ranged.{RangedAtoms}
use Rattle.substitution.specs.declared.path.Path.TheVariants.{Row}
use Rattle.numerals.specs.Values.{substitution_of}
use Rattle.substitution.proofs.SubstituteAtLaws.{Todo}
use Rattle.substitution.proofs.substitute.substitute_atoms.Given as goal

abbrev pub invariant-loop-i : goal.invariant-loop-i
invariant-loop-i l =
    (ys : List Atom) → RangedAtoms l.initial.buf l.at l.count ys → Todo l.values l.buf (Row (l.at + 8 * l.i) (l.count - l.i)) 0 (put l.initial.buf l.at (encode_atoms (map (substitute_atom (substitution_of l.values)) ys))) l.replaced (replaced_atoms (substitution_of l.values) ys) l.values
