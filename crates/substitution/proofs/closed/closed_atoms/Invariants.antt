-- Invariant: the test of what is left of the row comes to what the test of the whole does.
use Rattle.std.proofs.Common.{◌*◌, ◌+◌, ◌-◌, List}
use Rattle.rules.specs.FreeVariables.{closed_atoms}
use Rattle.rules.specs.Syntax.{Atom}
use Rattle.substitution.specs.Marks.{marked}
use Rattle.substitution.specs.Ranged.{RangedAtoms}
use Rattle.substitution.specs.declared.path.Path.TheVariants.{Row}
use Rattle.substitution.proofs.ClosedLaws.{ClosedTodo}
use Rattle.substitution.proofs.closed.closed_atoms.Given as goal

abbrev pub invariant-loop-i : goal.invariant-loop-i
invariant-loop-i l =
    (ys : List Atom) → RangedAtoms l.buf l.at l.count ys → ClosedTodo l.bound l.buf (closed_atoms (marked l.bound) ys) (Row (l.at + 8 * l.i) (l.count - l.i)) 0
