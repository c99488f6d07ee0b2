use Rattle.std.proofs.Common.{◌≡◌, List, length}
use Rattle.place.specs.TermView.{AtomsAt}
use Rattle.rules.specs.Syntax.{Atom}
use Rattle.recognition.proofs.AllLaws.{AtomsLeft}
use Rattle.recognition.proofs.is_all.Given as goal

abbrev pub invariant-loop-x : goal.invariant-loop-x
invariant-loop-x l = (ys : List Atom) → AtomsAt l.src l.at ys → length ys ≡ l.k → AtomsLeft l.src l.k l.x l.p ys
