-- The one store into an array in which every variable stays.
use Rattle.numerals.proofs.ValuesLaws.{blank, values-only}
use Rattle.numerals.proofs.values.only.Goals as goal

pub returns : goal.returns
unfolding blank
returns c = rw c.set.ensures (values-only _ _ c.requires)
