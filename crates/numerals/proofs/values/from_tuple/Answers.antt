-- An array in which every variable stays is the substitution of no store.
use Rattle.numerals.proofs.ValuesLaws.{blank, values-blank}
use Rattle.numerals.proofs.values.from_tuple.Goals as goal

pub put_tuple-requires-clause-blank : goal.put_tuple-requires-clause-blank
unfolding blank
put_tuple-requires-clause-blank c = values-blank
