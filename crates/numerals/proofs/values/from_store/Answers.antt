-- An array in which every variable stays is the substitution of no store.
use Rattle.numerals.proofs.ValuesLaws.{blank, values-blank}
use Rattle.numerals.proofs.values.from_store.Goals as goal

pub put_store-requires-clause-blank : goal.put_store-requires-clause-blank
unfolding blank
put_store-requires-clause-blank c = values-blank
