-- The numerals stored into the last term, and the bytes before it taken out, are one edit.
use Rattle.numerals.proofs.ValuesLaws.{blank, values-blank}
use Rattle.reducing.proofs.EditedLaws.{filled_is}
use Rattle.reducing.proofs.let_all.Goals as goal

pub put_tuple-requires : goal.put_tuple-requires
unfolding blank
put_tuple-requires c = record { blank = values-blank; numerals = (c.requires.0.0, c.requires.0.2) }

pub returns : goal.returns
returns c =
    λ vs u s r. filled_is c.args.buf.now _ _ c.args.p.at c.args.p.down c.args.used _ _ _ u (c.put_tuple.ensures vs s) (c.substitute_along-replaced.ensures.substitutes u r) c.remove.ensures
