-- The value stored into the last term, and the bytes before it taken out, are one edit.
use Rattle.reducing.proofs.EditedLaws.{filled_is}
use Rattle.reducing.proofs.let_one.Goals as goal

pub returns : goal.returns
returns c =
    λ u r. filled_is c.args.buf.now _ _ c.args.p.at 16 c.args.used _ _ _ u c.only-values.ensures (c.substitute_along-replaced.ensures.substitutes u r) c.remove.ensures
