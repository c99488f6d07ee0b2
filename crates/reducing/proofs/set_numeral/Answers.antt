-- The removal and the two stores are one edit.
use mathlib.Core.Path.{refl}
use Rattle.reducing.proofs.EditedLaws.{numeral-is}
use Rattle.reducing.proofs.set_numeral.Goals as goal

pub returns : goal.returns
returns c =
    (numeral-is c.args.buf.now _ _ _ c.args.p.at c.args.used _ c.args.p.value c.get_u16-n.ensures.0 c.remove.ensures c.put_u16.ensures c.put_leaf.ensures, refl)
