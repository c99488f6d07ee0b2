-- The start tuple moved down, and the bytes behind it taken out, are one edit.
use mathlib.Core.Path.{refl}
use Rattle.reducing.proofs.EditedLaws.{stopped-is}
use Rattle.reducing.proofs.stop.Goals as goal

pub returns : goal.returns
returns c =
    (stopped-is c.args.buf.now _ _ c.args.p.at c.args.k c.args.p.down c.args.used _ refl c.move_down.ensures c.remove.ensures, refl)
