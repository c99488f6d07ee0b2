-- The two moves, one after the other.
use Rattle.place.proofs.UnrolledLaws.{spread-is}
use Rattle.edit.proofs.spread.Goals as goal

pub returns : goal.returns
returns c = spread-is _ _ _ _ _ _ _ c.move_up.ensures c.move_up-2.ensures
