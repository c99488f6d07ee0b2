-- The room made and the three stores are one edit.
use mathlib.Core.Path.{refl}
use Rattle.place.proofs.UnrolledLaws.{unrolled-is}
use Rattle.reducing.specs.Perform.{unrolled_at}
use Rattle.reducing.proofs.unroll.Goals as goal

pub returns : goal.returns
unfolding unrolled_at
returns c =
    (unrolled-is _ _ _ _ _ _ _ _ _ _ _ _ c.spread.ensures c.put_head.ensures c.put_leaf.ensures c.put_lead.ensures, refl)
