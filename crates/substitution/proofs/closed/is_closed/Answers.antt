-- The term behind the header is the record's.
use Rattle.substitution.proofs.RangedLaws.{record-ranged}
use Rattle.substitution.proofs.closed.is_closed.Goals as goal

pub contents_at-requires : goal.contents_at-requires
contents_at-requires c = tt

pub closed_at-requires : goal.closed_at-requires
closed_at-requires c =
    (c.requires.0.0, record-ranged c.requires.0.1 c.requires.1 c.contents_at.ensures)

pub returns : goal.returns
returns c =
    λ t h. c.closed_at.ensures t (record-ranged h c.requires.1 c.contents_at.ensures)
