use Rattle.count_step.proofs.StandingLaws.{opened-start}
use Rattle.count_step.proofs.standing.open_at.Goals as goal

pub returns-in-Block : goal.returns-in-Block
returns-in-Block c = λ P es i r count h e. c.open_blocks.ensures P es i r count h

pub returns-in_default : goal.returns-in_default
unfolding opened-start
returns-in_default c = λ P es i r count h e. (opened-start h, e, c.in_default.not-Block)
