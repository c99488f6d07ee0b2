-- What is held open, and not as a block, is a loop whose reached count is not above its top.
use Rattle.expansion.specs.Entry.{as_held}
use Rattle.expansion.proofs.EntryLaws.{to-come-first, to-come-other}
use Rattle.expansion.proofs.to_come.Goals as goal

pub returns-then-held-eq-OPEN_BLOCK : goal.returns-then-held-eq-OPEN_BLOCK
returns-then-held-eq-OPEN_BLOCK c = to-come-first (as_held c.args.held) c.if-held-eq-OPEN_BLOCK.true

pub returns-else-held-eq-OPEN_BLOCK : goal.returns-else-held-eq-OPEN_BLOCK
returns-else-held-eq-OPEN_BLOCK c = to-come-other (as_held c.args.held) c.if-held-eq-OPEN_BLOCK.false
