use Rattle.expansion.proofs.EntryLaws.{size-at-zero, size-whole}
use Rattle.expansion.proofs.first_size.Goals as goal

pub returns-then-held-eq0 : goal.returns-then-held-eq0
returns-then-held-eq0 c = size-whole c.args.n c.args.held.progress c.args.held.running c.if-held-eq0.either

pub returns-else-held-eq0 : goal.returns-else-held-eq0
returns-else-held-eq0 c = size-at-zero c.args.n c.args.held.progress c.args.held.running c.if-held-eq0.false.0 c.if-held-eq0.false.1
