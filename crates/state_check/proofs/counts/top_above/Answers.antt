-- An entry that is not a loop's has no top count.
use Rattle.std.proofs.Common.{◌∙◌}
use borrow.Author.Tests.{ne_eqb}
use Rattle.state_check.proofs.CountsLaws.{top-loop, top-none}
use Rattle.state_check.proofs.counts.top_above.Goals as goal

pub returns-then-entry-eq2 : goal.returns-then-entry-eq2
returns-then-entry-eq2 c = top-loop c.args.largest _ _ c.if-entry-eq2.true

pub returns-else-entry-eq2 : goal.returns-else-entry-eq2
returns-else-entry-eq2 c = ne_eqb _ _ c.if-entry-eq2.false ∙ top-none c.args.largest _ _ c.if-entry-eq2.false
