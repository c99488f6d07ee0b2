-- There is a sum where one waits.
use Rattle.std.proofs.Common.{ap, nat_eq, not, ℕ, ◌∙◌}
use Rattle.state_check.proofs.CountsLaws.{sum-none, sum-waits}
use Rattle.state_check.proofs.counts.sum_above.Goals as goal

pub returns-then-words-ne0 : goal.returns-then-words-ne0
returns-then-words-ne0 c = sum-waits c.args.largest _ _ c.if-words-ne0.true

pub returns-else-words-ne0 : goal.returns-else-words-ne0
returns-else-words-ne0 c = ap (λ (w : ℕ). not (nat_eq w 0)) c.if-words-ne0.false ∙ sum-none c.args.largest _ _ c.if-words-ne0.false
