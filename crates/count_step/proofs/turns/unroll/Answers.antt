use Rattle.count_step.proofs.WordsLaws.{unrolled-0, unrolled-suc}
use Rattle.count_step.proofs.turns.unroll.Goals as goal

pub returns-then-reached-eq0 : goal.returns-then-reached-eq0
returns-then-reached-eq0 c = unrolled-0 c.args.words.now c.args.n c.if-reached-eq0.true

pub returns-else-reached-eq0 : goal.returns-else-reached-eq0
returns-else-reached-eq0 c = unrolled-suc c.args.words.now c.args.n c.if-reached-eq0.false
