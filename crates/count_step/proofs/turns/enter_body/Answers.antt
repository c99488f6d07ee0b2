use Rattle.count_step.proofs.WordsLaws.{body_is}
use Rattle.count_step.proofs.turns.enter_body.Goals as goal

pub returns : goal.returns
returns c = body_is c.args.words.now c.args.n c.args.p
