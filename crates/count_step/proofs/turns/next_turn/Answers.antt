use Rattle.count_step.proofs.WordsLaws.{next-is}
use Rattle.count_step.proofs.turns.next_turn.Goals as goal

pub returns : goal.returns
returns c = next-is c.args.words.now c.args.n
