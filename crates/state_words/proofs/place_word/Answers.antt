use Rattle.state_words.proofs.EntryLaws.{place-word-0, place-word-suc}
use Rattle.state_words.proofs.place_word.Goals as goal

pub returns-then-n-eq0 : goal.returns-then-n-eq0
returns-then-n-eq0 c = place-word-0 c.args.n c.if-n-eq0.true

pub returns-else-n-eq0 : goal.returns-else-n-eq0
returns-else-n-eq0 c = place-word-suc c.args.n c.if-n-eq0.false
