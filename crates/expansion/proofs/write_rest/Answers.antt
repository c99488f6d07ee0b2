-- One law for each way out.
use lib.ListN.{get_or}
use Rattle.expansion.proofs.WritingLaws.{rest-written, sum-written}
use Rattle.expansion.proofs.write_rest.Goals as goal

pub returns-then-words-eq0 : goal.returns-then-words-eq0
returns-then-words-eq0 c =
    let a = c.args in
    rest-written a.piece.bytes.now a.piece.at a.piece.n (get_or a.words.now 2 0) a.out.now _ a.o (get_or a.words.now 1 0) c.if-words-eq0.true c.copy.ensures

pub returns-else-words-eq0 : goal.returns-else-words-eq0
returns-else-words-eq0 c =
    let a = c.args in
    sum-written a.piece.bytes.now a.piece.at a.piece.n (get_or a.words.now 2 0) a.out.now _ a.o (get_or a.words.now 1 0) c.if-words-eq0.false c.write_led.ensures
