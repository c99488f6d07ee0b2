-- A turn is an assignment and the bytes of the body.
use Rattle.expansion.proofs.WritingLaws.{turn-led}
use Rattle.expansion.proofs.write_turn.Goals as goal

pub returns : goal.returns
returns c =
    let a = c.args in
    turn-led a.piece.bytes.now a.piece.at a.piece.n a.v a.out.now _ a.o c.write_led.ensures
