use native.Mathlib.Omega.{arith}
use Rattle.state_words.proofs.EntryLaws.{place-loop, place_other, place-room, place-word-low}
use Rattle.state_words.proofs.place.Goals as goal

pub word-mark-requires : goal.word-mark-requires
word-mark-requires c =
    omega (arith, place-word-low c.args.n c.requires.0, c.place_word.ensures)

pub overflow_sub-result : goal.overflow_sub-result
overflow_sub-result c =
    place-room c.args.words.now c.args.n c.place_word.result c.word-mark.result c.place_word.ensures c.word-mark.ensures.0 c.in_loop.result c.in_loop.ensures c.if-in_loop.true c.requires.1

pub returns-then-in_loop : goal.returns-then-in_loop
returns-then-in_loop c =
    place-loop c.args.words.now c.args.n c.place_word.result c.word-mark.result c.place_word.ensures c.word-mark.ensures.0 c.in_loop.result c.in_loop.ensures c.if-in_loop.true

pub returns-else-in_loop : goal.returns-else-in_loop
returns-else-in_loop c =
    place_other c.args.words.now c.args.n c.place_word.result c.word-mark.result c.place_word.ensures c.word-mark.ensures.0 c.in_loop.result c.in_loop.ensures c.if-in_loop.false
