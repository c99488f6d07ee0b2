use native.Mathlib.Omega.{arith}
use Rattle.state_words.proofs.EntryLaws.{put-loop, put_other, place-word-low}
use Rattle.state_words.proofs.put_place.Goals as goal

pub offset_bounds-words-w : goal.offset_bounds-words-w
offset_bounds-words-w c =
    omega (arith, place-word-low c.args.n c.requires.0, c.place_word-w.ensures)

pub bounds-words-w : goal.bounds-words-w
bounds-words-w c =
    omega (arith, place-word-low c.args.n c.requires.0, c.place_word-w.ensures)

pub offset_bounds-words-w-else-in_loop : goal.offset_bounds-words-w-else-in_loop
offset_bounds-words-w-else-in_loop c =
    omega (arith, place-word-low c.args.n c.requires.0, c.place_word-w.ensures)

pub bounds-words-w-else-in_loop : goal.bounds-words-w-else-in_loop
bounds-words-w-else-in_loop c =
    omega (arith, place-word-low c.args.n c.requires.0, c.place_word-w.ensures)

pub returns-then-in_loop : goal.returns-then-in_loop
returns-then-in_loop c =
    put-loop c.args.words.now c.args.n c.place_word-w.result c.args.p c.in_loop.result c.place_word-w.ensures c.in_loop.ensures c.if-in_loop.true

pub returns-else-in_loop : goal.returns-else-in_loop
returns-else-in_loop c =
    put_other c.args.words.now c.args.n c.place_word-w.result c.args.p c.in_loop.result c.place_word-w.ensures c.in_loop.ensures c.if-in_loop.false
