use native.Mathlib.Omega.{arith}
use mathlib.Core.Path.{refl, ◌∙◌}
use Rattle.state_words.proofs.EntryLaws.{place-word-low}
use Rattle.count_step.proofs.WordsLaws.{shut-other, shut-place}
use Rattle.count_step.proofs.turns.is_shut.Goals as goal

pub offset_bounds-words-place_word : goal.offset_bounds-words-place_word
offset_bounds-words-place_word c =
    omega (arith, place-word-low c.args.n c.requires, c.place_word.ensures)

pub bounds-words-place_word : goal.bounds-words-place_word
bounds-words-place_word c =
    omega (arith, place-word-low c.args.n c.requires, c.place_word.ensures)

pub returns-then-in_loop : goal.returns-then-in_loop
returns-then-in_loop c =
    shut-place c.args.words.now c.args.n c.place_word.result _ c.in_loop.result c.in_loop.ensures c.if-in_loop.true c.place_word.ensures refl

pub returns-else-in_loop : goal.returns-else-in_loop
returns-else-in_loop c =
    c.if-in_loop.false ∙ shut-other c.args.words.now c.args.n c.in_loop.result c.in_loop.ensures c.if-in_loop.false
