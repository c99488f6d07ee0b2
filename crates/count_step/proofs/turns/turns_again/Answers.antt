use mathlib.Core.Path.{ap, ◌∙◌}
use borrow.Author.Tests.{ne_eqb}
use Rattle.state_words.specs.declared.EntryWords.{EntryWords}
use Rattle.count_step.proofs.WordsLaws.{again-loop, again-other}
use Rattle.count_step.proofs.turns.turns_again.Goals as goal

pub returns-then-last-eq-IN_PLAY : goal.returns-then-last-eq-IN_PLAY
returns-then-last-eq-IN_PLAY c =
    let e = c.entry-last.ensures in
    again-loop c.args.words.now c.args.n c.entry-last.result.what c.entry-last.result.reached c.entry-last.result.top (ap (λ (w : EntryWords). w.what) e) (ap (λ (w : EntryWords). w.reached) e) (ap (λ (w : EntryWords). w.top) e) c.if-last-eq-IN_PLAY.true

pub returns-else-last-eq-IN_PLAY : goal.returns-else-last-eq-IN_PLAY
returns-else-last-eq-IN_PLAY c =
    ne_eqb c.entry-last.result.what 2 c.if-last-eq-IN_PLAY.false
    ∙ again-other c.args.words.now c.args.n c.entry-last.result.what (ap (λ (w : EntryWords). w.what) c.entry-last.ensures) c.if-last-eq-IN_PLAY.false
