use borrow.Author.Tests.{ne_eqb}
use mathlib.Core.Path.{ap, refl, sym}
use mir.Val.{bool_byte}
use Rattle.state_words.specs.Entry.{entry_in_play}
use Rattle.state_words.proofs.EntryLaws.{in_play-is}
use Rattle.state_words.proofs.EntryWords.in_play.Goals as goal

pub returns-then-turns-eq0 : goal.returns-then-turns-eq0
unfolding entry_in_play
returns-then-turns-eq0 c = sym (ap (entry_in_play c.args.at) c.if-turns-eq0.true)

pub returns : goal.returns
returns c = in_play-is c.args.at c.args.turns _ _ refl (sym (ap bool_byte (ne_eqb c.args.turns 0 c.if-turns-eq0.false)))
