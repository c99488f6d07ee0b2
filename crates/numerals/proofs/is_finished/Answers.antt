-- The kind behind the header tells a tuple.
use Rattle.std.proofs.Common.{ap, sym, ◌∙◌, ℕ, eqb, arith}
use borrow.Author.Tests.{ne_false}
use Rattle.record.proofs.KindLaws.{named-number, not-number}
use Rattle.place.proofs.WholeLaws.{term-at, term-from}
use Rattle.place.proofs.NumeralsLaws.{finished-read}
use Rattle.place.proofs.TermViewLaws.{term-room}
use Rattle.numerals.proofs.is_finished.Goals as goal

pub overflow_add-contents_at : goal.overflow_add-contents_at
overflow_add-contents_at c =
    let r = term-room (term-at c.requires.0.1 c.requires.1) in omega (arith, c.contents_at.ensures)

pub read-requires : goal.read-requires
read-requires c =
    let r = term-room (term-at c.requires.0.1 c.requires.1) in omega (arith, c.contents_at.ensures)

pub returns-in-Tuple : goal.returns-in-Tuple
returns-in-Tuple c =
    λ t h. ap (λ (n : ℕ). eqb n 36) (sym (named-number c.in-Tuple.ensures)) ∙ finished-read (term-from h c.requires.1 c.contents_at.ensures)

pub returns-in_default : goal.returns-in_default
returns-in_default c =
    λ t h. ne_false _ _ (not-number _ tt c.read.ensures c.in_default.not-Tuple) ∙ finished-read (term-from h c.requires.1 c.contents_at.ensures)
