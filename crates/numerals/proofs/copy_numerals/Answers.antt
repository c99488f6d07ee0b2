-- After i turns the first i numerals stand in the store.
use Rattle.std.proofs.Common.{◌≡◌, sym, ◌∙◌, ◌<◌, length, arith}
use Rattle.numerals.proofs.NumeralsLaws.{copied_all, copied_none, copied-turn, record-row}
use Rattle.place.proofs.WholeLaws.{term-at}
use Rattle.place.proofs.TermViewLaws.{term-room}
use Rattle.numerals.proofs.copy_numerals.Goals as goal

pub overflow_add-atoms : goal.overflow_add-atoms
overflow_add-atoms c =
    let r = term-room (term-at c.requires.0.1 c.requires.1) in omega (arith, c.contents_at-atoms.ensures)

pub loop-i-init : goal.loop-i-init
loop-i-init c = λ vs h e. copied_none _ vs

pub numeral-requires : goal.numeral-requires
numeral-requires c =
    let r = record-row c.requires.0.0 c.requires.0.1 c.requires.1 c.contents_at-atoms.ensures in (c.requires.0.0, (r.0, omega (arith, r.1)))

pub loop-i-preserved : goal.loop-i-preserved
loop-i-preserved c = λ vs h e.
    let b : c.loop-i.i < length vs = omega (arith, e) in
    copied-turn _ _ vs c.loop-i.i _ (omega arith) b (c.numeral.ensures vs h b) (c.loop-i.invariant vs h e)

pub returns : goal.returns
returns c = λ vs h.
    let r = record-row vs h c.requires.1 c.contents_at-atoms.ensures in
    let e : length vs ≡ length c.args.store.now = r.1 ∙ sym c.requires.2 in
    copied_all _ _ vs c.loop-i.i (omega (arith, e)) (sym e) (c.loop-i.invariant vs r.0 e)
