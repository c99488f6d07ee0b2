-- Rows 6 to 8, or the numerals copied.
use mathlib.Core.Path.{sym, ◌∙◌}
use Rattle.term.proofs.AnsweredLaws.{numerals-of, result-eight, result-seven, result-six, result-zero}
use Rattle.term.proofs.result.result_checked.Goals as goal

pub returns-then-store-h : goal.returns-then-store-h
returns-then-store-h c =
    result-six c.requires.0.1 c.requires.1 c.args.store.now c.if-store-h.true

pub returns-then-not-is_closed : goal.returns-then-not-is_closed
returns-then-not-is_closed c =
    result-seven c.requires.0.1 c.requires.1 c.args.store.now c.if-store-h.false (sym (c.is_closed.ensures c.requires.0.0 c.requires.0.1) ∙ c.if-not-is_closed.true)

pub is_finished-requires : goal.is_finished-requires
is_finished-requires c =
    (c.requires.0, c.requires.1)

pub returns-then-not-is_finished : goal.returns-then-not-is_finished
returns-then-not-is_finished c =
    result-eight c.requires.0.1 c.requires.1 c.args.store.now c.if-store-h.false (sym (c.is_closed.ensures c.requires.0.0 c.requires.0.1) ∙ c.if-not-is_closed.false)
    (sym (c.is_finished.ensures c.requires.0.0 c.requires.0.1) ∙ c.if-not-is_finished.true)

pub copy_numerals-requires : goal.copy_numerals-requires
copy_numerals-requires c =
    let v = numerals-of c.requires.0.1 (sym (c.is_closed.ensures c.requires.0.0 c.requires.0.1) ∙ c.if-not-is_closed.false) (sym (c.is_finished.ensures c.requires.0.0 c.requires.0.1) ∙ c.if-not-is_finished.false) in
    (v, c.requires.1, c.if-store-h.false)

pub returns : goal.returns
returns c =
    let v = numerals-of c.requires.0.1 (sym (c.is_closed.ensures c.requires.0.0 c.requires.0.1) ∙ c.if-not-is_closed.false) (sym (c.is_finished.ensures c.requires.0.0 c.requires.0.1) ∙ c.if-not-is_finished.false) in
    result-zero v.1 c.requires.1 c.args.store.now c.if-store-h.false c.copy_numerals.new.store (c.copy_numerals.ensures v.0 v.1)
