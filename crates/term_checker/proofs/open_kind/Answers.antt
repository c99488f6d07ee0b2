use mathlib.Core.Path.{ap, sym, ◌∙◌}
use Rattle.record.specs.declared.kind.Kind.TheVariants.{LetAll, LetOne, Rec, Tuple}
use Rattle.record.specs.Kind.{kind_named}
use Rattle.record.proofs.KindLaws.{named-number, not-number}
use Rattle.record.proofs.TermReadLaws.{term-other}
use Rattle.term_checker.proofs.TermOpensLaws.{class-opens, none-opens, tuple-opens}
use Rattle.term_checker.proofs.open_kind.Goals as goal

pub open_let_one-requires : goal.open_let_one-requires
open_let_one-requires c = c.requires ∙ named-number c.in-LetOne.ensures

pub open_let_all-requires : goal.open_let_all-requires
open_let_all-requires c = c.requires ∙ named-number c.in-LetAll.ensures

pub open_rec-requires : goal.open_rec-requires
open_rec-requires c = c.requires ∙ named-number c.in-Rec.ensures

pub returns-in-Tuple : goal.returns-in-Tuple
returns-in-Tuple c = tuple-opens _ _ _ (c.requires ∙ named-number c.in-Tuple.ensures) c.check_tuple.ensures

pub returns-in_default-named : goal.returns-in_default-named
returns-in_default-named c =
    let is = c.named.ensures ∙ ap kind_named (sym c.requires) in
    let other = c.in_default-named in
    none-opens _ _ _ (term-other _ _ (not-number Tuple tt is other.not-Tuple) (not-number LetOne tt is other.not-LetOne) (not-number LetAll tt is other.not-LetAll) (not-number Rec tt is other.not-Rec))

pub returns-in_default : goal.returns-in_default
returns-in_default c = class-opens _ _ _ c.requires (λ e. c.in_default.not-Term (c.class_of.ensures ∙ e))
