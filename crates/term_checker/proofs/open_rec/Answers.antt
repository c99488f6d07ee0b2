use mathlib.Core.Path.{ap, sym, ◌∙◌}
use Rattle.reader.specs.Head.{next_at}
use Rattle.term_checker.proofs.TermWalkLaws.{rec-stays}
use Rattle.term_checker.proofs.TermOpensLaws.{none-opens, rec-opens}
use Rattle.term_checker.proofs.open_rec.Goals as goal

pub returns-then-start-ne16 : goal.returns-then-start-ne16
returns-then-start-ne16 c =
    none-opens _ _ _ (rec-stays c.args.limits.k c.args.s.now c.requires (λ count start. c.if-start-ne16.true (c.after-start.ensures ∙ count)))

pub returns-then-last-start : goal.returns-then-last-start
returns-then-last-start c =
    none-opens _ _ _ (rec-stays c.args.limits.k c.args.s.now c.requires (λ count start. start (ap (next_at c.args.s.now) (sym c.after-start.ensures) ∙ sym c.after-last.ensures ∙ c.if-last-start.true ∙ c.after-start.ensures)))

pub returns : goal.returns
returns c =
    rec-opens _ _ _ c.requires c.if-start-ne16.false c.get_u32.ensures c.check_variable.ensures c.check_atom.ensures c.worst-count.ensures c.after-start.ensures c.check_tuple.ensures c.worst.ensures c.after-last.ensures
