use mathlib.Core.Path.{sym, ◌∙◌}
use Rattle.term_checker.proofs.TermWalkLaws.{let_one-stays}
use Rattle.term_checker.proofs.TermOpensLaws.{let_one-opens, none-opens}
use Rattle.term_checker.proofs.open_let_one.Goals as goal

pub returns-then-last-eq8 : goal.returns-then-last-eq8
returns-then-last-eq8 c =
    none-opens _ _ _ (let_one-stays c.args.limits.k c.args.s.now c.requires (sym c.after-last.ensures ∙ c.if-last-eq8.true))

pub returns : goal.returns
returns c =
    let_one-opens _ _ _ c.requires c.if-last-eq8.false c.get_u32.ensures c.check_variable.ensures c.check_simple.ensures c.worst-bound.ensures c.after-last.ensures
