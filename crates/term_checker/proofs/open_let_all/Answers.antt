use Rattle.term_checker.proofs.TermOpensLaws.{let_all-opens}
use Rattle.term_checker.proofs.open_let_all.Goals as goal

pub returns : goal.returns
returns c =
    let_all-opens _ _ _ c.requires c.after.ensures
