use Rattle.term_checker.proofs.WalkLaws.{alone-kind, more-kind, none-kind}
use Rattle.term_checker.proofs.TermWalkLaws.{term-none}
use Rattle.term_checker.proofs.TermOpensLaws.{none-opens}
use Rattle.term_checker.proofs.open_term.Goals as goal

pub returns-in_default : goal.returns-in_default
returns-in_default c = none-opens _ _ _ (term-none _ (none-kind _ c.head_at.ensures c.in_default.not-Record) c.args.limits.k)

pub returns-then-length-s : goal.returns-then-length-s
returns-then-length-s c = none-opens _ _ _ (term-none _ (more-kind _ c.in-Record.ensures c.if-length-s.true) c.args.limits.k)

pub open_kind-requires : goal.open_kind-requires
open_kind-requires c = alone-kind _ c.in-Record.ensures c.if-length-s.false
