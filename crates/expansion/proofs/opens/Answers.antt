use native.Mathlib.Omega.{arith}
use Rattle.expansion.specs.Entry.{as_held}
use Rattle.expansion.proofs.EntryLaws.{opens-first, opens-none, opens-other}
use Rattle.expansion.proofs.opens.Goals as goal

pub returns-in-0 : goal.returns-in-0
returns-in-0 c = opens-none (as_held c.args.held) c.in-0.is

pub returns-in-1 : goal.returns-in-1
returns-in-1 c = opens-first (as_held c.args.held) c.in-1.is

pub returns-in_default : goal.returns-in_default
returns-in_default c = opens-other (as_held c.args.held) (λ z. omega arith) (λ z. omega arith)
