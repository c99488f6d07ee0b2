-- Where the walk goes on inside a loop, its progress is at least 2.
use native.Mathlib.Omega.{arith}
use Rattle.expansion.specs.Entry.{as_held}
use Rattle.expansion.proofs.EntryLaws.{inside-first, inside-other, inside-two}
use Rattle.expansion.proofs.inside_place.Goals as goal

pub returns-then-held-eq-OPEN_BLOCK : goal.returns-then-held-eq-OPEN_BLOCK
returns-then-held-eq-OPEN_BLOCK c = (inside-first (as_held c.args.held) c.if-held-eq-OPEN_BLOCK.true, omega arith)

pub overflow_sub-result : goal.overflow_sub-result
overflow_sub-result c = inside-two (as_held c.args.held) c.if-held-eq-OPEN_BLOCK.false c.requires

pub returns-else-held-eq-OPEN_BLOCK : goal.returns-else-held-eq-OPEN_BLOCK
returns-else-held-eq-OPEN_BLOCK c = (inside-other (as_held c.args.held) c.if-held-eq-OPEN_BLOCK.false, omega arith)
