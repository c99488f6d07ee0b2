-- The tests are those of the range.
use mathlib.Core.Path.{ap, sym}
use native.Mathlib.Omega.{arith}
use Rattle.checker.specs.Verdict.{rated}
use Rattle.rules.proofs.ScopeLaws.{within-in_range}
use Rattle.checker.proofs.VerdictLaws.{not-in_range}
use Rattle.checker.proofs.check_variable.Goals as goal

pub returns-then-x-k : goal.returns-then-x-k
returns-then-x-k c = ap rated (sym (within-in_range c.args.k c.args.x (omega arith, omega arith)))

pub returns-else-x-ge1 : goal.returns-else-x-ge1
returns-else-x-ge1 c = ap rated (sym (not-in_range c.args.k c.args.x (λ h. omega (arith, h.0, h.1, c.else-x-ge1.either))))
