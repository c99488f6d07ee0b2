use mathlib.Core.Path.{ap, sym}
use native.Mathlib.Omega.{arith}
use Rattle.rules.proofs.StoreLaws.{up_to-above, up_to-iff}
use Rattle.checker.specs.Verdict.{valued}
use Rattle.checker.proofs.check_value.Goals as goal

pub returns-then-largest-v : goal.returns-then-largest-v
returns-then-largest-v c = ap valued (sym ((up_to-above c.args.largest c.args.v).1 c.if-largest-v.true))

pub returns : goal.returns
returns c = ap valued (sym ((up_to-iff c.args.largest c.args.v).1 (omega (arith, c.if-largest-v.false))))
