use mathlib.Core.Path.{sym, ◌∙◌}
use native.Mathlib.Omega.{arith}
use Rattle.probe.proofs.ProbeLaws.{le-inside, zeroed-in, zeroed-out}
use Rattle.probe.proofs.probe_zero.Goals as goal

pub zero-requires : goal.zero-requires
zero-requires c = omega (arith, le-inside _ _ _ (sym c.within.ensures ∙ c.if-within.true))

pub returns-then-within : goal.returns-then-within
returns-then-within c =
    c.zero.ensures ∙ zeroed-in _ _ _ (sym c.within.ensures ∙ c.if-within.true)

pub returns-else-within : goal.returns-else-within
returns-else-within c = zeroed-out _ _ _ (sym c.within.ensures ∙ c.if-within.false)
