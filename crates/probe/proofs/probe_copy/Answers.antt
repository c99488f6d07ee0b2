use mathlib.Core.Path.{sym, ◌∙◌}
use native.Mathlib.Omega.{arith}
use Rattle.probe.proofs.ProbeLaws.{le-inside, copied-in, source-out, copied-out}
use Rattle.probe.proofs.probe_copy.Goals as goal

pub copy-requires : goal.copy-requires
copy-requires c =
    (omega (arith, le-inside _ _ _ (sym c.within.ensures ∙ c.if-within.true)), omega (arith, le-inside _ _ _ (sym c.within-then-within.ensures ∙ c.if-within-2.true)))

pub returns-then-within-2 : goal.returns-then-within-2
returns-then-within-2 c =
    c.copy.ensures ∙ copied-in _ _ _ _ _ (sym c.within.ensures ∙ c.if-within.true) (sym c.within-then-within.ensures ∙ c.if-within-2.true)

pub returns-else-within-2 : goal.returns-else-within-2
returns-else-within-2 c = copied-out _ _ _ _ _ (sym c.within-then-within.ensures ∙ c.if-within-2.false)

pub returns-else-within : goal.returns-else-within
returns-else-within c = source-out _ _ _ _ _ (sym c.within.ensures ∙ c.if-within.false)
