use native.Mathlib.Omega.{arith}
use mathlib.Core.Path.{sym, ◌∙◌}
use mathlib.Core.Logic.{⊎_elim}
use Rattle.command.proofs.LookLaws.{assign-read}
use Rattle.record.specs.declared.kind.Kind.TheVariants.{MinusOne, PlusOne}
use Rattle.record.proofs.KindLaws.{named-number, not-number}
use Rattle.step_forecast.proofs.OpenLaws.{steps-one, steps-two}
use Rattle.step_forecast.proofs.assign_steps.Goals as goal

pub read-requires : goal.read-requires
read-requires c = omega (arith, (assign-read c.requires.1.1.1).room)

pub returns-in-PlusOne : goal.returns-in-PlusOne
returns-in-PlusOne c = λ x e r h.
    let k = (assign-read h).kind in
    steps-two e (⊎_elim (λ i. omega (arith, k, named-number (sym i ∙ c.read.ensures))) (λ i. omega (arith, k, named-number (sym i ∙ c.read.ensures))) c.in-PlusOne.is)

pub returns-in_default : goal.returns-in_default
returns-in_default c = λ x e r h.
    let k = (assign-read h).kind in
    steps-one e (λ i. not-number PlusOne tt c.read.ensures c.in_default.not-PlusOne (k ∙ i)) (λ i. not-number MinusOne tt c.read.ensures c.in_default.not-MinusOne (k ∙ i))
