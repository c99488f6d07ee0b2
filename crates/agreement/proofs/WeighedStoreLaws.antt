-- The engines take a weighed store whose values are within the ceiling: they are as many as it was lent, and no larger than gross or tare.
use mathlib.Core.Path.{◌∙◌}
use Rattle.record.specs.Header.{ok_of}
use Rattle.weighing.specs.Weigh.{weigh_call}
use Rattle.record.proofs.HeaderLaws.{ok-iff, ok-limit}
use Rattle.weighing.proofs.WeighLaws.{weigh-means}
use Rattle.agreement.specs.WeighedStore.{WeighedStore, WeighedWithin}
use Rattle.agreement.proofs.StartLaws.{engines-take}

pub weighed-store : WeighedStore
unfolding WeighedStore
weighed-store rule gross tare store z h P cb cu checked program words word size small =
    engines-take h P cb cu checked program words word (weigh_call rule gross tare store).store (weigh-means.same_length rule gross tare store ∙ size) small

pub weighed-within : WeighedWithin
unfolding WeighedWithin
weighed-within rule gross tare store z h g t = weigh-means.values (ok_of h) (ok-limit h) rule gross tare store ((ok-iff h gross).1 g) ((ok-iff h tare).1 t) z
