use mathlib.Core.Path.{ap, ◌∙◌}
use Rattle.record.specs.Header.{kind_of}
use Rattle.record.proofs.EditionLaws.{kind-converted}
use Rattle.record.proofs.converted_kind.Goals as goal

pub returns : goal.returns
returns c =
    λ h. c.kind_of.ensures ∙ ap (kind_of c.args.sort) c.converted.ensures ∙ kind-converted c.args.sort c.args.to _ h
