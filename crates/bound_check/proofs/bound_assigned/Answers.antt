use mathlib.Core.Path.{ap, ◌∙◌}
use mathlib.Core.Bool.{not}
use Rattle.bound_check.proofs.MarkLaws.{marks-steady}
use Rattle.bound_check.proofs.bound_assigned.Goals as goal

pub returns : goal.returns
returns c =
    λ k b f h. c.some_marked.ensures k b h ∙ ap not (marks-steady _ f h (c.mark_assigned.ensures k b f h))
