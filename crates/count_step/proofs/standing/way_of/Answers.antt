use mathlib.Core.Path.{ap, sym, ◌∙◌}
use Rattle.count_step.specs.declared.standing.Way.TheVariants.{Here}
use Rattle.count_step.specs.Standing.{way_here}
use Rattle.count_step.proofs.ShapeLaws.{holds-reads, is-here}
use Rattle.count_step.proofs.standing.way_of.Goals as goal

pub is_shut-requires : goal.is_shut-requires
is_shut-requires c = holds-reads c.requires.1.2

pub innermost-requires : goal.innermost-requires
innermost-requires c =
    let v = is-here c.requires.1.2 (sym c.is_shut.ensures ∙ c.if-is_shut.false) c.if-words-eq1.false in
    (c.requires.1.0, v.0, v.1, v.2, _, v.4)

pub returns-else-words-eq1 : goal.returns-else-words-eq1
returns-else-words-eq1 c =
    way_here (sym c.is_shut.ensures ∙ c.if-is_shut.false) c.if-words-eq1.false (λ P es i r count h. ap Here (c.innermost.ensures P es i r count h))
