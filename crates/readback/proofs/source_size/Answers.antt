use native.Mathlib.Omega.{arith}
use mathlib.Core.List.{[], ◌∷◌}
use Rattle.readback.proofs.CommandLaws.{program-length}
use Rattle.recognition.proofs.ScanLaws.{terms-record}
use Rattle.place.proofs.WholeLaws.{term-used}
use Rattle.readback.proofs.source_size.Goals as goal

pub contents_at-start-requires : goal.contents_at-start-requires
contents_at-start-requires c = tt

pub overflow_add-result : goal.overflow_add-result
overflow_add-result c =
    omega (arith, c.contents_at-start.ensures, term-used c.requires.0.1, c.requires.0.1.within)

pub commands_size-requires : goal.commands_size-requires
commands_size-requires c =
    ((c.requires.0.0 ∷ [], terms-record c.requires.0.1 c.requires.1 c.contents_at-start.ensures), c.requires.0.1.within)

pub overflow_add-result-2 : goal.overflow_add-result-2
overflow_add-result-2 c = omega (arith, c.commands_size.ensures.low, c.requires.0.1.within)

pub returns : goal.returns
returns c =
    λ t P h e. omega (arith, c.contents_at-start.ensures, c.commands_size.ensures.is (t ∷ []) (terms-record h c.requires.1 c.contents_at-start.ensures), program-length c.args.h t P e)
