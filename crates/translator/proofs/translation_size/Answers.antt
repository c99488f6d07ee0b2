-- The header, and the row of the program's commands.
use native.Mathlib.Omega.{arith}
use Rattle.translator.proofs.ProgramTaskLaws.{program-commands, term-bound, term-length}
use Rattle.translator.proofs.translation_size.Goals as goal

pub contents_at-start-requires : goal.contents_at-start-requires
contents_at-start-requires c = tt

pub overflow_add-start : goal.overflow_add-start
overflow_add-start c =
    omega (arith, c.contents_at-start.ensures, (term-bound c.requires.0.1 c.requires.1).0)

pub row_size-requires : goal.row_size-requires
row_size-requires c =
    (program-commands c.requires.0.1 c.requires.1 c.contents_at-start.ensures, c.requires.0.1.header.k-high)

pub overflow_add-result : goal.overflow_add-result
overflow_add-result c =
    let b = term-bound c.requires.0.1 c.requires.1 in
    omega (arith, c.contents_at-start.ensures, c.row_size.ensures (program-commands c.requires.0.1 c.requires.1 c.contents_at-start.ensures), b.0, b.1)

pub returns : goal.returns
returns c =
    λ P p. omega (arith, c.contents_at-start.ensures, c.row_size.ensures (program-commands p c.requires.1 c.contents_at-start.ensures), term-length c.args.h P)
