-- The header, the row and the zeros, stored one after the other.
use native.Mathlib.Omega.{arith}
use mathlib.Core.Path.{◌∙◌}
use Rattle.translator.proofs.ProgramTaskLaws.{program-task, term-length, term-stores, term-bound}
use Rattle.translator.proofs.write_translation.Goals as goal

pub contents_at-start-requires : goal.contents_at-start-requires
contents_at-start-requires c = tt

pub put_header-requires : goal.put_header-requires
put_header-requires c =
    omega (arith, c.requires.0.2, term-length c.args.h c.requires.0.0)

pub overflow_add-start : goal.overflow_add-start
overflow_add-start c =
    omega (arith, c.contents_at-start.ensures, (term-bound c.requires.0.1 c.requires.1).0)

pub write_row-requires : goal.write_row-requires
write_row-requires c =
    let p = c.requires.0 in
    let size = c.translation_size-total.ensures p.0 p.1 in
    (program-task p.1 c.requires.1 c.contents_at-start.ensures _ size, omega (arith, p.2, c.put_header.auto.buf))

pub overflow_sub-room : goal.overflow_sub-room
overflow_sub-room c =
    let p = c.requires.0 in
    omega (arith, p.2, c.translation_size-total.ensures p.0 p.1, c.put_header.auto.buf, c.write_row.auto.out)

pub zero-requires : goal.zero-requires
zero-requires c =
    let p = c.requires.0 in
    omega (arith, p.2, c.translation_size-total.ensures p.0 p.1, c.put_header.auto.buf, c.write_row.auto.out)

pub returns : goal.returns
returns c =
    λ P h.
    let p = c.requires.0 in
    let size = c.translation_size-total.ensures P h in
    term-stores c.args.h P c.args.out.now _ _ _ _ _ _ size c.contents_at-start.ensures (c.write_row.auto.out ∙ c.put_header.auto.buf) (omega (arith, p.2, c.translation_size-total.ensures p.0 p.1))
    c.put_header.ensures (c.write_row.ensures (program-task h c.requires.1 c.contents_at-start.ensures _ size)) c.zero.ensures
