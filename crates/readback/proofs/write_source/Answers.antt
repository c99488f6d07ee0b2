use native.Mathlib.Omega.{arith}
use mathlib.Core.Path.{ap, ◌∙◌, ◌≡◌}
use lib.ListN.{length}
use Rattle.record.specs.Header.{encode_program}
use Rattle.rules.specs.Syntax.{Block}
use Rattle.readback.proofs.WriteLaws.{fits-source, source-same, write-program}
use Rattle.readback.proofs.write_source.Goals as goal

pub write_block-n-requires : goal.write_block-n-requires
write_block-n-requires c =
    let q = c.requires.0 in
    ((q.1, fits-source q.1 c.args.out.now c.contents_at.result q.2 q.3 c.requires.1 c.contents_at.ensures q.4), q.2.within, omega (arith, q.2.within, c.requires.1))

pub put_header-requires : goal.put_header-requires
put_header-requires c =
    let q = c.requires.0 in
    let f = fits-source q.1 c.args.out.now c.contents_at.result q.2 q.3 c.requires.1 c.contents_at.ensures q.4 in
    omega (arith, f.room, c.contents_at.ensures, c.write_block-n.auto.out)

pub overflow_sub-room : goal.overflow_sub-room
overflow_sub-room c =
    let q = c.requires.0 in
    let f = fits-source q.1 c.args.out.now c.contents_at.result q.2 q.3 c.requires.1 c.contents_at.ensures q.4 in
    omega (arith, f.room, (c.write_block-n.ensures q.1 f).1, c.write_block-n.auto.out, c.put_header.auto.buf)

pub zero-requires : goal.zero-requires
zero-requires c =
    let q = c.requires.0 in
    let f = fits-source q.1 c.args.out.now c.contents_at.result q.2 q.3 c.requires.1 c.contents_at.ensures q.4 in
    omega (arith, f.room, (c.write_block-n.ensures q.1 f).1, c.write_block-n.auto.out, c.put_header.auto.buf)

pub returns : goal.returns
returns c =
    λ t P h e.
    let q = c.requires.0 in
    let a = c.args in
    let same : q.1 ≡ P = source-same q.1 P q.2 h c.requires.1 q.3 e in
    let f = fits-source P a.out.now c.contents_at.result h e c.requires.1 c.contents_at.ensures (omega (arith, q.4, ap (λ (b : Block). length (encode_program a.h b)) same)) in
    let w = c.write_block-n.ensures P f in
    write-program a.h P a.out.now _ _ _ c.write_block-n.result c.contents_at.result _ c.contents_at.ensures w.1 (omega (arith, w.1, f.room)) (c.put_header.auto.buf ∙ c.write_block-n.auto.out) w.0 c.put_header.ensures c.zero.ensures
