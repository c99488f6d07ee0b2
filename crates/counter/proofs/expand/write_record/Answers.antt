use mathlib.Core.Path.{ap, ◌∙◌}
use Prim.Native.Nat.{◌+◌, ℕ}
use native.Mathlib.Omega.{arith}
use Rattle.counting.specs.Counting.{expand}
use Rattle.counter.proofs.ExpandLaws.{given, record-room, record-stores, size_room}
use Rattle.counter.proofs.expand.write_record.Goals as goal

pub put_header-requires : goal.put_header-requires
put_header-requires c =
    omega (arith, record-room c.requires.0.3 c.args.total c.requires.0.4, c.contents_at-contents.ensures, c.requires.1)

pub overflow_sub-total : goal.overflow_sub-total
overflow_sub-total c =
    omega (arith, record-room c.requires.0.3 c.args.total c.requires.0.4, c.contents_at-contents.ensures)

pub put_head-requires : goal.put_head-requires
put_head-requires c =
    omega (arith, record-room c.requires.0.3 c.args.total c.requires.0.4, c.contents_at-contents.ensures, c.requires.1, c.put_header.auto.buf)

pub overflow_add-start : goal.overflow_add-start
overflow_add-start c =
    omega (arith, record-room c.requires.0.3 c.args.total c.requires.0.4, c.contents_at-contents.ensures, c.requires.1, c.requires.2)

pub write_expansion-requires : goal.write_expansion-requires
write_expansion-requires c =
    ((c.requires.0.1, c.requires.0.2, given c.requires.0.3 (c.contents_at-contents.result + 4) (ap (λ (m : ℕ). m + 4) c.contents_at-contents.ensures), omega (arith, size_room c.requires.0.3 c.args.total c.requires.0.4, c.contents_at-contents.ensures, c.requires.1, c.put_header.auto.buf, c.put_head.auto.buf)), c.requires.0.3.low, omega (arith, c.requires.2, c.put_header.auto.buf, c.put_head.auto.buf))

pub returns : goal.returns
returns c =
    λ store P s a e.
    record-stores c.args.h (expand s) c.args.out.now _ _ _ _ c.args.total c.contents_at-contents.result _ e c.contents_at-contents.ensures c.requires.1 (c.write_expansion.auto.out ∙ c.put_head.auto.buf ∙ c.put_header.auto.buf) c.put_header.ensures c.put_head.ensures (c.write_expansion.ensures P s (given a (c.contents_at-contents.result + 4) (ap (λ (m : ℕ). m + 4) c.contents_at-contents.ensures))) c.zero.ensures
