use native.Mathlib.Omega.{arith}
use mathlib.Core.Path.{ap, ◌∙◌}
use Prim.Native.Nat.{ℕ}
use Rattle.buffer.specs.Slice.{put}
use Rattle.place.specs.Heads.{record_head}
use Rattle.place.proofs.WholeLaws.{put-header}
use Rattle.record.proofs.HeaderLaws.{contents_at-low}
use Rattle.edit.proofs.put_header.Goals as goal

pub put_head-requires : goal.put_head-requires
put_head-requires c =
    omega (arith, c.requires, contents_at-low c.args.h)

pub put_fields-requires : goal.put_fields-requires
put_fields-requires c =
    omega (arith, c.requires, c.put_head.auto.buf)

pub returns : goal.returns
returns c =
    put-header c.args.sort c.args.h c.args.n c.args.buf.now _ _ (c.put_head.ensures ∙ ap (λ (k : ℕ). put c.args.buf.now 0 (record_head k c.args.n)) c.kind_of.ensures) c.put_fields.ensures (omega (arith, c.requires, contents_at-low c.args.h))
