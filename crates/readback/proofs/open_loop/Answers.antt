use native.Mathlib.Omega.{arith}
use mathlib.Core.Path.{ap, ◌∙◌}
use Prim.Native.Nat.{◌+◌, ℕ}
use Rattle.buffer.specs.Slice.{put}
use Rattle.place.specs.Edit.{lead}
use Rattle.place.specs.Heads.{record_head}
use Rattle.record.specs.Kind.{kind_number}
use Rattle.buffer.proofs.StoresLaws.{stores-2}
use Rattle.place.proofs.EditLaws.{length-lead}
use Rattle.readback.proofs.PieceLaws.{rec-bytes, rec-room}
use Rattle.readback.proofs.open_loop.Goals as goal

pub get_u32-x-requires : goal.get_u32-x-requires
get_u32-x-requires c =
    let q = c.requires.0 in
    omega (arith, rec-room q.1 q.2 q.3 q.4)

pub bound_kind-bound-requires : goal.bound_kind-bound-requires
bound_kind-bound-requires c =
    let q = c.requires.0 in
    omega (arith, rec-room q.1 q.2 q.3 q.4)

pub get_u32-v-requires : goal.get_u32-v-requires
get_u32-v-requires c =
    let q = c.requires.0 in
    omega (arith, rec-room q.1 q.2 q.3 q.4)

pub returns : goal.returns
returns c =
    λ k x n b h.
    let a = c.args in
    let kind = kind_number c.bound_kind-bound.result in
    let l = lead 3 a.head c.get_u32-x.result kind c.get_u32-v.result in
    stores-2 a.out.now _ _ l (record_head 1 0) a.o (a.o + 16) c.put_lead.ensures c.put_head.ensures (ap (λ (y : ℕ). a.o + y) (length-lead 3 a.head c.get_u32-x.result kind c.get_u32-v.result)) (omega (arith, c.requires.1))
    ∙ ap (put a.out.now a.o) (rec-bytes x n b h c.get_u32-x.result kind c.get_u32-v.result a.head 0 c.get_u32-x.ensures c.bound_kind-bound.ensures c.get_u32-v.ensures)
