use native.Mathlib.Omega.{arith}
use mathlib.Core.Path.{ap, ◌∙◌}
use Prim.Native.Nat.{◌+◌, ◌-◌}
use Rattle.buffer.specs.Slice.{put}
use Rattle.record.specs.Kind.{kind_number}
use Rattle.record.proofs.KindLaws.{in_program-number}
use Rattle.rules.specs.Syntax.{assign}
use Rattle.rules.specs.Translation.{translate}
use Rattle.readback.proofs.PieceLaws.{let_one-bytes, let_one-room}
use Rattle.readback.proofs.write_let_one.Goals as goal

pub get_u32-x-requires : goal.get_u32-x-requires
get_u32-x-requires c =
    let q = c.requires.0 in
    omega (arith, let_one-room q.0 q.1 q.2 q.3)

pub read_atom-requires : goal.read_atom-requires
read_atom-requires c =
    let q = c.requires.0 in
    omega (arith, let_one-room q.0 q.1 q.2 q.3)

pub own_size-requires : goal.own_size-requires
own_size-requires c =
    let q = c.requires.0 in
    (translate c.args.k (assign q.0 q.1 q.2), q.3)

pub overflow_add-at-3 : goal.overflow_add-at-3
overflow_add-at-3 c =
    let q = c.requires.0 in
    omega (arith, let_one-room q.0 q.1 q.2 q.3, c.own_size.ensures (translate c.args.k (assign q.0 q.1 q.2)) q.3)

pub overflow_sub-at : goal.overflow_sub-at
overflow_sub-at c =
    let q = c.requires.0 in
    omega (arith, let_one-room q.0 q.1 q.2 q.3, c.own_size.ensures (translate c.args.k (assign q.0 q.1 q.2)) q.3)

pub get_u32-v-requires : goal.get_u32-v-requires
get_u32-v-requires c =
    let q = c.requires.0 in
    omega (arith, let_one-room q.0 q.1 q.2 q.3, c.own_size.ensures (translate c.args.k (assign q.0 q.1 q.2)) q.3)

pub returns : goal.returns
returns c =
    λ x e r h.
    let a = c.args in
    let n = c.own_size.ensures (translate a.k (assign x e r)) h in
    let room = let_one-room x e r h in
    let kind = ap kind_number c.in_program-kind.ensures ∙ in_program-number c.read_atom.ensures room.2 room.3 in
    c.put_lead.ensures ∙ ap (put a.out.now a.o) (let_one-bytes x e r h c.get_u32-x.result (kind_number c.in_program-kind.result) c.get_u32-v.result (a.at + c.own_size.result - 4) c.get_u32-x.ensures kind (omega arith) c.get_u32-v.ensures)
