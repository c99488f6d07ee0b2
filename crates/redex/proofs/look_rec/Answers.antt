use mathlib.Core.Path.{◌≡◌, ◌∙◌}
use Prim.Native.Nat.{◌+◌, ◌*◌, ◌-◌}
use native.Mathlib.Omega.{arith}
use Rattle.buffer.specs.LittleEndian.{val}
use Rattle.buffer.specs.Slice.{part}
use Rattle.redex.proofs.LookLaws.{rec-plan, rec-room}
use Rattle.redex.proofs.look_rec.Goals as goal

pub get_u32-variable-requires : goal.get_u32-variable-requires
get_u32-variable-requires c = omega (arith, rec-room c.requires.0.1 c.requires.1)

pub get_u32-value-requires : goal.get_u32-value-requires
get_u32-value-requires c = omega (arith, rec-room c.requires.0.1 c.requires.1)

pub get_u16-requires : goal.get_u16-requires
get_u16-requires c =
    omega (arith, rec-room c.requires.0.1 c.requires.1)

pub overflow_sub-body : goal.overflow_sub-body
overflow_sub-body c =
    omega (arith, rec-room c.requires.0.1 c.requires.1)

pub returns : goal.returns
returns c =
    λ t h s ok.
    let b : c.get_u16.result - (20 + 8 * c.args.k) + (20 + 8 * c.args.k) ≡ val (part c.args.buf.now c.args.place.at 2) = omega (arith, rec-room h c.requires.1, c.get_u16.ensures.0) in
    c.turn.ensures
    ∙ rec-plan h c.requires.1 s ok c.args.place.levels c.get_u32-variable.result (c.get_u16.result - (20 + 8 * c.args.k)) c.get_u32-value.result c.get_u32-variable.ensures b c.get_u32-value.ensures
