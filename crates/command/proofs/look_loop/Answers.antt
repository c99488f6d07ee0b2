use mathlib.Core.Path.{◌≡◌, ap, ap₂, ◌∙◌}
use Prim.Native.Nat.{ℕ, ◌-◌}
use native.Mathlib.Omega.{arith}
use Rattle.plan.specs.Plan.{plan_turn}
use Rattle.record.specs.Program.{block_size}
use Rattle.command.proofs.LookLaws.{bound-leaf, bound_leaf-value, leaf-kind, leaf-number, loop-read}
use Rattle.command.proofs.look_loop.Goals as goal

pub get_u32-variable-requires : goal.get_u32-variable-requires
get_u32-variable-requires c = omega (arith, (loop-read c.requires.1.1.1.1.0).room)

pub read-bound-requires : goal.read-bound-requires
read-bound-requires c = omega (arith, (loop-read c.requires.1.1.1.1.0).room)

pub get_u16-body-requires : goal.get_u16-body-requires
get_u16-body-requires c = omega (arith, (loop-read c.requires.1.1.1.1.0).room)

pub overflow_sub-body : goal.overflow_sub-body
overflow_sub-body c = omega (arith, (loop-read c.requires.1.1.1.1.0).stored, c.get_u16-body.ensures.0)

pub value-value-requires : goal.value-value-requires
value-value-requires c =
    let p = c.requires in
    let v = loop-read p.1.1.1.1.0 in
    let leaf = c.read-bound.ensures in
    bound-leaf p.1.0 (leaf-kind c.args.buf.now c.args.place.at leaf.kind v.kind) (leaf-number c.args.buf.now c.args.place.at leaf.number v.number) p.1.1.1.1.1

pub returns : goal.returns
returns c =
    λ x b c' r h w.
    let v = loop-read h in
    let leaf = c.read-bound.ensures in
    let s : c.get_u16-body.result - 20 ≡ block_size c' = omega (arith, v.stored, c.get_u16-body.ensures.0) in
    let n = c.value-value.ensures ∙ bound_leaf-value c.args.store.now b (leaf-kind c.args.buf.now c.args.place.at leaf.kind v.kind) (leaf-number c.args.buf.now c.args.place.at leaf.number v.number) in
    c.turn.ensures
    ∙ ap₂ (λ (m d : ℕ). plan_turn c.args.place.levels c.args.place.at m d c.value-value.result) (c.get_u32-variable.ensures ∙ v.variable) s
    ∙ ap (plan_turn c.args.place.levels c.args.place.at x (block_size c')) n
