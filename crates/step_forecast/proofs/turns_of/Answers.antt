use native.Mathlib.Omega.{arith}
use mathlib.Core.Path.{◌∙◌}
use Rattle.command.proofs.LookLaws.{bound-leaf, bound_leaf-value, leaf-kind, leaf-number, loop-read}
use Rattle.step_forecast.proofs.turns_of.Goals as goal

pub read-bound-requires : goal.read-bound-requires
read-bound-requires c = omega (arith, (loop-read c.requires.1.1.1.1.0).room)

pub value-requires : goal.value-requires
value-requires c =
    let p = c.requires in
    let v = loop-read p.1.1.1.1.0 in
    let leaf = c.read-bound.ensures in
    bound-leaf p.1.0 (leaf-kind c.args.src.now c.args.at leaf.kind v.kind) (leaf-number c.args.src.now c.args.at leaf.number v.number) p.1.1.1.1.1

pub returns : goal.returns
returns c =
    let leaf = c.read-bound.ensures in
    (λ x m b r h. let v = loop-read h in c.from.ensures ∙ c.value.ensures ∙ bound_leaf-value c.args.store.now m (leaf-kind c.args.src.now c.args.at leaf.kind v.kind) (leaf-number c.args.src.now c.args.at leaf.number v.number), omega arith)
