use mathlib.Core.Path.{◌∙◌}
use Rattle.std.proofs.Common.{arith, rules}
use Rattle.rules.specs.Store.{up_to}
use Rattle.command.proofs.LookLaws.{assign-bind, assign-dec, assign-inc, assign-read, expr-leaf, leaf-kind, leaf-number}
use Rattle.command.proofs.look_assign.Goals as goal

pub get_u32-variable-requires : goal.get_u32-variable-requires
get_u32-variable-requires c =
    omega (arith, (assign-read c.requires.1.1.1.0).room)

pub read-expression-requires : goal.read-expression-requires
read-expression-requires c =
    omega (arith, (assign-read c.requires.1.1.1.0).room)

pub value-value-requires : goal.value-value-requires
value-value-requires c =
    let v = assign-read c.requires.1.1.1.0 in
    let leaf = c.read-expression.ensures in
    expr-leaf c.requires.1.0 (leaf-kind c.args.buf.now c.args.place.at leaf.kind v.kind) (leaf-number c.args.buf.now c.args.place.at leaf.number v.number) c.requires.1.1.1.1

pub returns-in-PlusOne : goal.returns-in-PlusOne
returns-in-PlusOne c =
    λ x e r h w.
    c.raise.ensures
    ∙ assign-inc h (up_to c.args.largest) c.args.place.levels c.args.store.now c.get_u32-variable.ensures c.read-expression.ensures.kind c.read-expression.ensures.number c.value-value.ensures c.in-PlusOne.is

pub returns-in-MinusOne : goal.returns-in-MinusOne
returns-in-MinusOne c =
    λ x e r h w.
    c.evaluate.ensures
    ∙ assign-dec h (up_to c.args.largest) c.args.place.levels c.args.store.now c.get_u32-variable.ensures c.read-expression.ensures.kind c.read-expression.ensures.number c.value-value.ensures c.in-MinusOne.is _ (search rules)

pub returns-in_default : goal.returns-in_default
returns-in_default c =
    λ x e r h w.
    c.bind.ensures
    ∙ assign-bind h (up_to c.args.largest) c.args.place.levels c.args.store.now c.get_u32-variable.ensures c.read-expression.ensures.kind c.read-expression.ensures.number c.value-value.ensures c.in_default.not-PlusOne c.in_default.not-MinusOne
