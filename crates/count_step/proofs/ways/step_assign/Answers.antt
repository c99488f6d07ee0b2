use native.Mathlib.Omega.{arith}
use mathlib.Core.Path.{◌∙◌, ap, refl}
use Rattle.rules.specs.Store.{update}
use Rattle.count_step.proofs.CodeLaws.{assign-asks, assign-bind, assign-dec, assign-inc, assign-place}
use Rattle.count_step.proofs.ways.step_assign.Goals as goal

pub place-i-requires : goal.place-i-requires
place-i-requires c =
    assign-place c.args.program.start c.args.n c.args.program.bytes.now c.args.words.now c.args.store.now c.requires

pub variable_at-variable-requires : goal.variable_at-variable-requires
variable_at-variable-requires c =
    let a = assign-asks c.args.program.start c.args.n c.args.program.bytes.now c.args.words.now c.args.store.now c.requires c.place-i.result c.place-i.ensures in
    omega (arith, a.room)

pub leaf_at-expression-requires : goal.leaf_at-expression-requires
leaf_at-expression-requires c =
    (assign-asks c.args.program.start c.args.n c.args.program.bytes.now c.args.words.now c.args.store.now c.requires c.place-i.result c.place-i.ensures).room

pub value-value-requires : goal.value-value-requires
value-value-requires c =
    let a = assign-asks c.args.program.start c.args.n c.args.program.bytes.now c.args.words.now c.args.store.now c.requires c.place-i.result c.place-i.ensures in
    a.number c.leaf_at-expression.ensures.kind c.leaf_at-expression.ensures.number

pub overflow_add-value : goal.overflow_add-value
overflow_add-value c =
    let a = assign-asks c.args.program.start c.args.n c.args.program.bytes.now c.args.words.now c.args.store.now c.requires c.place-i.result c.place-i.ensures in
    omega (arith, a.fits c.leaf_at-expression.ensures.kind c.leaf_at-expression.ensures.number c.value-value.ensures c.in-PlusOne.is)

pub returns-in-PlusOne : goal.returns-in-PlusOne
returns-in-PlusOne c =
    assign-inc c.args.program.start c.args.n c.args.program.bytes.now c.args.words.now c.args.store.now c.place-i.result c.place-i.ensures _ _ c.leaf_at-expression.ensures.kind c.leaf_at-expression.ensures.number c.value-value.ensures
    c.in-PlusOne.is c.wait.ensures refl

pub returns-in-MinusOne : goal.returns-in-MinusOne
returns-in-MinusOne c =
    assign-dec c.args.program.start c.args.n c.args.program.bytes.now c.args.words.now c.args.store.now c.place-i.result c.place-i.ensures _ _ c.leaf_at-expression.ensures.kind c.leaf_at-expression.ensures.number c.value-value.ensures
    c.in-MinusOne.is _ c.minus_one.ensures c.wait-in-MinusOne.ensures refl

pub store_and_pass-requires : goal.store_and_pass-requires
store_and_pass-requires c =
    let a = assign-asks c.args.program.start c.args.n c.args.program.bytes.now c.args.words.now c.args.store.now c.requires c.place-i.result c.place-i.ensures in
    (a.few, omega (arith, a.room, a.low), (omega (arith, a.variable.0, c.variable_at-variable.ensures), omega (arith, a.variable.1, c.variable_at-variable.ensures)))

pub returns-in_default : goal.returns-in_default
returns-in_default c =
    assign-bind c.args.program.start c.args.n c.args.program.bytes.now c.args.words.now c.args.store.now c.place-i.result c.place-i.ensures _ _ c.leaf_at-expression.ensures.kind c.leaf_at-expression.ensures.number c.value-value.ensures
    c.in_default.not-PlusOne c.in_default.not-MinusOne c.store_and_pass.ensures.0
    (c.store_and_pass.ensures.1 ∙ ap (λ z. update c.args.store.now z c.value-value.result) c.variable_at-variable.ensures)
