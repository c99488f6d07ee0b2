use native.Mathlib.Omega.{arith}
use mathlib.Core.Path.{ap, ◌∙◌}
use Rattle.state_words.specs.Entry.{pushed}
use Rattle.count_step.proofs.CodeLaws.{loop-asks, loop-makes, loop-place}
use Rattle.count_step.proofs.ways.step_enter.Goals as goal

pub place-i-requires : goal.place-i-requires
place-i-requires c =
    loop-place c.args.program.start c.args.n c.args.program.bytes.now c.args.words.now c.args.store.now c.requires

pub leaf_at-requires : goal.leaf_at-requires
leaf_at-requires c =
    let a = loop-asks c.args.program.start c.args.n c.args.program.bytes.now c.args.words.now c.args.store.now c.requires c.place-i.result c.place-i.ensures in
    omega (arith, a.room)

pub value-value-requires : goal.value-value-requires
value-value-requires c =
    let a = loop-asks c.args.program.start c.args.n c.args.program.bytes.now c.args.words.now c.args.store.now c.requires c.place-i.result c.place-i.ensures in
    a.number c.leaf_at.ensures.kind c.leaf_at.ensures.number

pub overflow_cast-i : goal.overflow_cast-i
overflow_cast-i c =
    let a = loop-asks c.args.program.start c.args.n c.args.program.bytes.now c.args.words.now c.args.store.now c.requires c.place-i.result c.place-i.ensures in
    omega (arith, a.room, a.low)

pub push-requires : goal.push-requires
push-requires c =
    (loop-asks c.args.program.start c.args.n c.args.program.bytes.now c.args.words.now c.args.store.now c.requires c.place-i.result c.place-i.ensures).few

pub overflow_add-result : goal.overflow_add-result
overflow_add-result c =
    let a = loop-asks c.args.program.start c.args.n c.args.program.bytes.now c.args.words.now c.args.store.now c.requires c.place-i.result c.place-i.ensures in
    omega (arith, a.few)

pub returns : goal.returns
returns c =
    loop-makes c.args.program.start c.args.n c.args.program.bytes.now c.args.words.now c.args.store.now c.place-i.result c.place-i.ensures c.leaf_at.ensures.kind c.leaf_at.ensures.number c.value-value.ensures _
    (c.push.ensures ∙ ap (pushed c.args.words.now c.args.n) c.in_play.ensures)
