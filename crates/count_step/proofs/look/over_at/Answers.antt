use native.Mathlib.Omega.{arith}
use mathlib.Core.Path.{ap, sym, ◌∙◌}
use lib.ListN.{length}
use Prim.Native.Nat.{◌+◌}
use Rattle.rules.specs.Store.{lookup, up_to}
use Rattle.record.specs.declared.kind.Kind.TheVariants.{Assignment, PlusOne}
use Rattle.record.proofs.KindLaws.{named-number, not-number}
use Rattle.count_step.proofs.LookLaws.{expr-inc, expr-other, first-assign, first-other, spot-room}
use Rattle.count_step.proofs.look.over_at.Goals as goal

pub record_at-requires : goal.record_at-requires
record_at-requires c =
    omega (arith, spot-room c.args.program.bytes.now (c.args.program.start + c.args.i) c.requires.0 c.requires.1.0 c.requires.1.1.0)

pub returns-in_default : goal.returns-in_default
returns-in_default c = λ b s h w.
    first-other c.args.program.bytes.now (c.args.program.start + c.args.i) (up_to c.args.program.largest) c.args.store.now b s h (not-number Assignment tt c.record_at.ensures c.in_default.not-Assignment)

pub kind_at-requires : goal.kind_at-requires
kind_at-requires c =
    omega (arith, (first-assign c.args.program.bytes.now (c.args.program.start + c.args.i) (length c.args.store.now) c.requires.0 c.requires.1.0 c.requires.1.1.0 (named-number c.in-Assignment.ensures)).room)

pub returns-in_default-kind_at : goal.returns-in_default-kind_at
returns-in_default-kind_at c = λ b s h w.
    let a = first-assign c.args.program.bytes.now (c.args.program.start + c.args.i) (length c.args.store.now) b s h (named-number c.in-Assignment.ensures) in
    expr-other (up_to c.args.program.largest) a.expr c.args.store.now _ a.kind (not-number PlusOne tt c.kind_at.ensures c.in_default-kind_at.not-PlusOne) ∙ sym (a.is (up_to c.args.program.largest) c.args.store.now)

pub number_at-requires : goal.number_at-requires
number_at-requires c =
    omega (arith, (first-assign c.args.program.bytes.now (c.args.program.start + c.args.i) (length c.args.store.now) c.requires.0 c.requires.1.0 c.requires.1.1.0 (named-number c.in-Assignment.ensures)).room)

pub value_of-requires : goal.value_of-requires
value_of-requires c =
    let a = first-assign c.args.program.bytes.now (c.args.program.start + c.args.i) (length c.args.store.now) c.requires.0 c.requires.1.0 c.requires.1.1.0 (named-number c.in-Assignment.ensures) in
    let u = a.scope c.requires.1.1.1 (named-number c.in-PlusOne.ensures) in
    (omega (arith, u.0, c.number_at.ensures), omega (arith, u.1, c.number_at.ensures))

pub returns-in-PlusOne : goal.returns-in-PlusOne
returns-in-PlusOne c = λ b s h w.
    let a = first-assign c.args.program.bytes.now (c.args.program.start + c.args.i) (length c.args.store.now) b s h (named-number c.in-Assignment.ensures) in
    expr-inc c.args.program.largest a.expr c.args.store.now c.value_of.result (sym a.kind ∙ named-number c.in-PlusOne.ensures) (c.value_of.ensures ∙ ap (lookup c.args.store.now) (c.number_at.ensures ∙ a.number)) ∙ sym (a.is (up_to c.args.program.largest) c.args.store.now)
