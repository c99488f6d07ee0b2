use mathlib.Core.Path.{◌∙◌}
use native.Mathlib.Omega.{arith}
use Rattle.place.proofs.TermViewLaws.{term-room}
use Rattle.redex.proofs.LookLaws.{found, plan-closed, plan-let_all, plan-tuple, whole}
use Rattle.rules.specs.Store.{up_to}
use Rattle.record.proofs.KindLaws.{named-number, not-number}
use Rattle.record.specs.declared.kind.Kind.TheVariants.{LetOne, Rec, Tuple}
use Rattle.redex.proofs.look.Goals as goal

pub open_levels-levels-requires : goal.open_levels-levels-requires
open_levels-levels-requires c =
    let p = c.requires.1.1.1 in
    (c.args.k, (c.requires.1.0, whole p.0 p.1.1.0 p.1.1.1 p.1.0))

pub overflow_mul-place : goal.overflow_mul-place
overflow_mul-place c =
    let p = c.requires.1.1.1 in
    omega (arith, term-room (found p.0 p.1.1.0 p.1.1.1 p.1.0 c.open_levels-levels.ensures))

pub overflow_add-place : goal.overflow_add-place
overflow_add-place c =
    let p = c.requires.1.1.1 in
    omega (arith, term-room (found p.0 p.1.1.0 p.1.1.1 p.1.0 c.open_levels-levels.ensures))

pub overflow_add-place-2 : goal.overflow_add-place-2
overflow_add-place-2 c =
    let p = c.requires.1.1.1 in
    omega (arith, term-room (found p.0 p.1.1.0 p.1.1.1 p.1.0 c.open_levels-levels.ensures))

pub read-requires : goal.read-requires
read-requires c =
    let p = c.requires.1.1.1 in
    omega (arith, term-room (found p.0 p.1.1.0 p.1.1.1 p.1.0 c.open_levels-levels.ensures))

pub look_let_one-requires : goal.look_let_one-requires
look_let_one-requires c =
    let p = c.requires.1.1.1 in
    ((c.args.k, (_, found p.0 p.1.1.0 p.1.1.1 p.1.0 c.open_levels-levels.ensures)), named-number c.in-LetOne.ensures)

pub returns-in-LetOne : goal.returns-in-LetOne
returns-in-LetOne c =
    λ hd t used h q st.
    plan-closed h q st c.requires.1.1.1.1.0 c.open_levels-levels.ensures (up_to c.args.largest) (c.look_let_one.ensures c.args.k)

pub look_rec-requires : goal.look_rec-requires
look_rec-requires c =
    let p = c.requires.1.1.1 in
    ((_, found p.0 p.1.1.0 p.1.1.1 p.1.0 c.open_levels-levels.ensures), named-number c.in-Rec.ensures)

pub returns-in-Rec : goal.returns-in-Rec
returns-in-Rec c =
    λ hd t used h q st.
    plan-closed h q st c.requires.1.1.1.1.0 c.open_levels-levels.ensures (up_to c.args.largest) (λ u a s. c.look_rec.ensures u a s (up_to c.args.largest))

pub returns-in-Tuple : goal.returns-in-Tuple
returns-in-Tuple c =
    λ hd t used h q st.
    c.finished.ensures ∙ plan-tuple h q st c.requires.1.1.1.1.0 c.open_levels-levels.ensures (up_to c.args.largest) (named-number c.in-Tuple.ensures)

pub returns-in_default : goal.returns-in_default
returns-in_default c =
    λ hd t used h q st.
    c.leave.ensures
    ∙ plan-let_all h q st c.requires.1.1.1.1.0 c.open_levels-levels.ensures (up_to c.args.largest) (not-number LetOne tt c.read.ensures c.in_default.not-LetOne) (not-number Rec tt c.read.ensures c.in_default.not-Rec) (not-number Tuple tt c.read.ensures c.in_default.not-Tuple)
