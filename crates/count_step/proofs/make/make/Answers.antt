use Rattle.count_step.proofs.ShapeLaws.{way-here, way-shut, way-sum}
use Rattle.count_step.proofs.WholeLaws.{is-shut, is_sum, makes-shut, makes-sum, opened-makes, opened-stands}
use Rattle.count_step.proofs.make.make.Goals as goal

pub step_shut-requires : goal.step_shut-requires
step_shut-requires c =
    is-shut c.args.program.start c.args.program.used c.args.n c.args.program.bytes.now c.args.words.now c.args.store.now (way-shut c.requires.0.2 c.requires.1 c.in-Shut.is) c.requires.0

pub returns-in-Shut : goal.returns-in-Shut
returns-in-Shut c = λ P s h.
    makes-shut c.args.program.start c.args.program.used c.args.n c.args.program.bytes.now c.args.words.now c.args.store.now (way-shut h c.requires.1 c.in-Shut.is) _ _ c.step_shut.result c.step_shut.ensures P s h

pub step_sum-requires : goal.step_sum-requires
step_sum-requires c =
    let u = way-sum c.requires.0.2 c.requires.1 c.in-Waits.is in
    is_sum c.args.program.start c.args.program.used c.args.n c.args.program.bytes.now c.args.words.now c.args.store.now u.0 u.1 c.requires.0

pub returns-in-Waits : goal.returns-in-Waits
returns-in-Waits c = λ P s h.
    let u = way-sum h c.requires.1 c.in-Waits.is in
    makes-sum c.args.program.start c.args.program.used c.args.n c.args.program.bytes.now c.args.words.now c.args.store.now u.0 u.1 _ _ c.args.n c.step_sum.ensures P s h

pub open_at-many-requires : goal.open_at-many-requires
open_at-many-requires c =
    let v = way-here c.requires.0.2 c.requires.1 c.in-Here.first c.in-Here.is in
    (c.requires.0.0, v.0, v.1, v.2, _, v.4)

pub step_here-requires : goal.step_here-requires
step_here-requires c =
    let v = way-here c.requires.0.2 c.requires.1 c.in-Here.first c.in-Here.is in
    let o = c.open_at-many.ensures c.requires.0.0 v.0 v.1 v.2 _ v.4 v.5 in
    opened-stands c.args.store.now c.requires.0.1 v.3 o.0 c.open_at-many.result.1 o.1 o.2 c.requires.0.3

pub returns-in-Here : goal.returns-in-Here
returns-in-Here c = λ P s h.
    let v = way-here h c.requires.1 c.in-Here.first c.in-Here.is in
    let o = c.open_at-many.ensures P v.0 v.1 v.2 _ v.4 v.5 in
    opened-makes c.args.store.now s v.3 o.0 c.open_at-many.result.1 o.1 o.2 _ _ c.step_here.result c.step_here.ensures
