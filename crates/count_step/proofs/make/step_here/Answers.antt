use Rattle.count_step.proofs.FlatLaws.{flat-assign, flat-end, flat-loop, makes-assign, makes-end, makes-loop}
use Rattle.count_step.proofs.make.step_here.Goals as goal

pub step_close-requires : goal.step_close-requires
step_close-requires c =
    (c.args.store.now, flat-end c.args.program.start c.args.n c.args.program.bytes.now c.args.words.now c.args.store.now c.args.here c.in-End.is c.requires)

pub returns-in-End : goal.returns-in-End
returns-in-End c =
    makes-end c.args.program.start c.args.n c.args.program.bytes.now c.args.words.now c.args.store.now c.args.here _ _ _ c.in-End.is (c.step_close.ensures c.args.store.now)

pub step_assign-requires : goal.step_assign-requires
step_assign-requires c =
    flat-assign c.args.program.start c.args.n c.args.program.bytes.now c.args.words.now c.args.store.now c.args.here c.in-Assignment.is c.requires

pub returns-in-Assignment : goal.returns-in-Assignment
returns-in-Assignment c =
    makes-assign c.args.program.start c.args.n c.args.program.bytes.now c.args.words.now c.args.store.now c.args.here _ _ _ c.in-Assignment.is c.step_assign.ensures

pub step_enter-requires : goal.step_enter-requires
step_enter-requires c =
    flat-loop c.args.program.start c.args.n c.args.program.bytes.now c.args.words.now c.args.store.now c.args.here c.in_default.not-End c.in_default.not-Assignment c.requires

pub returns-in_default : goal.returns-in_default
returns-in_default c =
    makes-loop c.args.program.start c.args.n c.args.program.bytes.now c.args.words.now c.args.store.now c.args.here _ _ _ c.in_default.not-End c.in_default.not-Assignment c.step_enter.ensures
