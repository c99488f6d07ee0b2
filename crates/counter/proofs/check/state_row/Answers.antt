-- One law for each way out: row 13, row 16, none.
use Rattle.counter.proofs.CheckLaws.{row-above, row-none, row-wrong}
use Rattle.counter.proofs.check.state_row.Goals as goal

pub returns-then-wrong : goal.returns-then-wrong
returns-then-wrong c = row-wrong c.args.wrong c.args.above c.if-wrong.true

pub returns-then-above : goal.returns-then-above
returns-then-above c =
    row-above c.args.wrong c.args.above c.if-wrong.false c.if-above.true

pub returns : goal.returns
returns c =
    row-none c.args.wrong c.args.above c.if-wrong.false c.if-above.false
