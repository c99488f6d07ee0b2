use Rattle.counter.proofs.ExpandLaws.{no_room, room-behind}
use Rattle.counter.proofs.expand.fits.Goals as goal

pub returns-then-room-start : goal.returns-then-room-start
returns-then-room-start c = no_room c.args.room c.args.start c.args.size c.if-room-start.true

pub returns : goal.returns
returns c = room-behind c.args.room c.args.start c.args.size c.if-room-start.false
