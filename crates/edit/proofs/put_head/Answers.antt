-- Two neighbouring stores are one head.
use Rattle.place.proofs.HeadsLaws.{put-head}
use Rattle.record.specs.Kind.{kind_number}
use Rattle.edit.proofs.put_head.Goals as goal

pub returns : goal.returns
returns c =
    cc (put-head c.args.buf.now c.args.at (kind_number c.args.kind) c.args.n c.requires)
