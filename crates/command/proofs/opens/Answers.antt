use mathlib.Core.Path.{sym}
use Rattle.place.proofs.PathLaws.{opens-kind, opens-test}
use Rattle.record.proofs.KindLaws.{named-number, not-number}
use Rattle.record.specs.declared.kind.Kind.TheVariants.{Block}
use Rattle.command.proofs.opens.Goals as goal

pub returns-in-Block : goal.returns-in-Block
returns-in-Block c =
    opens-test c.args.buf.now c.args.p c.get_u16.result (named-number c.in-Block.ensures) c.get_u16.ensures.0

pub returns-in_default : goal.returns-in_default
returns-in_default c = sym (opens-kind c.args.buf.now c.args.p (not-number Block tt c.read.ensures c.in_default.not-Block))
