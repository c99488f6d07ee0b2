use native.Mathlib.Omega.{arith}
use mathlib.Core.Path.{refl}
use Rattle.record.specs.declared.kind.Kind.TheVariants.{Loop}
use Rattle.record.proofs.KindLaws.{named-number, not-number}
use Rattle.readback.proofs.OpenRecordsLaws.{closed-loop, closed-nest}
use Rattle.readback.proofs.close.Goals as goal

pub overflow_add-head-in-Loop : goal.overflow_add-head-in-Loop
overflow_add-head-in-Loop c =
    omega (arith, c.requires.1 (named-number c.in-Loop.ensures), c.put_u16.auto.buf)

pub overflow_sub-n-in-Loop : goal.overflow_sub-n-in-Loop
overflow_sub-n-in-Loop c =
    omega (arith, c.requires.1 (named-number c.in-Loop.ensures), c.put_u16.auto.buf)

pub put_u16-requires-in-Loop : goal.put_u16-requires-in-Loop
put_u16-requires-in-Loop c =
    omega (arith, c.requires.1 (named-number c.in-Loop.ensures), c.put_u16.auto.buf)

pub returns-in-Loop : goal.returns-in-Loop
returns-in-Loop c =
    (closed-loop c.args.out.now _ c.args.head c.args.o _ _ refl refl c.put_u16.ensures (named-number c.in-Loop.ensures) _ c.put_u16-in-Loop.ensures, c.get_u16-outer.ensures.0)

pub returns-in_default : goal.returns-in_default
returns-in_default c =
    (closed-nest c.args.out.now _ c.args.head c.args.o _ _ refl refl c.put_u16.ensures (not-number Loop tt c.read-kind.ensures c.in_default.not-Loop), c.get_u16-outer.ensures.0)
