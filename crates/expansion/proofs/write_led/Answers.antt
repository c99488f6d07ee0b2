-- A lead and what follows it are one store.
use native.Mathlib.Omega.{arith}
use Prim.Native.Nat.{◌+◌, ◌-◌}
use Rattle.expansion.proofs.WritingLaws.{led-written}
use Rattle.record.specs.Kind.{kind_number}
use Rattle.expansion.proofs.write_led.Goals as goal

pub returns : goal.returns
returns c =
    let a = c.args in
    let pre = c.requires in
    led-written a.piece.bytes.now a.out.now _ _ a.piece.at (kind_number a.kind) a.size a.v (a.piece.at + a.skip) (a.piece.n - a.skip) a.o c.get_u32-x.result c.get_u32-x.ensures c.put_lead.ensures c.copy.ensures (omega (arith, pre.3))
