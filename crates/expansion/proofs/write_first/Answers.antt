-- One law for each way out.
use native.Mathlib.Omega.{arith}
use Rattle.expansion.proofs.EntryLaws.{size-at-zero, size-storing, size-unrolling}
use Rattle.expansion.proofs.WritingLaws.{storing-written, unrolling-written, zero-written}
use Rattle.expansion.proofs.write_first.Goals as goal

pub put_head-requires : goal.put_head-requires
put_head-requires c =
    let a = c.args in
    let pre = c.requires in
    omega (arith, size-storing a.piece.n a.held.progress a.held.running c.if-held-eq-TO_STORE.true, pre.2, pre.0)

pub write_turn-requires : goal.write_turn-requires
write_turn-requires c =
    let a = c.args in
    let pre = c.requires in
    (pre.0, pre.1, omega (arith, size-storing a.piece.n a.held.progress a.held.running c.if-held-eq-TO_STORE.true, pre.2, pre.0, c.put_head.auto.buf))

pub returns-then-held-eq-TO_STORE : goal.returns-then-held-eq-TO_STORE
returns-then-held-eq-TO_STORE c =
    let a = c.args in
    let pre = c.requires in
    storing-written a.piece.bytes.now a.piece.at a.piece.n a.held.reached a.out.now _ a.o a.held.progress a.held.running _ c.if-held-eq-TO_STORE.true c.put_head.ensures c.write_turn.ensures
    (omega (arith, size-storing a.piece.n a.held.progress a.held.running c.if-held-eq-TO_STORE.true, pre.2, pre.0))

pub write_led-requires : goal.write_led-requires
write_led-requires c =
    let a = c.args in
    let pre = c.requires in
    (omega (arith, pre.0), omega (arith, pre.0), pre.1, omega (arith, size-unrolling a.piece.n a.held.progress a.held.running c.if-held-eq-TO_STORE.false c.if-held-eq0.true, pre.2, pre.0))

pub returns-then-held-eq0 : goal.returns-then-held-eq0
returns-then-held-eq0 c =
    let a = c.args in
    unrolling-written a.piece.bytes.now a.piece.at a.piece.n a.held.reached a.out.now _ a.o a.held.progress a.held.running c.if-held-eq-TO_STORE.false c.if-held-eq0.true c.write_led.ensures

pub put_head-requires-else-held-eq0 : goal.put_head-requires-else-held-eq0
put_head-requires-else-held-eq0 c =
    let a = c.args in
    omega (arith, size-at-zero a.piece.n a.held.progress a.held.running c.if-held-eq-TO_STORE.false c.if-held-eq0.false, c.requires.2)

pub returns-else-held-eq0 : goal.returns-else-held-eq0
returns-else-held-eq0 c =
    let a = c.args in
    zero-written a.piece.bytes.now a.piece.at a.piece.n a.held.reached a.out.now _ a.o a.held.progress a.held.running c.if-held-eq-TO_STORE.false c.if-held-eq0.false c.put_head-else-held-eq0.ensures
