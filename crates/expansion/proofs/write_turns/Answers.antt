-- To put the turns still to be written into the place that is left is to put all of them into the first.
use native.Mathlib.Omega.{arith}
use Prim.Native.Nat.{◌+◌, ◌-◌}
use mathlib.Core.Path.{refl, ◌∙◌}
use Rattle.expansion.proofs.PiecesLaws.{turn-room, turn-written}
use Rattle.expansion.proofs.WritingLaws.{turns-done, turns-left}
use Rattle.expansion.proofs.write_turns.Goals as goal

pub put_head-requires : goal.put_head-requires
put_head-requires c =
    let a = c.args in
    let pre = c.requires in
    let lp = c.loop-done in
    let r = turn-room a.piece.bytes.now a.piece.at a.piece.n pre.0 pre.1 a.reached pre.4.0 (a.turns - lp.done) lp.first lp.last (omega arith) (lp.invariant.2 pre.4.0 pre.4.1).1 in
    omega (arith, pre.0, lp.invariant.0, lp.invariant.1)

pub overflow_sub-last-in-loop-done-2 : goal.overflow_sub-last-in-loop-done-2
overflow_sub-last-in-loop-done-2 c =
    let a = c.args in
    let pre = c.requires in
    let lp = c.loop-done in
    let r = turn-room a.piece.bytes.now a.piece.at a.piece.n pre.0 pre.1 a.reached pre.4.0 (a.turns - lp.done) lp.first lp.last (omega arith) (lp.invariant.2 pre.4.0 pre.4.1).1 in
    omega (arith, pre.0)

pub write_turn-requires : goal.write_turn-requires
write_turn-requires c =
    let a = c.args in
    let pre = c.requires in
    let lp = c.loop-done in
    let r = turn-room a.piece.bytes.now a.piece.at a.piece.n pre.0 pre.1 a.reached pre.4.0 (a.turns - lp.done) lp.first lp.last (omega arith) (lp.invariant.2 pre.4.0 pre.4.1).1 in
    (pre.0, pre.1, omega (arith, pre.0, lp.invariant.0, lp.invariant.1, c.put_head.auto.buf))

pub loop-done-preserved : goal.loop-done-preserved
loop-done-preserved c =
    let a = c.args in
    let pre = c.requires in
    let lp = c.loop-done in (
      c.write_turn.auto.out ∙ c.put_head.auto.buf ∙ lp.invariant.0,
      omega (arith, lp.invariant.1),
      λ m h. let g = lp.invariant.2 m h in
          let w = turn-written a.piece.bytes.now a.piece.at a.piece.n pre.0 pre.1 a.reached m lp.out _ _ (a.turns - lp.done) (a.reached + (a.turns - lp.done)) lp.first lp.last (lp.last - (a.piece.n - 4)) (omega arith) refl g.1 (omega (arith, lp.invariant.0, lp.invariant.1)) c.put_head.ensures refl c.write_turn.ensures in
          turns-left a.piece.bytes.now a.piece.at a.piece.n a.reached m _ (lp.first + 4) _ _ (omega arith) (w.0 ∙ g.0) w.1,
    )

pub returns : goal.returns
returns c =
    let a = c.args in
    let lp = c.loop-done in
    λ m h. turns-done a.piece.bytes.now a.piece.at a.piece.n a.reached (a.turns - lp.done) m a.out.now lp.out a.hole.front lp.first lp.last _ (omega arith) (lp.invariant.2 m h) (omega (arith, lp.invariant.0, lp.invariant.1))
