-- What is behind goes to the end of the place, and the turns fill what is left of it.
use native.Mathlib.Omega.{arith}
use Prim.Native.Nat.{◌+◌, ◌≤◌, ℕ}
use mathlib.Core.Path.{ap, sym, ◌∙◌}
use lib.ListN.{length}
use Rattle.expansion.specs.Entry.{as_held, to_come}
use Rattle.expansion.specs.Pieces.{turns_bytes}
use Rattle.expansion.proofs.WalkLaws.{some-held}
use Rattle.expansion.proofs.WritingLaws.{around-fills, around-none, around-turns, turns-top}
use Rattle.expansion.proofs.write_around.Goals as goal

pub overflow_sub-rest : goal.overflow_sub-rest
overflow_sub-rest c =
    let a = c.args in
    let pre = c.requires in
    (around-fills a.piece.bytes.now a.piece.at a.piece.n a.behind a.held.reached (to_come (as_held a.held)) pre.4.0 pre.2 a.hole.front a.hole.back pre.4.1).0

pub copy-requires : goal.copy-requires
copy-requires c =
    let a = c.args in
    let pre = c.requires in
    let h = around-fills a.piece.bytes.now a.piece.at a.piece.n a.behind a.held.reached (to_come (as_held a.held)) pre.4.0 pre.2 a.hole.front a.hole.back pre.4.1 in
    (pre.2, omega (arith, h.0, h.1, pre.3))

pub returns-then-turns-eq0 : goal.returns-then-turns-eq0
returns-then-turns-eq0 c =
    let a = c.args in
    let pre = c.requires in
    λ m h. around-none a.piece.bytes.now a.piece.at a.piece.n a.behind a.held.reached (to_come (as_held a.held)) m pre.2 a.hole.front a.hole.back h a.out.now _ pre.3 c.copy.ensures (sym c.to_come-turns.ensures ∙ c.if-turns-eq0.true) c.copy.auto.dst

pub write_turns-requires : goal.write_turns-requires
write_turns-requires c =
    let a = c.args in
    let pre = c.requires in
    let some : 1 ≤ to_come (as_held a.held) = some-held c.to_come-turns.result (to_come (as_held a.held)) c.to_come-turns.ensures c.if-turns-eq0.false in (
      pre.1 some,
      omega (arith, pre.2),
      omega (arith, pre.3, c.copy.auto.dst),
      omega (arith, turns-top (as_held a.held) c.to_come-turns.result c.to_come-turns.ensures c.if-turns-eq0.false pre.0),
      (pre.4.0, ap (λ (k : ℕ). a.hole.front + length (turns_bytes a.piece.bytes.now a.piece.at a.piece.n a.held.reached pre.4.0 k)) c.to_come-turns.ensures ∙ (around-fills a.piece.bytes.now a.piece.at a.piece.n a.behind a.held.reached (to_come (as_held a.held)) pre.4.0 pre.2 a.hole.front a.hole.back pre.4.1).1),
    )

pub returns : goal.returns
returns c =
    let a = c.args in
    let pre = c.requires in
    λ m h. around-turns a.piece.bytes.now a.piece.at a.piece.n a.behind a.held.reached (to_come (as_held a.held)) m pre.2 a.hole.front a.hole.back h a.out.now _ pre.3 c.copy.ensures _ _ _ c.to_come-turns.result c.to_come-turns.ensures (c.write_turns.ensures m)
