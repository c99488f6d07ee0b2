-- What is left to write of the atoms, stored now, gives all of them.
use native.Mathlib.Omega.{arith}
use mathlib.Core.Path.{sym, ◌∙◌, ap}
use Prim.Native.Nat.{ℕ}
use Rattle.buffer.specs.Slice.{put}
use Rattle.place.specs.Heads.{record_head}
use Rattle.translator.proofs.TupleLaws.{all-stores, atoms-end, atoms-turn}
use Rattle.translator.proofs.write_tuple.Goals as goal

pub loop-x-preserved : goal.loop-x-preserved
loop-x-preserved c =
    let l = c.loop-x in
    let few = c.requires in
    let n = c.put_head.auto.buf in
    record {
      place = omega arith;
      kept = c.put_leaf.auto.buf ∙ l.invariant.kept;
      same = atoms-turn l.out _ l.p l.x c.args.k (omega arith) (omega arith) c.put_leaf.ensures ∙ l.invariant.same;
    }

pub returns : goal.returns
returns c =
    let a = c.args in
    let l = c.loop-x in
    let room = c.requires in
    let head = c.put_head.ensures ∙ ap (λ (y : ℕ). put a.out.now a.o (record_head 36 y)) c.tuple_size.ensures in
    sym (atoms-end l.out l.p l.x a.k (omega arith)) ∙ l.invariant.same ∙ all-stores a.out.now _ a.o a.k (omega arith) head
