-- Each turn leaves the end as it was: what is written, and what is left to do, make the same block.
use native.Mathlib.Omega.{arith}
use mathlib.Core.Path.{refl, ◌∙◌}
use Rattle.record.specs.declared.kind.Kind.TheVariants.{LetOne, Rec, Tuple}
use Rattle.record.proofs.KindLaws.{named-number, not-number}
use Rattle.recognition.proofs.TermsLaws.{over_end, stands-any, turn, turn-any}
use Rattle.readback.proofs.WriteLaws.{fits-same, write_again, write-assign, write-close, write-end, write-first, write-loop, write-nest, write-room, write-start, write-to}
use Rattle.readback.proofs.write_block.Goals as goal

pub overflow_add-o : goal.overflow_add-o
overflow_add-o c = omega (arith, c.requires.0.1.room)

pub put_head-requires : goal.put_head-requires
put_head-requires c = omega (arith, c.requires.0.1.room)

pub loop-at-init : goal.loop-at-init
loop-at-init c =
    let q = c.requires.0 in
    rw c.between-terms.ensures (record {
      next = ((_, q.1.here), c.requires.1);
      over = record { source = refl; width = refl; end = refl };
      kept = refl;
      left = λ b f. write-start c.args.out.now b f c.requires.2 c.put_head.ensures c.put_head.auto.buf;
    })

pub read-requires : goal.read-requires
read-requires c =
    let q = c.requires.0 in
    let v = turn c.loop-at.invariant.over c.in-Some.ensures.steps in
    let s = write-to v.here (c.loop-at.invariant.left q.0 (fits-same q.1 c.put_head.auto.buf)) in
    omega (arith, write-room s v.some)

pub close-head-requires : goal.close-head-requires
close-head-requires c =
    let q = c.requires.0 in
    let v = turn c.loop-at.invariant.over c.in-Some.ensures.steps in
    let s = write-to v.here (c.loop-at.invariant.left q.0 (fits-same q.1 c.put_head.auto.buf)) in
    (write-close s v.some (named-number c.in-Tuple.ensures)).room

pub loop-at-preserved-in-Tuple : goal.loop-at-preserved-in-Tuple
loop-at-preserved-in-Tuple c =
    let v = turn c.loop-at.invariant.over c.in-Some.ensures.steps in
    record {
      next = c.in-Some.ensures.goes.keeps;
      over = v.over;
      kept = c.close-head.auto.out ∙ c.loop-at.invariant.kept;
      left = λ b f.
          let w = write-close (write-to v.here (c.loop-at.invariant.left b f)) v.some (named-number c.in-Tuple.ensures) in
          w.next _ _ _ c.close-head.ensures.0 c.close-head.ensures.1 c.close-head.auto.out v.step;
    }

pub write_let_one-requires : goal.write_let_one-requires
write_let_one-requires c =
    let q = c.requires.0 in
    let v = turn c.loop-at.invariant.over c.in-Some.ensures.steps in
    let s = write-to v.here (c.loop-at.invariant.left q.0 (fits-same q.1 c.put_head.auto.buf)) in
    let w = write-assign s v.some (named-number c.in-LetOne.ensures) in
    ((w.variable, w.expr, w.rest, w.here), w.room)

pub overflow_add-o-in-LetOne : goal.overflow_add-o-in-LetOne
overflow_add-o-in-LetOne c =
    let q = c.requires.0 in
    let v = turn c.loop-at.invariant.over c.in-Some.ensures.steps in
    let s = write-to v.here (c.loop-at.invariant.left q.0 (fits-same q.1 c.put_head.auto.buf)) in
    omega (arith, (write-assign s v.some (named-number c.in-LetOne.ensures)).room)

pub loop-at-preserved-in-LetOne : goal.loop-at-preserved-in-LetOne
loop-at-preserved-in-LetOne c =
    let v = turn c.loop-at.invariant.over c.in-Some.ensures.steps in
    record {
      next = c.in-Some.ensures.goes.keeps;
      over = v.over;
      kept = c.write_let_one.auto.out ∙ c.loop-at.invariant.kept;
      left = λ b f.
          let w = write-assign (write-to v.here (c.loop-at.invariant.left b f)) v.some (named-number c.in-LetOne.ensures) in
          w.next _ _ (c.write_let_one.ensures w.variable w.expr w.rest w.here) c.write_let_one.auto.out v.step;
    }

pub read-requires-in_default-read : goal.read-requires-in_default-read
read-requires-in_default-read c =
    let q = c.requires.0 in
    let v = turn c.loop-at.invariant.over c.in-Some.ensures.steps in
    let s = write-to v.here (c.loop-at.invariant.left q.0 (fits-same q.1 c.put_head.auto.buf)) in
    omega (arith, write-first s v.some (not-number Tuple tt c.read.ensures c.in_default-read.not-Tuple) (not-number LetOne tt c.read.ensures c.in_default-read.not-LetOne))

pub open_loop-requires : goal.open_loop-requires
open_loop-requires c =
    let q = c.requires.0 in
    let v = turn c.loop-at.invariant.over c.in-Some.ensures.steps in
    let s = write-to v.here (c.loop-at.invariant.left q.0 (fits-same q.1 c.put_head.auto.buf)) in
    let w = write-loop s v.some (not-number Tuple tt c.read.ensures c.in_default-read.not-Tuple) (not-number LetOne tt c.read.ensures c.in_default-read.not-LetOne) (named-number c.in-Rec.ensures) in
    ((c.args.k, w.variable, w.bound, w.body, w.here), w.room)

pub overflow_add-o-in-Rec : goal.overflow_add-o-in-Rec
overflow_add-o-in-Rec c =
    let q = c.requires.0 in
    let v = turn c.loop-at.invariant.over c.in-Some.ensures.steps in
    let s = write-to v.here (c.loop-at.invariant.left q.0 (fits-same q.1 c.put_head.auto.buf)) in
    let w = write-loop s v.some (not-number Tuple tt c.read.ensures c.in_default-read.not-Tuple) (not-number LetOne tt c.read.ensures c.in_default-read.not-LetOne) (named-number c.in-Rec.ensures) in
    omega (arith, w.room)

pub loop-at-smaller-in-Rec : goal.loop-at-smaller-in-Rec
loop-at-smaller-in-Rec c =
    let q = c.requires.0 in
    let v = turn c.loop-at.invariant.over c.in-Some.ensures.steps in
    let s = write-to v.here (c.loop-at.invariant.left q.0 (fits-same q.1 c.put_head.auto.buf)) in
    let w = write-loop s v.some (not-number Tuple tt c.read.ensures c.in_default-read.not-Tuple) (not-number LetOne tt c.read.ensures c.in_default-read.not-LetOne) (named-number c.in-Rec.ensures) in
    let inside = w.inside c.next.new.self.at v.step in
    let u = turn-any c.next-in-Rec.result v.over inside.1 c.next-in-Rec.ensures.steps in
    omega (arith, w.further _ _ v.step u.step, inside.0, v.here, v.some)

pub loop-at-preserved-in-Rec : goal.loop-at-preserved-in-Rec
loop-at-preserved-in-Rec c =
    let q = c.requires.0 in
    let v = turn c.loop-at.invariant.over c.in-Some.ensures.steps in
    let s = write-to v.here (c.loop-at.invariant.left q.0 (fits-same q.1 c.put_head.auto.buf)) in
    let w = write-loop s v.some (not-number Tuple tt c.read.ensures c.in_default-read.not-Tuple) (not-number LetOne tt c.read.ensures c.in_default-read.not-LetOne) (named-number c.in-Rec.ensures) in
    let inside = w.inside c.next.new.self.at v.step in
    let u = turn-any c.next-in-Rec.result v.over inside.1 c.next-in-Rec.ensures.steps in
    record {
      next = stands-any c.next.new.self c.next-in-Rec.new.self c.next-in-Rec.result (omega (arith, inside.1, v.over.end)) c.next-in-Rec.ensures.steps c.next-in-Rec.ensures.goes.keeps;
      over = u.over;
      kept = c.open_loop.auto.out ∙ c.loop-at.invariant.kept;
      left = λ b f.
          let w₁ = write-loop (write-to v.here (c.loop-at.invariant.left b f)) v.some (not-number Tuple tt c.read.ensures c.in_default-read.not-Tuple) (not-number LetOne tt c.read.ensures c.in_default-read.not-LetOne) (named-number c.in-Rec.ensures) in
          w₁.next _ _ _ (c.open_loop.ensures c.args.k w₁.variable w₁.bound w₁.body w₁.here) c.open_loop.auto.out v.step u.step;
    }

pub loop-at-preserved-in-Rec-derived : goal.loop-at-preserved-in-Rec-derived
loop-at-preserved-in-Rec-derived c =
    let q = c.requires.0 in
    let v = turn c.loop-at.invariant.over c.in-Some.ensures.steps in
    let s = write-to v.here (c.loop-at.invariant.left q.0 (fits-same q.1 c.put_head.auto.buf)) in
    let w = write-loop s v.some (not-number Tuple tt c.read.ensures c.in_default-read.not-Tuple) (not-number LetOne tt c.read.ensures c.in_default-read.not-LetOne) (named-number c.in-Rec.ensures) in
    let inside = w.inside c.next.new.self.at v.step in
    (stands-any c.next.new.self c.next-in-Rec.new.self c.next-in-Rec.result (omega (arith, inside.1, v.over.end)) c.next-in-Rec.ensures.steps c.next-in-Rec.ensures.goes.keeps, tt)

pub put_head-requires-in_default-read-2 : goal.put_head-requires-in_default-read-2
put_head-requires-in_default-read-2 c =
    let q = c.requires.0 in
    let v = turn c.loop-at.invariant.over c.in-Some.ensures.steps in
    let s = write-to v.here (c.loop-at.invariant.left q.0 (fits-same q.1 c.put_head.auto.buf)) in
    let w = write-nest s v.some (not-number Tuple tt c.read.ensures c.in_default-read.not-Tuple) (not-number LetOne tt c.read.ensures c.in_default-read.not-LetOne) (not-number Rec tt c.read-in_default-read.ensures c.in_default-read-2.not-Rec) in
    omega (arith, w.room)

pub overflow_add-o-in_default-read-2 : goal.overflow_add-o-in_default-read-2
overflow_add-o-in_default-read-2 c =
    let q = c.requires.0 in
    let v = turn c.loop-at.invariant.over c.in-Some.ensures.steps in
    let s = write-to v.here (c.loop-at.invariant.left q.0 (fits-same q.1 c.put_head.auto.buf)) in
    let w = write-nest s v.some (not-number Tuple tt c.read.ensures c.in_default-read.not-Tuple) (not-number LetOne tt c.read.ensures c.in_default-read.not-LetOne) (not-number Rec tt c.read-in_default-read.ensures c.in_default-read-2.not-Rec) in
    omega (arith, w.room)

pub loop-at-preserved : goal.loop-at-preserved
loop-at-preserved c =
    let v = turn c.loop-at.invariant.over c.in-Some.ensures.steps in
    record {
      next = c.in-Some.ensures.goes.keeps;
      over = v.over;
      kept = c.put_head-in_default-read-2.auto.buf ∙ c.loop-at.invariant.kept;
      left = λ b f.
          let s = write-to v.here (c.loop-at.invariant.left b f) in
          let w = write-nest s v.some (not-number Tuple tt c.read.ensures c.in_default-read.not-Tuple) (not-number LetOne tt c.read.ensures c.in_default-read.not-LetOne) (not-number Rec tt c.read-in_default-read.ensures c.in_default-read-2.not-Rec) in
          w.next _ _ c.put_head-in_default-read-2.ensures c.put_head-in_default-read-2.auto.buf v.step;
    }

pub returns : goal.returns
returns c =
    λ b f.
    let w = write-end (c.loop-at.invariant.left b (fits-same f c.put_head.auto.buf)) (over_end c.loop-at.invariant.over c.in_default.ensures.steps) in
    (w.0 ∙ write_again b _ c.args.out.now c.args.start c.put_head.ensures (omega (arith, f.room)), w.1)
