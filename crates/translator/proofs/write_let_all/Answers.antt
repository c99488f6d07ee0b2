-- The stores in a row are the head of the let-all, by whether its command is a loop.
use mathlib.Core.Path.{ap, refl, ◌∙◌, ◌≡◌}
use Prim.Native.Nat.{ℕ, ◌+◌, ◌-◌, ◌*◌}
use native.Mathlib.Omega.{arith}
use Rattle.buffer.specs.Slice.{put}
use Rattle.translator.specs.TranslationHeads.{lead_of}
use Rattle.record.proofs.KindLaws.{stands-not, stands-number}
use Rattle.translator.proofs.RowViewLaws.{bound-kind}
use Rattle.translator.proofs.TaskLaws.{head-room, loop-room}
use Rattle.translator.proofs.TranslationHeadsLaws.{loop-stores, nest-stores}
use Rattle.translator.proofs.write_let_all.Goals as goal

pub put_head-requires : goal.put_head-requires
put_head-requires c =
    let o = c.requires.0 in
    omega (arith, (head-room o.task o.some).1, c.requires.1)

pub stands_at-requires : goal.stands_at-requires
stands_at-requires c =
    let o = c.requires.0 in
    omega (arith, (head-room o.task o.some).0)

pub write_lead-requires : goal.write_lead-requires
write_lead-requires c =
    let o = c.requires.0 in
    let room = loop-room o.task o.some (stands-number c.stands_at.ensures c.if-stands_at.true) in
    let leaf = bound-kind o.task.row o.some (stands-number c.stands_at.ensures c.if-stands_at.true) in
    (omega (arith, room.0), leaf.0, leaf.1, omega (arith, room.1, c.requires.1, c.put_head.auto.buf))

pub write_tuple-requires : goal.write_tuple-requires
write_tuple-requires c =
    let o = c.requires.0 in
    let room = (loop-room o.task o.some (stands-number c.stands_at.ensures c.if-stands_at.true)).1 in
    (omega (arith, c.requires.1, c.put_head.auto.buf, c.write_lead.auto.out), o.task.few)

pub returns-then-stands_at : goal.returns-then-stands_at
returns-then-stands_at c =
    let a = c.args in
    let o = c.requires.0 in
    let f = c.requires.1 in
    let room = (loop-room o.task o.some (stands-number c.stands_at.ensures c.if-stands_at.true)).1 in
    let m : ℕ = a.inner.stop - a.inner.start in
    let n : 16 + c.tuple_size.result + m ≡ 20 + 8 * a.k + m = omega (arith, c.tuple_size.ensures) in
    let rec-lead = c.write_lead.ensures ∙ ap (λ (y : ℕ). put c.put_head.new.buf (a.whole.start + 4) (lead_of 39 y a.src.now a.whole.from)) n in
    loop-stores a.src.now a.k a.whole.from (a.whole.stop - a.whole.start) m _ refl a.out.now _ _ _ a.whole.start (stands-number c.stands_at.ensures c.if-stands_at.true) c.put_head.ensures rec-lead c.write_tuple.ensures (omega arith)

pub returns-else-stands_at : goal.returns-else-stands_at
returns-else-stands_at c =
    let a = c.args in
    nest-stores a.src.now a.k a.whole.from (a.whole.stop - a.whole.start) (a.inner.stop - a.inner.start) _ refl a.out.now _ a.whole.start (stands-not c.stands_at.ensures c.if-stands_at.false) c.put_head.ensures
