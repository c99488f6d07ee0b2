-- To write what is left into the place that is left is to write the whole into the first.
use native.Mathlib.Omega.{arith}
use Prim.Native.Nat.{◌*◌, ◌+◌, ◌≤◌, ℕ}
use mathlib.Core.Path.{ap, refl, subst, sym, ◌∙◌, ◌≡◌}
use lib.ListN.{get_or, get_or-eq_default, length}
use Rattle.buffer.specs.Slice.{put}
use Rattle.state_words.specs.declared.EntryWords.{EntryWords}
use Rattle.expansion.specs.Entry.{inside_of, opens, to_come}
use Rattle.expansion.specs.Pieces.{first_bytes}
use Rattle.expansion.specs.Walk.{IsHeld, block_of}
use Rattle.expansion.proofs.PiecesLaws.{length-first}
use Rattle.expansion.proofs.WalkLaws.{around-entry, at-held, ended, held-around, left-room, length-block_of, opened, shut, some-held}
use Rattle.expansion.proofs.WritingLaws.{around-bytes, bytes-fill, narrowed-done, shut-bytes, writing_start, writing_step, writing-same}
use Rattle.expansion.proofs.write_expansion.Goals.{else-loop-i-test, then-loop-i-test+then-held-eq-NONE}
use Rattle.expansion.proofs.write_expansion.Goals as goal

pub expansion_size-requires : goal.expansion_size-requires
expansion_size-requires c =
    let pre = c.requires in
    ((pre.0.0, pre.0.1, pre.0.2), pre.1)

pub overflow_add-hole : goal.overflow_add-hole
overflow_add-hole c =
    let pre = c.requires in
    omega (arith, c.expansion_size.ensures.0 pre.0.0 pre.0.1 pre.0.2, pre.0.3, pre.2)

pub overflow_sub-end : goal.overflow_sub-end
overflow_sub-end c = omega (arith, c.requires.0.2.ends)

pub loop-i-init : goal.loop-i-init
loop-i-init c =
    let a = c.args in
    let pre = c.requires in (
      refl,
      omega (arith, c.expansion_size.ensures.0 pre.0.0 pre.0.1 pre.0.2, pre.0.3),
      λ P s g. writing_start a.program.bytes.now a.words.now a.program.start a.program.used P s g a.out.now a.front (a.front + c.expansion_size.result) _ (ap (λ (k : ℕ). a.front + k) (c.expansion_size.ensures.0 P s g)) refl,
    )

pub overflow_add-piece : goal.overflow_add-piece
overflow_add-piece c =
    let pre = c.requires in
    let z = c.loop-i.invariant.2 pre.0.0 pre.0.1 pre.0.2 in
    omega (arith, left-room z.left, pre.1)

pub size_at-requires : goal.size_at-requires
size_at-requires c =
    let a = c.args.program in
    let lp = c.loop-i in
    let pre = c.requires in
    let z = lp.invariant.2 pre.0.0 pre.0.1 pre.0.2 in
    let some = some-held c.entry-held.result.what _ (ap (λ (w : EntryWords). w.what) c.entry-held.ensures) c.if-held-eq-NONE.false in
    let d = held-around a.bytes.now c.args.words.now a.start (3 + 6 * lp.i) lp.p lp.end z.inner c.told-words z.left some in
    omega (arith, d.1.high, d.1.low, d.1.room)

pub overflow_add-p : goal.overflow_add-p
overflow_add-p c =
    let pre = c.requires in
    let z = c.loop-i.invariant.2 pre.0.0 pre.0.1 pre.0.2 in
    omega (arith, left-room z.left, pre.1, c.size_at.ensures.1)

pub overflow_sub-end-in-loop-i : goal.overflow_sub-end-in-loop-i
overflow_sub-end-in-loop-i c =
    let a = c.args.program in
    let lp = c.loop-i in
    let pre = c.requires in
    let z = lp.invariant.2 pre.0.0 pre.0.1 pre.0.2 in
    let some = some-held c.entry-held.result.what _ (ap (λ (w : EntryWords). w.what) c.entry-held.ensures) c.if-held-eq-NONE.false in
    let d = held-around a.bytes.now c.args.words.now a.start (3 + 6 * lp.i) lp.p lp.end z.inner c.told-words z.left some in
    omega (arith, d.1.high, c.size_at.ensures.0)

pub write_around-hole-requires : goal.write_around-hole-requires
write_around-hole-requires c =
    let a = c.args.program in
    let lp = c.loop-i in
    let pre = c.requires in
    let eh = c.entry-held.ensures in
    let ah = at-held c.entry-held.result c.args.words.now lp.i eh in
    let z = lp.invariant.2 pre.0.0 pre.0.1 pre.0.2 in
    let some = some-held c.entry-held.result.what _ (ap (λ (w : EntryWords). w.what) eh) c.if-held-eq-NONE.false in
    let d = held-around a.bytes.now c.args.words.now a.start (3 + 6 * lp.i) lp.p lp.end z.inner c.told-words z.left some in
    let turns = ap to_come ah in (
      subst IsHeld (sym ah) (around-entry d.1),
      λ h. omega (arith, d.1.long (omega arith), c.size_at.ensures.0),
      omega (arith, d.1.high, d.1.room, c.size_at.ensures.0),
      omega (arith, lp.invariant.0, lp.invariant.1),
      (d.0, bytes-fill z.inner _ lp.hole.front lp.hole.back (around-bytes a.bytes.now c.args.words.now a.start (3 + 6 * lp.i) lp.p lp.end z.inner d.1 c.size_at.result _ _ c.size_at.ensures.0 (ap (λ (w : EntryWords). w.reached) eh) turns) z.fills),
    )

pub write_first-requires : goal.write_first-requires
write_first-requires c =
    let a = c.args.program in
    let lp = c.loop-i in
    let pre = c.requires in
    let held = c.entry-held.result in
    let eh = c.entry-held.ensures in
    let ah = at-held held c.args.words.now lp.i eh in
    let z = lp.invariant.2 pre.0.0 pre.0.1 pre.0.2 in
    let some = some-held held.what _ (ap (λ (w : EntryWords). w.what) eh) c.if-held-eq-NONE.false in
    let d = shut a.bytes.now c.args.words.now a.start (3 + 6 * lp.i) lp.p lp.end z.inner c.told-words z.left (sym (ap opens ah) ∙ sym c.opens.ensures ∙ c.if-not-opens.true) some in
    let n = c.size_at.result in
    let long : 20 ≤ n = omega (arith, d.long, c.size_at.ensures.0) in
    let inside : a.start + lp.p + n ≤ length a.bytes.now = omega (arith, d.around.high, d.around.room, c.size_at.ensures.0) in
    let g = c.write_around-hole.ensures (first_bytes held.progress held.running a.bytes.now (a.start + lp.p) n held.reached)
    (bytes-fill z.inner _ lp.hole.front lp.hole.back (shut-bytes a.bytes.now c.args.words.now a.start (3 + 6 * lp.i) lp.p lp.end z.inner d n _ _ _ _ c.size_at.ensures.0 (ap (λ (w : EntryWords). w.reached) eh) (ap to_come ah) (ap (λ (w : EntryWords). w.progress) eh) (ap (λ (w : EntryWords). w.running) eh)) z.fills) in
    (long, inside, omega (arith, g.fills, g.room, length-first a.bytes.now (a.start + lp.p) n held.reached long inside held.progress held.running))

pub returns-then-not-opens : goal.returns-then-not-opens
returns-then-not-opens c =
    let a = c.args.program in
    let lp = c.loop-i in
    let held = c.entry-held.result in
    let eh = c.entry-held.ensures in
    let ah = at-held held c.args.words.now lp.i eh in
    let some = some-held held.what _ (ap (λ (w : EntryWords). w.what) eh) c.if-held-eq-NONE.false in
    let n = c.size_at.result in
    λ P s h. let z = lp.invariant.2 P s h in
    let d = shut a.bytes.now c.args.words.now a.start (3 + 6 * lp.i) lp.p lp.end z.inner c.told-words z.left (sym (ap opens ah) ∙ sym c.opens.ensures ∙ c.if-not-opens.true) some in
    let b = shut-bytes a.bytes.now c.args.words.now a.start (3 + 6 * lp.i) lp.p lp.end z.inner d n _ _ _ _ c.size_at.ensures.0 (ap (λ (w : EntryWords). w.reached) eh) (ap to_come ah) (ap (λ (w : EntryWords). w.progress) eh) (ap (λ (w : EntryWords). w.running) eh) in
    narrowed-done z.inner _ lp.out _ _ lp.hole.front _ _ _ b (c.write_around-hole.ensures _ (bytes-fill z.inner _ lp.hole.front lp.hole.back b z.fills)) c.write_first.ensures ∙ z.same

pub overflow_sub-hole : goal.overflow_sub-hole
overflow_sub-hole c =
    let a = c.args.program in
    let lp = c.loop-i in
    let pre = c.requires in
    let held = c.entry-held.result in
    let eh = c.entry-held.ensures in
    let ah = at-held held c.args.words.now lp.i eh in
    let z = lp.invariant.2 pre.0.0 pre.0.1 pre.0.2 in
    let o = opened a.bytes.now c.args.words.now a.start (3 + 6 * lp.i) lp.p lp.end z.inner c.told-words z.left (sym (ap opens ah) ∙ sym c.opens.ensures ∙ c.if-not-opens.false) in
    let g = c.write_around-hole.ensures (block_of o.inner) (bytes-fill z.inner _ lp.hole.front lp.hole.back (around-bytes a.bytes.now c.args.words.now a.start (3 + 6 * lp.i) lp.p lp.end z.inner o.around c.size_at.result _ _ c.size_at.ensures.0 (ap (λ (w : EntryWords). w.reached) eh) (ap to_come ah)) z.fills) in
    omega (arith, g.fills)

pub put_head-requires : goal.put_head-requires
put_head-requires c =
    let a = c.args.program in
    let lp = c.loop-i in
    let pre = c.requires in
    let held = c.entry-held.result in
    let eh = c.entry-held.ensures in
    let ah = at-held held c.args.words.now lp.i eh in
    let z = lp.invariant.2 pre.0.0 pre.0.1 pre.0.2 in
    let o = opened a.bytes.now c.args.words.now a.start (3 + 6 * lp.i) lp.p lp.end z.inner c.told-words z.left (sym (ap opens ah) ∙ sym c.opens.ensures ∙ c.if-not-opens.false) in
    let g = c.write_around-hole.ensures (block_of o.inner) (bytes-fill z.inner _ lp.hole.front lp.hole.back (around-bytes a.bytes.now c.args.words.now a.start (3 + 6 * lp.i) lp.p lp.end z.inner o.around c.size_at.result _ _ c.size_at.ensures.0 (ap (λ (w : EntryWords). w.reached) eh) (ap to_come ah)) z.fills) in
    omega (arith, g.fills, g.room, length-block_of o.inner)

pub overflow_add-hole-in-loop-i : goal.overflow_add-hole-in-loop-i
overflow_add-hole-in-loop-i c =
    let a = c.args.program in
    let lp = c.loop-i in
    let pre = c.requires in
    let held = c.entry-held.result in
    let eh = c.entry-held.ensures in
    let ah = at-held held c.args.words.now lp.i eh in
    let z = lp.invariant.2 pre.0.0 pre.0.1 pre.0.2 in
    let o = opened a.bytes.now c.args.words.now a.start (3 + 6 * lp.i) lp.p lp.end z.inner c.told-words z.left (sym (ap opens ah) ∙ sym c.opens.ensures ∙ c.if-not-opens.false) in
    let g = c.write_around-hole.ensures (block_of o.inner) (bytes-fill z.inner _ lp.hole.front lp.hole.back (around-bytes a.bytes.now c.args.words.now a.start (3 + 6 * lp.i) lp.p lp.end z.inner o.around c.size_at.result _ _ c.size_at.ensures.0 (ap (λ (w : EntryWords). w.reached) eh) (ap to_come ah)) z.fills) in
    omega (arith, g.fills, g.room, c.write_around-hole.auto.out, lp.invariant.0, pre.2)

pub overflow_add-end : goal.overflow_add-end
overflow_add-end c =
    let pre = c.requires in
    let z = c.loop-i.invariant.2 pre.0.0 pre.0.1 pre.0.2 in
    omega (arith, left-room z.left, pre.1, c.size_at.ensures.1)

pub loop-i-preserved : goal.loop-i-preserved
loop-i-preserved c =
    let a = c.args.program in
    let lp = c.loop-i in
    let pre = c.requires in
    let held = c.entry-held.result in
    let eh = c.entry-held.ensures in
    let ah = at-held held c.args.words.now lp.i eh in
    let z = lp.invariant.2 pre.0.0 pre.0.1 pre.0.2 in
    let o = opened a.bytes.now c.args.words.now a.start (3 + 6 * lp.i) lp.p lp.end z.inner c.told-words z.left (sym (ap opens ah) ∙ sym c.opens.ensures ∙ c.if-not-opens.false) in
    let g = c.write_around-hole.ensures (block_of o.inner) (bytes-fill z.inner _ lp.hole.front lp.hole.back (around-bytes a.bytes.now c.args.words.now a.start (3 + 6 * lp.i) lp.p lp.end z.inner o.around c.size_at.result _ _ c.size_at.ensures.0 (ap (λ (w : EntryWords). w.reached) eh) (ap to_come ah)) z.fills) in (
      c.put_head.auto.buf ∙ c.write_around-hole.auto.out ∙ lp.invariant.0,
      omega (arith, g.room, c.write_around-hole.auto.out, lp.invariant.0),
      λ P s h. let z = lp.invariant.2 P s h in
          let o = opened a.bytes.now c.args.words.now a.start (3 + 6 * lp.i) lp.p lp.end z.inner c.told-words z.left (sym (ap opens ah) ∙ sym c.opens.ensures ∙ c.if-not-opens.false) in
          let g = c.write_around-hole.ensures (block_of o.inner) (bytes-fill z.inner _ lp.hole.front lp.hole.back (around-bytes a.bytes.now c.args.words.now a.start (3 + 6 * lp.i) lp.p lp.end z.inner o.around c.size_at.result _ _ c.size_at.ensures.0 (ap (λ (w : EntryWords). w.reached) eh) (ap to_come ah)) z.fills) in
          writing-same _ _ _ (3 + 6 * (lp.i + 1)) (omega arith)
          (writing_step a.bytes.now c.args.words.now a.start s c.args.out.now lp.out _ _ c.args.front lp.hole.front lp.hole.back (3 + 6 * lp.i) lp.p lp.end z o c.size_at.result _ _ _ _ c.inside_place-p.result c.size_at.ensures.0 (ap (λ (w : EntryWords). w.reached) eh) (ap to_come ah) g c.put_head.ensures (c.inside_place-p.ensures.0 ∙ ap inside_of ah)),
    )

pub overflow_sub-rest : goal.overflow_sub-rest
overflow_sub-rest c =
    let pre = c.requires in
    (left-room (c.loop-i.invariant.2 pre.0.0 pre.0.1 pre.0.2).left).1

pub overflow_add-rest : goal.overflow_add-rest
overflow_add-rest c =
    let pre = c.requires in
    omega (arith, left-room (c.loop-i.invariant.2 pre.0.0 pre.0.1 pre.0.2).left, pre.1)

pub write_rest-requires : goal.write_rest-requires
write_rest-requires c =
    let a = c.args.program in
    let lp = c.loop-i in
    let pre = c.requires in
    let none : get_or c.args.words.now (3 + 6 * lp.i) 0 ≡ 0 = elim c.loop-i-test.branch [
      | else-loop-i-test w ↦ get_or-eq_default c.args.words.now 0 {n = 3 + 6 * lp.i} (omega (arith, w.loop-i-test.false, c.told-words))
      | then-loop-i-test+then-held-eq-NONE w ↦ sym (ap (λ (w : EntryWords). w.what) w.entry-held.ensures) ∙ w.if-held-eq-NONE.true
    ] in
    let z = lp.invariant.2 pre.0.0 pre.0.1 pre.0.2 in
    let d = ended a.bytes.now c.args.words.now a.start (3 + 6 * lp.i) lp.p lp.end z.inner c.told-words z.left none in
    (omega (arith, d.order, d.room), λ h. omega (arith, d.enough h), omega (arith, d.size, z.fills, lp.invariant.0, lp.invariant.1))

pub returns : goal.returns
returns c =
    let a = c.args.program in
    let lp = c.loop-i in
    let none : get_or c.args.words.now (3 + 6 * lp.i) 0 ≡ 0 = elim c.loop-i-test.branch [
      | else-loop-i-test w ↦ get_or-eq_default c.args.words.now 0 {n = 3 + 6 * lp.i} (omega (arith, w.loop-i-test.false, c.told-words))
      | then-loop-i-test+then-held-eq-NONE w ↦ sym (ap (λ (w : EntryWords). w.what) w.entry-held.ensures) ∙ w.if-held-eq-NONE.true
    ] in
    λ P s h. let z = lp.invariant.2 P s h in
    c.write_rest.ensures ∙ ap (put lp.out lp.hole.front) (sym (ended a.bytes.now c.args.words.now a.start (3 + 6 * lp.i) lp.p lp.end z.inner c.told-words z.left none).bytes) ∙ z.same
