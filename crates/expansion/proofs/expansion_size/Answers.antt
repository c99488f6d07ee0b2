-- What was counted and the length of what is left make up the whole; the number of entries bounds what was counted.
use native.Mathlib.Omega.{arith}
use Prim.Native.Nat.{◌*◌, ◌+◌, ◌-◌}
use mathlib.Core.Path.{ap, refl, subst, sym, ◌∙◌, ◌≡◌}
use lib.ListN.{get_or, get_or-eq_default}
use Rattle.counting.specs.Held.{Held}
use Rattle.state_words.specs.declared.EntryWords.{EntryWords}
use Rattle.expansion.specs.Entry.{first_size, inside_of, opens, to_come}
use Rattle.expansion.specs.Walk.{IsHeld}
use Rattle.expansion.proofs.EntryLaws.{first_size-most}
use Rattle.expansion.proofs.SizingLaws.{shut-total, sizing-same, sizing-start, sizing-step}
use Rattle.expansion.proofs.WalkLaws.{around-entry, at-held, ended, held-around, left-room, opened, shut, some-held}
use Rattle.expansion.proofs.expansion_size.Goals.{else-loop-i-test, then-loop-i-test+then-held-eq-NONE}
use Rattle.expansion.proofs.expansion_size.Goals as goal

pub overflow_sub-end : goal.overflow_sub-end
overflow_sub-end c = omega (arith, c.requires.0.2.ends)

pub loop-i-init : goal.loop-i-init
loop-i-init c =
    let a = c.args.program in
    (omega arith, λ P s g. sizing-start a.bytes.now c.args.words.now a.start a.used P s g _ refl)

pub size_at-n-requires : goal.size_at-n-requires
size_at-n-requires c =
    let a = c.args.program in
    let lp = c.loop-i in
    let pre = c.requires in
    let z = lp.invariant.1 pre.0.0 pre.0.1 pre.0.2 in
    let some = some-held c.entry-held.result.what _ (ap (λ (w : EntryWords). w.what) c.entry-held.ensures) c.if-held-eq-NONE.false in
    let d = held-around a.bytes.now c.args.words.now a.start (3 + 6 * lp.i) lp.p lp.end z.inner c.told-words z.left some in
    omega (arith, d.1.high, d.1.low, d.1.room)

pub overflow_add-p : goal.overflow_add-p
overflow_add-p c =
    let a = c.args.program in
    let lp = c.loop-i in
    let pre = c.requires in
    let z = lp.invariant.1 pre.0.0 pre.0.1 pre.0.2 in
    omega (arith, left-room z.left, pre.1, c.size_at-n.ensures.1)

pub overflow_sub-end-in-loop-i : goal.overflow_sub-end-in-loop-i
overflow_sub-end-in-loop-i c =
    let a = c.args.program in
    let lp = c.loop-i in
    let pre = c.requires in
    let z = lp.invariant.1 pre.0.0 pre.0.1 pre.0.2 in
    let some = some-held c.entry-held.result.what _ (ap (λ (w : EntryWords). w.what) c.entry-held.ensures) c.if-held-eq-NONE.false in
    let d = held-around a.bytes.now c.args.words.now a.start (3 + 6 * lp.i) lp.p lp.end z.inner c.told-words z.left some in
    omega (arith, d.1.high, c.size_at-n.ensures.0)

pub around_size-total-requires : goal.around_size-total-requires
around_size-total-requires c =
    let a = c.args.program in
    let lp = c.loop-i in
    let pre = c.requires in
    let z = lp.invariant.1 pre.0.0 pre.0.1 pre.0.2 in
    let some = some-held c.entry-held.result.what _ (ap (λ (w : EntryWords). w.what) c.entry-held.ensures) c.if-held-eq-NONE.false in
    let d = held-around a.bytes.now c.args.words.now a.start (3 + 6 * lp.i) lp.p lp.end z.inner c.told-words z.left some in
    (subst IsHeld (sym (at-held c.entry-held.result c.args.words.now lp.i c.entry-held.ensures)) (around-entry d.1), omega (arith, d.1.high, d.1.room, c.size_at-n.ensures.0, pre.1), omega (arith, d.1.room, pre.1))

pub overflow_add-result : goal.overflow_add-result
overflow_add-result c =
    let a = c.args.program in
    let lp = c.loop-i in
    let pre = c.requires in
    let z = lp.invariant.1 pre.0.0 pre.0.1 pre.0.2 in
    let some = some-held c.entry-held.result.what _ (ap (λ (w : EntryWords). w.what) c.entry-held.ensures) c.if-held-eq-NONE.false in
    let d = held-around a.bytes.now c.args.words.now a.start (3 + 6 * lp.i) lp.p lp.end z.inner c.told-words z.left some in
    let f = first_size-most c.size_at-n.result c.entry-held.result.progress c.entry-held.result.running (omega (arith, d.1.low, c.size_at-n.ensures.0)) in
    omega (arith, c.around_size-total.ensures.1, lp.invariant.0, c.first_size.ensures, c.size_at-n.ensures.1)

pub overflow_add-end : goal.overflow_add-end
overflow_add-end c =
    let pre = c.requires in
    let z = c.loop-i.invariant.1 pre.0.0 pre.0.1 pre.0.2 in
    omega (arith, left-room z.left, pre.1, c.size_at-n.ensures.1)

pub returns-then-not-opens : goal.returns-then-not-opens
returns-then-not-opens c =
    let a = c.args.program in
    let lp = c.loop-i in
    let eh = c.entry-held.ensures in
    let ah = at-held c.entry-held.result c.args.words.now lp.i eh in
    let some = some-held c.entry-held.result.what _ (ap (λ (w : EntryWords). w.what) eh) c.if-held-eq-NONE.false in (
      λ P s g. let z = lp.invariant.1 P s g in
          let d = shut a.bytes.now c.args.words.now a.start (3 + 6 * lp.i) lp.p lp.end z.inner c.told-words z.left (sym (ap opens ah) ∙ sym c.opens.ensures ∙ c.if-not-opens.true) some in
          let t = shut-total a.bytes.now c.args.words.now a.start (3 + 6 * lp.i) lp.p lp.end z.inner d c.size_at-n.result c.around_size-total.result c.first_size.result c.size_at-n.ensures.0
          (c.around_size-total.ensures.0 ∙ ap (λ (h : Held). to_come h * c.size_at-n.result + (lp.end - (lp.p + c.size_at-n.result))) ah)
          (c.first_size.ensures ∙ ap (λ (w : EntryWords). first_size w.progress w.running c.size_at-n.result) eh) in
          omega (arith, z.sum, t),
      let pre = c.requires in
          let z = lp.invariant.1 pre.0.0 pre.0.1 pre.0.2 in
          let d = held-around a.bytes.now c.args.words.now a.start (3 + 6 * lp.i) lp.p lp.end z.inner c.told-words z.left some in
          let f = first_size-most c.size_at-n.result c.entry-held.result.progress c.entry-held.result.running (omega (arith, d.1.low, c.size_at-n.ensures.0)) in
          omega (arith, c.around_size-total.ensures.1, lp.invariant.0, c.first_size.ensures, c.size_at-n.ensures.1),
    )

pub loop-i-preserved : goal.loop-i-preserved
loop-i-preserved c =
    let a = c.args.program in
    let lp = c.loop-i in
    let eh = c.entry-held.ensures in
    let ah = at-held c.entry-held.result c.args.words.now lp.i eh in (
      omega (arith, c.around_size-total.ensures.1, lp.invariant.0),
      λ P s g. let z = lp.invariant.1 P s g in
          let o = opened a.bytes.now c.args.words.now a.start (3 + 6 * lp.i) lp.p lp.end z.inner c.told-words z.left (sym (ap opens ah) ∙ sym c.opens.ensures ∙ c.if-not-opens.false) in
          sizing-same _ _ (omega arith) (omega arith)
          (sizing-step a.bytes.now c.args.words.now a.start s lp.total (3 + 6 * lp.i) lp.p lp.end z o c.size_at-n.result c.around_size-total.result c.inside_place-p.result c.size_at-n.ensures.0
          (c.around_size-total.ensures.0 ∙ ap (λ (h : Held). to_come h * c.size_at-n.result + (lp.end - (lp.p + c.size_at-n.result))) ah)
          (c.inside_place-p.ensures.0 ∙ ap inside_of ah)),
    )

pub overflow_sub-result : goal.overflow_sub-result
overflow_sub-result c =
    let pre = c.requires in
    (left-room (c.loop-i.invariant.1 pre.0.0 pre.0.1 pre.0.2).left).1

pub overflow_add-result-2 : goal.overflow_add-result-2
overflow_add-result-2 c =
    let pre = c.requires in
    omega (arith, c.loop-i.invariant.0, left-room (c.loop-i.invariant.1 pre.0.0 pre.0.1 pre.0.2).left, pre.1)

pub returns : goal.returns
returns c =
    let a = c.args.program in
    let lp = c.loop-i in
    let pre = c.requires in
    let none : get_or c.args.words.now (3 + 6 * lp.i) 0 ≡ 0 = elim c.loop-i-test.branch [
      | else-loop-i-test w ↦ get_or-eq_default c.args.words.now 0 {n = 3 + 6 * lp.i} (omega (arith, w.loop-i-test.false, c.told-words))
      | then-loop-i-test+then-held-eq-NONE w ↦ sym (ap (λ (w : EntryWords). w.what) w.entry-held.ensures) ∙ w.if-held-eq-NONE.true
    ] in (
      λ P s g. let z = lp.invariant.1 P s g in
          omega (arith, z.sum, (ended a.bytes.now c.args.words.now a.start (3 + 6 * lp.i) lp.p lp.end z.inner c.told-words z.left none).size),
      omega (arith, lp.invariant.0, left-room (lp.invariant.1 pre.0.0 pre.0.1 pre.0.2).left, pre.1),
    )
