-- What is left to do of the present bytes is what was to do behind the header.
use native.Mathlib.Omega.{arith}
use Prim.Native.Nat.{◌+◌, ◌*◌, ◌-◌}
use mathlib.Core.Path.{◌≡◌, ◌∙◌, ap, refl, sym}
use native.Mathlib.Nat.{add-zero, sub-zero}
use Rattle.place.specs.Heads.{relength, shifted}
use Rattle.place.proofs.HeadsLaws.{relength-turn, relength-zero}
use Rattle.place.proofs.WholeLaws.{relength_all-is}
use Rattle.edit.proofs.relength.Goals as goal

pub loop-i-init : goal.loop-i-init
loop-i-init c = (omega arith, refl, simp (sub-zero, add-zero))

pub loop-i-preserved : goal.loop-i-preserved
loop-i-preserved c =
    let h = c.loop-i in
    let a = c.args in
    (omega arith, c.adjust-in-loop-i.auto.buf ∙ h.invariant.1, relength-turn (shifted a.up a.down) a.count h.i (a.start + 4 * h.i) (a.start + 4 * (h.i + 1)) h.buf _ _ c.loop-i-test.true (omega arith) c.adjust-in-loop-i.ensures h.invariant.2)

pub shape_of-buf : goal.shape_of-buf
shape_of-buf c = c.loop-i.invariant.1 ∙ c.adjust.auto.buf

pub returns : goal.returns
returns c =
    let h = c.loop-i in
    let a = c.args in
    let e : a.count - h.i ≡ 0 = omega arith in
    sym (relength-zero (shifted a.up a.down) (a.start + 4 * h.i) h.buf) ∙ rw e at h.invariant.2 ∙ ap (relength (shifted a.up a.down) a.count a.start) c.adjust.ensures ∙ relength_all-is (shifted a.up a.down) a.start a.count a.buf.now
