use native.Mathlib.Omega.{arith}
use mathlib.Core.Path.{◌∙◌, ap, refl, sym}
use Prim.Native.Nat.{ℕ, ◌+◌, ◌-◌}
use Rattle.canonical.proofs.HeldLaws.{from-few}
use Rattle.state_check.proofs.WalkLaws.{entered, of-entry, of-progress, reading-last, reading-left, reading-next, reading-no-place, reading-shut, reading-start, reading-wrong}
use Rattle.state_check.proofs.check_state.Goals as goal

pub loop-j-init : goal.loop-j-init
loop-j-init c =
    (omega (arith, c.open_count-n.ensures, from-few c.args.words.now 3 31), (λ P b u. reading-start P c.args.program.bytes.now c.args.words.now c.args.program.used c.args.program.start c.open_count-n.result _ b u c.open_count-n.ensures refl))

pub stands_at-requires : goal.stands_at-requires
stands_at-requires c =
    let q = c.requires.0 in
    let g = c.loop-j.invariant.1 q.0 q.1.0 q.1.1 in
    ((g.block, (g.stands, g.size)), c.requires.1)

pub returns-then-not-stands_at : goal.returns-then-not-stands_at
returns-then-not-stands_at c =
    λ P b u.
    let g = c.loop-j.invariant.1 P b u in
    reading-no-place g c.stands_at.result (c.stands_at.ensures g.block g.stands g.size) c.if-not-stands_at.true

pub entry_class-requires : goal.entry_class-requires
entry_class-requires c =
    let q = c.requires.0 in
    let g = c.loop-j.invariant.1 q.0 q.1.0 q.1.1 in
    let l = reading-left g c.stands_at.result (c.stands_at.ensures g.block g.stands g.size) c.if-not-stands_at.false in
    (l.rest, (l.stands, l.size))

pub returns-in_default : goal.returns-in_default
returns-in_default c =
    λ P b u.
    let g = c.loop-j.invariant.1 P b u in
    let l = reading-left g c.stands_at.result (c.stands_at.ensures g.block g.stands g.size) c.if-not-stands_at.false in
    reading-wrong g c.loop-j-test.true l (of-entry c.args.words.now c.loop-j.j c.entry-entry.ensures (c.entry_class.ensures l.rest l.stands l.size)) c.in_default.is

pub returns-in_default-inside : goal.returns-in_default-inside
returns-in_default-inside c =
    λ P b u.
    let g = c.loop-j.invariant.1 P b u in
    let l = reading-left g c.stands_at.result (c.stands_at.ensures g.block g.stands g.size) c.if-not-stands_at.false in
    reading-shut g c.loop-j-test.true l (of-entry c.args.words.now c.loop-j.j c.entry-entry.ensures (c.entry_class.ensures l.rest l.stands l.size)) c.in-Some.is (sym c.inside.ensures ∙ c.in_default-inside.is)

pub overflow_add-at : goal.overflow_add-at
overflow_add-at c =
    omega (arith, entered c.requires.0 c.loop-j.invariant.1 c.stands_at.ensures c.if-not-stands_at.false c.loop-j-test.true c.entry-entry.ensures c.entry_class.ensures c.in-Some.is (sym c.inside.ensures ∙ c.in-Some-inside.is), c.requires.1)

pub size_at-requires : goal.size_at-requires
size_at-requires c =
    omega (arith, entered c.requires.0 c.loop-j.invariant.1 c.stands_at.ensures c.if-not-stands_at.false c.loop-j-test.true c.entry-entry.ensures c.entry_class.ensures c.in-Some.is (sym c.inside.ensures ∙ c.in-Some-inside.is))

pub overflow_add-at-in-loop-j : goal.overflow_add-at-in-loop-j
overflow_add-at-in-loop-j c =
    omega (arith, entered c.requires.0 c.loop-j.invariant.1 c.stands_at.ensures c.if-not-stands_at.false c.loop-j-test.true c.entry-entry.ensures c.entry_class.ensures c.in-Some.is (sym c.inside.ensures ∙ c.in-Some-inside.is), c.requires.1, c.size_at.ensures.1)

pub overflow_sub-at-in-loop-j : goal.overflow_sub-at-in-loop-j
overflow_sub-at-in-loop-j c =
    omega (arith, entered c.requires.0 c.loop-j.invariant.1 c.stands_at.ensures c.if-not-stands_at.false c.loop-j-test.true c.entry-entry.ensures c.entry_class.ensures c.in-Some.is (sym c.inside.ensures ∙ c.in-Some-inside.is))

pub loop-j-preserved : goal.loop-j-preserved
loop-j-preserved c = (
  c.loop-j.invariant.0,
  (λ P b u.
      let g = c.loop-j.invariant.1 P b u in
      let l = reading-left g c.stands_at.result (c.stands_at.ensures g.block g.stands g.size) c.if-not-stands_at.false in
      let k = of-entry c.args.words.now c.loop-j.j c.entry-entry.ensures (c.entry_class.ensures l.rest l.stands l.size) in
      let i = sym c.inside.ensures ∙ c.in-Some-inside.is in
      reading-next g c.loop-j-test.true l k c.in-Some.is i _ _ _ refl (ap (λ (z : ℕ). c.loop-j.at.p + z) c.size_at.ensures.0) (ap (λ (z : ℕ). z - c.in-Some-inside.mark) (of-progress c.args.words.now c.loop-j.j c.entry-entry.ensures))),
)

pub last_right-requires : goal.last_right-requires
last_right-requires c =
    let q = c.requires.0 in
    let g = c.loop-j.invariant.1 q.0 q.1.0 q.1.1 in
    let l = reading-left g c.stands_at-2.result (c.stands_at-2.ensures g.block g.stands g.size) c.if-stands_at.true in
    (l.rest, (l.stands, l.size))

pub returns-then-stands_at : goal.returns-then-stands_at
returns-then-stands_at c =
    λ P b u.
    let g = c.loop-j.invariant.1 P b u in
    let l = reading-left g c.stands_at-2.result (c.stands_at-2.ensures g.block g.stands g.size) c.if-stands_at.true in
    reading-last g (omega (arith, c.loop-j-test.false)) l c.last_right.result (c.last_right.ensures l.rest l.stands l.size)

pub returns-else-stands_at : goal.returns-else-stands_at
returns-else-stands_at c =
    λ P b u.
    let g = c.loop-j.invariant.1 P b u in
    c.if-stands_at.false ∙ reading-no-place g c.stands_at-2.result (c.stands_at-2.ensures g.block g.stands g.size) c.if-stands_at.false
