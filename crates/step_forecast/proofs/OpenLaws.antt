-- The first command of a row, by its kind.
use Prim.Native.Nat.{◌*◌, ◌+◌, ◌<◌, ◌≤◌, ℕ}
use mathlib.Core.Path.{◌≡◌, ap, refl, subst, sym}
use mathlib.Core.Bool.{Bool, false, true}
use mathlib.Core.List.{List}
use borrow.Author.Tests.{eqb-false, eqb-true}
use lib.Dec.{eqb}
use lib.ListN.{length}
use native.Mathlib.Omega.{arith}
use Rattle.buffer.specs.LittleEndian.{val}
use Rattle.buffer.specs.Slice.{part}
use Rattle.record.specs.Program.{block_size, expr_kind}
use Rattle.place.specs.ProgramView.{AssignView, BlockAt, LoopView, NestView}
use Rattle.place.proofs.ProgramBytesLaws.{block_size-some, expr_kind-range, kind-dec, kind-inc, kind-lit, kind-var}
use Rattle.place.proofs.ProgramViewLaws.{as-assign, as-loop, as-nest, block-index, block_room, block_same, command-kind}
use Rattle.rules.specs.Evaluate.{assign_steps}
use Rattle.rules.specs.Scope.{BlockWithin, BoundWithin}
use Rattle.rules.specs.Step.{bound_value}
use Rattle.rules.specs.Syntax.{Block, Bound, Expr, assign, loop, nest}
use Rattle.forecast.specs.Rows.{Opened, RowOf, opens_assign, opens_loop, opens_nest}

-- AN ASSIGNMENT'S STEPS, by its expression's kind

pub steps-one : (e : Expr) → (expr_kind e ≡ 18 → ⊥) → (expr_kind e ≡ 19 → ⊥) → 1 ≡ assign_steps e
unfolding assign_steps
steps-one e f g = go (eqb (expr_kind e) 16) refl
  where
    go : (t : Bool) → eqb (expr_kind e) 16 ≡ t → 1 ≡ assign_steps e
    go true c = sym (ap assign_steps (kind-lit e (eqb-true (expr_kind e) 16 c)))
    go false c = let d = eqb-false (expr_kind e) 16 c in sym (ap assign_steps (kind-var e (omega (arith, expr_kind-range e))))

pub steps-two : (e : Expr) → 18 ≤ expr_kind e → 2 ≡ assign_steps e
unfolding assign_steps
steps-two e h = go (eqb (expr_kind e) 18) refl
  where
    go : (t : Bool) → eqb (expr_kind e) 18 ≡ t → 2 ≡ assign_steps e
    go true c = sym (ap assign_steps (kind-inc e (eqb-true (expr_kind e) 18 c)))
    go false c = let d = eqb-false (expr_kind e) 18 c in sym (ap assign_steps (kind-dec e (omega (arith, expr_kind-range e))))

-- BY WHAT IS READ: the kind and the length of the first command

module _ {l : List ℕ} {k p q : ℕ} {b : Block} (h : RowOf l k p q b) (more : p < q) where
  row-some : 0 < block_size b
  row-some = omega (arith, h.ends)

  -- the four bytes of its head are there
  pub row-head : p + 4 ≤ length l
  row-head = omega (arith, block_size-some b row-some, block_room h.here)

  loop-here : val (part l (p + 2) 2) ≡ 3 → LoopView l p b
  loop-here e = as-loop h.here row-some e

  nest-here : val (part l (p + 2) 2) ≡ 1 → NestView l p b
  nest-here e = as-nest h.here row-some e

  assign-here : (val (part l (p + 2) 2) ≡ 3 → ⊥) → (val (part l (p + 2) 2) ≡ 1 → ⊥) → AssignView l p b
  assign-here f g = as-assign h.here row-some (omega (arith, command-kind h.here row-some))

  pub first-loop : val (part l (p + 2) 2) ≡ 3 → (x : ℕ) × ((m : Bound) × ((c : Block) × ((r : Block) × (BlockAt l p (loop x m c r) × BoundWithin k m))))
  first-loop e =
      let v = loop-here e in
      (v.variable, (v.bound, (v.body, (v.rest, (block_same h.here v.is, (subst (BlockWithin k) v.is h.within).1)))))

  pub first-assign : (val (part l (p + 2) 2) ≡ 3 → ⊥) → (val (part l (p + 2) 2) ≡ 1 → ⊥) → (x : ℕ) × ((d : Expr) × ((r : Block) × BlockAt l p (assign x d r)))
  first-assign f g = let v = assign-here f g in (v.variable, (v.expr, (v.rest, block_same h.here v.is)))

-- THE COMMAND OPENED

module _ {l : List ℕ} (s : List ℕ) {p q : ℕ} {b : Block} (h : RowOf l (length s) p q b) (more : p < q) {size : ℕ} (is-size : size ≡ val (part l p 2)) where
  pub open_loop : val (part l (p + 2) 2) ≡ 3 → (n : ℕ) → ((x : ℕ) (m : Bound) (c r : Block) → BlockAt l p (loop x m c r) → n ≡ bound_value s m)
      → Opened l s p q b (3 * n + 2) n (p + 20) (p + size)
  open_loop k n f =
      let v = loop-here h more k in
      let w : BlockWithin (length s) (loop v.variable v.bound v.body v.rest) = subst (BlockWithin (length s)) v.is h.within in
      let t = v.stored in
      let z = v.size in
      let y = h.ends in
      opens_loop v.variable v.bound v.body v.rest v.is refl (f v.variable v.bound v.body v.rest (block_same h.here v.is)) refl
      (record { here = v.inside; ends = omega arith; within = w.2 })
      (record { here = block-index v.after (omega arith); ends = omega arith; within = w.3 })

  pub open-nest : val (part l (p + 2) 2) ≡ 1 → Opened l s p q b 1 1 (p + 4) (p + size)
  open-nest k =
      let v = nest-here h more k in
      let w : BlockWithin (length s) (nest v.body v.rest) = subst (BlockWithin (length s)) v.is h.within in
      let t = v.stored in
      let z = v.size in
      let y = h.ends in
      opens_nest v.body v.rest v.is refl refl refl
      (record { here = v.inside; ends = omega arith; within = w.0 })
      (record { here = block-index v.after (omega arith); ends = omega arith; within = w.1 })

  pub open-assign : (val (part l (p + 2) 2) ≡ 3 → ⊥) → (val (part l (p + 2) 2) ≡ 1 → ⊥) → (n : ℕ) → ((x : ℕ) (e : Expr) (r : Block) → BlockAt l p (assign x e r) → n ≡ assign_steps e)
      → Opened l s p q b n 0 (p + size) (p + size)
  open-assign f g n own =
      let v = assign-here h more f g in
      let w : BlockWithin (length s) (assign v.variable v.expr v.rest) = subst (BlockWithin (length s)) v.is h.within in
      let t = v.stored in
      let z = v.size in
      let y = h.ends in
      opens_assign v.variable v.expr v.rest v.is (own v.variable v.expr v.rest (block_same h.here v.is)) refl (omega arith) (omega arith)
      (record { here = block-index v.after (omega arith); ends = omega arith; within = w.2 })
