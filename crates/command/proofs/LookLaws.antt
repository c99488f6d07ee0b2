-- The plan by what code reads of the first command.
use Prim.Native.Nat.{◌*◌, ◌+◌, ◌<◌, suc, zero, ℕ, ◌≤◌}
use mathlib.Core.Path.{ap, refl, subst, sym, ◌∙◌, ◌≡◌}
use mathlib.Core.List.{List}
use lib.ListN.{length}
use native.Mathlib.Omega.{arith}
use Rattle.std.proofs.Common.{rules}
use Rattle.buffer.specs.LittleEndian.{val}
use Rattle.place.specs.Path.{blocks, path, spot}
use Rattle.place.specs.ProgramView.{BlockAt}
use Rattle.record.specs.Holding.{ProgramIn}
use Rattle.record.specs.Kind.{kind_named}
use Rattle.record.specs.declared.kind.Kind.{Kind}
use Rattle.record.specs.declared.kind.Kind.TheVariants.{Literal, MinusOne, PlusOne}
use Rattle.record.proofs.KindLaws.{dec-leaf, inc-leaf, lit-leaf, upto-leaf, upto_var-leaf, var-leaf}
use Rattle.record.specs.Program.{block_size, bound_kind, bound_number, expr_kind, expr_number}
use Rattle.buffer.specs.Slice.{part}
use Rattle.rules.specs.Scope.{BlockWithin, BoundWithin, ExprWithin, Within}
use Rattle.rules.specs.Step.{bound_value}
use mathlib.Core.Bool.{Bool}
use Rattle.rules.specs.Store.{lookup, minus_one}
use Rattle.record.specs.declared.Header.{Header}
use Rattle.record.specs.Header.{contents_at}
use Rattle.rules.specs.Syntax.{Block, Bound, Expr, assign, dec, empty, inc, lit, loop, upto, upto_var, var}
use Rattle.place.proofs.NestingLaws.{plug-keeps}
use Rattle.place.proofs.PathLaws.{plug-spot, spot-at, spot_is, spot-some}
use Rattle.place.proofs.ProgramBytesLaws.{block_size-some, block_size-zero}
use Rattle.place.proofs.ProgramViewLaws.{as-assign, as-loop, as-nest, assign-view, block-index, block_room, block_same, command-kind, loop-view}
use Rattle.place.proofs.WholeLaws.{program-at, program-used}
use Rattle.plan.specs.Plan.{plan, plan_raise, plan_turn}
use Rattle.plan.specs.declared.Plan.{Plan}
use Rattle.plan.specs.declared.Rule.TheVariants.{Bind, Evaluate, Finished, Leave}
use Rattle.command.specs.Plan.{leaf_value, plan_assign, plan_of, plan_spot}

-- WHAT CODE READS of a known assignment and of a known loop

pub record AssignRead (l : List ℕ) (p x : ℕ) (e : Expr) : Type 0 where
  pub room : p + 16 ≤ length l
  pub variable : val (part l (p + 4) 4) ≡ x
  pub kind : val (part l (p + 10) 2) ≡ expr_kind e
  pub number : val (part l (p + 12) 4) ≡ expr_number e

pub assign-read : {l : List ℕ} {p x : ℕ} {e : Expr} {r : Block} → BlockAt l p (assign x e r) → AssignRead l p x e
unfolding assign-view
assign-read {l} {p} {x} {e} {r} h =
    let v = assign-view x e r h in
    record { room = omega (arith, v.room, v.size); variable = v.variable-read; kind = v.kind-read; number = v.number_read }

pub record LoopRead (l : List ℕ) (p x : ℕ) (b : Bound) (c : Block) : Type 0 where
  pub room : p + 20 ≤ length l
  pub stored : val (part l p 2) ≡ 20 + block_size c
  pub variable : val (part l (p + 4) 4) ≡ x
  pub kind : val (part l (p + 10) 2) ≡ bound_kind b
  pub number : val (part l (p + 12) 4) ≡ bound_number b

pub loop-read : {l : List ℕ} {p x : ℕ} {b : Bound} {c r : Block} → BlockAt l p (loop x b c r) → LoopRead l p x b c
unfolding loop-view
loop-read {l} {p} {x} {b} {c} {r} h =
    let v = loop-view x b c r h in
    record { room = omega (arith, v.room, v.size); stored = v.stored; variable = v.variable-read; kind = v.kind-read; number = v.number_read }

-- the expression or the bound, read as a leaf at its own place
module _ (l : List ℕ) (p : ℕ) where
  pub leaf-kind : {k : Kind} {n : ℕ} → k ≡ kind_named (val (part l (p + 8 + 2) 2)) → val (part l (p + 10) 2) ≡ n → k ≡ kind_named n
  leaf-kind r v = r ∙ ap (λ (i : ℕ). kind_named (val (part l i 2))) (omega arith) ∙ ap kind_named v

  pub leaf-number : {m n : ℕ} → m ≡ val (part l (p + 8 + 4) 4) → val (part l (p + 12) 4) ≡ n → m ≡ n
  leaf-number r v = r ∙ ap (λ (i : ℕ). val (part l i 4)) (omega arith) ∙ v

-- A LEAF that code read, its kind k and its number n: of an expression, and of a bound
module _ {k : Kind} {n : ℕ} where
  pub expr-leaf : {m : ℕ} (e : Expr) → k ≡ kind_named (expr_kind e) → n ≡ expr_number e → ExprWithin m e → (k ≡ Literal → ⊥) → Within m n
  expr-leaf (lit v) ek en w f = absurd (f (ek ∙ (lit-leaf v).0))
  expr-leaf (var y) ek en w f = rw (en ∙ (var-leaf y).1) w
  expr-leaf (inc y) ek en w f = rw (en ∙ (inc-leaf y).1) w
  expr-leaf (dec y) ek en w f = rw (en ∙ (dec-leaf y).1) w

  pub bound-leaf : {m : ℕ} (b : Bound) → k ≡ kind_named (bound_kind b) → n ≡ bound_number b → BoundWithin m b → (k ≡ Literal → ⊥) → Within m n
  bound-leaf (upto v) ek en w f = absurd (f (ek ∙ (upto-leaf v).0))
  bound-leaf (upto_var y) ek en w f = rw (en ∙ (upto_var-leaf y).1) w

  pub bound_leaf-value : (s : List ℕ) (b : Bound) → k ≡ kind_named (bound_kind b) → n ≡ bound_number b → leaf_value k n s ≡ bound_value s b
  unfolding leaf_value bound_value
  bound_leaf-value s (upto v) ek en = rw (ek ∙ (upto-leaf v).0) (en ∙ (upto-leaf v).1)
  bound_leaf-value s (upto_var y) ek en = rw (ek ∙ (upto_var-leaf y).0) (ap (lookup s) (en ∙ (upto_var-leaf y).1))

-- AN ASSIGNMENT of the variable m, by the kind of its expression, which names the value w
module _ (ok : ℕ → Bool) (levels at m : ℕ) where
  assign_by : Kind → ℕ → Plan
  assign_by PlusOne w = plan_raise levels at m (suc w) 0 (ok (suc w))
  assign_by MinusOne w = plan levels at Evaluate m (minus_one w) 0 0
  assign_by _ w = plan levels at Bind m w 0 16

  assign-by : (s : List ℕ) (e : Expr) → assign_by (kind_named (expr_kind e)) (leaf_value (kind_named (expr_kind e)) (expr_number e) s) ≡ plan_assign ok levels at m e s
  unfolding leaf_value plan_assign assign_by
  assign-by s (lit v) = rw ((lit-leaf v).0, (lit-leaf v).1) refl
  assign-by s (var y) = rw ((var-leaf y).0, (var-leaf y).1) refl
  assign-by s (inc y) = rw ((inc-leaf y).0, (inc-leaf y).1) refl
  assign-by s (dec y) = rw ((dec-leaf y).0, (dec-leaf y).1) refl

  bind-by : (k : Kind) (w : ℕ) → (k ≡ PlusOne → ⊥) → (k ≡ MinusOne → ⊥) → plan levels at Bind m w 0 16 ≡ assign_by k w
  unfolding assign_by
  bind-by k w a b = search rules

module _ {l : List ℕ} {at x : ℕ} {e : Expr} {r : Block} (h : BlockAt l at (assign x e r)) (ok : ℕ → Bool) (levels : ℕ) (s : List ℕ) {m n w : ℕ} {k : Kind} (em : m ≡ val (part l (at + 4) 4)) (ek : k ≡ kind_named (val (part l (at + 8 + 2) 2))) (en : n ≡ val (part l (at + 8 + 4) 4)) (ew : w ≡ leaf_value k n s) where
  abbrev Assigned : Plan → Type 0
  Assigned p = p ≡ plan_assign ok levels at x e s

  assign-is : Assigned (assign_by ok levels at m k w)
  assign-is =
      let v = assign-read h in
      let variable : m ≡ x = em ∙ v.variable in
      let kind : k ≡ kind_named (expr_kind e) = leaf-kind l at ek v.kind in
      let number : n ≡ expr_number e = leaf-number l at en v.number in
      rw (ew, variable, kind, number) (assign-by ok levels at x s e)

  pub assign-inc : k ≡ PlusOne → Assigned (plan_raise levels at m (suc w) 0 (ok (suc w)))
  unfolding assign_by
  assign-inc is = ap (λ (j : Kind). assign_by ok levels at m j w) (sym is) ∙ assign-is

  pub assign-dec : k ≡ MinusOne → (d : ℕ) → d ≡ minus_one w → Assigned (plan levels at Evaluate m d 0 0)
  unfolding assign_by
  assign-dec is d ed = ap (λ (y : ℕ). plan levels at Evaluate m y 0 0) ed ∙ ap (λ (j : Kind). assign_by ok levels at m j w) (sym is) ∙ assign-is

  pub assign-bind : (k ≡ PlusOne → ⊥) → (k ≡ MinusOne → ⊥) → Assigned (plan levels at Bind m w 0 16)
  assign-bind a b = bind-by ok levels at m k w a b ∙ assign-is

-- THE FIRST COMMAND at the path's end, of a program in a buffer, and the whole program's plan
module _ {h : Header} {P : Block} {l : List ℕ} {used contents : ℕ} (p : ProgramIn h P l used) (st : contents_at h ≡ contents) where
  pub plan-none : (ok : ℕ → Bool) (s : List ℕ) → used ≡ contents + 4 → plan 0 (contents + 4) Finished 0 0 0 0 ≡ plan_of contents ok P s
  unfolding plan_of plan_spot path spot
  plan-none ok s e =
      let none : P ≡ empty = block_size-zero P (omega (arith, program-used p)) in
      sym (ap (λ b. plan_of contents ok b s) none ∙ ap (λ (n : ℕ). plan 0 n Finished 0 0 0 0) (omega arith))

  module _ (low : length l ≤ 16384) (some : used ≡ contents + 4 → ⊥) where
    pub commands : 0 < block_size P
    commands = positive (block_size P) (λ z. some (sym (program-used p) ∙ omega arith))
      where
        positive : (m : ℕ) → (m ≡ 0 → ⊥) → 0 < m
        positive zero f = absurd (f refl)
        positive (suc m) f = omega arith

    pub whole : BlockAt l (contents + 4) P
    whole = subst (λ (m : ℕ). BlockAt l (m + 4) P) st (program-at p low)

    -- `counts` is what the walk through the heads gives
    module _ {levels : ℕ} (counts : (Q : Block) → BlockAt l (contents + 4) Q → 0 < block_size Q → levels ≡ length (path Q)) where
      abbrev place : ℕ
      place = contents + 4 + 4 * levels

      has : 0 < block_size (spot P)
      has = spot-some (spot P) (spot_is P commands)

      here : BlockAt l place (spot P)
      here = block-index (spot-at whole) (ap (λ (n : ℕ). contents + 4 + 4 * n) (sym (counts P whole commands)))

      pub spot-room : place + 4 ≤ length l
      spot-room = omega (arith, block_room here, block_size-some (spot P) has)

      module _ (s : List ℕ) (count : length s ≡ h.k) where
        within : BlockWithin (length s) (spot P)
        within =
            let w = subst (λ (n : ℕ). BlockWithin n P) (sym count) p.is_program.variables in
            plug-keeps blocks (BlockWithin (length s)) (λ t r v. v.0) (path P) (spot P) (subst (BlockWithin (length s)) (sym (plug-spot P)) w)

        pub first-assign : val (part l (place + 2) 2) ≡ 2 → (x : ℕ) × ((e : Expr) × ((r : Block) × (BlockAt l place (assign x e r) × ExprWithin (length s) e)))
        first-assign kind =
            let v = as-assign here has kind in
            (v.variable, (v.expr, (v.rest, (block_same here v.is, (subst (BlockWithin (length s)) v.is within).1))))

        pub first-loop : val (part l (place + 2) 2) ≡ 3 → (x : ℕ) × ((b : Bound) × ((c : Block) × ((r : Block) × (BlockAt l place (loop x b c r) × BoundWithin (length s) b))))
        first-loop kind =
            let v = as-loop here has kind in
            (v.variable, (v.bound, (v.body, (v.rest, (block_same here v.is, (subst (BlockWithin (length s)) v.is within).1)))))

        module _ (ok : ℕ → Bool) where
          plan-spot : plan_spot ok levels place (spot P) s ≡ plan_of contents ok P s
          unfolding plan_of
          plan-spot = ap (λ (n : ℕ). plan_spot ok n (contents + 4 + 4 * n) (spot P) s) (counts P whole commands)

          -- from what is known of any assignment, or any loop, that stands there
          pub plan-assign : {q : Plan} → val (part l (place + 2) 2) ≡ 2
              → ((x : ℕ) (e : Expr) (r : Block) → BlockAt l place (assign x e r) → ExprWithin (length s) e → q ≡ plan_assign ok levels place x e s) → q ≡ plan_of contents ok P s
          unfolding plan_spot
          plan-assign kind says =
              let v = as-assign here has kind in
              says v.variable v.expr v.rest (block_same here v.is) (subst (BlockWithin (length s)) v.is within).1
              ∙ sym (ap (λ (b : Block). plan_spot ok levels place b s) v.is) ∙ plan-spot

          pub plan-loop : {q : Plan} → val (part l (place + 2) 2) ≡ 3
              → ((x : ℕ) (b : Bound) (c r : Block) → BlockAt l place (loop x b c r) → BoundWithin (length s) b → q ≡ plan_turn levels place x (block_size c) (bound_value s b)) → q ≡ plan_of contents ok P s
          unfolding plan_spot
          plan-loop kind says =
              let v = as-loop here has kind in
              says v.variable v.bound v.body v.rest (block_same here v.is) (subst (BlockWithin (length s)) v.is within).1
              ∙ sym (ap (λ (b : Block). plan_spot ok levels place b s) v.is) ∙ plan-spot

          pub plan-leave : (val (part l (place + 2) 2) ≡ 2 → ⊥) → (val (part l (place + 2) 2) ≡ 3 → ⊥) → plan levels place Leave 0 0 0 4 ≡ plan_of contents ok P s
          unfolding plan_spot
          plan-leave a b =
              let v = as-nest here has (omega (arith, command-kind here has)) in
              sym (ap (λ (b : Block). plan_spot ok levels place b s) v.is) ∙ plan-spot
