-- Laws of the reading of an entry and of the innermost place, one for each way out of the code, by what it reads of the bytes.
use Prim.Native.Nat.{◌+◌, ◌<◌, ◌≤◌, suc, zero, ℕ}
use mathlib.Core.Path.{ap, refl, subst, sym, ◌∙◌, ◌≡◌}
use mathlib.Core.Bool.{Bool, false, true}
use mathlib.Core.List.{List}
use borrow.Author.Tests.{eqb-false, eqb-true}
use lib.Dec.{eqb}
use lib.ListN.{length}
use native.Mathlib.Omega.{arith}
use Rattle.buffer.specs.LittleEndian.{val}
use Rattle.buffer.specs.Slice.{part}
use Rattle.record.proofs.KindLaws.{dec-leaf, inc-leaf, lit-leaf, named-number, var-leaf}
use Rattle.record.specs.Program.{block_size, expr_kind}
use Rattle.rules.specs.Syntax.{Block, Bound, Expr, assign, dec, empty, inc, lit, loop, nest, var}
use Rattle.place.specs.ProgramView.{AssignView, BlockAt, CommandView, LoopView, first_assign, first_loop, first_nest}
use Rattle.place.proofs.ProgramBytesLaws.{block_size-some, block_size-zero}
use Rattle.place.proofs.ProgramViewLaws.{as-assign, as-loop, as-nest, block_room, command-kind, command-view}
use Rattle.counting.specs.Counting.{State}
use Rattle.counting.specs.Held.{Held}
use Rattle.counting.specs.ReadState.{is_right, Read, read_here, read_sum, read_waiting}
use Rattle.std.proofs.Common.{None, Option}
use Rattle.std.specs.Bool.{then_some}
use Rattle.state_check.specs.declared.Class.{Class}
use Rattle.state_check.specs.declared.Class.TheVariants.{InBlock}
use Rattle.state_check.specs.Class.{ClassOf, loop_class, shut_class}
use Rattle.state_check.proofs.ClassLaws.{Opens, loop-inside, opens-above, opens-assign, opens-block, opens-elsewhere, opens-loop, opens-no-block, opens-no-loop, opens-none, shut-only}

-- THE CLASS OF AN ENTRY, by what stands there

module _ (waits : ℕ) (last : Bool) (h : Held) (p : ℕ) where
  wrong-class : (r : Block) → ((inside : Block → ℕ → ℕ → Read State) → Opens waits last h p inside None r) → ClassOf waits last h p r None
  wrong-class r o = record { opens = o; inside = λ c e f. absurd cc }

  -- the same of what stands there
  same_class : (r s : Block) (class : Option Class) → r ≡ s → ClassOf waits last h p s class → ClassOf waits last h p r class
  same_class r s class e c = subst (λ (b : Block). ClassOf waits last h p b class) (sym e) c

  pub class-elsewhere : (r : Block) → (h.at ≡ p → ⊥) → ClassOf waits last h p r None
  class-elsewhere r f = wrong-class r (λ i. opens-elsewhere waits last h p i r f)

  block-class : (q r : Block) → h.at ≡ p → (class : Option Class) → class ≡ then_some (eqb h.what 1) InBlock → ClassOf waits last h p (nest q r) class
  block-class q r g class f = subst (ClassOf waits last h p (nest q r)) (sym f) (by-what (eqb h.what 1) refl)
    where
      by-what : (t : Bool) → eqb h.what 1 ≡ t → ClassOf waits last h p (nest q r) (then_some t InBlock)
      by-what true t = record { opens = λ i. opens-block waits last h p i q r (eqb-true h.what 1 t) g; inside = λ c e f. cc }
      by-what false t = wrong-class (nest q r) (λ i. opens-no-block waits last h p i q r (eqb-false h.what 1 t))

  loop-class : (x : ℕ) (n : Bound) (q r : Block) → h.what ≡ 2 → h.at ≡ p → h.reached ≤ h.top → (class : Option Class)
      → class ≡ loop_class h.running h.reached h.progress (shut_class last waits) → ClassOf waits last h p (loop x n q r) class
  loop-class x n q r w a l class d =
      record {
        opens = λ i. opens-loop waits last h p i x n q r w a l class d;
        inside = λ c e f. loop-inside h.running h.reached h.progress (shut_class last waits) (shut-only last waits) c (sym d ∙ e) f;
      }

-- A SUM waits where the expression is a plus one or a minus one

sum_right : (v x : ℕ) (e : Expr) (t : Block) → 17 < expr_kind e → true ≡ is_right (read_sum v x e t)
unfolding read_sum is_right
sum_right v x (lit n) t h = absurd (omega (arith, named-number (sym (lit-leaf n).0)))
sum_right v x (var n) t h = absurd (omega (arith, named-number (sym (var-leaf n).0)))
sum_right v x (inc n) t h = refl
sum_right v x (dec n) t h = refl

sum-wrong : (v x : ℕ) (e : Expr) (t : Block) → (expr_kind e ≡ 18 → ⊥) → (expr_kind e ≡ 19 → ⊥) → false ≡ is_right (read_sum v x e t)
unfolding read_sum is_right
sum-wrong v x (lit n) t f g = refl
sum-wrong v x (var n) t f g = refl
sum-wrong v x (inc n) t f g = absurd (f (named-number (sym (inc-leaf n).0)))
sum-wrong v x (dec n) t f g = absurd (g (named-number (sym (dec-leaf n).0)))

-- WHAT STANDS AT THE PLACE p of the commands that end at `end`, and begin at o in the bytes

positive : (m : ℕ) → (m ≡ 0 → ⊥) → 0 < m
positive zero f = absurd (f refl)
positive (suc m) f = omega arith

third : (n : ℕ) → (1 ≤ n) × (n ≤ 3) → (n ≡ 1 → ⊥) → (n ≡ 2 → ⊥) → n ≡ 3
third n l f g = omega arith

module _ {buf : List ℕ} (o p end : ℕ) {r : Block} (b : BlockAt buf (o + p) r) (s : p + block_size r ≡ end) where
  nothing : p ≡ end → r ≡ empty
  nothing e = block_size-zero r (omega arith)

  something : (p ≡ end → ⊥) → 0 < block_size r
  something f = positive (block_size r) (λ e. f (omega arith))

  pub at_room : (p ≡ end → ⊥) → o + p + 4 ≤ length buf
  at_room f = omega (arith, block_room b, block_size-some r (something f))

  module _ (waits : ℕ) (last : Bool) (h : Held) where
    pub class-end : p ≡ end → ClassOf waits last h p r None
    class-end e = same_class waits last h p r empty None (nothing e) (wrong-class waits last h p empty (λ i. opens-none waits last h p i))

    -- by the number of the kind there
    module _ (f : p ≡ end → ⊥) where
      pub class-assign : val (part buf (o + p + 2) 2) ≡ 2 → ClassOf waits last h p r None
      class-assign e =
          let v = as-assign b (something f) e in
          same_class waits last h p r (assign v.variable v.expr v.rest) None v.is
          (wrong-class waits last h p _ (λ i. opens-assign waits last h p i v.variable v.expr v.rest))

      pub class-block : val (part buf (o + p + 2) 2) ≡ 1 → h.at ≡ p → (class : Option Class) → class ≡ then_some (eqb h.what 1) InBlock → ClassOf waits last h p r class
      class-block e a class c =
          let v = as-nest b (something f) e in
          same_class waits last h p r (nest v.body v.rest) class v.is (block-class waits last h p v.body v.rest a class c)

      module _ (f₁ : val (part buf (o + p + 2) 2) ≡ 1 → ⊥) (f₂ : val (part buf (o + p + 2) 2) ≡ 2 → ⊥) where
        view : LoopView buf (o + p) r
        view = as-loop b (something f) (third (val (part buf (o + p + 2) 2)) (command-kind b (something f)) f₁ f₂)

        as-this : (class : Option Class) → ClassOf waits last h p (loop view.variable view.bound view.body view.rest) class → ClassOf waits last h p r class
        as-this class c = same_class waits last h p r _ class view.is c

        pub class-no-loop : (h.what ≡ 2 → ⊥) → ClassOf waits last h p r None
        class-no-loop w = as-this None (wrong-class waits last h p _ (λ i. opens-no-loop waits last h p i view.variable view.bound view.body view.rest w))

        pub class-above : h.what ≡ 2 → h.at ≡ p → h.top < h.reached → ClassOf waits last h p r None
        class-above w a l = as-this None (wrong-class waits last h p _ (λ i. opens-above waits last h p i view.variable view.bound view.body view.rest w a l))

        pub class-loop : h.what ≡ 2 → h.at ≡ p → h.reached ≤ h.top → (class : Option Class) → class ≡ loop_class h.running h.reached h.progress (shut_class last waits) → ClassOf waits last h p r class
        class-loop w a l class d = as-this class (loop-class waits last h p view.variable view.bound view.body view.rest w a l class d)

  -- THE INNERMOST PLACE

  module _ (waits v : ℕ) where
    pub last_none : waits ≡ 0 → true ≡ is_right (read_here waits v r)
    unfolding read_here is_right
    last_none e = sym (ap (λ (w : ℕ). is_right (read_here w v r)) e)

    module _ (f : waits ≡ 0 → ⊥) where
      waiting : (t : Block) → is_right (read_waiting v t) ≡ is_right (read_here waits v t)
      waiting t = by-waits waits f
        where
          by-waits : (w : ℕ) → (w ≡ 0 → ⊥) → is_right (read_waiting v t) ≡ is_right (read_here w v t)
          by-waits zero f = absurd (f refl)
          by-waits (suc w) f = unfold read_here in refl

      pub last-end : p ≡ end → false ≡ is_right (read_here waits v r)
      unfolding read_waiting is_right
      last-end e = ap (λ (t : Block). is_right (read_waiting v t)) (sym (nothing e)) ∙ waiting r

      pub last-other : (p ≡ end → ⊥) → (val (part buf (o + p + 2) 2) ≡ 2 → ⊥) → false ≡ is_right (read_here waits v r)
      unfolding read_waiting is_right
      last-other g n = by-view (val (part buf (o + p + 2) 2)) (command-view b (something g)) n ∙ waiting r
        where
          by-view : (m : ℕ) → CommandView buf (o + p) r m → (m ≡ 2 → ⊥) → false ≡ is_right (read_waiting v r)
          by-view _ (first_nest w) n = ap (λ (t : Block). is_right (read_waiting v t)) (sym w.is)
          by-view _ (first_assign w) n = absurd (n refl)
          by-view _ (first_loop w) n = ap (λ (t : Block). is_right (read_waiting v t)) (sym w.is)

  -- of an assignment
  module _ (g : p ≡ end → ⊥) (e : val (part buf (o + p + 2) 2) ≡ 2) where
    pub last-room : o + p + 16 ≤ length buf
    last-room = let w = as-assign b (something g) e in omega (arith, w.room, w.size)

    module _ (waits v : ℕ) (f : waits ≡ 0 → ⊥) where
      -- what holds of the sum's reading holds of that of what is here
      of-sum : (t : Bool) → ((w : AssignView buf (o + p) r) → t ≡ is_right (read_sum v w.variable w.expr w.rest)) → t ≡ is_right (read_here waits v r)
      unfolding read_waiting
      of-sum t h = let w = as-assign b (something g) e in h w ∙ ap (λ (t : Block). is_right (read_waiting v t)) (sym w.is) ∙ waiting waits v f r

      pub last_sum : 17 < val (part buf (o + p + 10) 2) → true ≡ is_right (read_here waits v r)
      last_sum l = of-sum true (λ w. sum_right v w.variable w.expr w.rest (omega (arith, w.kind-read)))

      pub last-no-sum : (val (part buf (o + p + 10) 2) ≡ 18 → ⊥) → (val (part buf (o + p + 10) 2) ≡ 19 → ⊥) → false ≡ is_right (read_here waits v r)
      last-no-sum i j = of-sum false (λ w. sum-wrong v w.variable w.expr w.rest (λ z. i (w.kind-read ∙ z)) (λ z. j (w.kind-read ∙ z)))
