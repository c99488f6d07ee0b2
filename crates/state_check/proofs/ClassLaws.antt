-- Laws of the classes: what each comes to is what the reading does.
use Prim.Native.Nat.{◌-◌, ◌<◌, ◌≤◌, suc, zero, ℕ}
use mathlib.Core.Path.{ap, refl, sym, ◌∙◌, ◌≡◌}
use mathlib.Core.Bool.{Bool, ◌&&◌, false, true}
use borrow.Author.Tests.{eq-eqb, le-leb, lt-leb, ne_eqb}
use lib.Dec.{eqb, leb}
use native.Mathlib.Omega.{arith}
use Rattle.rules.specs.Syntax.{Block, Bound, Expr, assign, empty, loop, nest}
use Rattle.counting.specs.Counting.{State}
use Rattle.counting.specs.Held.{Held}
use Rattle.counting.specs.Place.{body_at, inside_at}
use Rattle.counting.specs.ReadState.{is_right, Read, Wrong, above_top, check, holding, no_sum, none_open, not_at_holder, progress_held, read_loop, read_open, read_shut, right, wrong}
use Rattle.std.proofs.Common.{None, Option, Some, cond}
use Rattle.state_check.specs.declared.Class.{Class}
use Rattle.state_check.specs.declared.Class.TheVariants.{InBlock, InBody, Shut}
use Rattle.state_check.specs.Class.{class_right, inside_right, loop_class, shut_class}
use Rattle.std.specs.Bool.{then_some}

right-check : (t : Bool) (w : Wrong) (o : Read State) → is_right (check t w o) ≡ t && is_right o
unfolding check is_right
right-check true w o = refl
right-check false w o = refl

right-holding : (f : State → State) (o : Read State) → is_right (holding f o) ≡ is_right o
unfolding holding is_right
right-holding f (right s) = refl
right-holding f (wrong w) = refl

right-shut : (waits : ℕ) (last : Bool) (s : State) (b : Bool) → is_right (read_shut waits last s) ≡ class_right (shut_class last waits) b
unfolding read_shut check is_right shut_class class_right
right-shut waits true s b = by-waits (eqb waits 0)
  where
    by-waits : (t : Bool) → is_right (check t no_sum (right s)) ≡ class_right (then_some (true && t) Shut) b
    by-waits true = refl
    by-waits false = refl
right-shut waits false s b = refl

right-only : (t : Bool) (w : Wrong) (o : Read State) (c : Option Class) (b : Bool) → is_right o ≡ class_right c b → is_right (check t w o) ≡ class_right (cond t c None) b
unfolding check is_right class_right
right-only true w o c b e = e
right-only false w o c b e = refl

-- THE LOOP

right-loop : (waits : ℕ) (last : Bool) (running c progress top x : ℕ) (q r : Block) (inside : ℕ → Read State)
    → is_right (read_loop waits last running c progress top x q r inside) ≡ class_right (loop_class running c progress (shut_class last waits)) (is_right (inside (progress - 2)))
unfolding read_loop loop_class
right-loop waits last zero c progress top x q r inside = right-only (eqb progress 0) progress_held _ (shut_class last waits) _ (right-shut waits last _ _)
right-loop waits last (suc f) zero progress top x q r inside = right-only (eqb progress 0) progress_held _ (shut_class last waits) _ (right-shut waits last _ _)
right-loop waits last (suc f) (suc c) zero top x q r inside = unfold is_right class_right in refl
right-loop waits last (suc f) (suc c) (suc zero) top x q r inside = right-shut waits last _ _
right-loop waits last (suc f) (suc c) (suc (suc i)) top x q r inside =
    right-holding _ (inside i) ∙ (unfold class_right in (ap (λ (k : ℕ). is_right (inside k)) {x = i} {y = suc (suc i) - 2} (omega arith)))

-- only a loop at a place in its body is not shut
only-some : (t : Bool) (shut : Option Class) (c : Class) → cond t shut None ≡ Some c → shut ≡ Some c
only-some true shut c e = e
only-some false shut c e = absurd cc

pub shut-only : (last : Bool) (waits : ℕ) (c : Class) → shut_class last waits ≡ Some c → c ≡ Shut
shut-only last waits c e = by-test (last && eqb waits 0) (unfold shut_class in e)
  where
    by-test : (t : Bool) → then_some t Shut ≡ Some c → c ≡ Shut
    by-test true e = cc
    by-test false e = absurd cc

pub loop-inside : (running reached progress : ℕ) (shut : Option Class) → ((c : Class) → shut ≡ Some c → c ≡ Shut) → (c : Class) → loop_class running reached progress shut ≡ Some c → (c ≡ Shut → ⊥)
    → (c ≡ InBody) × (2 ≤ progress)
unfolding loop_class
loop-inside zero reached progress shut s c e f = absurd (f (s c (only-some (eqb progress 0) shut c e)))
loop-inside (suc r) zero progress shut s c e f = absurd (f (s c (only-some (eqb progress 0) shut c e)))
loop-inside (suc r) (suc m) zero shut s c e f = absurd cc
loop-inside (suc r) (suc m) (suc zero) shut s c e f = absurd (f (s c e))
loop-inside (suc r) (suc m) (suc (suc i)) shut s c e f = (cc, omega arith)

-- AN ENTRY, by what each test of its code decides

module _ (waits : ℕ) (last : Bool) (h : Held) (p : ℕ) (inside : Block → ℕ → ℕ → Read State) where
  abbrev pub Opens : Option Class → Block → Type 0
  Opens class r = is_right (read_open waits last h p inside r) ≡ class_right class (inside_right inside h p r)

  pub opens-none : Opens None empty
  unfolding read_open is_right class_right
  opens-none = refl

  pub opens-assign : (x : ℕ) (e : Expr) (r : Block) → Opens None (assign x e r)
  unfolding read_open is_right class_right
  opens-assign x e r = refl

  wrong-what : (w n : ℕ) (o : Read State) → (w ≡ n → ⊥) → is_right (check (eqb w n) none_open o) ≡ false
  wrong-what w n o f = right-check (eqb w n) none_open o ∙ ap (λ (t : Bool). t && is_right o) (ne_eqb w n f)

  right-what : (w n : ℕ) (e : Wrong) (o : Read State) → w ≡ n → is_right (check (eqb w n) e o) ≡ is_right o
  right-what w n e o f = right-check (eqb w n) e o ∙ ap (λ (t : Bool). t && is_right o) (eq-eqb w n f)

  and-false : (t : Bool) → t && false ≡ false
  and-false true = refl
  and-false false = refl

  wrong-at : (w n a : ℕ) (o : Read State) → (a ≡ p → ⊥) → is_right (check (eqb w n) none_open (check (eqb a p) not_at_holder o)) ≡ false
  wrong-at w n a o f =
      right-check (eqb w n) none_open (check (eqb a p) not_at_holder o)
      ∙ ap (λ (t : Bool). eqb w n && t) (right-check (eqb a p) not_at_holder o ∙ ap (λ (t : Bool). t && is_right o) (ne_eqb a p f))
      ∙ and-false (eqb w n)

  pub opens-elsewhere : (r : Block) → (h.at ≡ p → ⊥) → Opens None r
  unfolding read_open class_right
  opens-elsewhere empty f = unfold is_right in refl
  opens-elsewhere (assign x e r) f = unfold is_right in refl
  opens-elsewhere (loop x n q r) f = wrong-at h.what 2 h.at _ f
  opens-elsewhere (nest q r) f = wrong-at h.what 1 h.at _ f

  pub opens-no-block : (q r : Block) → (h.what ≡ 1 → ⊥) → Opens None (nest q r)
  unfolding read_open class_right
  opens-no-block q r f = wrong-what h.what 1 _ f

  pub opens-block : (q r : Block) → h.what ≡ 1 → h.at ≡ p → Opens (Some InBlock) (nest q r)
  unfolding read_open class_right inside_right
  opens-block q r f g = right-what h.what 1 none_open _ f ∙ right-what h.at p not_at_holder _ g ∙ right-holding _ (inside q (inside_at p) h.progress)

  pub opens-no-loop : (x : ℕ) (n : Bound) (q r : Block) → (h.what ≡ 2 → ⊥) → Opens None (loop x n q r)
  unfolding read_open class_right
  opens-no-loop x n q r f = wrong-what h.what 2 _ f

  module _ (x : ℕ) (n : Bound) (q r : Block) (f : h.what ≡ 2) (g : h.at ≡ p) where
    abbrev inner : Read State
    inner = read_loop waits last h.running h.reached h.progress h.top x q r (inside q (body_at p))

    opens-so-far : is_right (read_open waits last h p inside (loop x n q r)) ≡ leb h.reached h.top && is_right inner
    unfolding read_open
    opens-so-far = right-what h.what 2 none_open _ f ∙ right-what h.at p not_at_holder _ g ∙ right-check (leb h.reached h.top) above_top inner

    pub opens-above : h.top < h.reached → Opens None (loop x n q r)
    unfolding class_right
    opens-above l = opens-so-far ∙ ap (λ (t : Bool). t && is_right inner) (lt-leb h.reached h.top l)

    pub opens-loop : h.reached ≤ h.top → (class : Option Class) → class ≡ loop_class h.running h.reached h.progress (shut_class last waits) → Opens class (loop x n q r)
    unfolding inside_right
    opens-loop l class e =
        opens-so-far ∙ ap (λ (t : Bool). t && is_right inner) (le-leb h.reached h.top l)
        ∙ right-loop waits last h.running h.reached h.progress h.top x q r (inside q (body_at p))
        ∙ ap (λ (c : Option Class). class_right c (is_right (inside q (body_at p) (h.progress - 2)))) (sym e)
