-- Each state is one of three shapes, told by its words: a shut loop, a sum that waits, or a place at which nothing is open.
use Prim.Native.Nat.{◌≤◌, ℕ}
use mathlib.Core.Path.{ap, refl, sym, ◌∙◌, ◌≡◌}
use mathlib.Core.Bool.{false, true}
use mathlib.Core.List.{List, [], ◌∷◌}
use borrow.Author.Tests.{le-ltb}
use lib.ListN.{get_or, length, length-append}
use native.Mathlib.Omega.{arith}
use Rattle.rules.specs.Syntax.{Block, Bound, Expr, assign, loop}
use Rattle.rules.proofs.Tests.{true-false}
use Rattle.counting.specs.Counting.{State, here, summed}
use Rattle.counting.specs.Depth.{open_count}
use Rattle.counting.specs.Entries.{Entry, open_block, open_turn, within}
use Rattle.counting.specs.Held.{body_mark, held_block, held_loop}
use Rattle.counting.proofs.InnermostEdits.{Framed, words-summed}
use Rattle.counting.proofs.WordEdits.{num}
use Rattle.state_words.proofs.EntryLaws.{loop-none}
use Rattle.count_step.specs.Inner as inner
use Rattle.count_step.specs.Inner.{Holds, Inner}
use Rattle.count_step.specs.declared.standing.Standing.{Standing}
use Rattle.count_step.specs.declared.standing.Way.{Way}
use Rattle.count_step.specs.declared.standing.Way.TheVariants.{Here, Shut, Waits}
use Rattle.count_step.specs.Standing.{IsWay, kind_of, way_here, way_shut, way_sum}
use Rattle.count_step.specs.Words.{shut_words}
use Rattle.count_step.proofs.AroundLaws.{entry_read, entry-shut, here-read, here-same, shut-read, sum-read}
use Rattle.count_step.proofs.InnerLaws.{Last, View, inner-open, last, last_block, last_none, last_turn, view, view_here, view_shut, view_sum}
use Rattle.count_step.proofs.WordsLaws.{shut-other}

-- AT A PLACE: not shut

open-words : {start used n : ℕ} {P : Block} {es : List Entry} {i : ℕ} {r : Block} {t : State} {buf words : List ℕ} {count : ℕ} → Inner start used n P es i r t buf words count
    → (w v : ℕ) → words ≡ Framed P es i (num i w v []) → n ≡ length es → Last start used n P es i r t buf words count → shut_words words n ≡ false
unfolding open_count held_block held_loop
open-words {n = n} {words = words} h w v e c (last_none z) = sym (shut-other words n false (loop-none words n (c ∙ ap length z)) refl)
open-words {n = n} {P = P} {i = i} {words = words} h w v e c (last_block fs p q o z b a f g) =
    entry-shut n (length fs) (held_block p i) w words
    (entry_read P n fs p w v (held_block p i) words (omega (arith, inner-open g)) (c ∙ ap length z ∙ length-append fs (open_block q o ∷ []) ∙ (omega arith)) (e ∙ f w v))
open-words {n = n} {P = P} {i = i} {words = words} h w v e c (last_turn fs p x y d m q o z b a l f g) =
    entry-shut n (length fs) (held_loop p y d 1 (body_mark i)) w words
    (entry_read P n fs p w v (held_loop p y d 1 (body_mark i)) words (omega (arith, inner-open g)) (c ∙ ap length z ∙ length-append fs (open_turn x y d q o ∷ []) ∙ (omega arith)) (e ∙ f w v))
    ∙ le-ltb (body_mark i) 2 (omega arith)

pub here-open : {start used n : ℕ} {P : Block} {es : List Entry} {i : ℕ} {r : Block} {buf words : List ℕ} {count : ℕ} → Inner start used n P es i r (here r) buf words count
    → shut_words words n ≡ false
here-open h = open-words h 0 0 (here-same h) (here-read h).count (last h)

pub sum-open : {start used n : ℕ} {P : Block} {es : List Entry} {i x : ℕ} {e : Expr} {v : ℕ} {r : Block} {buf words : List ℕ} {count : ℕ}
    → Inner start used n P es i (assign x e r) (summed x e v r) buf words count → shut_words words n ≡ false
sum-open {P = P} {es = es} {i = i} {x = x} {e = e} {v = v} {r = r} h = open-words h 1 v (h.holds.same ∙ words-summed P es i x e v r h.place) (sum-read h).count (last h)

pub not-shut : {start used n : ℕ} {P : Block} {es : List Entry} {i x : ℕ} {m : Bound} {q r : Block} {u : State} {buf words : List ℕ} {count : ℕ}
    → inner.Shut x q r u → Inner start used n P es i (loop x m q r) u buf words count → shut_words words n ≡ false → ⊥
not-shut o a t = true-false (sym (shut-read o a).shut ∙ t)

module _ {start used n : ℕ} {P : Block} {s : State} {buf words : List ℕ} {count : ℕ} (h : Holds start used n P s buf words count) where
  -- WHAT CODE ASKS of any state
  pub holds-reads : n ≤ 31
  holds-reads = by-view (view h)
    where
      by-view : View start used n P s buf words count → n ≤ 31
      by-view (view_here es i r e g) = let p = here-read g in omega (arith, p.count, p.few)
      by-view (view_sum es i x y v r e q g) = let p = sum-read g in omega (arith, p.count, p.few)
      by-view (view_shut es i x m q r t e u g) = let p = shut-read u g in omega (arith, p.count, p.few)

  -- nothing is open at the place
  pub is-here : shut_words words n ≡ false → (get_or words 1 0 ≡ 1 → ⊥)
      → (es : List Entry) × (i : ℕ) × (r : Block) × (s ≡ within es (here r)) × Inner start used n P es i r (here r) buf words count
  is-here t w = by-view (view h)
    where
      by-view : View start used n P s buf words count → (es : List Entry) × (i : ℕ) × (r : Block) × (s ≡ within es (here r)) × Inner start used n P es i r (here r) buf words count
      by-view (view_here es i r e a) = (es, i, r, e, a)
      by-view (view_sum es i x y v r e q a) = absurd (w (sum-read a).waits)
      by-view (view_shut es i x m q r u e o a) = absurd (not-shut o a t)

  -- BY THE WAY of the next step
  pub way-shut : {p : Way} → IsWay start used n buf words p → p ≡ Shut → shut_words words n ≡ true
  way-shut (way_shut t e) z = t
  way-shut (way_sum t w e) z = absurd (cc)
  way-shut (way_here t w f) z = let v = is-here t w in let e = f P v.0 v.1 v.2 count v.4 in absurd (cc)

  pub way-sum : {p : Way} → IsWay start used n buf words p → p ≡ Waits → (shut_words words n ≡ false) × (get_or words 1 0 ≡ 1)
  way-sum (way_shut t e) z = absurd (cc)
  way-sum (way_sum t w e) z = (t, w)
  way-sum (way_here t w f) z = let v = is-here t w in let e = f P v.0 v.1 v.2 count v.4 in absurd (cc)

  pub way-here : {p : Way} → IsWay start used n buf words p → (k : Standing) → p ≡ Here k
      → (es : List Entry) × (i : ℕ) × (r : Block) × (s ≡ within es (here r)) × Inner start used n P es i r (here r) buf words count × (k ≡ kind_of r)
  way-here (way_shut t e) k z = absurd (cc)
  way-here (way_sum t w e) k z = absurd (cc)
  way-here (way_here t w f) k z =
      let v = is-here t w in
      let e = f P v.0 v.1 v.2 count v.4 in
      (v.0, v.1, v.2, v.3, v.4, cc)
