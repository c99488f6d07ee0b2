-- A state by what stands innermost in it: what its words hold, and where its commands stand in the bytes.
use Prim.Native.Nat.{◌+◌, ◌≤◌, suc, ℕ}
use mathlib.Core.Path.{ap, refl, subst, sym, ◌∙◌, ◌≡◌}
use mathlib.Core.List.{◌++◌, List, [], ◌∷◌}
use mathlib.Core.Option.{some-injective, some}
use lib.ListN.{length}
use native.Mathlib.Omega.{arith}
use Rattle.record.specs.Program.{block_size}
use Rattle.rules.specs.Scope.{BlockWithin}
use Rattle.rules.specs.Syntax.{Block, Bound, Expr, assign, empty, loop, nest}
use Rattle.place.specs.ProgramView.{BlockAt}
use Rattle.place.proofs.ProgramViewLaws.{block-index}
use Rattle.record.proofs.ReadingLaws.{none-inv, pick_inv}
use Rattle.counting.specs.Counting.{State, at_zero, here, in_block, in_body, storing, summed, unrolling}
use Rattle.counting.specs.Depth.{open_count}
use Rattle.counting.specs.Entries.{Entry, entries, hold, innermost, open_block, open_turn, within}
use Rattle.counting.specs.Frames.{entry_at, entry_block, entry_held, entry_inside, entry_mark, inner_at, inner_block}
use Rattle.counting.specs.Held.{body_mark, held_block, held_loop}
use Rattle.counting.specs.Place.{body_at, inside_at, rest_at}
use Rattle.counting.specs.StateOf.{IsSum, StateOf}
use Rattle.counting.proofs.BytesLaws.{inner-stands, rest-stands}
use Rattle.counting.proofs.DepthLaws.{open-31}
use Rattle.counting.proofs.EntriesLaws.{entries-innermost, within-append, within-entries}
use Rattle.counting.proofs.FramesLaws.{at_last, hold-of, inner_last, last_at, within_of}
use Rattle.counting.proofs.InnermostEdits.{Framed}
use Rattle.counting.proofs.ReadStateLaws.{place-loop, place-nest}
use Rattle.counting.proofs.WordEdits.{num}
use Rattle.count_step.proofs.ReadLaws.{framed-snoc, snoc-cases}
use Rattle.count_step.specs.Inner.{Holds, Inner, Shut, shut_at_zero, shut_storing, shut_unrolling}

-- THE VARIABLES OF WHAT IS LEFT

module _ (k : ℕ) where
  same-within : (b r : Block) → some b ≡ some r → BlockWithin k b → BlockWithin k r
  same-within b r e h = subst (BlockWithin k) (some-injective b r e) h

  pub rest-within : (b : Block) (a p : ℕ) (r : Block) → rest_at b a p ≡ some r → BlockWithin k b → BlockWithin k r
  unfolding rest_at
  rest-within empty a p = pick_inv (λ r. BlockWithin k empty → BlockWithin k r) p a _ _ (λ r h e. same-within empty r e) (none-inv (λ r. BlockWithin k empty → BlockWithin k r))
  rest-within (assign x y t) a p =
      pick_inv (λ r. BlockWithin k (assign x y t) → BlockWithin k r) p a _ _ (λ r h e. same-within (assign x y t) r e)
      (λ r e w. rest-within t (a + 16) p r e w.2)
  rest-within (loop x n q t) a p =
      pick_inv (λ r. BlockWithin k (loop x n q t) → BlockWithin k r) p a _ _ (λ r h e. same-within (loop x n q t) r e)
      (λ r e w. rest-within t (a + (20 + block_size q)) p r e w.3)
  rest-within (nest q t) a p =
      pick_inv (λ r. BlockWithin k (nest q t) → BlockWithin k r) p a _ _ (λ r h e. same-within (nest q t) r e)
      (λ r e w. rest-within t (a + (4 + block_size q)) p r e w.1)

  hold-within : (e : Entry) (s : State) (b : Block) (a : ℕ) → StateOf b a (hold e s) → BlockWithin k b → BlockWithin k (entry_block e)
  unfolding hold entry_block
  hold-within (open_block q r) s b a h w = (rest-within b a h.0 (nest q r) h.1 w).0
  hold-within (open_turn x c d q r) s b a h w = (rest-within b a h.1.1 (loop x h.1.0 q r) h.1.2 w).2

  inner-within : (es : List Entry) (s : State) (b : Block) (a : ℕ) → StateOf b a (within es s) → BlockWithin k b → BlockWithin k (inner_block es b)
  unfolding within inner_block
  inner-within [] s b a h w = w
  inner-within (e ∷ es) s b a h w =
      inner-within es s (entry_block e) (entry_inside e (entry_at e b a)) (hold-of e (within es s) b a h).0 (hold-within e (within es s) b a h w)

-- HOW MANY ARE OPEN

open-hold : (e : Entry) (s : State) → open_count (hold e s) ≡ suc (open_count s)
unfolding hold open_count
open-hold (open_block q r) s = refl
open-hold (open_turn x c d p r) s = refl

pub open-within : (es : List Entry) (t : State) → open_count (within es t) ≡ length es + open_count t
unfolding within
open-within [] t = omega arith
open-within (e ∷ es) t = open-hold e (within es t) ∙ (let h = open-within es t in omega arith)

module _ {start used n : ℕ} {P : Block} {es : List Entry} {i : ℕ} {r : Block} {t : State} {buf words : List ℕ} {count : ℕ} (h : Inner start used n P es i r t buf words count) where
  -- n are open, at most 31
  pub inner-many : n ≡ length es + open_count t
  inner-many = h.holds.many ∙ open-within es t

  pub inner-open : length es + open_count t ≤ 31
  inner-open = omega (arith, open-31 P 0 (within es t) h.holds.of h.holds.deep, open-within es t)

  pub inner-at : BlockAt buf (start + i) r
  inner-at = rest-stands buf start (inner_block es P) (inner_at es P 0) i r h.place (inner-stands buf start es t P 0 h.holds.of (block-index h.holds.stands (omega arith)))

  pub inner-scope : BlockWithin count r
  inner-scope = rest-within count (inner_block es P) (inner_at es P 0) i r h.place (inner-within count es t P 0 h.holds.of h.holds.scope)

  -- another state may stand there
  pub inner-other : (u : State) → StateOf (inner_block es P) (inner_at es P 0) u → StateOf P 0 (within es u)
  inner-other u o = (within_of es t P 0 h.holds.of).1 u o

-- THE THREE SHAPES

pub data View (start used n : ℕ) (P : Block) (s : State) (buf words : List ℕ) (count : ℕ) : Type 0 where
  view_here : (es : List Entry) (i : ℕ) (r : Block) → s ≡ within es (here r) → Inner start used n P es i r (here r) buf words count → View start used n P s buf words count
  view_sum : (es : List Entry) (i x : ℕ) (e : Expr) (v : ℕ) (r : Block) → s ≡ within es (summed x e v r) → IsSum e
      → Inner start used n P es i (assign x e r) (summed x e v r) buf words count → View start used n P s buf words count
  view_shut : (es : List Entry) (i x : ℕ) (m : Bound) (q r : Block) (t : State) → s ≡ within es t → Shut x q r t
      → Inner start used n P es i (loop x m q r) t buf words count → View start used n P s buf words count

module _ {start used n : ℕ} {P : Block} {s : State} {buf words : List ℕ} {count : ℕ} (h : Holds start used n P s buf words count) where
  abbrev es : List Entry
  es = entries s

  inner : (i : ℕ) (r : Block) (t : State) → s ≡ within es t → rest_at (inner_block es P) (inner_at es P 0) i ≡ some r → Inner start used n P es i r t buf words count
  inner i r t e p = record { holds = subst (λ (z : State). Holds start used n P z buf words count) e h; place = p }

  by-inner : (t : State) → entries t ≡ [] → s ≡ within es t → StateOf (inner_block es P) (inner_at es P 0) t → View start used n P s buf words count
  unfolding entries
  by-inner (here r) n e o = view_here es o.0 r e (inner o.0 r (here r) e o.1)
  by-inner (summed x y v r) n e o = view_sum es o.1.0 x y v r e o.0 (inner o.1.0 (assign x y r) (summed x y v r) e o.1.1)
  by-inner (in_block q t r) n e o = let z : ◌≡◌ {A = ℕ} 0 1 = cc in absurd (omega arith)
  by-inner (unrolling x c d q r) n e o = view_shut es o.1.0 x o.0 q r _ e (shut_unrolling c d) (inner o.1.0 (loop x o.0 q r) (unrolling x c d q r) e o.1.1)
  by-inner (at_zero x d q r) n e o = view_shut es o.1.0 x o.0 q r _ e (shut_at_zero d) (inner o.1.0 (loop x o.0 q r) (at_zero x d q r) e o.1.1)
  by-inner (storing x c d q r) n e o =
      view_shut es o.1.1.0 x o.1.0 q r _ e (shut_storing c d o.0) (inner o.1.1.0 (loop x o.1.0 q r) (storing x c d q r) e o.1.1.1)
  by-inner (in_body x c d q t r) n e o = let z : ◌≡◌ {A = ℕ} 0 1 = cc in absurd (omega arith)

  pub view : View start used n P s buf words count
  view =
      let e : s ≡ within es (innermost s) = sym (within-entries s) in
      by-inner (innermost s) (entries-innermost s) e (within_of es (innermost s) P 0 (subst (StateOf P 0) e h.of)).0

-- WHAT IS AROUND: nothing, a block, or a loop's body

pub data Last (start used n : ℕ) (P : Block) (es : List Entry) (i : ℕ) (r : Block) (t : State) (buf words : List ℕ) (count : ℕ) : Type 0 where
  last_none : es ≡ [] → Last start used n P es i r t buf words count
  last_block : (fs : List Entry) (p : ℕ) (q o : Block) → es ≡ fs ++ (open_block q o ∷ []) → inner_block es P ≡ q → inner_at es P 0 ≡ inside_at p
      → ((w v : ℕ) → Framed P es i (num i w v []) ≡ Framed P fs p (num p w v (held_block p i ∷ [])))
      → Inner start used n P fs p (nest q o) (in_block q t o) buf words count → Last start used n P es i r t buf words count
  last_turn : (fs : List Entry) (p x c d : ℕ) (m : Bound) (q o : Block) → es ≡ fs ++ (open_turn x c d q o ∷ []) → inner_block es P ≡ q → inner_at es P 0 ≡ body_at p → 1 ≤ c
      → ((w v : ℕ) → Framed P es i (num i w v []) ≡ Framed P fs p (num p w v (held_loop p c d 1 (body_mark i) ∷ [])))
      → Inner start used n P fs p (loop x m q o) (in_body x c d q t o) buf words count → Last start used n P es i r t buf words count

module _ (start used n : ℕ) (P : Block) (i : ℕ) (r : Block) (t : State) (buf words : List ℕ) (count : ℕ) where
  abbrev WithLast : List Entry → Type 0
  WithLast es = Inner start used n P es i r t buf words count → Last start used n P es i r t buf words count

  snoc-holds : (fs : List Entry) (e : Entry) (u : State) → within (e ∷ []) t ≡ u → Holds start used n P (within (fs ++ (e ∷ [])) t) buf words count → Holds start used n P (within fs u) buf words count
  snoc-holds fs e u g h = subst (λ (z : State). Holds start used n P z buf words count) (within-append fs (e ∷ []) t ∙ ap (within fs) g) h

  by_last : (fs : List Entry) (e : Entry) → WithLast (fs ++ (e ∷ []))
  unfolding entry_block entry_inside entry_held entry_mark
  by_last fs (open_block q o) h =
      let e : Entry = open_block q o in
      let g : Holds start used n P (within fs (in_block q t o)) buf words count = snoc-holds fs e (in_block q t o) (unfold within hold in refl) h.holds in
      let s = (within_of fs (in_block q t o) P 0 g.of).0 in
      let p : last_at e fs P 0 ≡ s.0 = unfold entry_at in (place-nest (inner_block fs P) (inner_at fs P 0) s.0 q o s.1) in
      last_block fs s.0 q o refl (inner_last e fs P) (at_last e fs P 0 ∙ ap inside_at p)
      (λ w v. framed-snoc P fs e i w v ∙ ap (λ (j : ℕ). Framed P fs j (num j w v (held_block j i ∷ []))) p)
      (record { holds = g; place = s.1 })
  by_last fs (open_turn x c d q o) h =
      let e : Entry = open_turn x c d q o in
      let g : Holds start used n P (within fs (in_body x c d q t o)) buf words count = snoc-holds fs e (in_body x c d q t o) (unfold within hold in refl) h.holds in
      let s = (within_of fs (in_body x c d q t o) P 0 g.of).0 in
      let p : last_at e fs P 0 ≡ s.1.1 = unfold entry_at in (place-loop (inner_block fs P) (inner_at fs P 0) s.1.1 x s.1.0 q o s.1.2) in
      last_turn fs s.1.1 x c d s.1.0 q o refl (inner_last e fs P) (at_last e fs P 0 ∙ ap body_at p) s.0
      (λ w v. framed-snoc P fs e i w v ∙ ap (λ (j : ℕ). Framed P fs j (num j w v (held_loop j c d 1 (body_mark i) ∷ []))) p)
      (record { holds = g; place = s.1.2 })

  last_of : (es : List Entry) → WithLast es
  last_of es h = snoc-cases es (λ e. last_none e) (λ fs e g. subst WithLast (sym g) (by_last fs e) h)

pub last : {start used n : ℕ} {P : Block} {es : List Entry} {i : ℕ} {r : Block} {t : State} {buf words : List ℕ} {count : ℕ} → Inner start used n P es i r t buf words count
    → Last start used n P es i r t buf words count
last {start} {used} {n} {P} {es} {i} {r} {t} {buf} {words} {count} h = last_of start used n P i r t buf words count es h
