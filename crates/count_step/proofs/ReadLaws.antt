-- What code reads of the words of a state: the sum, the place innermost, and the words of the last entry.
use Prim.Native.Nat.{◌*◌, ◌+◌, ◌<◌, ◌≤◌, suc, ℕ}
use mathlib.Core.Path.{ap, ap₂, refl, subst, sym, ◌∙◌, ◌≡◌}
use mathlib.Core.Bool.{Bool, false, true}
use mathlib.Core.List.{◌++◌, List, [], ◌∷◌}
use lib.Dec.{eqb}
use lib.ListN.{get_or, length, length-append, set}
use lib.Seq.{get_or-set_same}
use native.Mathlib.Omega.{arith}
use Rattle.rules.specs.Syntax.{Block}
use Rattle.counting.specs.Entries.{Entry, open_block, open_turn}
use Rattle.counting.specs.Frames.{entry_held, entry_mark, frames, mark_from, place_mark, place_word}
use Rattle.counting.specs.Held.{Held, held_block, held_loop}
use Rattle.counting.specs.StateWords.{packed}
use Rattle.counting.proofs.FramesLaws.{framed, framed-last, last_at, length-frames, place-mark}
use Rattle.counting.proofs.InnermostEdits.{Framed, entry-edit, place-edit}
use Rattle.counting.proofs.StateWordsLaws.{length-packed}
use Rattle.counting.proofs.WordEdits.{num, six}
use Rattle.state_words.specs.Entry.{last_loop, mark_by, place_in, unmark_by}
use Rattle.state_words.proofs.EntryLaws.{place-word-low}

-- A list is empty, or has a last element.
pub snoc-cases : {A P : Type 0} (es : List A) → (es ≡ [] → P) → ((fs : List A) (e : A) → es ≡ fs ++ (e ∷ []) → P) → P
snoc-cases [] k l = k refl
snoc-cases {A} (x ∷ es) k l = snoc-cases es (λ h. l [] x (ap (λ (t : List A). x ∷ t) h)) (λ fs e h. l (x ∷ fs) e (ap (λ (t : List A). x ∷ t) h))

-- a word is what a store of it would leave as it is
read_set : (l : List ℕ) (j v : ℕ) → j < length l → set l j v ≡ l → get_or l j 0 ≡ v
read_set l j v h e = ap (λ (z : List ℕ). get_or z j 0) (sym e) ∙ get_or-set_same l j v 0 h

module _ (P : Block) (es : List Entry) (i w v : ℕ) (hs : List Held) where
  length-framed : length (frames es P 0 i ++ hs) ≡ length es + length hs
  length-framed = length-append (frames es P 0 i) hs ∙ ap (λ (n : ℕ). n + length hs) (length-frames es P 0 i)

  pub framed-length : length es + length hs ≤ 31 → length (Framed P es i (num i w v hs)) ≡ 189
  framed-length l = length-packed (framed es P 0 (num i w v hs)) (omega (arith, length-framed))

  pub framed-waits : get_or (Framed P es i (num i w v hs)) 1 0 ≡ w
  unfolding packed
  framed-waits = refl

  pub framed-sum : get_or (Framed P es i (num i w v hs)) 2 0 ≡ v
  unfolding packed
  framed-sum = refl

-- the words of the last entry
pub framed-entry : (P : Block) (es : List Entry) (i w v : ℕ) (h : Held) (k x : ℕ) → length es < 31 → k < 6 → set (six h) k x ≡ six h
    → get_or (Framed P es i (num i w v (h ∷ []))) (3 + 6 * length es + k) 0 ≡ x
framed-entry P es i w v h k x l m e =
    let long : length (Framed P es i (num i w v (h ∷ []))) ≡ 189 = framed-length P es i w v (h ∷ []) (omega arith) in
    read_set (Framed P es i (num i w v (h ∷ []))) (3 + 6 * length es + k) x (omega arith) (entry-edit P 0 es i w v h h k x m e)

-- what it is held open as
pub framed-what : (P : Block) (es : List Entry) (i w v : ℕ) (h : Held) → length es < 31 → get_or (Framed P es i (num i w v (h ∷ []))) (3 + 6 * length es) 0 ≡ h.what
framed-what P es i w v h l =
    ap (λ (j : ℕ). get_or (Framed P es i (num i w v (h ∷ []))) j 0) {x = 3 + 6 * length es} {y = 3 + 6 * length es + 0} (omega arith)
    ∙ framed-entry P es i w v h 0 h.what l (omega arith) refl

pub framed-loop : (P : Block) (es : List Entry) (i w v : ℕ) (h : Held) → length es < 31 → last_loop (Framed P es i (num i w v (h ∷ []))) (suc (length es)) ≡ eqb h.what 2
unfolding last_loop
framed-loop P es i w v h l = ap (λ (x : ℕ). eqb x 2) (framed-what P es i w v h l)

-- THE PLACE of what stands innermost, where it is at one

pub framed-snoc : (P : Block) (fs : List Entry) (e : Entry) (i w v : ℕ)
    → Framed P (fs ++ (e ∷ [])) i (num i w v []) ≡ Framed P fs (last_at e fs P 0) (num (last_at e fs P 0) w v (entry_held e (last_at e fs P 0) (entry_mark e i) ∷ []))
framed-snoc P fs e i w v = ap packed (framed-last e fs P 0 i w v)

module _ (P : Block) (i w v j : ℕ) where
  -- The last entry holds a place as the words say.
  abbrev Marks : List Entry → Type 0
  Marks es = length es ≤ 31 → mark_by (last_loop (Framed P es i (num i w v [])) (length es)) j ≡ place_mark es j

  marks-none : Marks []
  unfolding last_loop mark_by place_mark mark_from
  marks-none l = refl

  by-entry : (e : Entry) (p m : ℕ) → mark_by (eqb (entry_held e p m).what 2) j ≡ entry_mark e j
  unfolding entry_held entry_mark held_block held_loop mark_by
  by-entry (open_block q r) p m = refl
  by-entry (open_turn x c d q r) p m = omega arith

  marks-last : (fs : List Entry) (e : Entry) → Marks (fs ++ (e ∷ []))
  marks-last fs e l =
      let p = last_at e fs P 0 in
      let h : Held = entry_held e p (entry_mark e i) in
      let long : length (fs ++ (e ∷ [])) ≡ suc (length fs) = omega (arith, length-append fs (e ∷ [])) in
      ap₂ (λ (z : List ℕ) (n : ℕ). mark_by (last_loop z n) j) (framed-snoc P fs e i w v) long
      ∙ ap (λ (b : Bool). mark_by b j) (framed-loop P fs p w v h (omega arith))
      ∙ by-entry e p (entry_mark e i)
      ∙ sym (place-mark e fs j)

  pub framed-mark : (es : List Entry) → Marks es
  framed-mark es = snoc-cases es (λ h. subst Marks (sym h) marks-none) (λ fs e h. subst Marks (sym h) (marks-last fs e))

unmark : (b : Bool) (p : ℕ) → unmark_by b (mark_by b p) ≡ p
unfolding mark_by unmark_by
unmark true p = omega arith
unmark false p = refl

mark-low : (b : Bool) (p : ℕ) → mark_by b 0 ≤ mark_by b p
unfolding mark_by
mark-low true p = omega arith
mark-low false p = omega arith

module _ (P : Block) (es : List Entry) (i w v : ℕ) (l : length es ≤ 31) where
  abbrev ws : List ℕ
  ws = Framed P es i (num i w v [])

  framed-place : get_or ws (place_word (length es)) 0 ≡ place_mark es i
  framed-place =
      let long : length ws ≡ 189 = framed-length P es i w v [] (omega arith) in
      read_set ws (place_word (length es)) (place_mark es i) (omega (arith, place-word-low (length es) l)) (place-edit P 0 i i w v es)

  held-mark : get_or ws (place_word (length es)) 0 ≡ mark_by (last_loop ws (length es)) i
  held-mark = framed-place ∙ sym (framed-mark P i w v i es l)

  pub framed_at : place_in ws (length es) ≡ i
  unfolding place_in
  framed_at = ap (unmark_by (last_loop ws (length es))) held-mark ∙ unmark (last_loop ws (length es)) i

  -- 2 can be taken of what a loop's entry holds
  pub framed-room : mark_by (last_loop ws (length es)) 0 ≤ get_or ws (place_word (length es)) 0
  framed-room = omega (arith, held-mark, mark-low (last_loop ws (length es)) i)
