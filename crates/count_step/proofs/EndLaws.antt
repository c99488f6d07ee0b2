-- THE WAYS AT THE END OF A BLOCK: the last entry goes, or its loop's next turn comes.
use Prim.Native.Nat.{◌*◌, ◌+◌, ◌<◌, ◌≤◌, suc, zero, ℕ}
use mathlib.Core.Path.{ap, refl, subst, sym, ◌∙◌, ◌≡◌}
use mathlib.Core.Bool.{Bool}
use mathlib.Core.List.{◌++◌, List, [], ◌∷◌}
use mathlib.Core.Option.{some}
use lib.ListN.{get_or, length, set}
use native.Mathlib.Omega.{arith}
use Rattle.record.specs.Program.{block_size}
use Rattle.rules.specs.Syntax.{Block, Bound, empty, finished, loop, nest, next}
use Rattle.counting.specs.CountStep.{step_here, step_state, turn_done}
use Rattle.counting.specs.Counting.{Counting, here, in_block, in_body, storing}
use Rattle.counting.specs.Depth.{open_count}
use Rattle.counting.specs.Entries.{Entry, close, open_block, open_turn, within}
use Rattle.counting.specs.Frames.{place_mark, place_word}
use Rattle.counting.specs.Held.{body_mark, held_block, held_loop}
use Rattle.counting.specs.Place.{body_at, inside_at, rest_at}
use Rattle.counting.proofs.EntriesLaws.{within-close}
use Rattle.counting.proofs.InnermostEdits.{words-block, words-turn}
use Rattle.counting.proofs.StepEdits as edits
use Rattle.counting.proofs.WordEdits.{no_entry, put_entry}
use Rattle.state_words.specs.Entry.{entry_popped}
use Rattle.count_step.specs.Inner.{Inner}
use Rattle.count_step.specs.Makes.{Makes}
use Rattle.count_step.specs.Words.{next_words}
use Rattle.count_step.proofs.AroundLaws.{Around, around, around_block, around_none, around_turn, last-end, last-room, last_end}
use Rattle.count_step.proofs.WayLaws.{makes-by, open_none, open-one, pop-moved}

-- what code reads there: m entries stand before the last
pub record EndRead (start : ℕ) (buf words : List ℕ) (m : ℕ) : Type 0 where
  pub long : length words ≡ 189
  pub few : m < 31
  pub room : start + get_or words (3 + 6 * m + 1) 0 + 4 ≤ length buf
  pub low : length buf ≤ 16384
  pub end : last_end start buf words m ≤ 16384
  pub below : get_or words (3 + 6 * m) 0 ≡ 2 → get_or words (3 + 6 * m + 3) 0 ≤ get_or words (3 + 6 * m + 2) 0

module _ {start used n : ℕ} {P : Block} {es : List Entry} {i : ℕ} {buf words : List ℕ} {count : ℕ} (h : Inner start used n P es i empty (here empty) buf words count) (store : List ℕ) where
  module _ (ok : ℕ → Bool) where
    closes : (fs : List Entry) (e : Entry) → es ≡ fs ++ (e ∷ []) → step_state ok (within es (here empty)) store ≡ next (record { state = within fs (close e); store = store })
    closes fs e f = ap (λ (z : List Entry). step_state ok (within z (here empty)) store) f ∙ within-close ok store fs e

    stays : es ≡ [] → step_state ok (within es (here empty)) store ≡ finished store
    unfolding within step_state step_here
    stays e = ap (λ (z : List Entry). step_state ok (within z (here empty)) store) e

    pub not_none : (c : Counting) → step_state ok (within es (here empty)) store ≡ next c → es ≡ [] → ⊥
    not_none c g e = let s = stays e in let z : ◌≡◌ {A = ℕ} 0 1 = cc in omega arith

  -- Something is open there.
  abbrev Some : Type 0
  Some = es ≡ [] → ⊥

  pub end-some : Some → 1 ≤ n
  end-some g = by-around (around h)
    where
      by-around : Around h → 1 ≤ n
      by-around (around_none e) = absurd (g e)
      by-around (around_block fs p q o e r a b c d) = omega (arith, r.count)
      by-around (around_turn fs p x c d m q o e r a b f u) = omega (arith, r.count)

  pub end_read : Some → (m : ℕ) → n ≡ suc m → EndRead start buf words m
  unfolding held_block held_loop
  end_read g m k = by-around (around h)
    where
      by-around : Around h → EndRead start buf words m
      by-around (around_none e) = absurd (g e)
      by-around (around_block fs p q o e r a b c d) =
          subst (EndRead start buf words) {x = length fs} {y = m} (omega (arith, r.count, k))
          (record {
            long = r.long;
            few = r.few;
            room = last-room start buf words n (length fs) p (4 + block_size q) (held_block p i) r refl c;
            low = h.holds.low;
            end = omega (arith, last-end start buf words n (length fs) p (4 + block_size q) (held_block p i) r refl c, c.room, h.holds.low);
            below = λ z. absurd (omega (arith, r.what, z));
          })
      by-around (around_turn fs p x c d y q o e r a b f u) =
          subst (EndRead start buf words) {x = length fs} {y = m} (omega (arith, r.count, k))
          (record {
            long = r.long;
            few = r.few;
            room = last-room start buf words n (length fs) p (20 + block_size q) (held_loop p c d 1 (body_mark i)) r refl f;
            low = h.holds.low;
            end = omega (arith, last-end start buf words n (length fs) p (20 + block_size q) (held_loop p c d 1 (body_mark i)) r refl f, f.room, h.holds.low);
            below = λ z. omega (arith, r.reached, r.top);
          })

  module _ (ws after : List ℕ) where
    pop-block : (fs : List Entry) (p : ℕ) (q o : Block) → es ≡ fs ++ (open_block q o ∷ []) → length fs < 31 → rest_at q (inside_at p) i ≡ some empty
        → Inner start used n P fs p (nest q o) (in_block q (here empty) o) buf words count → ws ≡ entry_popped words (length fs) (p + (4 + block_size q)) → after ≡ store
        → Makes P (within es (here empty)) store ws after (length fs)
    unfolding close open_count
    pop-block fs p q o e l a u w f =
        makes-by P (within es (here empty)) store ws after (length fs) (within fs (here o)) store (λ ok c g. closes ok fs (open_block q o) e)
        (w ∙ pop-moved P fs p (held_block p i) words l (u.holds.same ∙ words-block P fs p q o empty i u.place a) (p + (4 + block_size q))
        ∙ ap (λ (z : List ℕ). set (put_entry z (3 + 6 * length fs) no_entry) (place_word (length fs)) (place_mark fs (p + (4 + block_size q)))) u.holds.same
        ∙ edits.closed P fs p q o u.place l i a) f (sym (open_none fs (here o) refl))

    pop-turn : (d : ℕ) (fs : List Entry) (p x c : ℕ) (y : Bound) (q o : Block) → d ≡ 0 → es ≡ fs ++ (open_turn x c d q o ∷ []) → length fs < 31 → rest_at q (body_at p) i ≡ some empty
        → Inner start used n P fs p (loop x y q o) (in_body x c d q (here empty) o) buf words count → ws ≡ entry_popped words (length fs) (p + (20 + block_size q)) → after ≡ store
        → Makes P (within es (here empty)) store ws after (length fs)
    unfolding close turn_done open_count
    pop-turn zero fs p x c y q o z e l a u w f =
        makes-by P (within es (here empty)) store ws after (length fs) (within fs (here o)) store (λ ok k g. closes ok fs (open_turn x c 0 q o) e)
        (w ∙ pop-moved P fs p (held_loop p c 0 1 (body_mark i)) words l (u.holds.same ∙ words-turn P fs p x y q o u.place c 0 empty i a) (p + (20 + block_size q))
        ∙ ap (λ (z : List ℕ). set (put_entry z (3 + 6 * length fs) no_entry) (place_word (length fs)) (place_mark fs (p + (20 + block_size q)))) u.holds.same
        ∙ edits.last-turn P fs p x y q o u.place c i l a) f (sym (open_none fs (here o) refl))
    pop-turn (suc d) fs p x c y q o z e l a u w f = absurd (omega arith)

    next_of : (d : ℕ) (fs : List Entry) (p x c : ℕ) (y : Bound) (q o : Block) → (d ≡ 0 → ⊥) → es ≡ fs ++ (open_turn x c d q o ∷ []) → n ≡ suc (length fs) → get_or words (3 + 6 * length fs + 3) 0 ≡ c
        → rest_at q (body_at p) i ≡ some empty → Inner start used n P fs p (loop x y q o) (in_body x c d q (here empty) o) buf words count → ws ≡ next_words words (length fs) → after ≡ store
        → Makes P (within es (here empty)) store ws after n
    unfolding close turn_done next_words open_count
    next_of zero fs p x c y q o z e k v a u w f = absurd (z refl)
    next_of (suc d) fs p x c y q o z e k v a u w f =
        makes-by P (within es (here empty)) store ws after n (within fs (storing x (suc c) d q o)) store (λ ok j g. closes ok fs (open_turn x c (suc d) q o) e)
        (w ∙ ap (λ (t : ℕ). set (set words (3 + 6 * length fs + 3) (suc t)) (3 + 6 * length fs + 5) 1) v
        ∙ ap (λ (z : List ℕ). set (set z (3 + 6 * length fs + 3) (suc c)) (3 + 6 * length fs + 5) 1) u.holds.same
        ∙ edits.next-turn P fs p x y q o u.place c d i a) f (k ∙ sym (open-one fs (storing x (suc c) d q o) refl))

    same-m : (m : ℕ) → n ≡ suc m → (fs : List Entry) → n ≡ suc (length fs) → length fs ≡ m
    same-m m k fs c = omega (arith, c, k)

    pub way-pop : Some → (m : ℕ) → n ≡ suc m → (get_or words (3 + 6 * m) 0 ≡ 2 → get_or words (3 + 6 * m + 3) 0 ≡ get_or words (3 + 6 * m + 2) 0)
        → ws ≡ entry_popped words m (last_end start buf words m) → after ≡ store → Makes P (within es (here empty)) store ws after m
    unfolding held_block held_loop
    way-pop g m k t w f = by-around (around h)
      where
        by-around : Around h → Makes P (within es (here empty)) store ws after m
        by-around (around_none e) = absurd (g e)
        by-around (around_block fs p q o e r a b c d) =
            subst (Makes P (within es (here empty)) store ws after) (same-m m k fs r.count) (
            pop-block fs p q o e r.few a d
            (w ∙ ap (λ (z : ℕ). entry_popped words z (last_end start buf words z)) (sym (same-m m k fs r.count))
            ∙ ap (entry_popped words (length fs)) (last-end start buf words n (length fs) p (4 + block_size q) (held_block p i) r refl c)) f)
        by-around (around_turn fs p x c d y q o e r a b u v) =
            let t₁ = subst (λ (z : ℕ). get_or words (3 + 6 * z) 0 ≡ 2 → get_or words (3 + 6 * z + 3) 0 ≡ get_or words (3 + 6 * z + 2) 0) (sym (same-m m k fs r.count)) t in
            subst (Makes P (within es (here empty)) store ws after) (same-m m k fs r.count) (
            pop-turn d fs p x c y q o (omega (arith, t₁ r.what, r.reached, r.top)) e r.few a v
            (w ∙ ap (λ (z : ℕ). entry_popped words z (last_end start buf words z)) (sym (same-m m k fs r.count))
            ∙ ap (entry_popped words (length fs)) (last-end start buf words n (length fs) p (20 + block_size q) (held_loop p c d 1 (body_mark i)) r refl u)) f)

    pub way_next : Some → (m : ℕ) → n ≡ suc m → get_or words (3 + 6 * m) 0 ≡ 2 → (get_or words (3 + 6 * m + 3) 0 ≡ get_or words (3 + 6 * m + 2) 0 → ⊥)
        → ws ≡ next_words words m → after ≡ store → Makes P (within es (here empty)) store ws after n
    unfolding held_block held_loop
    way_next g m k t u w f = by-around (around h)
      where
        by-around : Around h → Makes P (within es (here empty)) store ws after n
        by-around (around_none e) = absurd (g e)
        by-around (around_block fs p q o e r a b c d) =
            let t₁ = subst (λ (z : ℕ). get_or words (3 + 6 * z) 0 ≡ 2) (sym (same-m m k fs r.count)) t in
            absurd (omega (arith, t₁, r.what))
        by-around (around_turn fs p x c d y q o e r a b v j) =
            let u₁ = subst (λ (z : ℕ). get_or words (3 + 6 * z + 3) 0 ≡ get_or words (3 + 6 * z + 2) 0 → ⊥) (sym (same-m m k fs r.count)) u in
            next_of d fs p x c y q o (λ z. u₁ (r.reached ∙ (omega arith) ∙ sym r.top)) e r.count r.reached a j (w ∙ ap (next_words words) (sym (same-m m k fs r.count))) f
