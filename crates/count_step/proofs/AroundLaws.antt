-- WHAT CODE READS of the words and of the bytes, by what stands innermost and by what is around it.
use Prim.Native.Nat.{◌*◌, ◌+◌, ◌<◌, ◌≤◌, suc, ℕ}
use mathlib.Core.Path.{ap, ap₂, refl, subst, sym, ◌∙◌, ◌≡◌}
use mathlib.Core.Bool.{Bool, ◌&&◌, true}
use mathlib.Core.List.{◌++◌, List, [], ◌∷◌}
use mathlib.Core.Option.{some}
use lib.Dec.{eqb, ltb}
use lib.ListN.{get_or, length, set}
use native.Mathlib.Omega.{arith}
use Rattle.buffer.specs.LittleEndian.{val}
use Rattle.buffer.specs.Slice.{part}
use Rattle.record.specs.Program.{block_size}
use Rattle.rules.specs.Syntax.{Block, Bound, Expr, assign, loop, nest}
use Rattle.place.specs.ProgramView.{BlockAt}
use Rattle.place.proofs.ProgramViewLaws.{loop-view, nest-view}
use Rattle.counting.specs.Counting.{State, at_zero, here, in_block, in_body, storing, summed, unrolling}
use Rattle.counting.specs.Depth.{open_count}
use Rattle.counting.specs.Entries.{Entry, open_block, open_turn}
use Rattle.counting.specs.Frames.{inner_at, inner_block, place_mark, place_word}
use Rattle.counting.specs.Held.{Held, body_mark, held_block, held_loop}
use Rattle.counting.specs.Place.{body_at, inside_at, rest_at}
use Rattle.counting.proofs.InnermostEdits.{Framed, words-at_zero, words-here, words-storing, words-summed, words-unrolling}
use Rattle.counting.proofs.WordEdits.{num, six}
use Rattle.state_words.specs.Entry.{last_loop, mark_by, place_in}
use Rattle.count_step.specs.Inner.{Inner, Shut, shut_at_zero, shut_storing, shut_unrolling}
use Rattle.count_step.specs.Words.{shut_words}
use Rattle.count_step.proofs.InnerLaws.{Last, inner-at, inner-many, inner-open, last, last_block, last_none, last_turn}
use Rattle.count_step.proofs.ReadLaws.{framed_at, framed-entry, framed-length, framed-mark, framed-room, framed-sum, framed-waits, framed-what}

-- WHERE THE INNERMOST IS AT A PLACE: n are open, all of them around it

pub record PlaceRead (n : ℕ) (es : List Entry) (i w v : ℕ) (words : List ℕ) : Type 0 where
  pub long : length words ≡ 189
  pub few : length es ≤ 31
  pub count : n ≡ length es
  pub place : place_in words n ≡ i
  -- what `place` asks
  pub room : mark_by (last_loop words n) 0 ≤ get_or words (place_word n) 0
  -- how a place is held there
  pub mark : (j : ℕ) → mark_by (last_loop words n) j ≡ place_mark es j
  pub waits : get_or words 1 0 ≡ w
  pub sum : get_or words 2 0 ≡ v

pub place_read : (P : Block) (n : ℕ) (es : List Entry) (i w v : ℕ) (words : List ℕ) → length es ≤ 31 → n ≡ length es → words ≡ Framed P es i (num i w v []) → PlaceRead n es i w v words
place_read P n es i w v words few count same =
    subst (λ (m : ℕ). PlaceRead m es i w v words) (sym count) (subst (PlaceRead (length es) es i w v) (sym same) read)
  where
    read : PlaceRead (length es) es i w v (Framed P es i (num i w v []))
    read = record {
      long = framed-length P es i w v [] (omega arith);
      few = few;
      count = refl;
      place = framed_at P es i w v few;
      room = framed-room P es i w v few;
      mark = λ j. framed-mark P i w v j es few;
      waits = framed-waits P es i w v [];
      sum = framed-sum P es i w v [];
    }

module _ {start used n : ℕ} {P : Block} {es : List Entry} {i : ℕ} {r : Block} {buf words : List ℕ} {count : ℕ} (h : Inner start used n P es i r (here r) buf words count) where
  pub here-same : words ≡ Framed P es i (num i 0 0 [])
  here-same = h.holds.same ∙ words-here P es i r h.place

  pub here-read : PlaceRead n es i 0 0 words
  unfolding open_count
  here-read = place_read P n es i 0 0 words (omega (arith, inner-open h)) (omega (arith, inner-many h)) here-same

pub sum-read : {start used n : ℕ} {P : Block} {es : List Entry} {i x : ℕ} {e : Expr} {v : ℕ} {r : Block} {buf words : List ℕ} {count : ℕ}
    → Inner start used n P es i (assign x e r) (summed x e v r) buf words count → PlaceRead n es i 1 v words
unfolding open_count
sum-read {start} {used} {n} {P} {es} {i} {x} {e} {v} {r} {buf} {words} h =
    place_read P n es i 1 v words (omega (arith, inner-open h)) (omega (arith, inner-many h)) (h.holds.same ∙ words-summed P es i x e v r h.place)

-- THE LAST ENTRY, a shut loop's or the one around: n are open, m of them before it

pub record EntryRead (n m : ℕ) (h : Held) (w : ℕ) (words : List ℕ) : Type 0 where
  pub long : length words ≡ 189
  pub few : m < 31
  pub count : n ≡ suc m
  pub what : get_or words (3 + 6 * m) 0 ≡ h.what
  pub at : get_or words (3 + 6 * m + 1) 0 ≡ h.at
  pub top : get_or words (3 + 6 * m + 2) 0 ≡ h.top
  pub reached : get_or words (3 + 6 * m + 3) 0 ≡ h.reached
  pub running : get_or words (3 + 6 * m + 4) 0 ≡ h.running
  pub progress : get_or words (3 + 6 * m + 5) 0 ≡ h.progress
  pub waits : get_or words 1 0 ≡ w

pub entry_read : (P : Block) (n : ℕ) (es : List Entry) (i w v : ℕ) (h : Held) (words : List ℕ) → length es < 31 → n ≡ suc (length es) → words ≡ Framed P es i (num i w v (h ∷ []))
    → EntryRead n (length es) h w words
entry_read P n es i w v h words few count same = subst (EntryRead n (length es) h w) (sym same) read
  where
    word_at : (k x : ℕ) → k < 6 → set (six h) k x ≡ six h → get_or (Framed P es i (num i w v (h ∷ []))) (3 + 6 * length es + k) 0 ≡ x
    word_at k x l e = framed-entry P es i w v h k x few l e

    read : EntryRead n (length es) h w (Framed P es i (num i w v (h ∷ [])))
    read = record {
      long = framed-length P es i w v (h ∷ []) (omega arith);
      few = few;
      count = count;
      what = framed-what P es i w v h few;
      at = word_at 1 h.at (omega arith) refl;
      top = word_at 2 h.top (omega arith) refl;
      reached = word_at 3 h.reached (omega arith) refl;
      running = word_at 4 h.running (omega arith) refl;
      progress = word_at 5 h.progress (omega arith) refl;
      waits = framed-waits P es i w v (h ∷ []);
    }

-- whether it is that of a loop, and whether it is shut
pub entry-loop : (n m : ℕ) (h : Held) (w : ℕ) (words : List ℕ) → EntryRead n m h w words → last_loop words n ≡ eqb h.what 2
unfolding last_loop
entry-loop n m h w words r = ap (last_loop words) r.count ∙ ap (λ (x : ℕ). eqb x 2) r.what

pub entry-shut : (n m : ℕ) (h : Held) (w : ℕ) (words : List ℕ) → EntryRead n m h w words → shut_words words n ≡ eqb h.what 2 && ltb h.progress 2
unfolding shut_words place_word
entry-shut n m h w words r =
    ap₂ (λ (b : Bool) (x : ℕ). b && ltb x 2) (entry-loop n m h w words r) (ap (λ (j : ℕ). get_or words (place_word j) 0) r.count ∙ r.progress)

-- A SHUT LOOP

module _ {start used n : ℕ} {P : Block} {es : List Entry} {i x : ℕ} {m : Bound} {q r : Block} {buf words : List ℕ} {count : ℕ} where
  pub read-unrolling : {c d : ℕ} → Inner start used n P es i (loop x m q r) (unrolling x c d q r) buf words count → EntryRead n (length es) (held_loop i c d 0 0) 0 words
  unfolding open_count
  read-unrolling {c} {d} h =
      entry_read P n es i 0 0 (held_loop i c d 0 0) words (omega (arith, inner-open h)) (omega (arith, inner-many h)) (h.holds.same ∙ words-unrolling P es i x m q r h.place c d)

  pub read-storing : {c d : ℕ} → Inner start used n P es i (loop x m q r) (storing x c d q r) buf words count → EntryRead n (length es) (held_loop i c d 1 1) 0 words
  unfolding open_count
  read-storing {c} {d} h =
      entry_read P n es i 0 0 (held_loop i c d 1 1) words (omega (arith, inner-open h)) (omega (arith, inner-many h)) (h.holds.same ∙ words-storing P es i x m q r h.place c d)

  pub read-at_zero : {d : ℕ} → Inner start used n P es i (loop x m q r) (at_zero x d q r) buf words count → EntryRead n (length es) (held_loop i 0 d 1 0) 0 words
  unfolding open_count
  read-at_zero {d} h =
      entry_read P n es i 0 0 (held_loop i 0 d 1 0) words (omega (arith, inner-open h)) (omega (arith, inner-many h)) (h.holds.same ∙ words-at_zero P es i x m q r h.place d)

-- what code reads of any: m are open before it
pub record ShutRead (n m i : ℕ) (words : List ℕ) : Type 0 where
  pub long : length words ≡ 189
  pub few : m < 31
  pub count : n ≡ suc m
  pub at : get_or words (3 + 6 * m + 1) 0 ≡ i
  pub shut : shut_words words n ≡ true

pub shut-read : {start used n : ℕ} {P : Block} {es : List Entry} {i x : ℕ} {m : Bound} {q r : Block} {buf words : List ℕ} {count : ℕ} {t : State}
    → Shut x q r t → Inner start used n P es i (loop x m q r) t buf words count → ShutRead n (length es) i words
unfolding held_loop
shut-read {start} {used} {n} {P} {es} {i} {x} {m} {q} {r} {buf} {words} (shut_unrolling c d) h =
    let e = read-unrolling h in
    record { long = e.long; few = e.few; count = e.count; at = e.at; shut = entry-shut n (length es) (held_loop i c d 0 0) 0 words e }
shut-read {start} {used} {n} {P} {es} {i} {x} {m} {q} {r} {buf} {words} (shut_at_zero d) h =
    let e = read-at_zero h in
    record { long = e.long; few = e.few; count = e.count; at = e.at; shut = entry-shut n (length es) (held_loop i 0 d 1 0) 0 words e }
shut-read {start} {used} {n} {P} {es} {i} {x} {m} {q} {r} {buf} {words} (shut_storing c d l) h =
    let e = read-storing h in
    record { long = e.long; few = e.few; count = e.count; at = e.at; shut = entry-shut n (length es) (held_loop i c d 1 1) 0 words e }

-- THE RECORD OF AN ENTRY in the bytes: it ends where its block does

pub record RecordRead (start : ℕ) (buf : List ℕ) (p n : ℕ) : Type 0 where
  pub room : start + p + n ≤ length buf
  pub long : 4 ≤ n
  pub stored : val (part buf (start + p) 2) ≡ n

pub nest-record : {start : ℕ} {buf : List ℕ} {p : ℕ} (q r : Block) → BlockAt buf (start + p) (nest q r) → RecordRead start buf p (4 + block_size q)
unfolding nest-view
nest-record q r h = let v = nest-view q r h in record { room = omega (arith, v.room, v.size); long = omega arith; stored = v.stored }

pub loop-record : {start : ℕ} {buf : List ℕ} {p : ℕ} (x : ℕ) (m : Bound) (q r : Block) → BlockAt buf (start + p) (loop x m q r) → RecordRead start buf p (20 + block_size q)
unfolding loop-view
loop-record x m q r h = let v = loop-view x m q r h in record { room = omega (arith, v.room, v.size); long = omega arith; stored = v.stored }

-- Where the record of the entry behind m ends.
abbrev pub last_end : ℕ → List ℕ → List ℕ → ℕ → ℕ
last_end start buf words m = get_or words (3 + 6 * m + 1) 0 + val (part buf (start + get_or words (3 + 6 * m + 1) 0) 2)

module _ (start : ℕ) (buf words : List ℕ) (n m p l : ℕ) (e : Held) (r : EntryRead n m e 0 words) (at : e.at ≡ p) (g : RecordRead start buf p l) where
  pub last-end : last_end start buf words m ≡ p + l
  last-end =
      let a : get_or words (3 + 6 * m + 1) 0 ≡ p = r.at ∙ at in
      let v : val (part buf (start + get_or words (3 + 6 * m + 1) 0) 2) ≡ l = ap (λ (z : ℕ). val (part buf (start + z) 2)) a ∙ g.stored in
      omega arith

  pub last-room : start + get_or words (3 + 6 * m + 1) 0 + 4 ≤ length buf
  last-room = omega (arith, r.at, at, g.room, g.long)

-- WHAT IS AROUND a place: nothing, a block, or a loop's body

module _ {start used n : ℕ} {P : Block} {es : List Entry} {i : ℕ} {r : Block} {buf words : List ℕ} {count : ℕ} (h : Inner start used n P es i r (here r) buf words count) where
  pub data Around : Type 0 where
    around_none : es ≡ [] → Around
    around_block : (fs : List Entry) (p : ℕ) (q o : Block) → es ≡ fs ++ (open_block q o ∷ []) → EntryRead n (length fs) (held_block p i) 0 words → rest_at q (inside_at p) i ≡ some r
        → inner_at es P 0 + block_size (inner_block es P) ≡ p + (4 + block_size q) → RecordRead start buf p (4 + block_size q)
        → Inner start used n P fs p (nest q o) (in_block q (here r) o) buf words count → Around
    around_turn : (fs : List Entry) (p x c d : ℕ) (m : Bound) (q o : Block) → es ≡ fs ++ (open_turn x c d q o ∷ []) → EntryRead n (length fs) (held_loop p c d 1 (body_mark i)) 0 words
        → rest_at q (body_at p) i ≡ some r → inner_at es P 0 + block_size (inner_block es P) ≡ p + (20 + block_size q) → RecordRead start buf p (20 + block_size q)
        → Inner start used n P fs p (loop x m q o) (in_body x c d q (here r) o) buf words count → Around

  moved_in : (q : Block) (a : ℕ) → inner_block es P ≡ q → inner_at es P 0 ≡ a → rest_at q a i ≡ some r
  moved_in q a e f = subst (λ (z : Block). rest_at z a i ≡ some r) e (subst (λ (z : ℕ). rest_at (inner_block es P) z i ≡ some r) f h.place)

  by_last : Last start used n P es i r (here r) buf words count → Around
  unfolding open_count
  by_last (last_none e) = around_none e
  by_last (last_block fs p q o e b a f g) =
      around_block fs p q o e (entry_read P n fs p 0 0 (held_block p i) words (omega (arith, inner-open g)) (omega (arith, inner-many g)) (here-same h ∙ f 0 0)) (moved_in q (inside_at p) b a)
      (omega (arith, a, ap block_size b)) (nest-record q o (inner-at g)) g
  by_last (last_turn fs p x c d m q o e b a l f g) =
      around_turn fs p x c d m q o e (entry_read P n fs p 0 0 (held_loop p c d 1 (body_mark i)) words (omega (arith, inner-open g)) (omega (arith, inner-many g)) (here-same h ∙ f 0 0))
      (moved_in q (body_at p) b a) (omega (arith, a, ap block_size b)) (loop-record x m q o (inner-at g)) g

  pub around : Around
  around = by_last (last h)
