-- The walk inwards: where it starts, and what an entry says of what is left.
use Prim.Native.Nat.{◌*◌, ◌+◌, ◌-◌, ◌<◌, ◌≤◌, suc, zero, ℕ}
use mathlib.Core.Path.{ap, ap₂, refl, subst, sym, ◌∙◌, ◌≡◌}
use mathlib.Core.Bool.{Bool, false, true}
use mathlib.Core.List.{◌++◌, List, [], ◌∷◌}
use borrow.Author.Tests.{eqb-true, leb-true, ltb-false, ltb-true}
use lib.Dec.{ltb, eqb, leb}
use lib.ListN.{get_or-eq_default, get_or, length, length-append}
use native.Mathlib.Omega.{arith}
use Rattle.buffer.specs.LittleEndian.{val}
use Rattle.buffer.specs.Slice.{part}
use Rattle.rules.specs.Syntax.{Block, Bound, Expr, assign, dec, empty, inc, lit, loop, nest, upto, var}
use Rattle.record.specs.Program.{block_size, encode_block}
use Rattle.place.specs.Heads.{record_head}
use Rattle.place.specs.ProgramView.{BlockAt}
use Rattle.place.proofs.HeadsLaws.{length-record_head}
use Rattle.place.proofs.ProgramBytesLaws.{block_size-assign, block_size-loop, block_size-nest}
use Rattle.place.proofs.ProgramViewLaws.{block-index, block_room, loop-view, nest-view}
use Rattle.counting.specs.Counting.{State, at_zero, expand, here, in_block, in_body, storing, summed, turns_around, unrolling}
use Rattle.counting.specs.Held.{Held}
use Rattle.counting.specs.Place.{body_at, inside_at, rest_at}
use Rattle.counting.specs.ReadState.{Read, above_top, is_last, no_sum, none_open, not_at_holder, on_rest, progress_held, progress_missing, read_here, read_loop, read_numbers, read_open, read_state, read_sum, read_waiting, right}
use Rattle.counting.specs.Size.{expand_size}
use Rattle.counting.specs.StateWords.{decode_state, held_at, held_from, unless_none, unpacked}
use Rattle.counting.proofs.BytesLaws.{inside-loop, inside-nest, rest-stands}
use Rattle.counting.proofs.PlaceLaws.{rest-located}
use Rattle.counting.proofs.ReadInversion.{check_inv, holding-inv, on_rest-inv, right-injective, shut-inv, wrong-inv}
use Rattle.counting.proofs.SizeLaws.{length-expansion, size-expand}
use Rattle.state_words.specs.declared.EntryWords.{EntryWords}
use Rattle.state_words.specs.Entry.{entry_at}
use Rattle.expansion.specs.Entry.{as_held, first_size, inside_of, opens, to_come}
use Rattle.expansion.specs.Pieces.{around_bytes, first_bytes, rest_bytes, turns_bytes}
use Rattle.expansion.specs.Walk.{Around, Ended, IsHeld, Given, Left, Opened, Shut, block_of, length_at, read_left}
use Rattle.expansion.proofs.EntryLaws as entry
use Rattle.expansion.proofs.PiecesLaws.{length-around, length-first}
use Rattle.expansion.proofs.TurnsLaws.{LoopParts, block-part, empty-bytes, loop-parts, nest-bytes, storing-bytes, summed-bytes, turns-bytes, unrolling-bytes}

-- WHERE IT STARTS

read_at : (w v : ℕ) (hs : List Held) (b : Block) (a p : ℕ) → read_state w v hs b a p ≡ on_rest (rest_at b a p) (λ r. read_left w v hs p r)
unfolding read_state read_left
read_at w v [] b a p = refl
read_at w v (h ∷ hs) b a p = refl

-- AN ENTRY THAT STANDS IN WORDS

module _ (ws : List ℕ) (e : ℕ) where
  opens-first : get_or ws e 0 ≡ 1 → true ≡ opens (held_at ws e)
  unfolding held_at
  opens-first = entry.opens-first (held_at ws e)

  opens-other : (get_or ws e 0 ≡ 0 → ⊥) → (get_or ws e 0 ≡ 1 → ⊥) → ltb 1 (get_or ws (e + 5) 0) ≡ opens (held_at ws e)
  unfolding held_at
  opens-other = entry.opens-other (held_at ws e)

  opens-held : opens (held_at ws e) ≡ true → 1 ≤ get_or ws e 0
  unfolding held_at
  opens-held = entry.opens-held (held_at ws e)

  inside-first : get_or ws e 0 ≡ 1 → get_or ws (e + 5) 0 ≡ inside_of (held_at ws e)
  unfolding held_at
  inside-first = entry.inside-first (held_at ws e)

  inside-other : (get_or ws e 0 ≡ 1 → ⊥) → get_or ws (e + 5) 0 - 2 ≡ inside_of (held_at ws e)
  unfolding held_at
  inside-other = entry.inside-other (held_at ws e)

  to-come-first : get_or ws e 0 ≡ 1 → 0 ≡ to_come (held_at ws e)
  unfolding held_at
  to-come-first = entry.to-come-first (held_at ws e)

  to-come-other : (get_or ws e 0 ≡ 1 → ⊥) → get_or ws (e + 2) 0 - get_or ws (e + 3) 0 ≡ to_come (held_at ws e)
  unfolding held_at
  to-come-other = entry.to-come-other (held_at ws e)

module _ (l ws : List ℕ) (start : ℕ) where
  left-of : (count e : ℕ) (b : Block) (a p end : ℕ) (s : State) → e + 6 * count ≡ 189 → BlockAt l (start + a) b → a + block_size b ≡ end
      → read_state (get_or ws 1 0) (get_or ws 2 0) (held_from ws e count) b a p ≡ right s → Left l ws start e p end s
  left-of count e b a p end s c h n f =
      on_rest-inv (rest_at b a p) (λ r. read_left (get_or ws 1 0) (get_or ws 2 0) (held_from ws e count) p r) s (sym (read_at (get_or ws 1 0) (get_or ws 2 0) (held_from ws e count) b a p) ∙ f) λ r g k.
      record {
        count = count;
        words = c;
        rest = r;
        stands = rest-stands l start b a p r g h;
        ends = omega (arith, (rest-located b a p r g).size);
        reads = k;
      }

  pub given-left : (used : ℕ) (P : Block) (s : State) → Given l used ws start P s → Left l ws start 3 (get_or ws 0 0) (used - start) s
  given-left used P s g = left-of 31 3 P 0 (get_or ws 0 0) (used - start) s refl (block-index g.stands (omega arith)) (omega (arith, g.ends)) (unfold decode_state read_numbers unpacked in g.holds)

-- THE LIST OF ENTRIES, by what stands first

module _ (ws : List ℕ) (all : length ws ≡ 189) where
  held-some : {P : Type 0} (count e : ℕ) → e + 6 * count ≡ 189 → 1 ≤ get_or ws e 0
      → ((n : ℕ) → e + 6 + 6 * n ≡ 189 → held_from ws e count ≡ held_at ws e ∷ held_from ws (e + 6) n → P) → P
  held-some zero e w h k = absurd (omega (arith, get_or-eq_default ws 0 {n = e} (omega arith)))
  held-some (suc n) e w h k = k n (omega arith) (unfold held_from in (by (get_or ws e 0) h))
    where
      by : (what : ℕ) → 1 ≤ what → unless_none what (held_at ws e) (held_from ws (e + 6) n) ≡ held_at ws e ∷ held_from ws (e + 6) n
      by zero h = absurd (omega arith)
      by (suc what) h = unfold unless_none in refl

  held_none : (count e : ℕ) → get_or ws e 0 ≡ 0 → held_from ws e count ≡ []
  unfolding held_from unless_none
  held_none zero e h = refl
  held_none (suc n) e h = rw h refl

-- WHAT STANDS AROUND

-- a block, which has no turns to come
block-around : (l : List ℕ) (at n behind c d : ℕ) (b t : Block) → d ≡ 0 → part l (at + n) behind ≡ encode_block t
    → encode_block (nest b t) ≡ around_bytes l at n behind c d (record_head 1 (4 + block_size b) ++ encode_block b)
unfolding around_bytes turns_bytes
block-around l at n behind c d b t e f = rw (e, f) (nest-bytes b t)

-- a loop
loop-around : (l : List ℕ) (at n behind x c d : ℕ) (q r : Block) (first : Block → Block) (m : List ℕ) → LoopParts l at n x q r → behind ≡ block_size r
    → ((t : Block) → encode_block (first t) ≡ m ++ encode_block t) → encode_block (turns_around x c q first d r) ≡ around_bytes l at n behind c d m
unfolding around_bytes
loop-around l at n behind x c d q r first m g e f = rw e (turns-bytes l at n x q r g c first m f d r ∙ ap (λ (y : List ℕ). turns_bytes l at n c m d ++ y) (sym g.rest))

pub length-block_of : (t : State) → length (block_of t) ≡ 4 + expand_size t
length-block_of t = length-append (record_head 1 (4 + expand_size t)) (encode_block (expand t)) ∙ omega (arith, length-record_head 1 (4 + expand_size t), length-expansion t)

-- what is read of a block's record and of a loop's
nest-stored : (l : List ℕ) (at : ℕ) (q r : Block) → BlockAt l at (nest q r) → (val (part l at 2) ≡ 4 + block_size q) × (BlockAt l (at + (4 + block_size q)) r)
unfolding nest-view
nest-stored l at q r h = let v = nest-view q r h in (v.stored, v.after)

loop-stored : (l : List ℕ) (at x : ℕ) (b : Bound) (q r : Block) → BlockAt l at (loop x b q r) → val (part l at 2) ≡ 20 + block_size q
unfolding loop-view
loop-stored l at x b q r h = (loop-view x b q r h).stored

-- expansions by what is innermost in them
expand-block : (q r : Block) (t : State) → encode_block (expand (in_block q t r)) ≡ encode_block (nest (expand t) r)
unfolding expand
expand-block q r t = refl

module _ (l ws : List ℕ) (start e p end : ℕ) where
  -- the length follows from the bytes
  around-size : (s : State) (m : List ℕ) (n d c : ℕ) → (0 < d → 20 ≤ n) → p + n ≤ end → start + end ≤ length l
      → encode_block (expand s) ≡ around_bytes l (start + p) n (end - (p + n)) c d m → expand_size s ≡ d * n + (end - (p + n)) + length m
  around-size s m n d c low high room f =
      sym (length-expansion s) ∙ ap length f ∙ length-around l (start + p) n (end - (p + n)) c d m low (omega arith)

  module _ (w : e + 6 ≤ 189) where
    -- a block
    nest-around : (q r : Block) (t : State) → get_or ws e 0 ≡ 1 → BlockAt l (start + p) (nest q r) → p + block_size (nest q r) ≡ end → Around l ws start e p end (in_block q t r) (block_of t)
    unfolding held_at
    nest-around q r t what h f =
        let n : ℕ = length_at l start p in
        let c : ℕ = get_or ws (e + 3) 0 in
        let d : ℕ = to_come (held_at ws e) in
        let v = nest-stored l (start + p) q r h in
        let sz : block_size (nest q r) ≡ 4 + block_size q + block_size r = block_size-nest q r in
        let none : d ≡ 0 = sym (to-come-first ws e what) in
        let room : start + end ≤ length l = omega (arith, block_room h) in
        let high : p + n ≤ end = omega arith in
        let behind : part l (start + p + n) (end - (p + n)) ≡ encode_block r = block-part l (start + p + n) (end - (p + n)) r (block-index v.1 (omega arith)) (omega arith) in
        let long : 0 < d → 20 ≤ n = λ z. absurd (omega arith) in
        let first : record_head 1 (4 + block_size (expand t)) ++ encode_block (expand t) ≡ block_of t = ap (λ (k : ℕ). record_head 1 (4 + k) ++ encode_block (expand t)) (size-expand t) in
        let bytes : encode_block (expand (in_block q t r)) ≡ around_bytes l (start + p) n (end - (p + n)) c d (block_of t) =
        expand-block q r t ∙ block-around l (start + p) n (end - (p + n)) c d (expand t) r none behind ∙ ap (around_bytes l (start + p) n (end - (p + n)) c d) first in
        record {
          words = w;
          low = omega arith;
          high = high;
          room = room;
          long = long;
          counts = λ z. absurd (omega arith);
          what = omega arith;
          size = around-size (in_block q t r) (block_of t) n d c long high room bytes;
          bytes = bytes;
        }

    -- a loop of c turns reached and d to come, around m
    loop-held : (x : ℕ) (b : Bound) (q r : Block) (s : State) (first : Block → Block) (m : List ℕ) (c d : ℕ) → get_or ws e 0 ≡ 2 → get_or ws (e + 3) 0 ≤ get_or ws (e + 2) 0
        → c ≡ get_or ws (e + 3) 0 → d ≡ get_or ws (e + 2) 0 - get_or ws (e + 3) 0 → BlockAt l (start + p) (loop x b q r) → p + block_size (loop x b q r) ≡ end
        → encode_block (expand s) ≡ encode_block (turns_around x c q first d r) → ((t : Block) → encode_block (first t) ≡ m ++ encode_block t)
        → Around l ws start e p end s m
    unfolding held_at
    loop-held x b q r s first m c d what le ec ed h f g k =
        let n : ℕ = length_at l start p in
        let sn : n ≡ 20 + block_size q = loop-stored l (start + p) x b q r h in
        let sz : block_size (loop x b q r) ≡ 20 + block_size q + block_size r = block_size-loop x b q r in
        let come : d ≡ to_come (held_at ws e) = ed ∙ to-come-other ws e (λ z. omega arith) in
        let room : start + end ≤ length l = omega (arith, block_room h) in
        let high : p + n ≤ end = omega arith in
        let behind : end - (p + n) ≡ block_size r = omega arith in
        let long : 0 < to_come (held_at ws e) → 20 ≤ n = λ z. omega arith in
        let bytes : encode_block (expand s) ≡ around_bytes l (start + p) n (end - (p + n)) (get_or ws (e + 3) 0) (to_come (held_at ws e)) m =
        g ∙ loop-around l (start + p) n (end - (p + n)) x c d q r first m (loop-parts l (start + p) n x b q r h sn) behind k
        ∙ ap₂ (λ (i j : ℕ). around_bytes l (start + p) n (end - (p + n)) i j m) ec come in
        record {
          words = w;
          low = omega arith;
          high = high;
          room = room;
          long = long;
          counts = λ z. le;
          what = omega arith;
          size = around-size s m n (to_come (held_at ws e)) (get_or ws (e + 3) 0) long high room bytes;
          bytes = bytes;
        }

-- expansions of loops
expand-body : (x c d : ℕ) (q r : Block) (t : State) → encode_block (expand (in_body x c d q t r)) ≡ encode_block (turns_around x c q (nest (expand t)) d r)
unfolding expand
expand-body x c d q r t = refl

expand-unrolling : (x c d : ℕ) (q r : Block) → encode_block (expand (unrolling x c d q r)) ≡ encode_block (turns_around x c q (loop x (upto c) q) d r)
unfolding expand
expand-unrolling x c d q r = refl

expand-at_zero : (x d : ℕ) (q r : Block) → encode_block (expand (at_zero x d q r)) ≡ encode_block (turns_around x 0 q (nest empty) d r)
unfolding expand
expand-at_zero x d q r = refl

expand-storing : (x c d : ℕ) (q r : Block) → encode_block (expand (storing x c d q r)) ≡ encode_block (turns_around x c q (nest (assign x (lit c) q)) d r)
unfolding expand
expand-storing x c d q r = refl

first_body : (t : State) (r : Block) → encode_block (nest (expand t) r) ≡ block_of t ++ encode_block r
first_body t r = nest-bytes (expand t) r ∙ ap (λ (k : ℕ). (record_head 1 (4 + k) ++ encode_block (expand t)) ++ encode_block r) (size-expand t)

-- A LOOP IN PLAY, read

-- with something inside: it is in its body
body-inv : {P : Type 0} (w : ℕ) (last : Bool) (f c i top x : ℕ) (q r : Block) (inside : ℕ → Read State) (s : State) → 2 ≤ i
    → read_loop w last f c i top x q r inside ≡ right s → ((t : State) → inside (i - 2) ≡ right t → in_body x c (top - c) q t r ≡ s → P) → P
unfolding read_loop
body-inv w last zero c i top x q r inside s h e k = check_inv (eqb i 0) progress_held _ s e λ z g. absurd (omega (arith, eqb-true i 0 z))
body-inv w last (suc f) zero i top x q r inside s h e k = check_inv (eqb i 0) progress_held _ s e λ z g. absurd (omega (arith, eqb-true i 0 z))
body-inv w last (suc f) (suc c) zero top x q r inside s h e k = absurd (omega arith)
body-inv w last (suc f) (suc c) (suc zero) top x q r inside s h e k = absurd (omega arith)
body-inv w last (suc f) (suc c) (suc (suc i)) top x q r inside s h e k =
    holding-inv (λ t. in_body x (suc c) (top - suc c) q t r) (inside i) s e λ t g same. k t (ap inside {x = suc (suc i) - 2} {y = i} (omega arith) ∙ g) same

module _ (l ws : List ℕ) (start e p end : ℕ) where
  -- What the entries behind read inside.
  abbrev inside : ℕ → Block → ℕ → ℕ → Read State
  inside n q m i = read_state (get_or ws 1 0) (get_or ws 2 0) (held_from ws (e + 6) n) q m i

  -- AN ENTRY WITH SOMETHING INSIDE

  opened-nest : (n : ℕ) (last : Bool) (q r : Block) (s : State) → e + 6 + 6 * n ≡ 189 → BlockAt l (start + p) (nest q r) → p + block_size (nest q r) ≡ end
      → read_open (get_or ws 1 0) last (held_at ws e) p (inside n) (nest q r) ≡ right s → Opened l ws start e p end s
  unfolding read_open held_at
  opened-nest n last q r s w h f g =
      check_inv (eqb (get_or ws e 0) 1) none_open _ s g λ what g₁.
      check_inv (eqb (get_or ws (e + 1) 0) p) not_at_holder _ s g₁ λ at g₂.
      holding-inv (λ t. in_block q t r) (inside n q (inside_at p) (get_or ws (e + 5) 0)) s g₂ λ t k same.
      let is : get_or ws e 0 ≡ 1 = eqb-true (get_or ws e 0) 1 what in
      subst (λ (u : State). Opened l ws start e p end u) same (record {
        inner = t;
        left = left-of l ws start n (e + 6) q (inside_at p) (inside_of (held_at ws e)) (p + length_at l start p) t w (inside-nest l start q r p h) (omega (arith, (nest-stored l (start + p) q r h).0))
            (ap (inside n q (inside_at p)) (sym (inside-first ws e is)) ∙ k);
        around = nest-around l ws start e p end (omega arith) q r t is h f;
      })

  opened-loop : (n : ℕ) (last : Bool) (x : ℕ) (b : Bound) (q r : Block) (s : State) → e + 6 + 6 * n ≡ 189 → BlockAt l (start + p) (loop x b q r) → p + block_size (loop x b q r) ≡ end
      → opens (held_at ws e) ≡ true → read_open (get_or ws 1 0) last (held_at ws e) p (inside n) (loop x b q r) ≡ right s → Opened l ws start e p end s
  unfolding read_open held_at
  opened-loop n last x b q r s w h f op g =
      check_inv (eqb (get_or ws e 0) 2) none_open _ s g λ what g₁.
      check_inv (eqb (get_or ws (e + 1) 0) p) not_at_holder _ s g₁ λ at g₂.
      check_inv (leb (get_or ws (e + 3) 0) (get_or ws (e + 2) 0)) above_top _ s g₂ λ le g₃.
      let is : get_or ws e 0 ≡ 2 = eqb-true (get_or ws e 0) 2 what in
      let two : 1 < get_or ws (e + 5) 0 = ltb-true 1 (get_or ws (e + 5) 0) (opens-other ws e (λ z. omega arith) (λ z. omega arith) ∙ op) in
      let c : ℕ = get_or ws (e + 3) 0 in
      let d : ℕ = get_or ws (e + 2) 0 - get_or ws (e + 3) 0 in
      body-inv (get_or ws 1 0) last (get_or ws (e + 4) 0) c (get_or ws (e + 5) 0) (get_or ws (e + 2) 0) x q r (inside n q (body_at p)) s two g₃ λ t k same.
      subst (λ (u : State). Opened l ws start e p end u) same (record {
        inner = t;
        left = left-of l ws start n (e + 6) q (body_at p) (inside_of (held_at ws e)) (p + length_at l start p) t w (inside-loop l start x b q r p h) (omega (arith, loop-stored l (start + p) x b q r h))
            (ap (inside n q (body_at p)) (sym (inside-other ws e (λ z. omega arith))) ∙ k);
        around = loop-held l ws start e p end (omega arith) x b q r (in_body x c d q t r) (nest (expand t)) (block_of t) c d is (leb-true c (get_or ws (e + 2) 0) le) refl refl h f
            (expand-body x c d q r t) (first_body t);
      })

  -- A LOOP WITHIN WHICH NOTHING IS OPEN

  abbrev first : ℕ → ℕ → ℕ → List ℕ
  first i f c = first_bytes i f l (start + p) (length_at l start p) c

  module _ (w : e + 6 ≤ 189) (x : ℕ) (b : Bound) (q r : Block) (h : BlockAt l (start + p) (loop x b q r)) (g : p + block_size (loop x b q r) ≡ end)
      (is : get_or ws e 0 ≡ 2) (le : get_or ws (e + 3) 0 ≤ get_or ws (e + 2) 0) where
    parts : LoopParts l (start + p) (length_at l start p) x q r
    parts = loop-parts l (start + p) (length_at l start p) x b q r h (loop-stored l (start + p) x b q r h)

    shut-unrolling : (c top : ℕ) → c ≡ get_or ws (e + 3) 0 → top ≡ get_or ws (e + 2) 0 → Around l ws start e p end (unrolling x c (top - c) q r) (first 0 0 c)
    unfolding first_bytes
    shut-unrolling c top ec et =
        loop-held l ws start e p end w x b q r (unrolling x c (top - c) q r) (loop x (upto c) q) (first 0 0 c) c (top - c) is le ec (omega arith) h g
        (expand-unrolling x c (top - c) q r) (unrolling-bytes l (start + p) (length_at l start p) x q r parts c)

    shut-at_zero : (f top : ℕ) → 0 ≡ get_or ws (e + 3) 0 → top ≡ get_or ws (e + 2) 0 → Around l ws start e p end (at_zero x top q r) (first 0 (suc f) 0)
    unfolding first_bytes
    shut-at_zero f top ec et =
        loop-held l ws start e p end w x b q r (at_zero x top q r) (nest empty) (first 0 (suc f) 0) 0 top is le ec (omega arith) h g (expand-at_zero x top q r) empty-bytes

    shut-storing : (f c top : ℕ) → c ≡ get_or ws (e + 3) 0 → top ≡ get_or ws (e + 2) 0 → Around l ws start e p end (storing x c (top - c) q r) (first 1 f c)
    unfolding first_bytes
    shut-storing f c top ec et =
        loop-held l ws start e p end w x b q r (storing x c (top - c) q r) (nest (assign x (lit c) q)) (first 1 f c) c (top - c) is le ec (omega arith) h g
        (expand-storing x c (top - c) q r) (storing-bytes l (start + p) (length_at l start p) x q r parts c)

    shut_by : (v : ℕ) (hs : List Held) (f c i top : ℕ) (inner : ℕ → Read State) (s : State) → c ≡ get_or ws (e + 3) 0 → top ≡ get_or ws (e + 2) 0 → i < 2
        → read_loop v (is_last hs) f c i top x q r inner ≡ right s → Around l ws start e p end s (first i f c)
    unfolding read_loop
    shut_by v hs zero c i top inner s ec et h k =
        check_inv (eqb i 0) progress_held _ s k λ z k₁.
        shut-inv v hs (unrolling x c (top - c) q r) s k₁ λ a0 a1 same.
        rw (eqb-true i 0 z) (subst (λ (u : State). Around l ws start e p end u (first 0 0 c)) same (shut-unrolling c top ec et))
    shut_by v hs (suc f) zero i top inner s ec et h k =
        check_inv (eqb i 0) progress_held _ s k λ z k₁.
        shut-inv v hs (at_zero x top q r) s k₁ λ a0 a1 same.
        rw (eqb-true i 0 z) (subst (λ (u : State). Around l ws start e p end u (first 0 (suc f) 0)) same (shut-at_zero f top ec et))
    shut_by v hs (suc f) (suc c) zero top inner s ec et h k = wrong-inv progress_missing s k
    shut_by v hs (suc f) (suc c) (suc zero) top inner s ec et h k =
        shut-inv v hs (storing x (suc c) (top - suc c) q r) s k λ a0 a1 same.
        subst (λ (u : State). Around l ws start e p end u (first 1 (suc f) (suc c))) same (shut-storing (suc f) (suc c) top ec et)
    shut_by v hs (suc f) (suc c) (suc (suc i)) top inner s ec et h k = absurd (omega arith)

  shut-loop : (n : ℕ) (x : ℕ) (b : Bound) (q r : Block) (s : State) → e + 6 + 6 * n ≡ 189 → BlockAt l (start + p) (loop x b q r) → p + block_size (loop x b q r) ≡ end
      → opens (held_at ws e) ≡ false → read_open (get_or ws 1 0) (is_last (held_from ws (e + 6) n)) (held_at ws e) p (inside n) (loop x b q r) ≡ right s → Shut l ws start e p end s
  unfolding read_open held_at
  shut-loop n x b q r s w h f op g =
      check_inv (eqb (get_or ws e 0) 2) none_open _ s g λ what g₁.
      check_inv (eqb (get_or ws (e + 1) 0) p) not_at_holder _ s g₁ λ at g₂.
      check_inv (leb (get_or ws (e + 3) 0) (get_or ws (e + 2) 0)) above_top _ s g₂ λ le g₃.
      let is : get_or ws e 0 ≡ 2 = eqb-true (get_or ws e 0) 2 what in
      let two : get_or ws (e + 5) 0 ≤ 1 = ltb-false 1 (get_or ws (e + 5) 0) (opens-other ws e (λ z. omega arith) (λ z. omega arith) ∙ op) in
      record {
        long = omega (arith, loop-stored l (start + p) x b q r h);
        around = shut_by (omega arith) x b q r h f is (leb-true (get_or ws (e + 3) 0) (get_or ws (e + 2) 0) le) (get_or ws 1 0) (held_from ws (e + 6) n) (get_or ws (e + 4) 0) (get_or ws (e + 3) 0) (get_or ws (e + 5) 0) (get_or ws (e + 2) 0) (inside n q (body_at p)) s refl refl (omega arith) g₃;
      }

  shut-nest : (n : ℕ) (last : Bool) (q r : Block) (s : State) → opens (held_at ws e) ≡ false → read_open (get_or ws 1 0) last (held_at ws e) p (inside n) (nest q r) ≡ right s → Shut l ws start e p end s
  unfolding read_open held_at
  shut-nest n last q r s op g =
      check_inv (eqb (get_or ws e 0) 1) none_open _ s g λ what g₁.
      let o = opens-first ws e (eqb-true (get_or ws e 0) 1 what) in
      absurd (let z : ◌≡◌ {A = ℕ} 0 1 = cc in omega arith)

-- WHAT AN ENTRY SAYS of what is left

reads-entry : (w v : ℕ) (h : Held) (hs : List Held) (p : ℕ) (r : Block) (s : State) (gs : List Held) → gs ≡ h ∷ hs → read_left w v gs p r ≡ right s
    → read_open w (is_last hs) h p (λ q m i. read_state w v hs q m i) r ≡ right s
unfolding read_left
reads-entry w v h hs p r s gs e f = rw e at f

module _ (l ws : List ℕ) (start e p end : ℕ) (s : State) (all : length ws ≡ 189) (t : Left l ws start e p end s) where
  pub opened : opens (held_at ws e) ≡ true → Opened l ws start e p end s
  opened op =
      held-some ws all t.count e t.words (opens-held ws e op) λ n w same.
      by n w t.rest t.stands t.ends (reads-entry (get_or ws 1 0) (get_or ws 2 0) (held_at ws e) (held_from ws (e + 6) n) p t.rest s (held_from ws e t.count) same t.reads)
    where
      by : (n : ℕ) → e + 6 + 6 * n ≡ 189 → (r : Block) → BlockAt l (start + p) r → p + block_size r ≡ end
          → read_open (get_or ws 1 0) (is_last (held_from ws (e + 6) n)) (held_at ws e) p (inside l ws start e p end n) r ≡ right s → Opened l ws start e p end s
      by n w empty h f g = unfold read_open in (wrong-inv none_open s g)
      by n w (assign x y r) h f g = unfold read_open in (wrong-inv none_open s g)
      by n w (loop x b q r) h f g = opened-loop l ws start e p end n (is_last (held_from ws (e + 6) n)) x b q r s w h f op g
      by n w (nest q r) h f g = opened-nest l ws start e p end n (is_last (held_from ws (e + 6) n)) q r s w h f g

  pub shut : opens (held_at ws e) ≡ false → 1 ≤ get_or ws e 0 → Shut l ws start e p end s
  shut op some =
      held-some ws all t.count e t.words some λ n w same.
      by n w t.rest t.stands t.ends (reads-entry (get_or ws 1 0) (get_or ws 2 0) (held_at ws e) (held_from ws (e + 6) n) p t.rest s (held_from ws e t.count) same t.reads)
    where
      by : (n : ℕ) → e + 6 + 6 * n ≡ 189 → (r : Block) → BlockAt l (start + p) r → p + block_size r ≡ end
          → read_open (get_or ws 1 0) (is_last (held_from ws (e + 6) n)) (held_at ws e) p (inside l ws start e p end n) r ≡ right s → Shut l ws start e p end s
      by n w empty h f g = unfold read_open in (wrong-inv none_open s g)
      by n w (assign x y r) h f g = unfold read_open in (wrong-inv none_open s g)
      by n w (loop x b q r) h f g = shut-loop l ws start e p end n x b q r s w h f op g
      by n w (nest q r) h f g = shut-nest l ws start e p end n (is_last (held_from ws (e + 6) n)) q r s op g

  -- either way it stands around something
  pub held-around : 1 ≤ get_or ws e 0 → (m : List ℕ) × Around l ws start e p end s m
  held-around some = by (opens (held_at ws e)) refl
    where
      by : (b : Bool) → opens (held_at ws e) ≡ b → (m : List ℕ) × Around l ws start e p end s m
      by true f = let o = opened f in (block_of o.inner, o.around)
      by false f = (_, (shut f some).around)

-- the entry behind i others, as it is read whole
pub at-held : (w : EntryWords) (ws : List ℕ) (i : ℕ) → w ≡ entry_at ws i → as_held w ≡ held_at ws (3 + 6 * i)
unfolding held_at
at-held w ws i e = ap as_held e

-- WHERE NOTHING MORE IS OPEN

reads_end : (w v : ℕ) (p : ℕ) (r : Block) (s : State) (gs : List Held) → gs ≡ [] → read_left w v gs p r ≡ right s → read_here w v r ≡ right s
unfolding read_left
reads_end w v p r s gs e f = rw e at f

expand-here : (r : Block) → encode_block (expand (here r)) ≡ encode_block r
unfolding expand
expand-here r = refl

expand-summed : (x : ℕ) (y : Expr) (v : ℕ) (r : Block) → encode_block (expand (summed x y v r)) ≡ encode_block (assign x (lit v) r)
unfolding expand
expand-summed x y v r = refl

size-here : (r : Block) → expand_size (here r) ≡ block_size r
unfolding expand_size
size-here r = refl

size-summed : (x : ℕ) (y : Expr) (v : ℕ) (r : Block) → expand_size (summed x y v r) ≡ 16 + block_size r
unfolding expand_size
size-summed x y v r = refl

sum-inv : {P : Type 0} (v x : ℕ) (y : Expr) (r : Block) (s : State) → read_sum v x y r ≡ right s → (summed x y v r ≡ s → P) → P
unfolding read_sum
sum-inv v x (lit n) r s e k = wrong-inv no_sum s e
sum-inv v x (var n) r s e k = wrong-inv no_sum s e
sum-inv v x (inc n) r s e k = k (right-injective (summed x (inc n) v r) s e)
sum-inv v x (dec n) r s e k = k (right-injective (summed x (dec n) v r) s e)

-- The rest r stands between the places, with w and v for the sum that waits.
record EndedAt (l : List ℕ) (start p end w v : ℕ) (s : State) : Type 0 where
  enough : 0 < w → p + 16 ≤ end
  size : expand_size s ≡ end - p
  bytes : encode_block (expand s) ≡ rest_bytes w v l (start + p) (end - p)

module _ (l : List ℕ) (start p end : ℕ) where
  ended_here : (v : ℕ) (r : Block) (s : State) → BlockAt l (start + p) r → p + block_size r ≡ end → here r ≡ s → EndedAt l start p end 0 v s
  unfolding rest_bytes
  ended_here v r s h f same = subst (λ (u : State). EndedAt l start p end 0 v u) same (record {
    enough = λ z. absurd (omega arith);
    size = omega (arith, size-here r);
    bytes = expand-here r ∙ sym (block-part l (start + p) (end - p) r h (omega arith));
  })

  ended-summed : (w v x : ℕ) (y : Expr) (r : Block) (s : State) → BlockAt l (start + p) (assign x y r) → p + block_size (assign x y r) ≡ end → summed x y v r ≡ s → EndedAt l start p end (suc w) v s
  unfolding rest_bytes
  ended-summed w v x y r s h f same =
      let z : block_size (assign x y r) ≡ 16 + block_size r = block_size-assign x y r in
      subst (λ (u : State). EndedAt l start p end (suc w) v u) same (record {
        enough = λ k. omega arith;
        size = omega (arith, size-summed x y v r);
        bytes = expand-summed x y v r ∙ summed-bytes l (start + p) (end - p) x y v r h (omega arith);
      })

  ended_by : (w v : ℕ) (r : Block) (s : State) → BlockAt l (start + p) r → p + block_size r ≡ end → read_here w v r ≡ right s → EndedAt l start p end w v s
  unfolding read_here read_waiting
  ended_by zero v r s h f g = ended_here v r s h f (right-injective (here r) s g)
  ended_by (suc w) v empty s h f g = wrong-inv no_sum s g
  ended_by (suc w) v (assign x y r) s h f g = sum-inv v x y r s g (ended-summed w v x y r s h f)
  ended_by (suc w) v (loop x n q r) s h f g = wrong-inv no_sum s g
  ended_by (suc w) v (nest q r) s h f g = wrong-inv no_sum s g

pub ended : (l ws : List ℕ) (start e p end : ℕ) (s : State) → length ws ≡ 189 → Left l ws start e p end s → get_or ws e 0 ≡ 0 → Ended l ws start p end s
ended l ws start e p end s all t none =
    let g = ended_by l start p end (get_or ws 1 0) (get_or ws 2 0) t.rest s t.stands t.ends
    (reads_end (get_or ws 1 0) (get_or ws 2 0) p t.rest s (held_from ws e t.count) (held_none ws all t.count e none) t.reads) in
    record { order = omega (arith, t.ends); room = omega (arith, block_room t.stands, t.ends); enough = g.enough; size = g.size; bytes = g.bytes }

-- what the code needs to know of an entry
pub around-entry : {l ws : List ℕ} {start e p end : ℕ} {s : State} {m : List ℕ} → Around l ws start e p end s m → IsHeld (held_at ws e)
unfolding held_at
around-entry a = (a.what.0, a.what.1, a.counts)

pub shut-size : (l ws : List ℕ) (start e p end : ℕ) (s : State) (h : Shut l ws start e p end s)
    → expand_size s ≡ to_come (held_at ws e) * length_at l start p + (end - (p + length_at l start p)) + first_size (get_or ws (e + 5) 0) (get_or ws (e + 4) 0) (length_at l start p)
shut-size l ws start e p end s h =
    omega (arith, h.around.size, length-first l (start + p) (length_at l start p) (get_or ws (e + 3) 0) h.long (omega (arith, h.around.high, h.around.room)) (get_or ws (e + 5) 0) (get_or ws (e + 4) 0))

pub some-held : (what w : ℕ) → what ≡ w → (what ≡ 0 → ⊥) → 1 ≤ w
some-held zero w e f = absurd (f refl)
some-held (suc what) w e f = omega arith

pub left-room : {l ws : List ℕ} {start e p end : ℕ} {s : State} → Left l ws start e p end s → (start + end ≤ length l) × (p ≤ end)
left-room t = (omega (arith, block_room t.stands, t.ends), omega (arith, t.ends))
