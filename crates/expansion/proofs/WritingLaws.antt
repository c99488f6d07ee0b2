-- What is written, step by step: each law takes what the code's calls leave, as equations.
use Prim.Native.Nat.{◌+◌, ◌-◌, ◌≤◌, suc, zero, ℕ}
use mathlib.Core.Path.{ap, refl, sym, ◌∙◌, ◌≡◌}
use mathlib.Core.List.{◌++◌, List}
use lib.ListN.{get_or, length, length-append}
use native.Mathlib.Omega.{arith}
use Rattle.buffer.specs.LittleEndian.{val}
use Rattle.buffer.specs.Slice.{part, put}
use Rattle.buffer.proofs.SliceLaws.{length_part}
use Rattle.rules.specs.Syntax.{Block}
use Rattle.record.specs.Program.{encode_block}
use Rattle.place.specs.Edit.{lead}
use Rattle.place.specs.Heads.{record_head}
use Rattle.place.proofs.EditLaws.{length-lead}
use Rattle.place.proofs.HeadsLaws.{length-record_head}
use Rattle.counting.specs.Counting.{State, expand}
use Rattle.counting.specs.Size.{expand_size}
use Rattle.counting.specs.Held.{Held}
use Rattle.counting.specs.StateWords.{held_at}
use Rattle.counting.proofs.SizeLaws.{length-expansion}
use Rattle.expansion.specs.Entry.{inside_of, to_come}
use Rattle.expansion.specs.Pieces.{around_bytes, first_bytes, led_bytes, rest_bytes, storing_bytes, turn_bytes, turns_bytes, unrolling_bytes}
use Rattle.expansion.specs.Walk.{Around, Given, IsHeld, Opened, Shut, block_of, length_at}
use Rattle.expansion.specs.Writing.{Narrowed, Writing}
use Rattle.expansion.proofs.PiecesLaws.{back-first, front-first, turns-none}
use Rattle.expansion.proofs.EntryLaws.{to-come-first, to-come-other}
use Rattle.expansion.proofs.WalkLaws.{given-left, length-block_of}

-- AN ASSIGNMENT OR A LOOP, and what follows it
pub led-written : (l o o₁ o₂ : List ℕ) (at kind n v from count p x : ℕ) → x ≡ val (part l (at + 4) 4) → o₁ ≡ put o p (lead kind n x 16 v) → o₂ ≡ put o₁ (p + 16) (part l from count)
    → p + 16 ≤ length o → o₂ ≡ put o p (led_bytes l at kind n v from count)
unfolding led_bytes
led-written l o o₁ o₂ at kind n v from count p x ex e₁ e₂ r =
    e₂ ∙ front-first o o₁ (lead kind n x 16 v) (part l from count) p (p + 16) e₁ (omega (arith, length-lead kind n x 16 v)) r
    ∙ ap (λ (k : ℕ). put o p (lead kind n k 16 v ++ part l from count)) ex

-- WHAT STANDS FIRST
module _ (l : List ℕ) (at n c : ℕ) (o o₁ : List ℕ) (p : ℕ) where
  pub storing-written : (i f : ℕ) (o₂ : List ℕ) → i ≡ 1 → o₁ ≡ put o p (record_head 1 n) → o₂ ≡ put o₁ (p + 4) (turn_bytes l at n c) → p + 4 ≤ length o
      → o₂ ≡ put o p (first_bytes i f l at n c)
  unfolding first_bytes storing_bytes
  storing-written i f o₂ h e₁ e₂ r =
      rw h (e₂ ∙ front-first o o₁ (record_head 1 n) (turn_bytes l at n c) p (p + 4) e₁ (omega (arith, length-record_head 1 n)) r)

  pub unrolling-written : (i f : ℕ) → (i ≡ 1 → ⊥) → f ≡ 0 → o₁ ≡ put o p (led_bytes l at 3 n c (at + 16) (n - 16)) → o₁ ≡ put o p (first_bytes i f l at n c)
  unfolding first_bytes unrolling_bytes
  unrolling-written zero f h k e = rw k e
  unrolling-written (suc zero) f h k e = absurd (h refl)
  unrolling-written (suc (suc i)) f h k e = rw k e

  pub zero-written : (i f : ℕ) → (i ≡ 1 → ⊥) → (f ≡ 0 → ⊥) → o₁ ≡ put o p (record_head 1 4) → o₁ ≡ put o p (first_bytes i f l at n c)
  unfolding first_bytes
  zero-written (suc zero) f h k e = absurd (h refl)
  zero-written zero zero h k e = absurd (k refl)
  zero-written zero (suc f) h k e = e
  zero-written (suc (suc i)) zero h k e = absurd (k refl)
  zero-written (suc (suc i)) (suc f) h k e = e

-- WHAT IS LEFT OF A BLOCK
module _ (l : List ℕ) (at count v : ℕ) (o o₁ : List ℕ) (p : ℕ) where
  pub rest-written : (w : ℕ) → w ≡ 0 → o₁ ≡ put o p (part l at count) → o₁ ≡ put o p (rest_bytes w v l at count)
  unfolding rest_bytes
  rest-written w h e = rw h e

  pub sum-written : (w : ℕ) → (w ≡ 0 → ⊥) → o₁ ≡ put o p (led_bytes l at 2 16 v (at + 16) (count - 16)) → o₁ ≡ put o p (rest_bytes w v l at count)
  unfolding rest_bytes
  sum-written zero h e = absurd (h refl)
  sum-written (suc w) h e = e

-- A TURN
pub turn-led : (l : List ℕ) (at n v : ℕ) (o o₁ : List ℕ) (p : ℕ) → o₁ ≡ put o p (led_bytes l at 2 16 v (at + 20) (n - 20)) → o₁ ≡ put o p (turn_bytes l at n v)
unfolding turn_bytes
turn-led l at n v o o₁ p e = e

-- as many turns are left
pub turns-left : (l : List ℕ) (at n c : ℕ) (m o₁ : List ℕ) (f i j : ℕ) {b : ℕ} {all : List ℕ} → i ≡ j → put o₁ f (turns_bytes l at n c m i) ≡ all → f + length (turns_bytes l at n c m i) ≡ b
    → (put o₁ f (turns_bytes l at n c m j) ≡ all) × (f + length (turns_bytes l at n c m j) ≡ b)
turns-left l at n c m o₁ f i j e g h =
    (ap (λ (k : ℕ). put o₁ f (turns_bytes l at n c m k)) (sym e) ∙ g, ap (λ (k : ℕ). f + length (turns_bytes l at n c m k)) (sym e) ∙ h)

-- no turn is left
pub turns-done : (l : List ℕ) (at n c i : ℕ) (m o o₁ : List ℕ) (front f b : ℕ) (all : List ℕ) → i ≤ 0
    → (put o₁ f (turns_bytes l at n c m i) ≡ put o front all) × (f + length (turns_bytes l at n c m i) ≡ b) → b ≤ length o₁ → Narrowed o o₁ front all f b m
turns-done l at n c i m o o₁ front f b all z g r =
    let e : turns_bytes l at n c m i ≡ m = ap (turns_bytes l at n c m) {x = i} {y = 0} (omega arith) ∙ turns-none l at n c m in
    record { same = ap (put o₁ f) (sym e) ∙ g.0; fills = ap (λ (y : List ℕ). f + length y) (sym e) ∙ g.1; room = r }

-- WHAT IS AROUND
module _ (l : List ℕ) (at n behind c d : ℕ) (m : List ℕ) (inside : at + n + behind ≤ length l) (front back : ℕ)
    (fills : front + length (around_bytes l at n behind c d m) ≡ back) where
  around-length : length (around_bytes l at n behind c d m) ≡ length (turns_bytes l at n c m d) + behind
  unfolding around_bytes
  around-length = length-append (turns_bytes l at n c m d) (part l (at + n) behind) ∙ ap (λ (k : ℕ). length (turns_bytes l at n c m d) + k) (length_part l (at + n) behind inside)

  pub around-fills : (behind ≤ back) × (front + length (turns_bytes l at n c m d) ≡ back - behind)
  around-fills = (omega (arith, around-length, fills), omega (arith, around-length, fills))

  module _ (o o₁ : List ℕ) (room : back ≤ length o) (written : o₁ ≡ put o (back - behind) (part l (at + n) behind)) where
    pub around-same : put o₁ front (turns_bytes l at n c m d) ≡ put o front (around_bytes l at n behind c d m)
    unfolding around_bytes
    around-same = back-first o o₁ (turns_bytes l at n c m d) (part l (at + n) behind) front (back - behind) written around-fills.1 (omega arith)

    pub around-none : d ≡ 0 → length o₁ ≡ length o → Narrowed o o₁ front (around_bytes l at n behind c d m) front (back - behind) m
    around-none z k =
        let e : turns_bytes l at n c m d ≡ m = ap (turns_bytes l at n c m) z ∙ turns-none l at n c m in
        record {
          same = ap (put o₁ front) (sym e) ∙ around-same;
          fills = ap (λ (y : List ℕ). front + length y) (sym e) ∙ around-fills.1;
          room = omega arith;
        }

    -- the turns, as many as the code found
    pub around-turns : (o₂ : List ℕ) (f b k : ℕ) → k ≡ d → (front + length (turns_bytes l at n c m k) ≡ back - behind → Narrowed o₁ o₂ front (turns_bytes l at n c m k) f b m)
        → Narrowed o o₂ front (around_bytes l at n behind c d m) f b m
    around-turns o₂ f b k e g =
        let h = g (ap (λ (j : ℕ). front + length (turns_bytes l at n c m j)) e ∙ around-fills.1) in
        record { same = h.same ∙ ap (λ (j : ℕ). put o₁ front (turns_bytes l at n c m j)) e ∙ around-same; fills = h.fills; room = h.room }

-- the last of the turns to come is below 2^32, as the top is
pub turns-top : (h : Held) (d : ℕ) → d ≡ to_come h → (d ≡ 0 → ⊥) → IsHeld h → h.reached + d ≡ h.top
turns-top h d ed z (low, high, counts) = by h.what refl
  where
    by : (what : ℕ) → h.what ≡ what → h.reached + d ≡ h.top
    by zero e = absurd (omega arith)
    by (suc zero) e = absurd (z (ed ∙ sym (to-come-first h e)))
    by (suc (suc what)) e =
        let two : h.what ≡ 2 = omega arith in
        omega (arith, to-come-other h (λ k. omega arith), counts two, ed)

-- WHAT IS INNERMOST
module _ (l ws : List ℕ) (start e p end : ℕ) (s : State) where
  -- the bytes, by the numbers that the code reads: the record's length, the reached count and how many turns are to come
  pub around-bytes : {m : List ℕ} → Around l ws start e p end s m → (n c d : ℕ) → n ≡ length_at l start p → c ≡ get_or ws (e + 3) 0 → d ≡ to_come (held_at ws e)
      → encode_block (expand s) ≡ around_bytes l (start + p) n (end - (p + n)) c d m
  around-bytes h n c d en ec ed = rw (en, ec, ed) h.bytes

  -- and of a loop within which nothing is open, its progress and whether it is running
  pub shut-bytes : Shut l ws start e p end s → (n c d i f : ℕ) → n ≡ length_at l start p → c ≡ get_or ws (e + 3) 0 → d ≡ to_come (held_at ws e) → i ≡ get_or ws (e + 5) 0 → f ≡ get_or ws (e + 4) 0
      → encode_block (expand s) ≡ around_bytes l (start + p) n (end - (p + n)) c d (first_bytes i f l (start + p) n c)
  shut-bytes h n c d i f en ec ed ei ef = rw (en, ec, ed, ei, ef) h.around.bytes

-- an expansion ends where its size says
pub bytes-fill : (s : State) (all : List ℕ) (front back : ℕ) → encode_block (expand s) ≡ all → front + expand_size s ≡ back → front + length all ≡ back
bytes-fill s all front back e h = omega (arith, length-expansion s, ap length e)

pub narrowed-done : (s : State) (all o o₁ o₂ : List ℕ) (front f b : ℕ) (m : List ℕ) → encode_block (expand s) ≡ all → Narrowed o o₁ front all f b m → o₂ ≡ put o₁ f m
    → o₂ ≡ put o front (encode_block (expand s))
narrowed-done s all o o₁ o₂ front f b m e g h = h ∙ g.same ∙ ap (put o front) (sym e)

-- THE WRITING WALK
module _ (l ws : List ℕ) (start : ℕ) where
  pub writing_start : (used : ℕ) (P : Block) (s : State) → Given l used ws start P s → (o : List ℕ) (front b p : ℕ) → b ≡ front + expand_size s → p ≡ get_or ws 0 0
      → Writing l ws start s o o front front b 3 p (used - start)
  writing_start used P s g o front b p eb ep = record { inner = s; left = rw ep (given-left l ws start used P s g); same = refl; fills = sym eb }

  pub writing_step : (s : State) (o o₁ o₂ o₃ : List ℕ) (front f b e p end : ℕ) (w : Writing l ws start s o o₁ front f b e p end) (h : Opened l ws start e p end w.inner) (n c d f₂ b₂ q : ℕ)
      → n ≡ length_at l start p → c ≡ get_or ws (e + 3) 0 → d ≡ to_come (held_at ws e)
      → Narrowed o₁ o₂ f (around_bytes l (start + p) n (end - (p + n)) c d (block_of h.inner)) f₂ b₂ (block_of h.inner)
      → o₃ ≡ put o₂ f₂ (record_head 1 (b₂ - f₂)) → q ≡ inside_of (held_at ws e)
      → Writing l ws start s o o₃ front (f₂ + 4) b₂ (e + 6) q (p + n)
  writing_step s o o₁ o₂ o₃ front f b e p end w h n c d f₂ b₂ q en ec ed g e₃ eq =
      let t : State = h.inner in
      let k : b₂ - f₂ ≡ 4 + expand_size t = omega (arith, g.fills, length-block_of t) in
      record {
        inner = t;
        left = rw (eq, en) h.left;
        same = front-first o₂ o₃ (record_head 1 (b₂ - f₂)) (encode_block (expand t)) f₂ (f₂ + 4) e₃ (omega (arith, length-record_head 1 (b₂ - f₂))) (omega (arith, g.fills, length-block_of t, g.room))
            ∙ ap (λ (j : ℕ). put o₂ f₂ (record_head 1 j ++ encode_block (expand t))) k
            ∙ g.same ∙ ap (put o₁ f) (sym (around-bytes l ws start e p end w.inner h.around n c d en ec ed)) ∙ w.same;
        fills = omega (arith, g.fills, length-block_of t);
      }

  pub writing-same : {s : State} {o o₁ : List ℕ} {front f b e p end : ℕ} (g : ℕ) → g ≡ e → Writing l ws start s o o₁ front f b e p end → Writing l ws start s o o₁ front f b g p end
  writing-same g eg w = rw eg w
