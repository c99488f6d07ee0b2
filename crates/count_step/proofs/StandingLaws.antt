-- Laws of what stands at the innermost place.
use Prim.Native.Nat.{◌*◌, ◌+◌, ◌-◌, ◌<◌, ◌≤◌, ℕ}
use mathlib.Core.Path.{ap, ap₂, refl, subst, sym, ◌∙◌, ◌≡◌}
use mathlib.Core.Bool.{Bool}
use mathlib.Core.List.{◌++◌, List, [], ◌∷◌}
use mathlib.Core.Option.{some}
use lib.ListN.{get_or, length, length-append}
use native.Mathlib.Omega.{arith}
use Rattle.buffer.specs.LittleEndian.{val}
use Rattle.buffer.specs.Slice.{part}
use Rattle.record.specs.Program.{block_size}
use Rattle.rules.specs.Syntax.{Block, assign, empty, loop, nest}
use Rattle.place.specs.ProgramView.{BlockAt}
use Rattle.place.proofs.ProgramViewLaws.{assign-view, loop-view, nest-view}
use Rattle.counting.specs.CountStep.{step_state}
use Rattle.counting.specs.Counting.{here, in_block}
use Rattle.counting.specs.Depth.{open_count}
use Rattle.counting.specs.Entries.{Entry, hold, open_block, within}
use Rattle.counting.specs.Frames.{entry_at, entry_block, entry_inside, inner_at, inner_block, place_word}
use Rattle.counting.specs.Held.{held_block, held_loop}
use Rattle.counting.specs.Place.{inside_at, rest_at}
use Rattle.counting.specs.StateOf.{StateOf}
use Rattle.counting.specs.StateWords.{encode_state}
use Rattle.counting.proofs.BytesLaws.{rest_end}
use Rattle.counting.proofs.DepthLaws.{open-31}
use Rattle.counting.proofs.EntriesLaws.{within-append, within-opens}
use Rattle.counting.proofs.FramesLaws.{at_last, inner_last, last_at}
use Rattle.counting.proofs.PlaceLaws.{rest-self}
use Rattle.counting.proofs.ReadStateLaws.{place-nest}
use Rattle.counting.proofs.StepEdits as edits
use Rattle.counting.proofs.WordEdits.{put_entry}
use Rattle.state_words.specs.Entry.{block_entry, last_loop, mark_by, place_in, pushed}
use Rattle.state_words.proofs.EntryLaws.{push-block}
use Rattle.count_step.specs.declared.standing.Standing.TheVariants as standing
use Rattle.count_step.specs.Inner.{Inner}
use Rattle.count_step.specs.Standing.{Opened, inner_end, kind_of}
use Rattle.count_step.proofs.AroundLaws.{Around, around, around_block, around_none, around_turn, here-read, last-end, last-room, last_end}
use Rattle.count_step.proofs.InnerLaws.{inner-at, inner-other, open-within}

-- WHERE THE INNERMOST BLOCK ENDS

pub record EndAsks (start used n : ℕ) (buf words : List ℕ) : Type 0 where
  pub few : n ≤ 31
  pub used_low : start ≤ used
  pub room : (n ≡ 0 → ⊥) → start + get_or words (3 + 6 * (n - 1) + 1) 0 + 4 ≤ length buf

module _ {start used n : ℕ} {P : Block} {es : List Entry} {i : ℕ} {r : Block} {buf words : List ℕ} {count : ℕ} (h : Inner start used n P es i r (here r) buf words count) where
  none_open : es ≡ [] → n ≡ 0
  none_open e = (here-read h).count ∙ ap length e

  pub end-asks : EndAsks start used n buf words
  unfolding held_block held_loop
  end-asks =
      let p = here-read h in
      record {
        few = omega (arith, p.count, p.few);
        used_low = omega (arith, h.holds.ends);
        room = λ z. room_by z (around h);
      }
    where
      room_by : (n ≡ 0 → ⊥) → Around h → start + get_or words (3 + 6 * (n - 1) + 1) 0 + 4 ≤ length buf
      room_by z (around_none e) = absurd (z (none_open e))
      room_by z (around_block fs p q o e r a b g d) =
          let m : length fs ≡ n - 1 = omega (arith, r.count) in
          subst (λ (y : ℕ). start + get_or words (3 + 6 * y + 1) 0 + 4 ≤ length buf) m (last-room start buf words n (length fs) p (4 + block_size q) _ r refl g)
      room_by z (around_turn fs p x t d m q o e r a b g u) =
          let y : length fs ≡ n - 1 = omega (arith, r.count) in
          subst (λ (y : ℕ). start + get_or words (3 + 6 * y + 1) 0 + 4 ≤ length buf) y (last-room start buf words n (length fs) p (20 + block_size q) _ r refl g)

  pub inner-end-0 : n ≡ 0 → used - start ≡ inner_end es P
  unfolding inner_end
  inner-end-0 z = by-around (around h)
    where
      none : (es : List Entry) → es ≡ [] → inner_at es P 0 + block_size (inner_block es P) ≡ block_size P
      none es e = ap (λ (l : List Entry). inner_at l P 0 + block_size (inner_block l P)) e ∙ (unfold inner_at inner_block in (omega arith))

      by-around : Around h → used - start ≡ inner_at es P 0 + block_size (inner_block es P)
      by-around (around_none e) = let f = h.holds.ends in let g = none es e in omega arith
      by-around (around_block fs p q o e r a b g d) = absurd (omega (arith, r.count))
      by-around (around_turn fs p x t d m q o e r a b g u) = absurd (omega (arith, r.count))

  pub inner-end-last : (n ≡ 0 → ⊥) → (p : ℕ) → p ≡ last_end start buf words (n - 1) → p ≡ inner_end es P
  unfolding inner_end held_block held_loop
  inner-end-last z y f = by-around (around h)
    where
      by-around : Around h → y ≡ inner_at es P 0 + block_size (inner_block es P)
      by-around (around_none e) = absurd (z (none_open e))
      by-around (around_block fs p q o e r a b g d) =
          let m : n - 1 ≡ length fs = omega (arith, r.count) in
          f ∙ ap (last_end start buf words) m ∙ last-end start buf words n (length fs) p (4 + block_size q) _ r refl g ∙ sym b
      by-around (around_turn fs p x t d u q o e r a b g v) =
          let m : n - 1 ≡ length fs = omega (arith, r.count) in
          f ∙ ap (last_end start buf words) m ∙ last-end start buf words n (length fs) p (20 + block_size q) _ r refl g ∙ sym b

-- WHAT STANDS THERE

-- The number of its record's kind.
unfoldable pub kind_number : Block → ℕ
kind_number empty = 0
kind_number (assign x e r) = 2
kind_number (loop x n q r) = 3
kind_number (nest q r) = 1

module _ (buf : List ℕ) (p : ℕ) where
  pub kind-read : (r : Block) → (r ≡ empty → ⊥) → BlockAt buf p r → (p + 4 ≤ length buf) × (val (part buf (p + 2) 2) ≡ kind_number r)
  unfolding kind_number assign-view loop-view nest-view
  kind-read empty n b = absurd (n refl)
  kind-read (assign x e r) n b = let v = assign-view x e r b in (omega (arith, v.room, v.size), v.kind)
  kind-read (loop x m q r) n b = let v = loop-view x m q r b in (omega (arith, v.room, v.size), v.kind)
  kind-read (nest q r) n b = let v = nest-view q r b in (omega (arith, v.room, v.size), v.kind)

-- told by that number
pub is-nest : (r : Block) → kind_number r ≡ 1 → standing.Block ≡ kind_of r
unfolding kind_number kind_of
is-nest empty e = absurd (omega arith)
is-nest (assign x y r) e = absurd (omega arith)
is-nest (loop x m q r) e = absurd (omega arith)
is-nest (nest q r) e = refl

pub is-assign : (r : Block) → kind_number r ≡ 2 → standing.Assignment ≡ kind_of r
unfolding kind_number kind_of
is-assign empty e = absurd (omega arith)
is-assign (assign x y r) e = refl
is-assign (loop x m q r) e = absurd (omega arith)
is-assign (nest q r) e = absurd (omega arith)

pub is-loop : (r : Block) → (r ≡ empty → ⊥) → (kind_number r ≡ 1 → ⊥) → (kind_number r ≡ 2 → ⊥) → standing.Loop ≡ kind_of r
unfolding kind_number kind_of
is-loop empty z m n = absurd (z refl)
is-loop (assign x y r) z m n = absurd (n refl)
is-loop (loop x k q r) z m n = refl
is-loop (nest q r) z m n = absurd (m refl)

-- what code asks to look at the place
pub here-asks : {start used n : ℕ} {P : Block} {es : List Entry} {i : ℕ} {r : Block} {buf words : List ℕ} {count : ℕ} → Inner start used n P es i r (here r) buf words count
    → (n ≤ 31) × (mark_by (last_loop words n) 0 ≤ get_or words (place_word n) 0)
here-asks h = let p = here-read h in (omega (arith, p.count, p.few), p.room)

module _ {start used n : ℕ} {P : Block} {es : List Entry} {i : ℕ} {r : Block} {buf words : List ℕ} {count : ℕ} (h : Inner start used n P es i r (here r) buf words count) (j : ℕ) (f : j ≡ place_in words n) where
  pub same_place : j ≡ i
  same_place = f ∙ (here-read h).place

  stands-empty : (e : ℕ) → e ≡ inner_end es P → j ≡ e → r ≡ empty
  unfolding inner_end
  stands-empty e g z = (rest_end (inner_block es P) (inner_at es P 0) i r h.place).0 (sym same_place ∙ z ∙ g)

  pub stands-0 : (e : ℕ) → e ≡ inner_end es P → j ≡ e → standing.End ≡ kind_of r
  unfolding kind_of
  stands-0 e g z = sym (ap kind_of (stands-empty e g z))

  pub stands-kind : (e : ℕ) → e ≡ inner_end es P → (j ≡ e → ⊥) → (start + j + 4 ≤ length buf) × (val (part buf (start + j + 2) 2) ≡ kind_number r) × (r ≡ empty → ⊥)
  unfolding inner_end
  stands-kind e g z =
      let n : r ≡ empty → ⊥ = λ y. z (same_place ∙ (rest_end (inner_block es P) (inner_at es P 0) i r h.place).1 y ∙ sym g) in
      let v = kind-read buf (start + i) r n (inner-at h) in
      let w = subst (λ (m : ℕ). (start + m + 4 ≤ length buf) × (val (part buf (start + m + 2) 2) ≡ kind_number r)) (sym same_place) v in
      (w.0, w.1, n)

-- A BLOCK IS OPENED

module _ {start used n : ℕ} {P : Block} {es : List Entry} {i : ℕ} {q r : Block} {buf words : List ℕ} {count : ℕ} (h : Inner start used n P es i (nest q r) (here (nest q r)) buf words count) where
  abbrev fs : List Entry
  fs = es ++ (open_block q r ∷ [])

  inside_of : StateOf P 0 (within es (in_block q (here q) r))
  inside_of = inner-other h (in_block q (here q) r) (i, h.place, (inside_at i, rest-self q (inside_at i)))

  pub block-few : length es < 31
  unfolding open_count
  block-few = omega (arith, open-31 P 0 (within es (in_block q (here q) r)) inside_of h.holds.deep, open-within es (in_block q (here q) r))

  is_within : within fs (here q) ≡ within es (in_block q (here q) r)
  is_within = within-append es (open_block q r ∷ []) (here q) ∙ ap (within es) (unfold within hold in refl)

  many-opened : (m : ℕ) → m ≡ n + 1 → m ≡ open_count (within fs (here q))
  unfolding open_count
  many-opened m e =
      let a = open-within fs (here q) in
      let b = length-append es (open_block q r ∷ []) in
      let d = (here-read h).count in
      omega arith

  pub block-opened : (m j : ℕ) → m ≡ n + 1 → j ≡ place_in words n → (ws : List ℕ) → ws ≡ pushed words n (block_entry j (j + 4)) → Inner start used m P fs (inside_at i) q (here q) buf ws count
  unfolding entry_block entry_inside
  block-opened m j c f ws w =
      let a = h.holds in
      let p = here-read h in
      let e : ws ≡ encode_state P (within es (in_block q (here q) r)) =
      w ∙ ap₂ (λ (x y : ℕ). pushed words x (block_entry y (y + 4))) p.count (f ∙ p.place) ∙ push-block words (length es) i (i + 4)
      ∙ ap (λ (z : List ℕ). put_entry z (3 + 6 * length es) (held_block i (inside_at i))) a.same ∙ edits.opened P es i q r h.place block-few in
      let l : last_at (open_block q r) es P 0 ≡ i = unfold entry_at in (place-nest (inner_block es P) (inner_at es P 0) i q r h.place) in
      record {
        holds = record {
          stands = a.stands;
          ends = a.ends;
          low = a.low;
          scope = a.scope;
          deep = a.deep;
          of = subst (StateOf P 0) (sym is_within) inside_of;
          many = many-opened m c;
          same = e ∙ ap (encode_state P) (sym is_within);
        };
        place = subst (λ (b : Block). rest_at b (inner_at fs P 0) (inside_at i) ≡ some q) (sym (inner_last (open_block q r) es P))
            (subst (λ (m : ℕ). rest_at q m (inside_at i) ≡ some q) (sym (at_last (open_block q r) es P 0 ∙ ap inside_at l)) (rest-self q (inside_at i)));
      }

-- so many are opened, one after the other
module _ {start used n : ℕ} {P : Block} {es : List Entry} {r : Block} {buf words : List ℕ} {count : ℕ} where
  unfoldable pub opened-start : {i : ℕ} → Inner start used n P es i r (here r) buf words count → Opened start used n P es r buf words count
  opened-start {i} h = record { around = es; place = i; left = r; inner = h; steps = λ ok store. refl }

  pub opened-on : (o : Opened start used n P es r buf words count) → kind_of o.left ≡ standing.Block → (m j : ℕ) → m ≡ n + 1 → j ≡ place_in words n → (ws : List ℕ)
      → ws ≡ pushed words n (block_entry j (j + 4)) → Opened start used m P es r buf ws count
  opened-on o t m j c f ws w = by_left o.left t o.inner o.steps
    where
      by_left : (b : Block) → kind_of b ≡ standing.Block → Inner start used n P o.around o.place b (here b) buf words count
          → ((ok : ℕ → Bool) (store : List ℕ) → step_state ok (within o.around (here b)) store ≡ step_state ok (within es (here r)) store) → Opened start used m P es r buf ws count
      by_left empty t h s = absurd (unfold kind_of in (cc))
      by_left (assign x e b) t h s = absurd (unfold kind_of in (cc))
      by_left (loop x m q b) t h s = absurd (unfold kind_of in (cc))
      by_left (nest q b) t h s =
          record {
            around = o.around ++ (open_block q b ∷ []);
            place = inside_at o.place;
            left = q;
            inner = block-opened h m j c f ws w;
            steps = λ ok store. sym (within-opens ok store o.around q b) ∙ s ok store;
          }

-- what code asks to open one
pub record OpenAsks (n : ℕ) (words : List ℕ) : Type 0 where
  pub few : n < 31
  pub low : place_in words n + 4 ≤ 16384

pub opened-asks : {start used n : ℕ} {P : Block} {es : List Entry} {r : Block} {buf words : List ℕ} {count : ℕ} → (o : Opened start used n P es r buf words count) → kind_of o.left ≡ standing.Block → OpenAsks n words
opened-asks {start} {used} {n} {P} {es} {r} {buf} {words} {count} o t = by_left o.left t o.inner
  where
    by_left : (b : Block) → kind_of b ≡ standing.Block → Inner start used n P o.around o.place b (here b) buf words count → OpenAsks n words
    by_left empty t h = absurd (unfold kind_of in (cc))
    by_left (assign x e b) t h = absurd (unfold kind_of in (cc))
    by_left (loop x m q b) t h = absurd (unfold kind_of in (cc))
    by_left (nest q b) t h =
        let p = here-read h in
        let v = kind-read buf (start + o.place) (nest q b) (λ z. let y : ◌≡◌ {A = ℕ} 0 1 = cc in omega arith) (inner-at h) in
        record { few = omega (arith, p.count, block-few h); low = omega (arith, p.place, v.0, h.holds.low) }
