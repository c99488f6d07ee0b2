-- Laws of the walk inwards: what is left to read comes to the reading of the whole.
use Prim.Native.Nat.{◌-◌, ◌+◌, ◌<◌, ◌≤◌, ◌*◌, ℕ}
use mathlib.Core.Path.{ap, ap₂, refl, subst, sym, ◌∙◌, ◌≡◌}
use mathlib.Core.Bool.{Bool, false, true}
use mathlib.Core.List.{List, [], ◌∷◌}
use mathlib.Core.Option.{Option as Possible, none, some}
use Rattle.std.proofs.Common.{None, Option, Some}
use borrow.Author.Tests.{eq-eqb, ne_eqb}
use lib.Dec.{eqb}
use lib.ListN.{get_or, length}
use native.Mathlib.Omega.{arith}
use Rattle.buffer.specs.LittleEndian.{val}
use Rattle.buffer.specs.Slice.{part}
use Rattle.record.specs.Program.{block_size}
use Rattle.rules.specs.Syntax.{Block, assign, empty, loop, nest}
use Rattle.rules.proofs.Tests.{true-false}
use Rattle.place.specs.ProgramView.{BlockAt}
use Rattle.place.proofs.ProgramViewLaws.{loop-view, nest-view}
use Rattle.counting.specs.Counting.{State}
use Rattle.counting.specs.Held.{Held}
use Rattle.counting.specs.Place.{body_at, inside_at, rest_at}
use Rattle.counting.specs.ReadState.{is_right, Read, is_last, on_rest, read_here, read_numbers, read_open, read_state}
use Rattle.counting.specs.StateWords.{decode_state, held_at, held_from, unpacked}
use Rattle.counting.proofs.BytesLaws.{inside-loop, inside-nest, rest-stands}
use Rattle.counting.proofs.PlaceLaws.{rest-located}
use Rattle.canonical.proofs.HeldLaws.{behind, behind-few, behind-held, behind-some, held-of}
use Rattle.canonical.specs.Canonical.{held_of}
use Rattle.state_words.specs.declared.EntryWords.{EntryWords}
use Rattle.state_words.specs.Entry.{entry_at}
use Rattle.state_check.specs.declared.Class.{Class}
use Rattle.state_check.specs.declared.Class.TheVariants.{InBlock, InBody, Shut}
use Rattle.state_check.specs.Class.{ClassOf, Inside, class_right, inside_of, inside_right, is_some}

-- THE WALK: j entries are read, of n; the bytes hold the program's first command at o

pub record Reading (P : Block) (buf ws : List ℕ) (o n j first end p : ℕ) : Type 0 where
  pub block : Block
  pub stands : BlockAt buf (o + first) block
  pub size : first + block_size block ≡ end
  pub count : n ≡ j + length (behind ws j)
  pub same : is_right (read_state (get_or ws 1 0) (get_or ws 2 0) (behind ws j) block first p) ≡ is_right (decode_state P ws)

pub reading-start : (P : Block) (buf ws : List ℕ) (used o n p : ℕ) → BlockAt buf o P → used ≡ o + block_size P → n ≡ length (held_from ws 3 31) → p ≡ get_or ws 0 0
    → Reading P buf ws o n 0 0 (used - o) p
unfolding decode_state read_numbers unpacked
reading-start P buf ws used o n p b u c f =
    record {
      block = P;
      stands = subst (λ (m : ℕ). BlockAt buf m P) {x = o} {y = o + 0} (omega arith) b;
      size = omega arith;
      count = omega arith;
      same = ap (λ (q : ℕ). is_right (read_state (get_or ws 1 0) (get_or ws 2 0) (held_from ws 3 31) P 0 q)) f;
    }

-- What is left from a place on.
pub record Left (buf : List ℕ) (o : ℕ) (b : Block) (first end p : ℕ) : Type 0 where
  pub rest : Block
  pub is : rest_at b first p ≡ some rest
  pub stands : BlockAt buf (o + p) rest
  pub size : p + block_size rest ≡ end

left-of : (buf : List ℕ) (o : ℕ) (b : Block) (first end p : ℕ) → BlockAt buf (o + first) b → first + block_size b ≡ end → is_some (rest_at b first p) ≡ true → Left buf o b first end p
left-of buf o b first end p h s t = by-rest (rest_at b first p) refl t
  where
    by-rest : (z : Possible Block) → rest_at b first p ≡ z → is_some z ≡ true → Left buf o b first end p
    by-rest none e t = absurd (unfold is_some in (true-false (sym t)))
    by-rest (some r) e t = record { rest = r; is = e; stands = rest-stands buf o b first p r e h; size = omega (arith, (rest-located b first p r e).size) }

read_none : (w v : ℕ) (hs : List Held) (b : Block) (a p : ℕ) → is_some (rest_at b a p) ≡ false → is_right (read_state w v hs b a p) ≡ false
read_none w v hs b a p t = by-held hs
  where
    by-rest : (z : Possible Block) (f : Block → Read State) → is_some z ≡ false → is_right (on_rest z f) ≡ false
    by-rest none f e = unfold on_rest is_right in refl
    by-rest (some r) f e = absurd (unfold is_some in (true-false e))

    by-held : (hs : List Held) → is_right (read_state w v hs b a p) ≡ false
    by-held [] = unfold read_state in (by-rest (rest_at b a p) _ t)
    by-held (h ∷ hs) = unfold read_state in (by-rest (rest_at b a p) _ t)

none_left : (hs : List Held) → length hs ≡ 0 → hs ≡ []
none_left [] e = refl
none_left (h ∷ hs) e = absurd (omega arith)

module _ {P : Block} {buf ws : List ℕ} {o n j first end p : ℕ} (g : Reading P buf ws o n j first end p) where
  pub reading-no-place : (t : Bool) → t ≡ is_some (rest_at g.block first p) → t ≡ false → false ≡ is_right (decode_state P ws)
  reading-no-place t e f = sym (read_none (get_or ws 1 0) (get_or ws 2 0) (behind ws j) g.block first p (sym e ∙ f)) ∙ g.same

  pub reading-left : (t : Bool) → t ≡ is_some (rest_at g.block first p) → t ≡ true → Left buf o g.block first end p
  reading-left t e f = left-of buf o g.block first end p g.stands g.size (sym e ∙ f)

  -- the innermost place
  pub reading-last : n ≤ j → (l : Left buf o g.block first end p) → (t : Bool) → t ≡ is_right (read_here (get_or ws 1 0) (get_or ws 2 0) l.rest) → t ≡ is_right (decode_state P ws)
  unfolding read_state on_rest
  reading-last m l t e =
      e ∙ ap (λ (z : Possible Block). is_right (on_rest z (λ r. read_here (get_or ws 1 0) (get_or ws 2 0) r))) (sym l.is)
      ∙ ap (λ (hs : List Held). is_right (read_state (get_or ws 1 0) (get_or ws 2 0) hs g.block first p)) (sym (none_left (behind ws j) (omega (arith, g.count)))) ∙ g.same

  -- AN ENTRY
  module _ (m : j < n) (l : Left buf o g.block first end p) where
    abbrev here : Held
    here = held_at ws (3 + 6 * j)

    -- how what is inside is read
    abbrev inside : Block → ℕ → ℕ → Read State
    inside q k i = read_state (get_or ws 1 0) (get_or ws 2 0) (behind ws (j + 1)) q k i

    is-here : behind ws j ≡ here ∷ behind ws (j + 1)
    is-here = behind-some ws j (omega (arith, g.count, behind-few ws j)) (behind-held ws j (omega (arith, g.count)))

    next-count : n ≡ j + 1 + length (behind ws (j + 1))
    next-count = omega (arith, g.count, ap length is-here)

    is-last : is_last (behind ws (j + 1)) ≡ eqb (j + 1) n
    unfolding is_last
    is-last = by-held (behind ws (j + 1)) next-count
      where
        by-held : (hs : List Held) → n ≡ j + 1 + length hs → is_last hs ≡ eqb (j + 1) n
        by-held [] e = sym (eq-eqb (j + 1) n (omega arith))
        by-held (h ∷ hs) e = sym (ne_eqb (j + 1) n (λ z. omega arith))

    entry-reads : is_right (read_open (get_or ws 1 0) (eqb (j + 1) n) here p inside l.rest) ≡ is_right (decode_state P ws)
    unfolding read_state on_rest
    entry-reads =
        ap (λ (t : Bool). is_right (read_open (get_or ws 1 0) t here p inside l.rest)) (sym is-last)
        ∙ ap (λ (z : Possible Block). is_right (on_rest z (λ r. read_open (get_or ws 1 0) (is_last (behind ws (j + 1))) here p inside r))) (sym l.is)
        ∙ ap (λ (hs : List Held). is_right (read_state (get_or ws 1 0) (get_or ws 2 0) hs g.block first p)) (sym is-here) ∙ g.same

    module _ {class : Option Class} (c : ClassOf (get_or ws 1 0) (eqb (j + 1) n) here p l.rest class) where
      class-reads : class_right class (inside_right inside here p l.rest) ≡ is_right (decode_state P ws)
      class-reads = sym (c.opens inside) ∙ entry-reads

      pub reading-wrong : class ≡ None → false ≡ is_right (decode_state P ws)
      unfolding class_right
      reading-wrong e = ap (λ (k : Option Class). class_right k (inside_right inside here p l.rest)) (sym e) ∙ class-reads

      pub reading-shut : {k : Class} → class ≡ Some k → inside_of k ≡ None → true ≡ is_right (decode_state P ws)
      unfolding class_right
      reading-shut {k} e i = by-class k i ∙ ap (λ (q : Option Class). class_right q (inside_right inside here p l.rest)) (sym e) ∙ class-reads
        where
          by-class : (q : Class) → inside_of q ≡ None → true ≡ class_right (Some q) (inside_right inside here p l.rest)
          by-class Shut e = refl
          by-class InBlock e = absurd cc
          by-class InBody e = absurd cc

      module _ {k : Class} (f : class ≡ Some k) {head mark : ℕ} (i : inside_of k ≡ Some (head, mark)) where
        is-inside : Inside k here l.rest
        is-inside = c.inside k f (λ s. by-class k s i)
          where
            by-class : (q : Class) → q ≡ Shut → inside_of q ≡ Some (head, mark) → ⊥
            by-class Shut s e = cc
            by-class InBlock s e = cc
            by-class InBody s e = cc

        -- what is inside is right where the whole is
        inside-reads : inside_right inside here p l.rest ≡ is_right (decode_state P ws)
        unfolding class_right
        inside-reads = by-class k i ∙ ap (λ (q : Option Class). class_right q (inside_right inside here p l.rest)) (sym f) ∙ class-reads
          where
            by-class : (q : Class) → inside_of q ≡ Some (head, mark) → inside_right inside here p l.rest ≡ class_right (Some q) (inside_right inside here p l.rest)
            by-class Shut e = absurd cc
            by-class InBlock e = refl
            by-class InBody e = refl

        -- the head's length, and what is added to a place
        of-block : k ≡ InBlock → (head ≡ 4) × (mark ≡ 0)
        of-block e = let h : ◌≡◌ {A = Option (ℕ × ℕ)} (Some (head, mark)) (Some (4, 0)) = sym i ∙ ap inside_of e in let q : ◌≡◌ {A = ℕ × ℕ} (head, mark) (4, 0) = cc in (ap (λ (z : ℕ × ℕ). z.0) q, ap (λ (z : ℕ × ℕ). z.1) q)

        of-body : k ≡ InBody → (head ≡ 20) × (mark ≡ 2)
        of-body e = let h : ◌≡◌ {A = Option (ℕ × ℕ)} (Some (head, mark)) (Some (20, 2)) = sym i ∙ ap inside_of e in let q : ◌≡◌ {A = ℕ × ℕ} (head, mark) (20, 2) = cc in (ap (λ (z : ℕ × ℕ). z.0) q, ap (λ (z : ℕ × ℕ). z.1) q)

        -- what the code asks of it
        pub reading-progress : mark ≤ get_or ws (3 + 6 * j + 5) 0
        unfolding held_at
        reading-progress = by-rest l.rest is-inside
          where
            by-rest : (r : Block) → Inside k here r → mark ≤ get_or ws (3 + 6 * j + 5) 0
            by-rest empty i = absurd i
            by-rest (assign x y r) i = absurd i
            by-rest (loop x y q r) i = omega (arith, i.1, of-body i.0)
            by-rest (nest q r) i = omega (arith, of-block i)

        pub reading-room : (o + p + 4 ≤ length buf) × (head ≤ 20)
        reading-room = by-rest l.rest is-inside l.stands
          where
            by-rest : (r : Block) → Inside k here r → BlockAt buf (o + p) r → (o + p + 4 ≤ length buf) × (head ≤ 20)
            by-rest empty i b = absurd i
            by-rest (assign x y r) i b = absurd i
            by-rest (loop x y q r) i b = let w = loop-view x y q r b in (omega (arith, w.room, w.size), omega (arith, of-body i.0))
            by-rest (nest q r) i b = let w = nest-view q r b in (omega (arith, w.room, w.size), omega (arith, of-block i))

        -- inwards
        pub reading-next : (a e q : ℕ) → a ≡ p + head → e ≡ p + val (part buf (o + p) 2) → q ≡ get_or ws (3 + 6 * j + 5) 0 - mark → Reading P buf ws o n (j + 1) a e q
        unfolding loop-view nest-view inside_right held_at
        reading-next a e q fa fe fq = by-rest l.rest is-inside l.stands inside-reads
          where
            moved : (t : Block) (k i : ℕ) → a ≡ k → q ≡ i → is_right (inside t a q) ≡ is_right (inside t k i)
            moved t k i d y = ap₂ (λ (z u : ℕ). is_right (inside t z u)) d y

            by-rest : (r : Block) → Inside k here r → BlockAt buf (o + p) r → inside_right inside here p r ≡ is_right (decode_state P ws) → Reading P buf ws o n (j + 1) a e q
            by-rest empty i b s = absurd i
            by-rest (assign x y r) i b s = absurd i
            by-rest (loop x y t r) i b s =
                let d : a ≡ p + 20 = fa ∙ ap (λ (z : ℕ). p + z) (of-body i.0).0 in
                let w = loop-view x y t r b in
                record {
                  block = t;
                  stands = subst (λ (z : ℕ). BlockAt buf (o + z) t) (sym d) (inside-loop buf o x y t r p b);
                  size = omega (arith, w.stored);
                  count = next-count;
                  same = moved t (body_at p) (here.progress - 2) d (fq ∙ ap (λ (z : ℕ). get_or ws (3 + 6 * j + 5) 0 - z) (of-body i.0).1) ∙ s;
                }
            by-rest (nest t r) i b s =
                let d : a ≡ p + 4 = fa ∙ ap (λ (z : ℕ). p + z) (of-block i).0 in
                let w = nest-view t r b in
                record {
                  block = t;
                  stands = subst (λ (z : ℕ). BlockAt buf (o + z) t) (sym d) (inside-nest buf o t r p b);
                  size = omega (arith, w.stored);
                  count = next-count;
                  same = moved t (inside_at p) here.progress d (omega (arith, fq, of-block i)) ∙ s;
                }

-- THE WORDS OF AN ENTRY are read at once

module _ (ws : List ℕ) (j : ℕ) {words : EntryWords} (e : words ≡ entry_at ws j) where
  pub of-entry : {waits p : ℕ} {last : Bool} {r : Block} {class : Option Class} → ClassOf waits last (held_of words) p r class → ClassOf waits last (held_at ws (3 + 6 * j)) p r class
  of-entry {waits} {p} {last} {r} {class} c = subst (λ (h : Held). ClassOf waits last h p r class) (held-of ws j e) c

  pub of-progress : words.progress ≡ get_or ws (3 + 6 * j + 5) 0
  of-progress = ap (λ (w : EntryWords). w.progress) e

-- WHAT THE CODE ASKS where an entry is entered, of whatever program it is
pub entered : {buf ws : List ℕ} {o used n j first end p : ℕ} {t : Bool} {words : EntryWords} {class : Option Class} {k : Class} {head mark : ℕ} → (P : Block) × (BlockAt buf o P × (used ≡ o + block_size P))
    → ((P : Block) → BlockAt buf o P → used ≡ o + block_size P → Reading P buf ws o n j first end p)
    → ((b : Block) → BlockAt buf (o + first) b → first + block_size b ≡ end → t ≡ is_some (rest_at b first p)) → t ≡ true → j < n → words ≡ entry_at ws j
    → ((r : Block) → BlockAt buf (o + p) r → p + block_size r ≡ end → ClassOf (get_or ws 1 0) (eqb (j + 1) n) (held_of words) p r class) → class ≡ Some k → inside_of k ≡ Some (head, mark)
    → (o + p + 4 ≤ length buf) × (head ≤ 20) × (mark ≤ words.progress)
entered {ws = ws} {j = j} q reads s t m d e f i =
    let g = reads q.0 q.1.0 q.1.1 in
    let l = reading-left g _ (s g.block g.stands g.size) t in
    let c = of-entry ws j d (e l.rest l.stands l.size) in
    let a = reading-room g m l c f i in
    (a.0, a.1, omega (arith, reading-progress g m l c f i, of-progress ws j d))
