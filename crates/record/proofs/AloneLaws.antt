-- What stands at the front of a list of bytes, by the numbers read there: two bytes of length, two of kind.
use Prim.Native.Nat.{◌+◌, ◌-◌, ◌<◌, ℕ, ◌≤◌}
use mathlib.Core.Path.{◌≡◌, ap, ap₂, refl, sym, ◌∙◌}
use mathlib.Core.Bool.{◌&&◌, Bool, false, true}
use mathlib.Core.List.{List, [], ◌∷◌}
use mathlib.Core.Option.{Option, none, some}
use borrow.Author.Tests.{le-leb, leb-true}
use lib.Dec.{leb}
use lib.ListN.{drop, length, length-drop, take}
use lib.Seq.{drop-drop, drop-length, length-take-le, take_all, take-take}
use native.Mathlib.Omega.{arith}
use Rattle.buffer.specs.LittleEndian.{val}
use Rattle.buffer.specs.Slice.{part as slice}
use Rattle.rules.proofs.Tests.{and_both}
use Rattle.record.specs.Alone.{kind_alone, record_kind}
use Rattle.record.specs.Reading.{bind, fail, from_some, got, then, word}
use Rattle.record.specs.Record.{Split, bad, cut, end, part, split}
use Rattle.record.proofs.BetweenLaws.{drop-take}

-- LISTS

-- what follows the first n, as a part of the list
pub take_rest : (n : ℕ) (l : List ℕ) → take (length l - n) (drop n l) ≡ drop n l
take_rest n l = take_all (length l - n) (drop n l) (omega (arith, length-drop n l))

-- what is read within a part is read of the whole
pub slice-take : (m at w : ℕ) (l : List ℕ) → at + w ≤ m → slice (take m l) at w ≡ slice l at w
unfolding slice
slice-take m at w l h = rw (drop-take at m l) (take-take w (m - at) (drop at l) (omega arith))

-- OPTIONS

module _ {A B : Type 0} where
  pub bind-none : (o : Option A) (f : A → Option B) → o ≡ none → bind o f ≡ none
  unfolding bind
  bind-none o f e = rw e refl

  pub bind-cong : (o : Option A) (f g : A → Option B) → ((a : A) → f a ≡ g a) → bind o f ≡ bind o g
  unfolding bind
  bind-cong none f g h = refl
  bind-cong (some a) f g h = h a

  pub bind-found : (o : Option A) (f : A → Option B) (a : A) → o ≡ some a → bind o f ≡ f a
  unfolding bind
  bind-found o f a e = rw e refl

  pub then-from_some : (o : Option A) (r : List ℕ) (f : A → List ℕ → Option B) → then (from_some o r) f ≡ bind o (λ a. f a r)
  unfolding then from_some bind
  then-from_some none r f = refl
  then-from_some (some a) r f = refl

-- A RECORD IN FRONT: its length is at least 4 and does not run past the end

pub split-record : (l : List ℕ) (n : ℕ) → val (slice l 0 2) ≡ n → 4 ≤ n → n ≤ length l → split l ≡ part (val (slice l 2 2)) (take (n - 4) (drop 4 l)) (drop n l)
unfolding split cut slice
split-record [] n e h k = absurd (omega arith)
split-record (a ∷ []) n e h k = absurd (omega arith)
split-record (a ∷ b ∷ []) n e h k = absurd (omega arith)
split-record (a ∷ b ∷ c ∷ []) n e h k = absurd (omega arith)
split-record (a ∷ b ∷ c ∷ d ∷ xs) n e h k =
    let t₁ : leb 4 n ≡ true = le-leb 4 n h in
    let t₂ : leb (n - 4) (length xs) ≡ true = le-leb (n - 4) (length xs) (omega arith) in
    let q : 4 + (n - 4) ≡ n = omega arith in
    let z : drop (n - 4) xs ≡ drop n (a ∷ b ∷ c ∷ d ∷ xs) = drop-drop (n - 4) 4 (a ∷ b ∷ c ∷ d ∷ xs) ∙ ap (λ (m : ℕ). drop m (a ∷ b ∷ c ∷ d ∷ xs)) q in
    rw (e, t₁, t₂, z) refl

-- What is known where a split finds a record.
pub record Front (l : List ℕ) (k : ℕ) (b r : List ℕ) : Type 0 where
  pub least : 4 ≤ val (slice l 0 2)
  pub most : val (slice l 0 2) ≤ length l
  pub is-kind : k ≡ val (slice l 2 2)
  pub is_body : b ≡ take (val (slice l 0 2) - 4) (drop 4 l)
  pub is-rest : r ≡ drop (val (slice l 0 2)) l

pub split-front : (l : List ℕ) (k : ℕ) (b r : List ℕ) → split l ≡ part k b r → Front l k b r
unfolding split cut slice
split-front [] k b r e = absurd (let z : ◌≡◌ {A = ℕ} 0 1 = cc in omega arith)
split-front (x ∷ []) k b r e = absurd (let z : ◌≡◌ {A = ℕ} 0 1 = cc in omega arith)
split-front (x ∷ y ∷ []) k b r e = absurd (let z : ◌≡◌ {A = ℕ} 0 1 = cc in omega arith)
split-front (x ∷ y ∷ z ∷ []) k b r e = absurd (let z : ◌≡◌ {A = ℕ} 0 1 = cc in omega arith)
split-front (x ∷ y ∷ z ∷ w ∷ xs) k b r e = go (leb 4 n && leb (n - 4) (length xs)) refl e
  where
    n : ℕ
    n = val (x ∷ y ∷ [])

    l : List ℕ
    l = x ∷ y ∷ z ∷ w ∷ xs

    go : (t : Bool) → (leb 4 n && leb (n - 4) (length xs)) ≡ t → cut t (val (z ∷ w ∷ [])) (n - 4) xs ≡ part k b r → Front l k b r
    go true t f =
        let p = and_both (leb 4 n) (leb (n - 4) (length xs)) t in
        let lo : 4 ≤ n = leb-true 4 n p.0 in
        let hi : n - 4 ≤ length xs = leb-true (n - 4) (length xs) p.1 in
        let hi' : n ≤ length l = omega arith in
        let s : part k b r ≡ part (val (z ∷ w ∷ [])) (take (n - 4) xs) (drop n l) = sym e ∙ split-record l n refl lo hi' in
        record { least = lo; most = hi'; is-kind = cc; is_body = cc; is-rest = cc }
    go false t f = absurd (let z : ◌≡◌ {A = ℕ} 0 1 = cc in omega arith)

-- No record.
abbrev pub NoPart : Split → Type 0
NoPart end = Unit {0}
NoPart bad = Unit {0}
NoPart (part k b r) = ⊥

pub split-none : (l : List ℕ) → (4 ≤ val (slice l 0 2) → val (slice l 0 2) ≤ length l → ⊥) → NoPart (split l)
split-none l h = go (split l) refl
  where
    go : (s : Split) → split l ≡ s → NoPart s
    go end e = tt
    go bad e = tt
    go (part k b r) e = let f = split-front l k b r e in h f.least f.most

-- The bytes of the record in front, by themselves, are that record and nothing after it.
pub split-alone : (l : List ℕ) (n : ℕ) → val (slice l 0 2) ≡ n → 4 ≤ n → n ≤ length l → split (take n l) ≡ part (val (slice l 2 2)) (take (n - 4) (drop 4 l)) []
split-alone l n e h k =
    let len : length (take n l) ≡ n = length-take-le n l k in
    let body : take (n - 4) (drop 4 (take n l)) ≡ take (n - 4) (drop 4 l) = ap (take (n - 4)) (drop-take 4 n l) ∙ take-take (n - 4) (n - 4) (drop 4 l) (omega arith) in
    let rest : drop n (take n l) ≡ [] = ap (λ (m : ℕ). drop m (take n l)) (sym len) ∙ drop-length (take n l) in
    split-record (take n l) n (ap val (slice-take n 0 2 l (omega arith)) ∙ e) h (omega arith)
    ∙ rw (slice-take n 2 2 l (omega arith), body, rest) refl

-- ONE RECORD AND NOTHING AFTER IT

pub record_kind-read : (l : List ℕ) → 4 ≤ length l → val (slice l 0 2) ≡ length l → record_kind l ≡ val (slice l 2 2)
unfolding record_kind kind_alone
record_kind-read l h e = rw (split-record l (length l) e h (omega arith), drop-length l) refl

pub record_kind-none : (l : List ℕ) → (4 ≤ length l → val (slice l 0 2) ≡ length l → ⊥) → record_kind l ≡ 0
unfolding record_kind kind_alone
record_kind-none l h = go (split l) refl
  where
    go : (s : Split) → split l ≡ s → kind_alone s ≡ 0
    go end e = refl
    go bad e = refl
    go (part k b []) e =
        let f = split-front l k b [] e in
        let d = length-drop (val (slice l 0 2)) l in
        absurd (h (omega (arith, f.least, f.most)) (omega (arith, f.least, f.most, ap length f.is-rest)))
    go (part k b (x ∷ r)) e = refl

pub record_kind-least : (l : List ℕ) (k : ℕ) → record_kind l ≡ k → 1 ≤ k → 4 ≤ length l
unfolding record_kind kind_alone
record_kind-least l k e h = go (split l) refl e
  where
    go : (s : Split) → split l ≡ s → kind_alone s ≡ k → 4 ≤ length l
    go end p q = absurd (omega arith)
    go bad p q = absurd (omega arith)
    go (part j b r) p q = let f = split-front l j b r p in omega (arith, f.least, f.most)

-- the bytes of such a record
pub record_kind-split : (l : List ℕ) (k : ℕ) → record_kind l ≡ k → 1 ≤ k → split l ≡ part k (drop 4 l) []
unfolding record_kind kind_alone
record_kind-split l k e h = go (split l) refl e
  where
    go : (s : Split) → split l ≡ s → kind_alone s ≡ k → split l ≡ part k (drop 4 l) []
    go end p q = absurd (omega arith)
    go bad p q = absurd (omega arith)
    go (part j b (x ∷ r)) p q = absurd (omega arith)
    go (part j b []) p q =
        let f = split-front l j b [] p in
        let d₄ : length (drop 4 l) ≡ length l - 4 = length-drop 4 l in
        let d = length-drop (val (slice l 0 2)) l in
        let all : take (val (slice l 0 2) - 4) (drop 4 l) ≡ drop 4 l = take_all (val (slice l 0 2) - 4) (drop 4 l) (omega (arith, f.least, f.most, ap length f.is-rest)) in
        p ∙ ap₂ (λ (m : ℕ) (y : List ℕ). part m y []) q (f.is_body ∙ all)

-- FOUR BYTES

pub word_read : (l : List ℕ) → 4 ≤ length l → word l ≡ got (val (slice l 0 4)) (drop 4 l)
unfolding word slice
word_read [] h = absurd (omega arith)
word_read (a ∷ []) h = absurd (omega arith)
word_read (a ∷ b ∷ []) h = absurd (omega arith)
word_read (a ∷ b ∷ c ∷ []) h = absurd (omega arith)
word_read (a ∷ b ∷ c ∷ d ∷ r) h = refl

pub word-short : (l : List ℕ) → length l < 4 → word l ≡ fail
unfolding word
word-short [] h = refl
word-short (a ∷ []) h = refl
word-short (a ∷ b ∷ []) h = refl
word-short (a ∷ b ∷ c ∷ []) h = refl
word-short (a ∷ b ∷ c ∷ d ∷ r) h = absurd (omega arith)
