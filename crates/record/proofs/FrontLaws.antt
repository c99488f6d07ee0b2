-- Laws of what stands first, by its places: that a record does, its kind and contents, and what follows it.
use Prim.Native.Nat.{◌+◌, ◌-◌, ◌<◌, suc, ℕ, ◌≤◌}
use mathlib.Core.Path.{◌≡◌, ap, refl, sym, ◌∙◌}
use mathlib.Core.Bool.{Bool, false, true}
use mathlib.Core.List.{List, [], ◌∷◌}
use mathlib.Core.Option.{Option, none, some}
use borrow.Author.Tests.{eq-eqb, eqb-false, eqb-true, le-leb, not-true}
use lib.Dec.{eqb, leb}
use lib.ListN.{drop, length, length-drop, take}
use lib.Seq.{drop-length, length-take-le, take_all, take-take}
use native.Mathlib.Omega.{arith}
use Rattle.buffer.specs.LittleEndian.{val}
use Rattle.buffer.specs.Slice as slice
use Rattle.record.specs.Front.{Front, is_only, only, u16}
use Rattle.record.specs.Reading.{Got, at_end, fail, got, of_kind, sub, sub_of, then}
use Rattle.record.specs.Record.{Split, bad, cut, end, part, split}
use Rattle.record.specs.Rows.{is_none}
use Rattle.record.proofs.ReadingLaws.{at_end-inv, sub_part, then-inv}
use Rattle.record.proofs.RecordLaws.{split-end, split-length, split-taken}
use Rattle.record.proofs.RowLaws.{is_some}

-- an option that holds nothing
pub none-unless : {A : Type 0} (o : Option A) → ((a : A) → o ≡ some a → ⊥) → o ≡ none
none-unless none h = refl
none-unless (some a) h = absurd (h a refl)

-- a record in front is what the split finds
pub front-split : (l : List ℕ) (n : ℕ) → Front l n → split l ≡ part (u16 l 2) (slice.part l 4 (n - 4)) (drop n l)
unfolding split cut slice.part
front-split [] n f = absurd (omega (arith, f.least, f.most))
front-split (a ∷ []) n f = absurd (omega (arith, f.least, f.most))
front-split (a ∷ b ∷ []) n f = absurd (omega (arith, f.least, f.most))
front-split (a ∷ b ∷ c ∷ []) n f = absurd (omega (arith, f.least, f.most))
front-split (a ∷ b ∷ c ∷ d ∷ xs) n f =
    let v : val (a ∷ b ∷ []) ≡ n = f.stored in
    let t₁ : leb 4 n ≡ true = le-leb 4 n f.least in
    let t₂ : leb (n - 4) (length xs) ≡ true = le-leb (n - 4) (length xs) (omega (arith, f.most)) in
    let e : n ≡ suc (suc (suc (suc (n - 4)))) = omega (arith, f.least) in
    let r : drop (n - 4) xs ≡ drop n (a ∷ b ∷ c ∷ d ∷ xs) = sym (ap (λ (m : ℕ). drop m (a ∷ b ∷ c ∷ d ∷ xs)) e) in
    rw (v, t₁, t₂, r) refl

-- and what it finds is one
pub split-front : (l : List ℕ) (k : ℕ) (b r : List ℕ) → split l ≡ part k b r → Front l (4 + length b)
unfolding slice.part
split-front l k b r e =
    let t = split-taken l k b r e in
    let v : u16 l 0 ≡ val (t.a₀ ∷ t.a₁ ∷ []) = ap (λ (x : List ℕ). u16 x 0) t.all in
    let lb : length b ≡ val (t.a₀ ∷ t.a₁ ∷ []) - 4 = ap length t.is_body ∙ length-take-le (val (t.a₀ ∷ t.a₁ ∷ []) - 4) t.xs t.fits in
    let len = split-length l k b r e in
    let h = t.head in
    record { least = omega arith; most = omega arith; stored = omega arith }

pub split-kind : (l : List ℕ) (k : ℕ) (b r : List ℕ) → split l ≡ part k b r → k ≡ u16 l 2
unfolding slice.part
split-kind l k b r e =
    let t = split-taken l k b r e in
    t.is-kind ∙ sym (ap (λ (x : List ℕ). u16 x 2) t.all)

module _ (l : List ℕ) where
  -- where bytes are left and no record stands
  pub no_front : 0 < length l → (4 ≤ u16 l 0 → u16 l 0 ≤ length l → ⊥) → split l ≡ bad
  no_front left h = go (split l) refl
    where
      go : (s : Split) → split l ≡ s → split l ≡ bad
      go end e = absurd (omega (arith, ap length (split-end l e)))
      go bad e = e
      go (part k b r) e =
          let f = split-front l k b r e in
          let v = f.stored in
          absurd (h (omega (arith, f.least)) (omega (arith, f.most)))

  -- the record itself, without what follows it
  pub front-take : (n : ℕ) → Front l n → Front (take n l) n
  unfolding slice.part
  front-take n f =
      let len : length (take n l) ≡ n = length-take-le n l f.most in
      let v : u16 (take n l) 0 ≡ u16 l 0 = ap val (take-take 2 n l (omega (arith, f.least))) in
      record { least = f.least; most = omega arith; stored = v ∙ f.stored }

  pub front-alone : Front l (length l) → split l ≡ part (u16 l 2) (drop 4 l) []
  unfolding slice.part
  front-alone f =
      let b : slice.part l 4 (length l - 4) ≡ drop 4 l = take_all (length l - 4) (drop 4 l) (omega (arith, length-drop 4 l)) in
      front-split l (length l) f ∙ rw (b, drop-length l) refl

-- ONE RECORD AND NOTHING AFTER IT

pub only-inv : {A : Type 0} (g : Got A) (a : A) → only g ≡ some a → g ≡ got a []
unfolding only
only-inv g a e =
    then-inv g _ a e λ x r p f.
    at_end-inv r _ a f λ q s.
    let i : x ≡ a = cc in
    p ∙ rw (i, q) refl

pub only-got : {A : Type 0} (g : Got A) (a : A) → g ≡ got a [] → only g ≡ some a
unfolding only then at_end
only-got g a e = rw e refl

pub only-fail : {A : Type 0} (g : Got A) → g ≡ fail → only g ≡ none
unfolding only then
only-fail g e = rw e refl

module _ (kind : ℕ) (l : List ℕ) where
  alone-yes : Front l (length l) → u16 l 2 ≡ kind → only (sub kind l) ≡ some (drop 4 l)
  unfolding sub sub_of of_kind
  alone-yes f e = only-got (sub kind l) (drop 4 l) (rw (front-alone l f, eq-eqb (u16 l 2) kind e) refl)

  alone-no : (Front l (length l) → u16 l 2 ≡ kind → ⊥) → only (sub kind l) ≡ none
  alone-no h = none-unless (only (sub kind l)) λ b e.
      let s = sub_part kind l b [] (only-inv (sub kind l) b e) in
      let len : 4 + length b ≡ length l = omega (arith, split-length l kind b [] s) in
      h (rw len at (split-front l kind b [] s)) (sym (split-kind l kind b [] s))

  pub is_only-kind : Front l (length l) → is_only kind l ≡ eqb (u16 l 2) kind
  unfolding is_only is_none
  is_only-kind f = go (eqb (u16 l 2) kind) refl
    where
      go : (t : Bool) → eqb (u16 l 2) kind ≡ t → is_only kind l ≡ t
      go true e = rw (alone-yes f (eqb-true (u16 l 2) kind e)) refl
      go false e = rw (alone-no (λ g. eqb-false (u16 l 2) kind e)) refl

  pub is_only-no : (Front l (length l) → ⊥) → is_only kind l ≡ false
  unfolding is_only is_none
  is_only-no h = rw (alone-no (λ f e. h f)) refl

  pub is_only-got : (b : List ℕ) → sub kind l ≡ got b [] → is_only kind l ≡ true
  unfolding is_only is_none
  is_only-got b e = rw (only-got (sub kind l) b e) refl

  is_only-found : is_only kind l ≡ true → Front l (length l) × (u16 l 2 ≡ kind)
  unfolding is_only
  is_only-found e =
      let o = is_some (only (sub kind l)) (not-true (is_none (only (sub kind l))) e) in
      let s = sub_part kind l o.0 [] (only-inv (sub kind l) o.0 o.1) in
      let len : 4 + length o.0 ≡ length l = omega (arith, split-length l kind o.0 [] s) in
      (rw len at (split-front l kind o.0 [] s), sym (split-kind l kind o.0 [] s))

  pub is_only-front : is_only kind l ≡ true → Front l (length l)
  is_only-front e = (is_only-found e).0

  pub is_only-some : is_only kind l ≡ true → only (sub kind l) ≡ some (drop 4 l)
  is_only-some e = let f = is_only-found e in alone-yes f.0 f.1
