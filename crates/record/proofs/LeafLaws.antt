-- Laws of a record that holds one value, by its places: eight bytes, of which the last four are the value.
use Prim.Native.Nat.{◌+◌, ◌-◌, ℕ, ◌≤◌}
use mathlib.Core.Path.{◌≡◌, ap, refl, sym, ◌∙◌}
use mathlib.Core.Bool.{Bool, false, true}
use mathlib.Core.List.{List, [], ◌∷◌}
use mathlib.Core.Option.{Option, none, some}
use borrow.Author.Tests.{eqb-false, eqb-true}
use lib.Dec.{eqb}
use lib.ListN.{drop, length, take}
use lib.Seq.{drop-length, length-take-le, take_all, take-take}
use native.Mathlib.Omega.{arith}
use Rattle.buffer.specs.LittleEndian.{val}
use Rattle.buffer.specs.Slice as slice
use Rattle.buffer.proofs.SliceLaws.{length_part}
use Rattle.record.specs.Front.{only, u16, u32}
use Rattle.record.specs.Reading.{Got, at_end, fail, from_some, got, leaf, leaf_of, then, word}
use Rattle.record.specs.Record.{part, split}
use Rattle.record.proofs.BetweenLaws.{drop-take}
use Rattle.record.proofs.FrontLaws.{front-split, only-fail, split-front}
use Rattle.record.proofs.ReadingLaws.{leaf-parts, word-length}

-- a reader that finds nothing
pub fail-unless : {A : Type 0} (g : Got A) → ((a : A) (r : List ℕ) → g ≡ got a r → ⊥) → g ≡ fail
fail-unless fail h = refl
fail-unless (got a r) h = absurd (h a r refl)

pub word_at : (l : List ℕ) → 4 ≤ length l → word l ≡ got (val (take 4 l)) (drop 4 l)
unfolding word
word_at [] h = absurd (omega arith)
word_at (a ∷ []) h = absurd (omega arith)
word_at (a ∷ b ∷ []) h = absurd (omega arith)
word_at (a ∷ b ∷ c ∷ []) h = absurd (omega arith)
word_at (a ∷ b ∷ c ∷ d ∷ xs) h = refl

pub nil-drop : (l : List ℕ) (n : ℕ) → length l ≡ n → drop n l ≡ []
nil-drop l n e = ap (λ (m : ℕ). drop m l) (sym e) ∙ drop-length l

pub word-four : (l : List ℕ) → length l ≡ 4 → word l ≡ got (val l) []
word-four l e = word_at l (omega arith) ∙ rw (take_all 4 l (omega arith), nil-drop l 4 e) refl

-- what stands within the first m bytes
pub part-take : (l : List ℕ) (m at n : ℕ) → at + n ≤ m → slice.part (take m l) at n ≡ slice.part l at n
unfolding slice.part
part-take l m at n h = rw (drop-take at m l) (take-take n (m - at) (drop at l) (omega arith))

only-from_some : {A : Type 0} (o : Option A) → only (from_some o []) ≡ o
unfolding only then at_end from_some
only-from_some none = refl
only-from_some (some a) = refl

module _ {X : Type 0} (kind_of val_of : X → ℕ) (make : ℕ → ℕ → Option X) where
  leaf-eight : (l : List ℕ) → 8 ≤ length l → u16 l 0 ≡ 8 → leaf kind_of val_of make l ≡ from_some (make (u16 l 2) (u32 l 4)) (drop 8 l)
  unfolding leaf leaf_of then at_end
  leaf-eight l h e =
      let b : List ℕ = slice.part l 4 4 in
      let w : word b ≡ got (u32 l 4) [] = word-four b (length_part l 4 4 (omega arith)) in
      let s : split l ≡ part (u16 l 2) b (drop 8 l) = front-split l 8 (record { least = omega arith; most = h; stored = e }) in
      rw (s, w) refl

  leaf-not : (l : List ℕ) → (u16 l 0 ≡ 8 → ⊥) → leaf kind_of val_of make l ≡ fail
  leaf-not l h = fail-unless (leaf kind_of val_of make l) λ x r e.
      let p = leaf-parts kind_of val_of make l x r e in
      let f = split-front l p.0 p.1 r p.3 in
      h (omega (arith, f.stored, word-length p.1 p.2 [] p.4))

  -- eight bytes and nothing after them
  pub leaf-only : (l : List ℕ) → length l ≡ 8 → u16 l 0 ≡ 8 → only (leaf kind_of val_of make l) ≡ make (u16 l 2) (u32 l 4)
  leaf-only l n e = ap only (leaf-eight l (omega arith) e) ∙ rw (nil-drop l 8 n) (only-from_some (make (u16 l 2) (u32 l 4)))

  pub leaf-only-not : (l : List ℕ) → (u16 l 0 ≡ 8 → ⊥) → only (leaf kind_of val_of make l) ≡ none
  leaf-only-not l h = only-fail (leaf kind_of val_of make l) (leaf-not l h)

  -- and something after them
  pub leaf-front : (l : List ℕ) → 8 ≤ length l → leaf kind_of val_of make l ≡ from_some (only (leaf kind_of val_of make (take 8 l))) (drop 8 l)
  unfolding from_some
  leaf-front l n = go (eqb (u16 l 0) 8) refl
    where
      same : u16 (take 8 l) 0 ≡ u16 l 0
      same = ap val (part-take l 8 0 2 (omega arith))

      go : (t : Bool) → eqb (u16 l 0) 8 ≡ t → leaf kind_of val_of make l ≡ from_some (only (leaf kind_of val_of make (take 8 l))) (drop 8 l)
      go true t =
          let e : u16 l 0 ≡ 8 = eqb-true (u16 l 0) 8 t in
          leaf-eight l n e ∙ rw (leaf-only (take 8 l) (length-take-le 8 l n) (same ∙ e), part-take l 8 2 2 (omega arith), part-take l 8 4 4 (omega arith)) refl
      go false t =
          let e : u16 l 0 ≡ 8 → ⊥ = eqb-false (u16 l 0) 8 t in
          leaf-not l e ∙ rw (leaf-only-not (take 8 l) (λ q. e (sym same ∙ q))) refl
