-- What stands at a place: one law for each way out of the code that reads it, and what each answer tells a caller.
use Prim.Native.Nat.{◌+◌, ◌<◌, ℕ, ◌≤◌}
use mathlib.Core.Path.{◌≡◌, ap, refl, sym, ◌∙◌}
use mathlib.Core.Bool.{◌&&◌, Bool, false, true}
use mathlib.Core.List.{List}
use lib.Dec.{leb}
use lib.ListN.{length}
use native.Mathlib.Omega.{arith}
use borrow.Author.Tests.{le-leb, leb-true, lt-leb}
use Rattle.reader.specs.Head.{head_at, head_if, kind_at, length_at, length_of, next_at, whole_at}
use Rattle.reader.specs.declared.Head.{Head}
use Rattle.reader.specs.declared.Head.TheVariants.{End, Record, Short}

-- what is known where a whole record stands
pub record Whole (l : List ℕ) (at n k : ℕ) : Type 0 where
  pub least : 4 ≤ n
  pub inside : at + n ≤ length l
  pub is-length : length_at l at ≡ n
  pub is-kind : kind_at l at ≡ k

-- Where no record stands nothing is left, or no whole record.
pub not-record : {P : Type 0} (h : Head) → ((n k : ℕ) → h ≡ Record n k → ⊥) → (h ≡ End → P) → (h ≡ Short → P) → P
not-record (Record n k) none f g = absurd (none n k refl)
not-record End none f g = f refl
not-record Short none f g = g refl

module _ (l : List ℕ) (at : ℕ) where
  -- WHAT CODE FOUND

  pub head-end : length l ≤ at → head_at l at ≡ End
  unfolding head_at head_if
  head-end h = simp (le-leb _ _ h)

  both : (a b : Bool) → (a ≡ true → b ≡ true → ⊥) → (a && b) ≡ false
  both true true h = absurd (h refl refl)
  both true false h = refl
  both false b h = refl

  pub head-short : at < length l → (4 ≤ length_at l at → at + length_at l at ≤ length l → ⊥) → head_at l at ≡ Short
  unfolding head_at head_if whole_at
  head-short some h =
      simp (lt-leb _ _ some, both (leb 4 (length_at l at)) (leb (at + length_at l at) (length l)) (λ a b. h (leb-true _ _ a) (leb-true _ _ b)))

  pub head-record : (n k : ℕ) → n ≡ length_at l at → k ≡ kind_at l at → 4 ≤ n → at + n ≤ length l → head_at l at ≡ Record n k
  unfolding head_at head_if whole_at
  head-record n k is-n is-k least inside =
      let some : at < length l = omega arith in
      simp (is-n, is-k, lt-leb _ _ some, le-leb 4 (length_at l at) (omega arith), le-leb (at + length_at l at) (length l) (omega arith))

  -- WHAT A CALLER LEARNS

  told-end : (a b : Bool) (n k : ℕ) → head_if a b n k ≡ End → a ≡ true
  unfolding head_if
  told-end true b n k e = refl
  told-end false true n k e = let z : ◌≡◌ {A = ℕ} 0 1 = cc in absurd (omega arith)
  told-end false false n k e = let z : ◌≡◌ {A = ℕ} 0 1 = cc in absurd (omega arith)

  told-short : (a b : Bool) (n k : ℕ) → head_if a b n k ≡ Short → b ≡ false
  unfolding head_if
  told-short true b n k e = let z : ◌≡◌ {A = ℕ} 0 1 = cc in absurd (omega arith)
  told-short false true n k e = let z : ◌≡◌ {A = ℕ} 0 1 = cc in absurd (omega arith)
  told-short false false n k e = refl

  told-record : (a b c : Bool) (m j n k : ℕ) → head_if a (b && c) m j ≡ Record n k → (b ≡ true) × ((c ≡ true) × ((m ≡ n) × (j ≡ k)))
  unfolding head_if
  told-record true b c m j n k e = let z : ◌≡◌ {A = ℕ} 0 1 = cc in absurd (omega arith)
  told-record false true true m j n k e = (refl, (refl, (cc, cc)))
  told-record false true false m j n k e = let z : ◌≡◌ {A = ℕ} 0 1 = cc in absurd (omega arith)
  told-record false false c m j n k e = let z : ◌≡◌ {A = ℕ} 0 1 = cc in absurd (omega arith)

  pub end-tells : head_at l at ≡ End → length l ≤ at
  unfolding head_at
  end-tells e = leb-true _ _ (told-end _ _ _ _ e)

  pub short-tells : head_at l at ≡ Short → 4 ≤ length_at l at → at + length_at l at ≤ length l → ⊥
  unfolding head_at whole_at
  short-tells e a b =
      let no_record = told-short (leb (length l) at) (whole_at l at) (length_at l at) (kind_at l at) e in
      let z : true ≡ false = sym (simp (le-leb _ _ a, le-leb _ _ b)) ∙ no_record in
      let y : ◌≡◌ {A = ℕ} 0 1 = cc in
      omega arith

  pub record-tells : (n k : ℕ) → head_at l at ≡ Record n k → Whole l at n k
  unfolding head_at whole_at
  record-tells n k e =
      let p = told-record (leb (length l) at) (leb 4 (length_at l at)) (leb (at + length_at l at) (length l)) (length_at l at) (kind_at l at) n k e in
      let least : 4 ≤ length_at l at = leb-true _ _ p.0 in
      let inside : at + length_at l at ≤ length l = leb-true _ _ p.1.0 in
      let is-length : length_at l at ≡ n = p.1.1.0 in
      record { least = omega arith; inside = omega arith; is-length = is-length; is-kind = p.1.1.1 }

  -- THE PLACE PAST IT

  pub next-is : (h : Head) → head_at l at ≡ h → next_at l at ≡ at + length_of h
  unfolding next_at
  next-is h e = ap (λ (x : Head). at + length_of x) e

  pub next-record : (n k : ℕ) → head_at l at ≡ Record n k → next_at l at ≡ at + n
  unfolding length_of
  next-record n k e = next-is (Record n k) e

  pub next-end : head_at l at ≡ End → next_at l at ≡ at
  unfolding length_of
  next-end e = next-is End e ∙ omega arith

  pub next-short : head_at l at ≡ Short → next_at l at ≡ at
  unfolding length_of
  next-short e = next-is Short e ∙ omega arith

  pub next-none : ((n k : ℕ) → head_at l at ≡ Record n k → ⊥) → next_at l at ≡ at
  next-none none = not-record (head_at l at) none next-end next-short
