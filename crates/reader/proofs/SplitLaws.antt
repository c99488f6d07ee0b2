-- The reader beside the record layer: where bytes are left it finds what `split` finds.
use Prim.Native.Nat.{◌+◌, ◌-◌, ◌<◌, ℕ, ◌≤◌}
use mathlib.Core.Path.{◌≡◌, ap, refl, sym, ◌∙◌}
use mathlib.Core.Bool.{false}
use mathlib.Core.List.{List}
use lib.Dec.{eqb}
use lib.ListN.{drop, length, length-drop}
use lib.Seq.{drop-drop}
use native.Mathlib.Omega.{arith}
use Rattle.buffer.specs.Slice as slice
use Rattle.buffer.proofs.SliceLaws.{length_part}
use Rattle.record.specs.Front.{Front, is_only, u16}
use Rattle.record.specs.Record.{bad, split}
use Rattle.record.proofs.FrontLaws.{front-split, is_only-kind, is_only-no, no_front}
use Rattle.reader.specs.Head.{head_at, kind_at, length_at}
use Rattle.reader.specs.SplitHead.{split_head}
use Rattle.reader.specs.declared.Head.{Head}
use Rattle.reader.specs.declared.Head.TheVariants.{End, Record, Short}
use Rattle.reader.proofs.HeadLaws.{Whole, end-tells, not-record, record-tells, short-tells}

module _ (l : List ℕ) (at : ℕ) where
  left-length : u16 (drop at l) 0 ≡ length_at l at
  unfolding slice.part
  left-length = refl

  left-kind : u16 (drop at l) 2 ≡ kind_at l at
  unfolding slice.part
  left-kind = ap (λ (m : List ℕ). u16 m 0) (drop-drop 2 at l)

  whole-front : (n k : ℕ) → Whole l at n k → Front (drop at l) n
  whole-front n k w = record {
    least = w.least;
    most = omega (arith, w.inside, length-drop at l);
    stored = left-length ∙ w.is-length;
  }

  -- a record that the reader finds stands first in what is left, and has the kind that it finds
  pub record-front : (n k : ℕ) → head_at l at ≡ Record n k → Front (drop at l) n
  record-front n k e = whole-front n k (record-tells l at n k e)

  pub record-kind : (n k : ℕ) → head_at l at ≡ Record n k → u16 (drop at l) 2 ≡ k
  record-kind n k e = left-kind ∙ (record-tells l at n k e).is-kind

  split-record : (n k : ℕ) → Whole l at n k → split_head (split (drop at l)) ≡ Record n k
  unfolding split_head
  split-record n k w =
      let f : Front (drop at l) n = whole-front n k w in
      let least = f.least in
      let most = f.most in
      let body : length (slice.part (drop at l) 4 (n - 4)) ≡ n - 4 = length_part (drop at l) 4 (n - 4) (omega arith) in
      let size : 4 + length (slice.part (drop at l) 4 (n - 4)) ≡ n = omega arith in
      ap split_head (front-split (drop at l) n f) ∙ rw (size, left-kind, w.is-kind) refl

  -- where bytes are left that are no whole record
  pub short-bad : at < length l → head_at l at ≡ Short → split (drop at l) ≡ bad
  short-bad some e =
      let is = left-length in
      let len = length-drop at l in
      no_front (drop at l) (omega arith) (λ least inside. short-tells l at e (omega (arith, least)) (omega (arith, least, inside)))

  pub head-split : at < length l → head_at l at ≡ split_head (split (drop at l))
  unfolding split_head
  head-split some = go (head_at l at) refl
    where
      go : (h : Head) → head_at l at ≡ h → h ≡ split_head (split (drop at l))
      go (Record n k) e = sym (split-record n k (record-tells l at n k e))
      go End e = absurd (omega (arith, end-tells l at e))
      go Short e = sym (ap split_head (short-bad some e))

  -- ONE RECORD AND NOTHING AFTER IT, by what the reader finds

  module _ (kind : ℕ) where
    pub only-kind : (n k : ℕ) → head_at l at ≡ Record n k → n ≡ length l - at → eqb k kind ≡ is_only kind (drop at l)
    only-kind n k e all =
        let len : n ≡ length (drop at l) = all ∙ sym (length-drop at l) in
        sym (is_only-kind kind (drop at l) (rw len at (record-front n k e)) ∙ ap (λ (x : ℕ). eqb x kind) (record-kind n k e))

    pub only-shorter : (n k : ℕ) → head_at l at ≡ Record n k → (n ≡ length l - at → ⊥) → is_only kind (drop at l) ≡ false
    only-shorter n k e other = is_only-no kind (drop at l) (λ f. other (sym (record-front n k e).stored ∙ f.stored ∙ length-drop at l))

    no-only : (4 ≤ length_at l at → at + length_at l at ≤ length l → ⊥) → is_only kind (drop at l) ≡ false
    no-only h =
        let is = left-length in
        let len = length-drop at l in
        is_only-no kind (drop at l) (λ f. h (omega (arith, f.least, f.stored)) (omega (arith, f.least, f.stored)))

    pub only_end : head_at l at ≡ End → is_only kind (drop at l) ≡ false
    only_end e = no-only (λ least inside. omega (arith, least, inside, end-tells l at e))

    pub only-short : head_at l at ≡ Short → is_only kind (drop at l) ≡ false
    only-short e = no-only (short-tells l at e)

    pub only-none : ((n k : ℕ) → head_at l at ≡ Record n k → ⊥) → is_only kind (drop at l) ≡ false
    only-none none = not-record (head_at l at) none only_end only-short
