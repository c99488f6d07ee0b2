-- Moved from one edition to the other (02 C-18): what the header becomes, and rows 2 and 17 by it. No law for the crates above names an
-- edition or the largest value: they hold a header beside the one that it becomes.
use Prim.Native.Nat.{◌<◌, ℕ}
use mathlib.Core.Path.{ap₂, refl, sym, ◌≡◌}
use mathlib.Core.Bool.{Bool, false, true}
use mathlib.Core.List.{List}
use borrow.Author.Tests.{lt-ltb}
use lib.Dec.{eqb, ltb}
use native.Mathlib.Omega.{arith}
use Rattle.record.specs.declared.Conversion.{Conversion}
use Rattle.record.specs.declared.Conversion.TheVariants.{ToFirst, ToSecond}
use Rattle.record.specs.declared.Edition.{Edition}
use Rattle.record.specs.declared.Edition.TheVariants.{First, Second}
use Rattle.record.specs.declared.Header.{Header}
use Rattle.record.specs.declared.Sort.{Sort}
use Rattle.record.specs.declared.Sort.TheVariants as sort
use Rattle.record.specs.Header.{HeaderFits, contents_at, converted_header, converted_record, form_of, headed, kind_field, kind_of, largest_of}
use Rattle.record.specs.Rows.{bad_header, header_of, record_in, small_ceiling, wrong_edition}
use Rattle.record.proofs.HeaderLaws.{contents-headed, contents_at-low, header_in-headed}
use Rattle.record.proofs.RowLaws.{or_right, or-true}

-- THE HEADER

-- its kind is that of the edition, whatever the header was
pub kind-converted : (s : Sort) (to : Conversion) (h g : Header) → kind_of s (converted_header to h) ≡ kind_of s (converted_header to g)
unfolding kind_of converted_header form_of
kind-converted sort.Program ToFirst h g = refl
kind-converted sort.Program ToSecond h g = refl
kind-converted sort.Term ToFirst h g = refl
kind-converted sort.Term ToSecond h g = refl

pub largest-converted : (to : Conversion) (h : Header) → largest_of (converted_header to h) ≡ 4294967295
unfolding largest_of converted_header form_of
largest-converted ToFirst h = refl
largest-converted ToSecond h = refl

pub k-converted : (to : Conversion) (h : Header) → (converted_header to h).k ≡ h.k
unfolding converted_header
k-converted ToFirst h = refl
k-converted ToSecond h = refl

pub converted-fits : (to : Conversion) (h : Header) → HeaderFits h → HeaderFits (converted_header to h)
converted-fits to h f = record {
  k-low = omega (arith, f.k-low, k-converted to h);
  k-high = omega (arith, f.k-high, k-converted to h);
  largest-word = omega (arith, largest-converted to h);
}

-- THE RECORD

pub converted-headed : (s : Sort) (to : Conversion) (h : Header) (c : List ℕ) → HeaderFits h → converted_record s to (headed s h c) ≡ headed s (converted_header to h) c
unfolding converted_record
converted-headed s to h c f = ap₂ (λ (x : Header) (d : List ℕ). headed s (converted_header to x) d) (header_in-headed s h c f) (contents-headed s h c f)

-- ROW 2

module _ (s : Sort) (to : Conversion) (buf : List ℕ) (used : ℕ) where
  -- by the kind: it is that of the edition asked for, or it is not
  abbrev pub already : Bool
  already = eqb (kind_field (record_in buf used)) (kind_of s (converted_header to (header_of buf used)))

  pub wrong-already : already ≡ true → wrong_edition s to buf used ≡ true
  unfolding wrong_edition
  wrong-already e = or-true (bad_header s buf used) already e

  pub wrong-other : already ≡ false → wrong_edition s to buf used ≡ bad_header s buf used
  unfolding wrong_edition
  wrong-other e = or_right (bad_header s buf used) already e

  -- no kind is used
  pub wrong-short : used < 4 → wrong_edition s to buf used ≡ true
  unfolding wrong_edition bad_header
  wrong-short n =
      let h : Header = header_of buf used in
      rw (lt-ltb used (contents_at h) (omega (arith, n, contents_at-low h))) refl

-- ROW 17

pub small-ceiling : (h : Header) (buf : List ℕ) (used : ℕ) → header_of buf used ≡ h → small_ceiling buf used ≡ ltb (largest_of h) (largest_of (converted_header ToFirst h))
unfolding small_ceiling
small-ceiling h buf used e = ap₂ (λ (x : Header) (n : ℕ). ltb (largest_of x) n) e (sym (largest-converted ToFirst h))

-- a header that is not of edition 2 has no ceiling for it
pub no-ceiling : (s : Sort) (h : Header) → (kind_of s h ≡ kind_of s (converted_header ToSecond h) → ⊥) → largest_of h ≡ largest_of (converted_header ToSecond h)
unfolding kind_of largest_of converted_header form_of
no-ceiling s h other = go s h.edition other
  where
    go : (s : Sort) (e : Edition) → (kind_of s (record { k = h.k; edition = e }) ≡ kind_of s (converted_header ToSecond h) → ⊥) → (form_of e).largest ≡ 4294967295
    go s First other = refl
    go sort.Program (Second ceiling) other = absurd (other refl)
    go sort.Term (Second ceiling) other = absurd (other refl)
