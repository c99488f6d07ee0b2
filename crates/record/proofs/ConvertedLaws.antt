-- Laws of a record in either edition (02 C-18): its header moved, what the moves let through, and what two records that differ in the
-- edition alone have in common.
use Prim.Native.Nat.{◌+◌, ℕ, ◌≤◌}
use mathlib.Core.Path.{ap, ap₂, refl, subst, sym, ◌∙◌, ◌≡◌}
use mathlib.Core.Bool.{Bool, false, not, true}
use mathlib.Core.List.{List}
use borrow.Author.Tests.{le-ltb, lt-ltb, ltb-false, ltb-true}
use lib.Dec.{eqb, ltb}
use lib.ListN.{length, take}
use native.Mathlib.Omega.{arith}
use Rattle.rules.specs.Literals.{small_values}
use Rattle.rules.specs.FreeVariables.{Vars}
use Rattle.rules.specs.Scope.{BlockWithin}
use Rattle.rules.specs.Sound.{SmallBlock, SoundTerm}
use Rattle.rules.specs.Store.{up_to}
use Rattle.rules.specs.Syntax.{Block, Term}
use Rattle.rules.proofs.Tests.{true-false}
use Rattle.record.specs.declared.Conversion.{Conversion}
use Rattle.record.specs.declared.Conversion.TheVariants.{ToFirst, ToSecond}
use Rattle.record.specs.declared.Edition.{Edition}
use Rattle.record.specs.declared.Edition.TheVariants.{First, Second}
use Rattle.record.specs.declared.Header.{Header}
use Rattle.record.specs.declared.Sort.{Sort}
use Rattle.record.specs.declared.Sort.TheVariants as sort
use Rattle.record.specs.Header.{HeaderFits, block_bytes, contents_at, converted_header, encode_program, encode_term, form_of, headed, kind_field, kind_of, largest_of, ok_of, opposite, program, term}
use Rattle.record.specs.Term.{encode_term_record}
use Rattle.record.specs.Holding.{IsProgram}
use Rattle.record.specs.Answers.{too_short}
use Rattle.record.specs.Rows.{bad_buffer, bad_header, bad_store, header_of, k_of, small_ceiling, values_above, wrong_edition}
use Rattle.record.proofs.EditionLaws.{k-converted, largest-converted}
use Rattle.record.proofs.HeaderLaws.{kind_field-headed}
use Rattle.record.proofs.HeldLaws.{good-header, header-good, held-good, held-header, held-used, not-long, short-bad}
use Rattle.record.proofs.RowLaws.{or-false, or-intro}

-- A HEADER IN EITHER EDITION: a header of edition 1 is `converted_header ToFirst` of itself, one of edition 2 with the largest ceiling
-- `converted_header ToSecond` of itself

-- the same values pass
pub converted-ok : (to other : Conversion) (h g : Header) → ok_of (converted_header to h) ≡ ok_of (converted_header other g)
converted-ok to other h g = ap up_to (largest-converted to h ∙ sym (largest-converted other g))

-- and so programs and terms are the same
pub program-either : (to other : Conversion) (h : Header) (P : Block) → IsProgram (converted_header to h) P → IsProgram (converted_header other h) P
program-either to other h P p = record {
  variables = subst (λ (k : ℕ). BlockWithin k P) (k-converted to h ∙ sym (k-converted other h)) p.variables;
  literals = subst (λ (ok : ℕ → Bool). SmallBlock ok P) (converted-ok to other h h) p.literals;
}

pub term-either : (to other : Conversion) (h : Header) (S : Vars) (t : Term) → SoundTerm (ok_of (converted_header to h)) (converted_header to h).k S t
    → SoundTerm (ok_of (converted_header other h)) (converted_header other h).k S t
term-either to other h S t p =
    subst (λ (k : ℕ). SoundTerm (ok_of (converted_header other h)) k S t) (k-converted to h ∙ sym (k-converted other h))
    (subst (λ (ok : ℕ → Bool). SoundTerm ok (converted_header to h).k S t) (converted-ok to other h h) p)

-- moved twice is moved once
pub converted-again : (to other : Conversion) (h : Header) → converted_header to (converted_header other h) ≡ converted_header to h
unfolding converted_header
converted-again ToFirst ToFirst h = refl
converted-again ToFirst ToSecond h = refl
converted-again ToSecond ToFirst h = refl
converted-again ToSecond ToSecond h = refl

-- the header is 4 bytes longer
pub converted-start : (h : Header) → contents_at (converted_header ToSecond h) ≡ 4 + contents_at (converted_header ToFirst h)
unfolding converted_header contents_at form_of
converted-start h = refl

-- the kinds of the two editions are not the same
kind-apart : (s : Sort) (to : Conversion) (h g : Header) → eqb (kind_of s (converted_header (opposite to) h)) (kind_of s (converted_header to g)) ≡ false
unfolding converted_header kind_of form_of
kind-apart sort.Program ToFirst h g = refl
kind-apart sort.Program ToSecond h g = refl
kind-apart sort.Term ToFirst h g = refl
kind-apart sort.Term ToSecond h g = refl

-- WHAT ROWS 2 AND 17 LET THROUGH

-- a record of the other edition with the largest ceiling
module _ (s : Sort) (to : Conversion) (h : Header) (f : HeaderFits (converted_header (opposite to) h)) (c buf : List ℕ) (used : ℕ) (fits : used ≤ length buf)
    (held : take used buf ≡ headed s (converted_header (opposite to) h) c) where
  pub right-edition : length buf ≤ 16384 → wrong_edition s to buf used ≡ false
  unfolding wrong_edition
  right-edition l =
      or-intro (header-good s buf used (held-good s (converted_header (opposite to) h) f c buf used fits held l))
      (ap (λ (n : ℕ). eqb n (kind_of s (converted_header to (header_of buf used)))) (ap kind_field held ∙ kind_field-headed s (converted_header (opposite to) h) c) ∙ kind-apart s to h (header_of buf used))

  pub large-ceiling : small_ceiling buf used ≡ false
  unfolding small_ceiling
  large-ceiling =
      ap (λ (x : Header). ltb (largest_of x) 4294967295) (held-header s (converted_header (opposite to) h) f c buf used fits held)
      ∙ ap (λ (n : ℕ). ltb n 4294967295) (largest-converted (opposite to) h)

-- and nothing else
kind-second : (s : Sort) (k ceiling : ℕ) (g : Header) → eqb (kind_of s (record { k = k; edition = Second ceiling })) (kind_of s (converted_header ToSecond g)) ≡ true
unfolding converted_header kind_of form_of
kind-second sort.Program k ceiling g = refl
kind-second sort.Term k ceiling g = refl

kind-first : (s : Sort) (k : ℕ) (g : Header) → eqb (kind_of s (record { k = k; edition = First })) (kind_of s (converted_header ToFirst g)) ≡ true
unfolding converted_header kind_of form_of
kind-first sort.Program k g = refl
kind-first sort.Term k g = refl

from_second : (s : Sort) (h g : Header) → eqb (kind_of s h) (kind_of s (converted_header ToSecond g)) ≡ false → h ≡ converted_header ToFirst h
unfolding converted_header
from_second s h g e = go h.edition refl
  where
    go : (x : Edition) → h.edition ≡ x → h ≡ record { k = h.k; edition = First }
    go First is = ap (λ (y : Edition). record { k = h.k; edition = y }) is
    go (Second ceiling) is =
        true-false (sym (ap (λ (y : Edition). eqb (kind_of s (record { k = h.k; edition = y })) (kind_of s (converted_header ToSecond g))) is ∙ kind-second s h.k ceiling g) ∙ e)

from_first : (s : Sort) (h g : Header) → eqb (kind_of s h) (kind_of s (converted_header ToFirst g)) ≡ false → largest_of h ≡ 4294967295 → h ≡ converted_header ToSecond h
unfolding converted_header largest_of form_of
from_first s h g e largest = go h.edition refl
  where
    go : (x : Edition) → h.edition ≡ x → h ≡ record { k = h.k; edition = Second 4294967295 }
    go First is = true-false (sym (ap (λ (y : Edition). eqb (kind_of s (record { k = h.k; edition = y })) (kind_of s (converted_header ToFirst g))) is ∙ kind-first s h.k g) ∙ e)
    go (Second ceiling) is =
        ap (λ (y : Edition). record { k = h.k; edition = y }) (is ∙ ap Second (sym (ap (λ (y : Edition). (form_of y).largest) is) ∙ largest))

-- what a conversion's row 2 lets through is a good header, which is not in the edition asked for
pub edition-good : (s : Sort) (to : Conversion) (buf : List ℕ) (used : ℕ) → wrong_edition s to buf used ≡ false
    → (bad_header s buf used ≡ false) × (eqb (kind_field (take used buf)) (kind_of s (converted_header to (header_of buf used))) ≡ false)
unfolding wrong_edition
edition-good s to buf used e = or-false (bad_header s buf used) _ e

-- row 17, of the move back alone
abbrev pub Large : Conversion → List ℕ → ℕ → Type 0
Large ToFirst buf used = small_ceiling buf used ≡ false
Large ToSecond buf used = Unit {0}

pub source-header : (s : Sort) (to : Conversion) (buf : List ℕ) (used : ℕ) → HeaderFits (header_of buf used) → wrong_edition s to buf used ≡ false → Large to buf used
    → header_of buf used ≡ converted_header (opposite to) (header_of buf used)
unfolding small_ceiling
source-header s ToFirst buf used f e large =
    let q = edition-good s ToFirst buf used e in
    let g = good-header s buf used q.0 in
    from_first s (header_of buf used) (header_of buf used) (sym (ap (λ (n : ℕ). eqb n (kind_of s (converted_header ToFirst (header_of buf used)))) g.is-kind) ∙ q.1)
    (omega (arith, ltb-false (largest_of (header_of buf used)) 4294967295 large, f.largest-word))
source-header s ToSecond buf used f e large =
    let q = edition-good s ToSecond buf used e in
    let g = good-header s buf used q.0 in
    from_second s (header_of buf used) (header_of buf used) (sym (ap (λ (n : ℕ). eqb n (kind_of s (converted_header ToSecond (header_of buf used)))) g.is-kind) ∙ q.1)

-- TWO RECORDS OF ONE k AND ONE LARGEST VALUE: rows 6 and 16 say the same of both

pub same_store : (buf : List ℕ) (used : ℕ) (other : List ℕ) (n : ℕ) (store : List ℕ) → k_of buf used ≡ k_of other n → bad_store buf used store ≡ bad_store other n store
unfolding bad_store
same_store buf used other n store e = ap (λ (k : ℕ). not (eqb (length store) k)) e

pub same-values : (buf : List ℕ) (used : ℕ) (other : List ℕ) (n : ℕ) (values : List ℕ) → ok_of (header_of buf used) ≡ ok_of (header_of other n)
    → values_above buf used values ≡ values_above other n values
unfolding values_above
same-values buf used other n values e = ap (λ (ok : ℕ → Bool). not (small_values ok values)) e

-- ANOTHER USED LENGTH than the record's own is refused by row 2
pub other-used : (s : Sort) (h : Header) (f : HeaderFits h) (c buf : List ℕ) (n : ℕ) (fits : n ≤ length buf) (held : take n buf ≡ headed s h c) → length buf ≤ 16384
    → (used : ℕ) → (used ≡ n → ⊥) → bad_header s buf used ≡ true
other-used s h f c buf n fits held l used other = go (bad_header s buf used) refl
  where
    go : (b : Bool) → bad_header s buf used ≡ b → bad_header s buf used ≡ true
    go true e = e
    go false e = absurd (other (held-used s h f c buf n fits held used l (good-header s buf used e)))

-- THE TWO RECORDS as headed ones

pub program-headed : (h : Header) (P : Block) → encode_program h P ≡ headed program h (block_bytes P)
unfolding encode_program
program-headed h P = refl

pub term-headed : (h : Header) (t : Term) → encode_term h t ≡ headed term h (encode_term_record t)
unfolding encode_term
term-headed h t = refl

-- 4 BYTES MORE, of a buffer and of what stands in it

less-longer : (a b : ℕ) → ltb a b ≡ ltb (4 + a) (4 + b)
less-longer a b = go (ltb a b) refl
  where
    go : (x : Bool) → ltb a b ≡ x → ltb a b ≡ ltb (4 + a) (4 + b)
    go true e = e ∙ sym (lt-ltb (4 + a) (4 + b) (omega (arith, ltb-true a b e)))
    go false e = e ∙ sym (le-ltb (4 + a) (4 + b) (omega (arith, ltb-false a b e)))

-- row 1 says the same of both
pub longer-buffer : (buf other : List ℕ) (n : ℕ) → length other ≡ 4 + length buf → length other ≤ 16384 → bad_buffer buf n ≡ bad_buffer other (4 + n)
longer-buffer buf other n e l =
    short-bad buf n (not-long buf (omega (arith, e, l))) ∙ less-longer (length buf) n ∙ ap (λ (m : ℕ). ltb m (4 + n)) (sym e) ∙ sym (short-bad other (4 + n) (not-long other l))

-- and so does row 10
pub longer-output : (out other answer longer : List ℕ) → length other ≡ 4 + length out → length longer ≡ 4 + length answer → too_short out answer ≡ too_short other longer
unfolding too_short
longer-output out other answer longer e f = less-longer (length out) (length answer) ∙ ap₂ ltb (sym e) (sym f)
