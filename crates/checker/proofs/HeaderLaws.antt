-- Rows 2 and 3 by what the record reader finds at the start of the buffer: one law for each way out.
use Prim.Native.Nat.{ℕ, ◌≤◌}
use mathlib.Core.Path.{◌≡◌, ap, refl, subst, sym, ◌∙◌}
use mathlib.Core.Bool.{Bool, false, true}
use mathlib.Core.List.{List}
use lib.Dec.{ltb}
use lib.ListN.{length}
use native.Mathlib.Omega.{arith}
use borrow.Author.Tests.{ltb-false, ltb-true}
use Rattle.rules.specs.Scope.{Within}
use Rattle.record.specs.Front.{u16}
use Rattle.record.specs.declared.Header.{Header}
use Rattle.record.specs.declared.Sort.{Sort}
use Rattle.record.specs.Header.{contents_at, header_in, kind_of}
use Rattle.record.specs.HeaderRows.{header_row}
use Rattle.record.specs.Rows.{bad_buffer}
use Rattle.record.proofs.HeaderLaws.{contents_at-low}
use Rattle.record.proofs.HeaderReadLaws.{header-cut, header-kind, header-length, header-none, header-three}
use Rattle.record.proofs.HeldLaws.{good-buffer}
use Rattle.reader.specs.Head.{head_at}
use Rattle.reader.specs.declared.Head.TheVariants.{End, Record, Short}
use Rattle.reader.proofs.HeadLaws.{end-tells, not-record, record-tells, short-tells}

module _ (s : Sort) (buf : List ℕ) (used : ℕ) where
  -- a header that is not whole is row 2 already, so the rest of it is shown of one that is
  if-whole : (contents_at (header_in buf) ≤ used → header_row s buf used ≡ 2) → header_row s buf used ≡ 2
  if-whole h = go (ltb used (contents_at (header_in buf))) refl
    where
      go : (b : Bool) → ltb used (contents_at (header_in buf)) ≡ b → header_row s buf used ≡ 2
      go true e = header-cut s buf used (ltb-true used (contents_at (header_in buf)) e)
      go false e = h (ltb-false used (contents_at (header_in buf)) e)

  -- NO WHOLE RECORD

  module _ (fine : bad_buffer buf used ≡ false) where
    within : used ≤ length buf
    within = (good-buffer buf used fine).within

    pub row-end : head_at buf 0 ≡ End → header_row s buf used ≡ 2
    row-end e =
        let none = end-tells buf 0 e in
        header-cut s buf used (omega (arith, within, contents_at-low (header_in buf)))

    pub row-short : head_at buf 0 ≡ Short → header_row s buf used ≡ 2
    row-short e =
        if-whole (λ whole.
        let least = contents_at-low (header_in buf) in
        header-length s buf used whole (λ is-length. short-tells buf 0 e (omega arith) (omega (arith, within))))

    pub row-no_record : ((n k : ℕ) → head_at buf 0 ≡ Record n k → ⊥) → header_row s buf used ≡ 2
    row-no_record none = not-record (head_at buf 0) none row-end row-short

  -- A RECORD, and its header

  module _ (n found : ℕ) (stands : head_at buf 0 ≡ Record n found) where
    pub row-length : (n ≡ used → ⊥) → header_row s buf used ≡ 2
    row-length other = if-whole (λ whole. header-length s buf used whole (λ e. other (sym (record-tells buf 0 n found stands).is-length ∙ e)))

    module _ (whole : contents_at (header_in buf) ≤ used) (h : Header) (is : h ≡ header_in buf) where
      pub row-kind : (found ≡ kind_of s h → ⊥) → header_row s buf used ≡ 2
      row-kind other = header-kind s buf used whole (λ e. other (sym (record-tells buf 0 n found stands).is-kind ∙ e ∙ ap (kind_of s) (sym is)))

      module _ (is-kind : found ≡ kind_of s h) (is-length : n ≡ used) where
        has-kind : u16 buf 2 ≡ kind_of s (header_in buf)
        has-kind = (record-tells buf 0 n found stands).is-kind ∙ is-kind ∙ ap (kind_of s) is

        has-length : u16 buf 0 ≡ used
        has-length = (record-tells buf 0 n found stands).is-length ∙ is-length

        pub row-three : (Within 16 h.k → ⊥) → header_row s buf used ≡ 3
        row-three other = header-three s buf used whole has-kind has-length (subst (λ (x : Header). Within 16 x.k → ⊥) is other)

        pub row-none : 1 ≤ h.k → h.k ≤ 16 → header_row s buf used ≡ 0
        row-none least most = subst (λ (x : Header). 1 ≤ x.k → x.k ≤ 16 → header_row s buf used ≡ 0) (sym is) (header-none s buf used whole has-kind has-length) least most
