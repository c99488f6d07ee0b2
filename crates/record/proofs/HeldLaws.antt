-- Rows 1 to 3: what they say of a buffer, and of one that begins with a headed record.
use Prim.Native.Nat.{◌+◌, ◌<◌, ℕ, ◌≤◌}
use mathlib.Core.Path.{ap, ap₂, refl, subst, sym, ◌∙◌, ◌≡◌}
use mathlib.Core.Bool.{Bool, false, not, true, ◌||◌}
use mathlib.Core.List.{List, ◌∷◌}
use borrow.Author.Tests.{eq-eqb, eqb-true, le-ltb, ltb-false, not-false}
use lib.Dec.{eqb, lit<, ltb}
use lib.ListN.{drop, length, length-take, take}
use lib.Seq.{length-take-le, take-take}
use native.Mathlib.Omega.{arith}
use Rattle.buffer.specs.LittleEndian.{Bytes, val}
use Rattle.buffer.specs.Slice as slice
use Rattle.rules.specs.Literals.{small_values}
use Rattle.rules.specs.Scope.{in_range}
use Rattle.rules.specs.Sound.{SmallValues}
use Rattle.rules.specs.Store.{up_to}
use Rattle.buffer.proofs.LittleEndianLaws.{bytes_drop, bytes_take, val-take}
use Rattle.rules.proofs.LiteralsLaws.{small-small_values, small_values-small}
use Rattle.rules.proofs.ScopeLaws.{in_range-within, within-in_range}
use Rattle.rules.proofs.Tests.{true-false}
use Rattle.record.specs.declared.Edition.{Edition}
use Rattle.record.specs.declared.Edition.TheVariants.{Second}
use Rattle.record.specs.declared.Header.{Header}
use Rattle.record.specs.declared.Sort.{Sort}
use Rattle.record.specs.Header.{HeaderFits, ceiling_field, contents, contents_at, edition_by, edition_field, form_of, headed, header_in, is_second, k_field, kind_field, kind_of, largest_of, length_field, ok_of}
use Rattle.record.specs.Rows.{NoRow, Row, bad_buffer, bad_header, bad_k, bad_store, header_of, header_rows, k_of, row, too_long, values_above}
use Rattle.record.proofs.HeaderLaws.{contents-headed, contents_at-low, headed-fields, header_in-headed, kind_field-headed, length-headed, length_field-headed}
use Rattle.record.proofs.RowLaws.{not-intro, or-false, or-intro}
use Rattle.record.specs.Front.{u16}
use Rattle.record.proofs.LeafLaws.{part-take}
use Rattle.record.proofs.BetweenLaws.{between, drop-take}

-- ROW 1

pub take-fits : (n : ℕ) (l : List ℕ) → length (take n l) ≡ n → n ≤ length l
take-fits n l e = omega (arith, sym (length-take n l) ∙ e)

pub short-buffer : (buf : List ℕ) → too_long buf ≡ false → length buf ≤ 16384
unfolding too_long
short-buffer buf e = ltb-false 16384 (length buf) e

pub not-long : (buf : List ℕ) → length buf ≤ 16384 → too_long buf ≡ false
unfolding too_long
not-long buf h = le-ltb 16384 (length buf) h

-- as code finds it: too long, or else shorter than what is used
pub long-is : (buf : List ℕ) → ltb 16384 (length buf) ≡ too_long buf
unfolding too_long
long-is buf = refl

pub long-bad : (buf : List ℕ) (used : ℕ) → too_long buf ≡ true → bad_buffer buf used ≡ true
unfolding bad_buffer
long-bad buf used e = ap (λ (b : Bool). b || ltb (length buf) used) e

pub short-bad : (buf : List ℕ) (used : ℕ) → too_long buf ≡ false → bad_buffer buf used ≡ ltb (length buf) used
unfolding bad_buffer
short-bad buf used e = ap (λ (b : Bool). b || ltb (length buf) used) e

pub record Buffer (buf : List ℕ) (used : ℕ) : Type 0 where
  pub low : length buf ≤ 16384
  pub within : used ≤ length buf

pub good-buffer : (buf : List ℕ) (used : ℕ) → bad_buffer buf used ≡ false → Buffer buf used
unfolding bad_buffer
good-buffer buf used e =
    let p = or-false (too_long buf) (ltb (length buf) used) e in
    record { low = short-buffer buf p.0; within = ltb-false (length buf) used p.1 }

pub buffer-good : (buf : List ℕ) (used : ℕ) → Buffer buf used → bad_buffer buf used ≡ false
unfolding bad_buffer
buffer-good buf used h = or-intro (not-long buf h.low) (le-ltb (length buf) used h.within)

-- THE HEADER READ FROM THE BUFFER is that of the record in front of it

module _ (buf : List ℕ) (used : ℕ) where
  -- the two fields in front of every header
  module _ (four : 4 ≤ used) where
    pub length_at : length_field (take used buf) ≡ u16 buf 0
    unfolding length_field slice.part
    length_at = ap val (part-take buf used 0 2 (omega arith))

    pub kind_at : kind_field (take used buf) ≡ u16 buf 2
    unfolding kind_field slice.part
    kind_at = ap val (part-take buf used 2 2 (omega arith))

  pub k-at : 8 ≤ used → k_of buf used ≡ k_field buf
  unfolding k_field slice.part
  k-at eight = ap val (part-take buf used 4 4 (omega arith))

  kind-same : 4 ≤ used → kind_field (take used buf) ≡ kind_field buf
  unfolding kind_field slice.part
  kind-same four = ap val (part-take buf used 2 2 (omega arith))

  ceiling-same : 12 ≤ used → ceiling_field (take used buf) ≡ ceiling_field buf
  unfolding ceiling_field slice.part
  ceiling-same twelve = ap val (part-take buf used 8 4 (omega arith))

  -- how long the header is, is known from the kind
  length-same-edition : 8 ≤ used → contents_at (header_of buf used) ≡ contents_at (header_in buf)
  unfolding contents_at edition_field edition_by form_of
  length-same-edition eight = go (is_second (kind_field (take used buf))) (is_second (kind_field buf)) (ap is_second (kind-same (omega arith)))
    where
      go : (a b : Bool) → a ≡ b → (form_of (edition_by a (ceiling_field (take used buf)))).header_length ≡ (form_of (edition_by b (ceiling_field buf))).header_length
      go true true e = refl
      go true false e = true-false e
      go false true e = true-false (sym e)
      go false false e = refl

  edition-at : contents_at (header_of buf used) ≤ used → edition_field (take used buf) ≡ edition_field buf
  unfolding contents_at edition_field edition_by form_of
  edition-at n =
      ap (λ (kind : ℕ). edition_by (is_second kind) (ceiling_field (take used buf))) (kind-same (omega (arith, n, contents_at-low (header_of buf used))))
      ∙ go (is_second (kind_field buf)) (ap is_second (kind-same (omega (arith, n, contents_at-low (header_of buf used))))) n
    where
      go : (b : Bool) → is_second (kind_field (take used buf)) ≡ b → (form_of (edition_by (is_second (kind_field (take used buf))) (ceiling_field (take used buf)))).header_length ≤ used
          → edition_by b (ceiling_field (take used buf)) ≡ edition_by b (ceiling_field buf)
      go true e m = ap Second (ceiling-same (subst (λ (x : Bool). (form_of (edition_by x (ceiling_field (take used buf)))).header_length ≤ used) e m))
      go false e m = refl

  pub header_at : contents_at (header_of buf used) ≤ used → header_of buf used ≡ header_in buf
  header_at n =
      ap₂ (λ (k : ℕ) (e : Edition). record { k = k; edition = e }) (k-at (omega (arith, n, contents_at-low (header_of buf used)))) (edition-at n)

  -- it is whole in the record exactly where it is whole in what is read
  pub start-at : contents_at (header_in buf) ≤ used → contents_at (header_of buf used) ≤ used
  start-at n = rw (length-same-edition (omega (arith, n, contents_at-low (header_in buf)))) n

  pub at-start : contents_at (header_of buf used) ≤ used → contents_at (header_in buf) ≤ used
  at-start n = subst (λ (x : Header). contents_at x ≤ used) (header_at n) n

  pub contents-at : contents (take used buf) ≡ between buf (contents_at (header_of buf used)) used
  unfolding contents
  contents-at = drop-take (contents_at (header_of buf used)) used buf

-- ROW 2

pub record GoodHeader (s : Sort) (buf : List ℕ) (used : ℕ) : Type 0 where
  pub start : contents_at (header_of buf used) ≤ used
  pub is-kind : kind_field (take used buf) ≡ kind_of s (header_of buf used)
  pub is-length : length_field (take used buf) ≡ used

pub good-eight : {s : Sort} {buf : List ℕ} {used : ℕ} → GoodHeader s buf used → 8 ≤ used
good-eight {s} {buf} {used} g = omega (arith, g.start, contents_at-low (header_of buf used))

pub good-header : (s : Sort) (buf : List ℕ) (used : ℕ) → bad_header s buf used ≡ false → GoodHeader s buf used
unfolding bad_header
good-header s buf used e =
    let h : Header = header_of buf used in
    let p = or-false (ltb used (contents_at h)) (not (eqb (kind_field (take used buf)) (kind_of s h)) || not (eqb (length_field (take used buf)) used)) e in
    let q = or-false (not (eqb (kind_field (take used buf)) (kind_of s h))) (not (eqb (length_field (take used buf)) used)) p.1 in
    record {
      start = ltb-false used (contents_at h) p.0;
      is-kind = eqb-true (kind_field (take used buf)) (kind_of s h) (not-false (eqb (kind_field (take used buf)) (kind_of s h)) q.0);
      is-length = eqb-true (length_field (take used buf)) used (not-false (eqb (length_field (take used buf)) used) q.1);
    }

pub header-good : (s : Sort) (buf : List ℕ) (used : ℕ) → GoodHeader s buf used → bad_header s buf used ≡ false
unfolding bad_header
header-good s buf used h =
    or-intro (le-ltb used (contents_at (header_of buf used)) h.start)
    (or-intro (not-intro (eq-eqb (kind_field (take used buf)) (kind_of s (header_of buf used)) h.is-kind)) (not-intro (eq-eqb (length_field (take used buf)) used h.is-length)))

-- ROW 3

pub good-k : (buf : List ℕ) (used : ℕ) → bad_k buf used ≡ false → (1 ≤ k_of buf used) × (k_of buf used ≤ 16)
unfolding bad_k
good-k buf used e = in_range-within 16 (k_of buf used) (not-false (in_range 16 (k_of buf used)) e)

pub k-good : (buf : List ℕ) (used : ℕ) → 1 ≤ k_of buf used → k_of buf used ≤ 16 → bad_k buf used ≡ false
unfolding bad_k
k-good buf used a b = not-intro (within-in_range 16 (k_of buf used) (a, b))

-- ROW 16

pub good-values : (buf : List ℕ) (used : ℕ) (values : List ℕ) → values_above buf used values ≡ false → SmallValues (ok_of (header_of buf used)) values
unfolding values_above
good-values buf used values e =
    let ok = ok_of (header_of buf used) in
    small_values-small ok values (not-false (small_values ok values) e)

pub values-good : (buf : List ℕ) (used : ℕ) (values : List ℕ) → SmallValues (ok_of (header_of buf used)) values → values_above buf used values ≡ false
unfolding values_above
values-good buf used values h = not-intro (small-small_values (ok_of (header_of buf used)) values h)

-- as code finds it, by the largest value of the header that it has read
pub values-read : (buf : List ℕ) (used : ℕ) (h : Header) → header_of buf used ≡ h → (largest : ℕ) → largest ≡ largest_of h → (values : List ℕ) (above : Bool)
    → above ≡ not (small_values (up_to largest) values) → values_above buf used values ≡ above
unfolding values_above
values-read buf used h is largest limits values above tells =
    ap (λ (x : Header). not (small_values (ok_of x) values)) is ∙ ap (λ (n : ℕ). not (small_values (up_to n) values)) (sym limits) ∙ sym tells

-- ROW 6

pub good-store : (buf : List ℕ) (used : ℕ) (store : List ℕ) → bad_store buf used store ≡ false → length store ≡ k_of buf used
unfolding bad_store
good-store buf used store e = eqb-true (length store) (k_of buf used) (not-false (eqb (length store) (k_of buf used)) e)

pub store-good : (buf : List ℕ) (used : ℕ) (store : List ℕ) → length store ≡ k_of buf used → bad_store buf used store ≡ false
unfolding bad_store
store-good buf used store e = not-intro (eq-eqb (length store) (k_of buf used) e)

-- A BUFFER THAT BEGINS WITH A HEADED RECORD

-- the length field stands in the first two bytes
length-same : (buf : List ℕ) (m n : ℕ) → 2 ≤ m → 2 ≤ n → length_field (take m buf) ≡ length_field (take n buf)
unfolding length_field
length-same buf m n h l = rw (take-take 2 m buf h, take-take 2 n buf l) refl

module _ (s : Sort) (h : Header) (f : HeaderFits h) (c buf : List ℕ) (n : ℕ) (fits : n ≤ length buf) (held : take n buf ≡ headed s h c) where
  pub held-size : n ≡ contents_at h + length c
  held-size = sym (length-take-le n buf fits) ∙ ap length held ∙ length-headed s h c

  held-length : length buf ≤ 16384 → length_field (take n buf) ≡ n
  held-length l = rw held (length_field-headed s h c (omega (arith, held-size)) ∙ sym held-size)

  -- an accepted used length is the record's own
  pub held-used : (used : ℕ) → length buf ≤ 16384 → GoodHeader s buf used → used ≡ n
  held-used used l g = sym g.is-length ∙ length-same buf used n (omega (arith, good-eight g)) (omega (arith, held-size, contents_at-low h)) ∙ held-length l

  pub held-header : header_of buf n ≡ h
  held-header = ap header_in held ∙ header_in-headed s h c f

  held_start : contents_at (header_of buf n) ≤ n
  held_start = subst (λ (x : Header). contents_at x ≤ n) (sym held-header) (omega (arith, held-size))

  -- the header is whole in the buffer, and what code reads of it is h
  pub held_whole : contents_at (header_in buf) ≤ length buf
  held_whole = omega (arith, fits, at-start buf n held_start)

  pub held-is : header_in buf ≡ h
  held-is = sym (header_at buf n held_start) ∙ held-header

  pub held-k : k_of buf n ≡ h.k
  held-k = ap (λ (x : Header). x.k) held-header

  pub held-contents : contents (take n buf) ≡ c
  held-contents = ap contents held ∙ contents-headed s h c f

  pub held-good : length buf ≤ 16384 → GoodHeader s buf n
  held-good l = record {
    start = held_start;
    is-kind = ap kind_field held ∙ kind_field-headed s h c ∙ ap (kind_of s) (sym held-header);
    is-length = held-length l;
  }

  -- rows 1 to 3 do not apply, nor do rows 4 and 5 by tests that fail
  pub held-passes : length buf ≤ 16384 → {four five : Bool} → four ≡ false → five ≡ false → (more : List Row) → NoRow more
      → NoRow (row 1 (bad_buffer buf n) ∷ header_rows s buf n (row 4 four ∷ row 5 five ∷ more))
  held-passes l e₄ e₅ more m = (
    buffer-good buf n (record { low = l; within = fits }),
    (header-good s buf n (held-good l), (k-good buf n (rw held-k f.k-low) (rw held-k f.k-high), (e₄, (e₅, m)))),
  )

-- A RECORD THAT SAYS ITS OWN LENGTH AND KIND is the headed record of its fields

pub header-whole : (s : Sort) (buf : List ℕ) (used : ℕ) → Bytes buf → Buffer buf used → GoodHeader s buf used
    → take used buf ≡ headed s (header_of buf used) (contents (take used buf))
header-whole s buf used hb b h =
    let l : length (take used buf) ≡ used = length-take-le used buf b.within in
    headed-fields s (take used buf) (bytes_take used buf hb) (rw l h.start) h.is-kind (h.is-length ∙ sym l)

-- what rows 2 and 3 let through
ceiling-word : (r : List ℕ) → Bytes r → ceiling_field r < 4294967296
unfolding ceiling_field
ceiling-word r h = val-take 4 (drop 8 r) (bytes_drop 8 r h)

pub header-fits : (s : Sort) (buf : List ℕ) (used : ℕ) → Bytes buf → Buffer buf used → GoodHeader s buf used → bad_k buf used ≡ false → HeaderFits (header_of buf used)
unfolding largest_of edition_field edition_by form_of
header-fits s buf used hb b h e =
    let g = good-k buf used e in
    record { k-low = g.0; k-high = g.1; largest-word = go (is_second (kind_field (take used buf))) (ceiling-word (take used buf) (bytes_take used buf hb)) }
  where
    go : (b : Bool) → ceiling_field (take used buf) < 4294967296 → (form_of (edition_by b (ceiling_field (take used buf)))).largest < 4294967296
    go true w = w
    go false w = lit< tt

pub bytes-contents : (used : ℕ) (buf : List ℕ) → Bytes buf → Bytes (contents (take used buf))
unfolding contents
bytes-contents used buf h = bytes_drop (contents_at (header_of buf used)) (take used buf) (bytes_take used buf h)
