-- THE ROWS OF THE TABLE OF REFUSALS (01 "Where an order stops"; their places and order: `Table`): each as a test of what is lent, and
-- the first that applies.
use Rattle.std.specs.Prelude.{ℕ, ◌≡◌, ◌⊎◌, Bool, false, not, true, ◌||◌, List, [], ◌∷◌, eqb, ltb, length, take}
use Rattle.std.proofs.Math.Option.{Option, none, some}
use Rattle.rules.specs.FreeVariables.{closed}
use Rattle.rules.specs.Literals.{literals_in, numerals_in, small_values}
use Rattle.rules.specs.Scope.{block_in_range, in_range, term_in_range}
use Rattle.rules.specs.Syntax.{Block, Term, empty, let_all, let_one, rec, tuple}
use Rattle.record.specs.declared.Conversion.{Conversion}
use Rattle.record.specs.declared.Header.{Header}
use Rattle.record.specs.declared.Sort.TheVariants as sort
use Rattle.record.specs.declared.Sort.{Sort}
use Rattle.record.specs.Header.{block_in, contents, contents_at, converted_header, header_in, k_field, kind_field, kind_of, largest_of, length_field, ok_of, program, term, term_in}

-- A LIST OF ROWS

-- A row: its number, and whether it applies.
pub record Row : Type 0 where
  pub number : ℕ
  pub applies : Bool

-- A row from its number and whether it applies.
abbrev pub row : ℕ → Bool → Row
row n b = record { number = n; applies = b }

-- The number of a row where it applies, and else that of the rows after it.
unfoldable pub pick_row : Bool → ℕ → ℕ → ℕ
pick_row true n later = n
pick_row false n later = later

-- The number of the first row that applies; 0 where none does.
unfoldable pub first_row : List Row → ℕ
first_row [] = 0
first_row (r ∷ rs) = pick_row r.applies r.number (first_row rs)

-- No row applies.
abbrev pub NoRow : List Row → Type 0
NoRow [] = Unit {0}
NoRow (r ∷ rs) = (r.applies ≡ false) × NoRow rs

-- n is the number of the first row that applies, and 0 where none does: `first_row` as a fact.
abbrev pub First : List Row → ℕ → Type 0
First [] n = n ≡ 0
First (r ∷ rs) n = ((r.applies ≡ true) × (n ≡ r.number)) ⊎ ((r.applies ≡ false) × First rs n)

-- WHAT IS LENT: the record is the first `used` bytes of the buffer

-- The bytes of the record that is lent.
abbrev pub record_in : List ℕ → ℕ → List ℕ
record_in buf used = take used buf

-- The header of the record that is lent.
abbrev pub header_of : List ℕ → ℕ → Header
header_of buf used = header_in (record_in buf used)

-- The k that the header gives.
abbrev pub k_of : List ℕ → ℕ → ℕ
k_of buf used = k_field (record_in buf used)

-- The block or the term that the record holds, if its bytes are of the grammar.
abbrev pub block_of : List ℕ → ℕ → Option Block
block_of buf used = block_in (contents (record_in buf used))

-- The same of a term, whose tuples have as many atoms as the header's k.
abbrev pub term_of : List ℕ → ℕ → Option Term
term_of buf used = term_in (k_of buf used) (contents (record_in buf used))

-- There is nothing.
unfoldable pub is_none : {A : Type 0} → Option A → Bool
is_none none = true
is_none (some a) = false

-- There is something, and the test holds of it.
unfoldable pub holds : {A : Type 0} → (A → Bool) → Option A → Bool
holds p none = false
holds p (some a) = p a

-- What there is; where there is nothing, the thing given in its place.
unfoldable pub or_else : {A : Type 0} → A → Option A → A
or_else a none = a
or_else a (some b) = b

-- The block that the record holds; where that is none, the empty block stands in.
abbrev pub program_of : List ℕ → ℕ → Block
program_of buf used = or_else empty (block_of buf used)

-- The same of the term; where that is none, the tuple of no atoms stands in.
abbrev pub the_term_of : List ℕ → ℕ → Term
the_term_of buf used = or_else (tuple []) (term_of buf used)

-- THE ROWS

-- 1, its first half: a buffer above 16,384 bytes. It is all that is asked of a buffer that only takes output.
unfoldable pub too_long : List ℕ → Bool
too_long buf = ltb 16384 (length buf)

-- Both halves, of a buffer that is lent with a used length.
unfoldable pub bad_buffer : List ℕ → ℕ → Bool
bad_buffer buf used = too_long buf || ltb (length buf) used

-- 2: no whole header used, which is 8 bytes and in edition 2 12, or wrong kind, or length not the used length
unfoldable pub bad_header : Sort → List ℕ → ℕ → Bool
bad_header s buf used =
    ltb used (contents_at (header_of buf used))
    || (not (eqb (kind_field (record_in buf used)) (kind_of s (header_of buf used))) || not (eqb (length_field (record_in buf used)) used))

-- 2, of a conversion: the same, or the record is already in the edition asked for, which is a wrong kind (02 C-18)
unfoldable pub wrong_edition : Sort → Conversion → List ℕ → ℕ → Bool
wrong_edition s to buf used = bad_header s buf used || eqb (kind_field (record_in buf used)) (kind_of s (converted_header to (header_of buf used)))

-- 3: k not 1 to 16
unfoldable pub bad_k : List ℕ → ℕ → Bool
bad_k buf used = not (in_range 16 (k_of buf used))

-- 4: bytes outside the grammar
unfoldable pub bad_block : List ℕ → ℕ → Bool
bad_block buf used = is_none (block_of buf used)

-- The same of a term.
unfoldable pub bad_term : List ℕ → ℕ → Bool
bad_term buf used = is_none (term_of buf used)

-- 5: a variable number not 1 to k
unfoldable pub block_outside : List ℕ → ℕ → Bool
block_outside buf used = holds (λ t. not (block_in_range (k_of buf used) t)) (block_of buf used)

-- The same of a term.
unfoldable pub term_outside : List ℕ → ℕ → Bool
term_outside buf used = holds (λ t. not (term_in_range (k_of buf used) t)) (term_of buf used)

-- 15: a literal above the ceiling
unfoldable pub block_above : List ℕ → ℕ → Bool
block_above buf used = holds (λ t. not (small_values (ok_of (header_of buf used)) (literals_in t))) (block_of buf used)

-- The same of a term: a numeral.
unfoldable pub term_above : List ℕ → ℕ → Bool
term_above buf used = holds (λ t. not (small_values (ok_of (header_of buf used)) (numerals_in t))) (term_of buf used)

-- 17: the ceiling is smaller than the largest value (02 C-18)
unfoldable pub small_ceiling : List ℕ → ℕ → Bool
small_ceiling buf used = ltb (largest_of (header_of buf used)) 4294967295

-- 6: not k values
unfoldable pub bad_store : List ℕ → ℕ → List ℕ → Bool
bad_store buf used store = not (eqb (length store) (k_of buf used))

-- 16: a value above the ceiling, of those that are read
unfoldable pub values_above : List ℕ → ℕ → List ℕ → Bool
values_above buf used values = not (small_values (ok_of (header_of buf used)) values)

-- 7: a free variable
unfoldable pub open_term : List ℕ → ℕ → Bool
open_term buf used = holds (λ t. not (closed t)) (term_of buf used)

-- A term is finished where it is a tuple (01 "Reducer").
unfoldable pub finished_term : Term → Bool
finished_term (tuple l) = true
finished_term (let_one x s t) = false
finished_term (let_all t u) = false
finished_term (rec x a l t) = false

-- 8: not finished
unfoldable pub unfinished : List ℕ → ℕ → Bool
unfinished buf used = holds (λ t. not (finished_term t)) (term_of buf used)

-- THE ROWS OF A CALL that is lent a record: row 1, of every buffer that it is lent, and then those of the record

-- Rows 2 and 3, of a record of a sort, and then more.
abbrev pub header_rows : Sort → List ℕ → ℕ → List Row → List Row
header_rows s buf used more = row 2 (bad_header s buf used) ∷ row 3 (bad_k buf used) ∷ more

-- Rows 2 to 5 of a program, and then more.
abbrev pub program_rows : List ℕ → ℕ → List Row → List Row
program_rows buf used more = header_rows program buf used (row 4 (bad_block buf used) ∷ row 5 (block_outside buf used) ∷ more)

-- The same of a term.
abbrev pub term_rows : List ℕ → ℕ → List Row → List Row
term_rows buf used more = header_rows term buf used (row 4 (bad_term buf used) ∷ row 5 (term_outside buf used) ∷ more)

-- Rows 6 and 16 of a store that is read, and then more.
abbrev pub store_rows : List ℕ → ℕ → List ℕ → List Row → List Row
store_rows buf used store more = row 6 (bad_store buf used store) ∷ row 16 (values_above buf used store) ∷ more

-- Rows 2 to 5 and 15 of a program, and then more. (Of the counting stepper's calls row 12 comes between.)
abbrev pub limited_program_rows : List ℕ → ℕ → List Row → List Row
limited_program_rows buf used more = program_rows buf used (row 15 (block_above buf used) ∷ more)

-- The same of a term.
abbrev pub limited_term_rows : List ℕ → ℕ → List Row → List Row
limited_term_rows buf used more = term_rows buf used (row 15 (term_above buf used) ∷ more)

-- Rows 2 to 5 and 15 of a record of either sort, where the test of row 2 is given, and then more.
abbrev pub limited_rows : Sort → Bool → List ℕ → ℕ → List Row → List Row
limited_rows sort.Program two buf used more =
    row 2 two ∷ row 3 (bad_k buf used) ∷ row 4 (bad_block buf used) ∷ row 5 (block_outside buf used) ∷ row 15 (block_above buf used) ∷ more
limited_rows sort.Term two buf used more =
    row 2 two ∷ row 3 (bad_k buf used) ∷ row 4 (bad_term buf used) ∷ row 5 (term_outside buf used) ∷ row 15 (term_above buf used) ∷ more
