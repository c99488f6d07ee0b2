-- WHAT EACH ROW'S TEST SAYS, in plain facts (01 "Where an order stops"; 02 C-17). Rows 9 and 10 are the translator's (`term`), row
-- 11 and a row 6 of its own weighing's (`weighing`), rows 12, 13 and 16 of a state the counting stepper's (`counting`), row 14 the batch's (`batch`),
-- rows 18 and 19 the forecast's (`forecast`).
use Rattle.std.specs.Prelude.{◌<◌, ℕ, ◌≤◌, ◌≡◌, ◌↔◌, ◌⊎◌, true, List, drop, length, take}
use Rattle.std.proofs.Math.Option.{some}
use Rattle.buffer.specs.LittleEndian.{Bytes, val}
use Rattle.rules.specs.FreeVariables.{Free}
use Rattle.rules.specs.Literals.{Among, literals_in, numerals_in}
use Rattle.rules.specs.Scope.{BlockWithin, TermWithin, Within}
use Rattle.rules.specs.Syntax.{Atom, Block, Term, tuple}
use Rattle.record.specs.declared.Conversion.TheVariants.{ToFirst, ToSecond}
use Rattle.record.specs.Header.{block_bytes, contents, kind_field, largest_of, length_field, program, term}
use Rattle.record.specs.Program.{BlockWords}
use Rattle.record.specs.Rows.{bad_block, bad_buffer, bad_header, bad_k, bad_store, bad_term, block_above, block_of, block_outside, header_of, k_of, open_term, term_above, term_of, small_ceiling, term_outside, unfinished, values_above, wrong_edition}
use Rattle.record.specs.Term.{TermWords, encode_term_record}

-- Refusal 2 of a record r whose kind is to be `first`, or in edition 2 `second`.
abbrev pub BadHeader : ℕ → ℕ → ℕ → List ℕ → Type 0
BadHeader first second used r =
    (used < 8)
    ⊎ (((kind_field r ≡ second) × (used < 12))
    ⊎ (((kind_field r ≡ first → ⊥) × (kind_field r ≡ second → ⊥))
    ⊎ (length_field r ≡ used → ⊥)))

-- Refusal 2 of a conversion, of a record r that is to be of one edition alone: of n bytes its header, and of this kind (02 C-18).
abbrev pub WrongEdition : ℕ → ℕ → ℕ → List ℕ → Type 0
WrongEdition n kind used r = (used < n) ⊎ ((kind_field r ≡ kind → ⊥) ⊎ (length_field r ≡ used → ⊥))

-- The test of each row from 1 to 8 and from 15 to 17 says that the row applies exactly where the plain fact beside it holds: row 4's for
-- bytes in a buffer of at most 16,384, and those of rows 5, 7, 8 and 15 where the record holds a block or a term.
pub record RowsMean : Type 0 where
  -- 1: a buffer above 16,384 bytes, or used length above its buffer
  pub one : (buf : List ℕ) (used : ℕ) → (bad_buffer buf used ≡ true) ↔ ((16384 < length buf) ⊎ (length buf < used))
  -- 2: under 8 bytes used, or kind 9 and under 12, or wrong kind, or length not the used length; of a program and of a term
  pub two : (buf : List ℕ) (used : ℕ) → (bad_header program buf used ≡ true) ↔ BadHeader 7 9 used (take used buf)
  pub two_term : (buf : List ℕ) (used : ℕ) → (bad_header term buf used ≡ true) ↔ BadHeader 40 41 used (take used buf)
  -- 2, of a conversion: to edition 2 it takes kind 7, or 40, alone, and to edition 1 kind 9, or 41
  pub two_to_second : (buf : List ℕ) (used : ℕ) → (wrong_edition program ToSecond buf used ≡ true) ↔ WrongEdition 8 7 used (take used buf)
  pub two_to_first : (buf : List ℕ) (used : ℕ) → (wrong_edition program ToFirst buf used ≡ true) ↔ WrongEdition 12 9 used (take used buf)
  pub two_term_to_second : (buf : List ℕ) (used : ℕ) → (wrong_edition term ToSecond buf used ≡ true) ↔ WrongEdition 8 40 used (take used buf)
  pub two_term_to_first : (buf : List ℕ) (used : ℕ) → (wrong_edition term ToFirst buf used ≡ true) ↔ WrongEdition 12 41 used (take used buf)
  -- 3: k not 1 to 16
  pub three : (buf : List ℕ) (used : ℕ) → (bad_k buf used ≡ true) ↔ (Within 16 (k_of buf used) → ⊥)
  -- 4: bytes outside the grammar: no block, and no term of k, has them as its record
  pub four : (buf : List ℕ) (used : ℕ) → Bytes buf → length buf ≤ 16384
      → (bad_block buf used ≡ true) ↔ ((P : Block) → BlockWords P → contents (take used buf) ≡ block_bytes P → ⊥)
  pub four_term : (buf : List ℕ) (used : ℕ) → Bytes buf → length buf ≤ 16384
      → (bad_term buf used ≡ true) ↔ ((t : Term) → TermWords (k_of buf used) t → contents (take used buf) ≡ encode_term_record t → ⊥)
  -- 5: a variable number not 1 to k, in the block, or the term, that the record holds
  pub five : (buf : List ℕ) (used : ℕ) (P : Block) → block_of buf used ≡ some P → (block_outside buf used ≡ true) ↔ (BlockWithin (k_of buf used) P → ⊥)
  pub five_term : (buf : List ℕ) (used : ℕ) (t : Term) → term_of buf used ≡ some t → (term_outside buf used ≡ true) ↔ (TermWithin (k_of buf used) t → ⊥)
  -- 6: not k values
  pub six : (buf : List ℕ) (used : ℕ) (store : List ℕ) → (bad_store buf used store ≡ true) ↔ (length store ≡ k_of buf used → ⊥)
  -- 7: a free variable, in the term that the record holds
  pub seven : (buf : List ℕ) (used : ℕ) (t : Term) → term_of buf used ≡ some t → (open_term buf used ≡ true) ↔ ((x : ℕ) × Free x t)
  -- 8: not finished: the term that the record holds is no tuple
  pub eight : (buf : List ℕ) (used : ℕ) (t : Term) → term_of buf used ≡ some t → (unfinished buf used ≡ true) ↔ (((l : List Atom) × (t ≡ tuple l)) → ⊥)
  -- 15: a literal, or a numeral, above the ceiling, in the block, or the term, that the record holds
  pub fifteen : (buf : List ℕ) (used : ℕ) (P : Block) → block_of buf used ≡ some P
      → (block_above buf used ≡ true) ↔ ((n : ℕ) × Among n (literals_in P) × (largest_of (header_of buf used) < n))
  pub fifteen_term : (buf : List ℕ) (used : ℕ) (t : Term) → term_of buf used ≡ some t
      → (term_above buf used ≡ true) ↔ ((n : ℕ) × Among n (numerals_in t) × (largest_of (header_of buf used) < n))
  -- 16: a value above the ceiling, of those that are read
  pub sixteen : (buf : List ℕ) (used : ℕ) (values : List ℕ)
      → (values_above buf used values ≡ true) ↔ ((n : ℕ) × Among n values × (largest_of (header_of buf used) < n))
  -- 17: a ceiling smaller than the largest value
  pub seventeen : (buf : List ℕ) (used : ℕ) → (small_ceiling buf used ≡ true) ↔ (largest_of (header_of buf used) < 4294967295)
  -- the ceiling of these three: the 4 bytes behind k where the kind is one of edition 2, and else the largest value
  pub ceiling : (buf : List ℕ) (used : ℕ) → (kind_field (take used buf) ≡ 9) ⊎ (kind_field (take used buf) ≡ 41)
      → largest_of (header_of buf used) ≡ val (take 4 (drop 8 (take used buf)))
  pub no_ceiling : (buf : List ℕ) (used : ℕ) → (kind_field (take used buf) ≡ 9 → ⊥) → (kind_field (take used buf) ≡ 41 → ⊥)
      → largest_of (header_of buf used) ≡ 4294967295
