-- The program record (01's tariff) and the term record: a header, and contents (01 "Records", kinds 7 and 40; 02 C-17, kinds 9 and 41).
-- All that depends on the header is here: the kind, k, where the contents start, and the largest value.
use Rattle.std.specs.Prelude.{◌<◌, ℕ, ◌≤◌, Bool, false, true, ◌||◌, ◌++◌, List, [], eqb, drop, take}
use Rattle.std.proofs.Math.Option.{Option}
use Rattle.buffer.specs.LittleEndian.{le, val}
use Rattle.rules.specs.Store.{up_to}
use Rattle.rules.specs.Syntax.{Block, Term}
use Rattle.record.specs.declared.Conversion.{Conversion}
use Rattle.record.specs.declared.Conversion.TheVariants.{ToFirst, ToSecond}
use Rattle.record.specs.declared.Edition.{Edition}
use Rattle.record.specs.declared.Edition.TheVariants.{First, Second}
use Rattle.record.specs.declared.Header.{Header}
use Rattle.record.specs.declared.Sort.{Sort}
use Rattle.record.specs.declared.Sort.TheVariants as sort
use Rattle.record.specs.Program.{decode_block, encode_block}
use Rattle.record.specs.Reading.{at_end, sub, then}
use Rattle.record.specs.Record.{encode_record}
use Rattle.record.specs.Term.{decode_term, encode_term_record, last_term}

-- THE HEADER: length, kind, k, and in edition 2 a ceiling

-- The sort of a record that holds a program. (`Program` and `Term` are also names of classes, and `Term` of trees.)
abbrev pub program : Sort
program = sort.Program

-- The sort of a record that holds a term.
abbrev pub term : Sort
term = sort.Term

-- What an edition fixes: the kind of a program's record and of a term's, how long the header is, and the largest value.
pub record Form : Type 0 where
  pub program_kind : ℕ
  pub term_kind : ℕ
  pub header_length : ℕ
  pub largest : ℕ

-- THE TWO EDITIONS. The first: 7 tariff, 40 term header, values from 0 to 4,294,967,295 (01 "Records"). The second: 9 and 41, and a
-- ceiling of 4 bytes behind k (02 C-17).
unfoldable pub form_of : Edition → Form
form_of First = record { program_kind = 7; term_kind = 40; header_length = 8; largest = 4294967295 }
form_of (Second ceiling) = record { program_kind = 9; term_kind = 41; header_length = 12; largest = ceiling }

-- The kind of a record of this sort.
unfoldable pub kind_of : Sort → Header → ℕ
kind_of sort.Program h = (form_of h.edition).program_kind
kind_of sort.Term h = (form_of h.edition).term_kind

-- The bytes of the ceiling, where the edition has one.
unfoldable pub ceiling_bytes : Edition → List ℕ
ceiling_bytes First = []
ceiling_bytes (Second ceiling) = le 4 ceiling

-- What stands behind length and kind: k, 4 bytes, and the ceiling.
unfoldable pub fields_of : Header → List ℕ
fields_of h = le 4 h.k ++ ceiling_bytes h.edition

-- Where the contents start: behind the header.
unfoldable pub contents_at : Header → ℕ
contents_at h = (form_of h.edition).header_length

-- The record of a sort with this header and these contents.
unfoldable pub headed : Sort → Header → List ℕ → List ℕ
headed s h c = encode_record (kind_of s h) (fields_of h ++ c)

-- The largest value that is not too large: in edition 2 the ceiling.
unfoldable pub largest_of : Header → ℕ
largest_of h = (form_of h.edition).largest

-- The test for a value that is not too large: at most the ceiling.
abbrev pub ok_of : Header → ℕ → Bool
ok_of h = up_to (largest_of h)

-- What is asked of a header: k from 1 to 16, and a ceiling of 4 bytes, whichever.
pub record HeaderFits (h : Header) : Type 0 where
  pub k-low : 1 ≤ h.k
  pub k-high : h.k ≤ 16
  pub largest-word : largest_of h < 4294967296

-- READING IT

-- The length that the header gives.
unfoldable pub length_field : List ℕ → ℕ
length_field r = val (take 2 r)

-- The kind that the header gives.
unfoldable pub kind_field : List ℕ → ℕ
kind_field r = val (take 2 (drop 2 r))

-- The k that the header gives.
unfoldable pub k_field : List ℕ → ℕ
k_field r = val (take 4 (drop 4 r))

-- The ceiling that a header of edition 2 gives.
unfoldable pub ceiling_field : List ℕ → ℕ
ceiling_field r = val (take 4 (drop 8 r))

-- The kind is one of edition 2.
unfoldable pub is_second : ℕ → Bool
is_second kind = eqb kind 9 || eqb kind 41

-- The edition, by whether it is the second.
unfoldable pub edition_by : Bool → ℕ → Edition
edition_by true ceiling = Second ceiling
edition_by false ceiling = First

-- The edition that the header gives, by its kind.
unfoldable pub edition_field : List ℕ → Edition
edition_field r = edition_by (is_second (kind_field r)) (ceiling_field r)

-- The header of the record that stands first.
abbrev pub header_in : List ℕ → Header
header_in r = record { k = k_field r; edition = edition_field r }

-- What stands behind the header.
unfoldable pub contents : List ℕ → List ℕ
contents r = drop (contents_at (header_in r)) r

-- THE CONTENTS: one block, or one term of k, and nothing after it

-- A block as contents: its record, of kind 1.
unfoldable pub block_bytes : Block → List ℕ
block_bytes t = encode_record 1 (encode_block t)

-- The block that the contents are, if they are one.
unfoldable pub block_in : List ℕ → Option Block
block_in c = then (sub 1 c) (λ b r. at_end r (decode_block b))

-- The term that the contents are, if they are one with tuples of k atoms.
unfoldable pub term_in : ℕ → List ℕ → Option Term
term_in k c = last_term k (decode_term k) c

-- THE TWO RECORDS

-- The record of a program: its header, and the program's block.
unfoldable pub encode_program : Header → Block → List ℕ
encode_program h t = headed program h (block_bytes t)

-- The record of a term with its header: the header, and the term.
unfoldable pub encode_term : Header → Term → List ℕ
encode_term h t = headed term h (encode_term_record t)

-- MOVED FROM ONE EDITION TO THE OTHER (02 C-18)

-- The move back.
abbrev pub opposite : Conversion → Conversion
opposite ToFirst = ToSecond
opposite ToSecond = ToFirst

-- The header in the edition asked for, with the same k: in edition 2 with the largest ceiling, which is the largest value.
unfoldable pub converted_header : Conversion → Header → Header
converted_header ToFirst h = record { k = h.k; edition = First }
converted_header ToSecond h = record { k = h.k; edition = Second 4294967295 }

-- The record in the edition asked for: the same contents behind that header.
unfoldable pub converted_record : Sort → Conversion → List ℕ → List ℕ
converted_record s to r = headed s (converted_header to (header_in r)) (contents r)
