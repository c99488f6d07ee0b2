-- Laws of the two records: fields, contents, lengths, and that encoding and decoding are inverse, both ways.
use Prim.Native.Nat.{◌+◌, ◌-◌, ◌<◌, ℕ, ◌≤◌}
use mathlib.Core.Path.{ap, ap₂, refl, subst, sym, ◌∙◌, ◌≡◌}
use mathlib.Core.Logic.{◌↔◌}
use mathlib.Core.Bool.{Bool, false, true}
use mathlib.Core.List.{◌++◌, List, [], append_assoc, append-nil}
use mathlib.Core.Option.{some}
use lib.Dec.{lit<}
use lib.ListN.{drop, length, length-append, length-drop, take, take-append-drop}
use lib.Seq.{drop_at, drop-drop, length-take-le, take_at}
use native.Mathlib.Omega.{arith}
use Rattle.buffer.specs.LittleEndian.{Bytes, le, val}
use Rattle.buffer.specs.Slice.{part}
use Rattle.rules.specs.Store.{Limit}
use Rattle.rules.specs.Syntax.{Block, Term}
use Rattle.rules.proofs.StoreLaws.{up_to-iff, up_to-limit}
use Rattle.buffer.proofs.LittleEndianLaws.{bytes_drop, bytes_take, le_val, length-le, val-le}
use Rattle.record.specs.declared.Edition.{Edition}
use Rattle.record.specs.declared.Edition.TheVariants.{First, Second}
use Rattle.record.specs.declared.Header.{Header}
use Rattle.record.specs.declared.Sort.TheVariants as sort
use Rattle.record.specs.declared.Sort.{Sort}
use Rattle.record.specs.Header.{HeaderFits, block_bytes, block_in, ceiling_bytes, ceiling_field, contents, contents_at, edition_by, edition_field, encode_program, encode_term, fields_of, form_of, headed, header_in, is_second, k_field, kind_field, kind_of, largest_of, length_field, ok_of, program, term, term_in}
use Rattle.record.specs.Program.{BlockWords, block_size, encode_block}
use Rattle.record.specs.Reading.{at_end, got, sub, then}
use Rattle.record.specs.Record.{encode_record}
use Rattle.record.specs.Term.{TermWords, decode_term, encode_term_record, term_size}
use Rattle.record.proofs.ProgramLaws.{decode_block-encode, decode_block-sound, length-encode_block, sub-alone}
use Rattle.record.proofs.ReadingLaws.{at_end-inv, sub_part, then-inv}
use Rattle.record.proofs.RecordLaws.{length-encode_record, split-parted}
use Rattle.record.proofs.TermLaws.{decode_term-encode, decode_term-sound, last-decoded, last-encode, length-term_contents}

-- WHAT AN EDITION FIXES, and so a header, for all that is above: no law behind these looks at a header's length or at the kinds

program-word : (e : Edition) → (form_of e).program_kind < 65536
unfolding form_of
program-word First = lit< tt
program-word (Second c) = lit< tt

term-word : (e : Edition) → (form_of e).term_kind < 65536
unfolding form_of
term-word First = lit< tt
term-word (Second c) = lit< tt

pub kind-word : (s : Sort) (h : Header) → kind_of s h < 65536
unfolding kind_of
kind-word sort.Program h = program-word h.edition
kind-word sort.Term h = term-word h.edition

length-low : (e : Edition) → 8 ≤ (form_of e).header_length
unfolding form_of
length-low First = omega arith
length-low (Second c) = omega arith

pub contents_at-low : (h : Header) → 8 ≤ contents_at h
unfolding contents_at
contents_at-low h = length-low h.edition

length_high : (e : Edition) → (form_of e).header_length ≤ 12
unfolding form_of
length_high First = omega arith
length_high (Second c) = omega arith

pub contents_at-high : (h : Header) → contents_at h ≤ 12
unfolding contents_at
contents_at-high h = length_high h.edition

length-ceiling : (e : Edition) → 8 + length (ceiling_bytes e) ≡ (form_of e).header_length
unfolding ceiling_bytes form_of
length-ceiling First = refl
length-ceiling (Second c) = ap (λ (n : ℕ). 8 + n) (length-le 4 c)

pub length_fields : (h : Header) → 4 + length (fields_of h) ≡ contents_at h
unfolding fields_of contents_at
length_fields h = simp (length-append, length-le) (omega (arith, length-ceiling h.edition))

-- THE HEADERS OF EACH EDITION, for the code of this crate

pub first-start : (h : Header) → h.edition ≡ First → contents_at h ≡ 8
unfolding contents_at form_of
first-start h e = rw e refl

pub second-start : (h : Header) (ceiling : ℕ) → h.edition ≡ Second ceiling → contents_at h ≡ 12
unfolding contents_at form_of
second-start h ceiling e = rw e refl

pub first-fields : (h : Header) → h.edition ≡ First → fields_of h ≡ le 4 h.k
unfolding fields_of ceiling_bytes
first-fields h e = rw e (append-nil (le 4 h.k))

pub second-fields : (h : Header) (ceiling : ℕ) → h.edition ≡ Second ceiling → fields_of h ≡ le 4 h.k ++ le 4 ceiling
unfolding fields_of ceiling_bytes
second-fields h ceiling e = rw e refl

-- by the kind that code reads
module _ (r : List ℕ) (kind : ℕ) (second : Bool) (reads : kind ≡ val (part r 2 2)) (tells : second ≡ is_second kind) where
  told : is_second (kind_field r) ≡ second
  unfolding kind_field part
  told = ap is_second (sym reads) ∙ sym tells

  pub as_first : second ≡ false → edition_field r ≡ First
  unfolding edition_field edition_by
  as_first e = rw (told ∙ e) refl

  pub as-second : second ≡ true → edition_field r ≡ Second (val (part r 8 4))
  unfolding edition_field edition_by ceiling_field part
  as-second e = rw (told ∙ e) refl

-- a header of edition 1 is asked nothing more than its k
pub first_fits : (k : ℕ) → 1 ≤ k → k ≤ 16 → HeaderFits (record { k = k; edition = First })
unfolding largest_of form_of
first_fits k low high = record { k-low = low; k-high = high; largest-word = lit< tt }

-- VALUES: those up to the largest pass

pub ok-limit : (h : Header) → Limit (ok_of h)
ok-limit h = up_to-limit (largest_of h)

pub ok-iff : (h : Header) (n : ℕ) → (ok_of h n ≡ true) ↔ (n ≤ largest_of h)
ok-iff h n = up_to-iff (largest_of h) n

-- what passes takes 4 bytes
pub ok-word : (h : Header) → HeaderFits h → (n : ℕ) → ok_of h n ≡ true → n < 4294967296
ok-word h f n e = omega (arith, (ok-iff h n).0 e, f.largest-word)

-- THE FIELDS OF A RECORD

pub length-headed : (s : Sort) (h : Header) (c : List ℕ) → length (headed s h c) ≡ contents_at h + length c
unfolding headed
length-headed s h c = simp (length-encode_record, length-append) (omega (arith, length_fields h))

-- the edition as its kinds tell it
kind-first : (s : Sort) (h : Header) → h.edition ≡ First → is_second (kind_of s h) ≡ false
unfolding kind_of form_of is_second
kind-first sort.Program h e = rw e refl
kind-first sort.Term h e = rw e refl

kind-second : (s : Sort) (h : Header) (ceiling : ℕ) → h.edition ≡ Second ceiling → is_second (kind_of s h) ≡ true
unfolding kind_of form_of is_second
kind-second sort.Program h ceiling e = rw e refl
kind-second sort.Term h ceiling e = rw e refl

module _ (s : Sort) (h : Header) (c : List ℕ) where
  pub length_field-headed : contents_at h + length c < 65536 → length_field (headed s h c) ≡ contents_at h + length c
  unfolding length_field headed encode_record
  length_field-headed q =
      let n : 4 + length (fields_of h ++ c) ≡ contents_at h + length c = simp (length-append) (omega (arith, length_fields h)) in
      rw (take_at (le 2 (4 + length (fields_of h ++ c))) (le 2 (kind_of s h) ++ (fields_of h ++ c)) 2 (length-le 2 (4 + length (fields_of h ++ c))))
      (val-le 2 (4 + length (fields_of h ++ c)) (omega arith) ∙ n)

  pub kind_field-headed : kind_field (headed s h c) ≡ kind_of s h
  unfolding kind_field headed encode_record
  kind_field-headed =
      rw (drop_at (le 2 (4 + length (fields_of h ++ c))) (le 2 (kind_of s h) ++ (fields_of h ++ c)) 2 (length-le 2 (4 + length (fields_of h ++ c))), take_at (le 2 (kind_of s h)) (fields_of h ++ c) 2 (length-le 2 (kind_of s h)))
      (val-le 2 (kind_of s h) (kind-word s h))

  four-headed : drop 4 (headed s h c) ≡ fields_of h ++ c
  unfolding headed encode_record
  four-headed =
      rw (← append_assoc (le 2 (4 + length (fields_of h ++ c))) (le 2 (kind_of s h)) (fields_of h ++ c))
      (drop_at (le 2 (4 + length (fields_of h ++ c)) ++ le 2 (kind_of s h)) (fields_of h ++ c) 4 (simp (length-append, length-le)))

  fields-headed : drop 4 (headed s h c) ≡ le 4 h.k ++ (ceiling_bytes h.edition ++ c)
  unfolding fields_of
  fields-headed = four-headed ∙ append_assoc (le 4 h.k) (ceiling_bytes h.edition) c

  pub k_field-headed : h.k < 4294967296 → k_field (headed s h c) ≡ h.k
  unfolding k_field
  k_field-headed q = rw (fields-headed, take_at (le 4 h.k) (ceiling_bytes h.edition ++ c) 4 (length-le 4 h.k)) (val-le 4 h.k q)

  eight-headed : drop 8 (headed s h c) ≡ ceiling_bytes h.edition ++ c
  eight-headed =
      sym (drop-drop 4 4 (headed s h c)) ∙ ap (drop 4) fields-headed ∙ drop_at (le 4 h.k) (ceiling_bytes h.edition ++ c) 4 (length-le 4 h.k)

  ceiling-headed : (ceiling : ℕ) → ceiling < 4294967296 → h.edition ≡ Second ceiling → ceiling_field (headed s h c) ≡ ceiling
  unfolding ceiling_field ceiling_bytes
  ceiling-headed ceiling q e =
      rw (eight-headed, e, take_at (le 4 ceiling) c 4 (length-le 4 ceiling)) (val-le 4 ceiling q)

  edition-headed : HeaderFits h → edition_field (headed s h c) ≡ h.edition
  unfolding edition_field largest_of form_of edition_by
  edition-headed f = rw kind_field-headed (go h.edition refl)
    where
      go : (e : Edition) → h.edition ≡ e → edition_by (is_second (kind_of s h)) (ceiling_field (headed s h c)) ≡ e
      go First is = rw (kind-first s h is) refl
      go (Second ceiling) is = rw (kind-second s h ceiling is) (ap Second (ceiling-headed ceiling (subst (λ (e : Edition). (form_of e).largest < 4294967296) is f.largest-word) is))

  pub header_in-headed : HeaderFits h → header_in (headed s h c) ≡ h
  header_in-headed f =
      ap₂ (λ (k : ℕ) (e : Edition). record { k = k; edition = e }) (k_field-headed (omega (arith, f.k-high))) (edition-headed f)

  pub contents-headed : HeaderFits h → contents (headed s h c) ≡ c
  unfolding contents
  contents-headed f =
      let n : 4 + length (fields_of h) ≡ contents_at h = length_fields h in
      ap (λ (x : Header). drop (contents_at x) (headed s h c)) (header_in-headed f)
      ∙ ap (λ (m : ℕ). drop m (headed s h c)) (sym n)
      ∙ sym (drop-drop (length (fields_of h)) 4 (headed s h c))
      ∙ ap (drop (length (fields_of h))) four-headed
      ∙ drop_at (fields_of h) c (length (fields_of h)) refl

-- four bytes, and the value that they are
word_bytes : (r : List ℕ) → Bytes r → 4 ≤ length r → take 4 r ≡ le 4 (val (take 4 r))
word_bytes r b n = sym (ap (λ (w : ℕ). le w (val (take 4 r))) (sym (length-take-le 4 r n)) ∙ le_val (take 4 r) (bytes_take 4 r b))

fields_split : (r : List ℕ) → Bytes r → 8 ≤ length r → length_field r ≡ length r → r ≡ encode_record (kind_field r) (le 4 (k_field r) ++ drop 8 r)
unfolding length_field kind_field k_field encode_record
fields_split r h n e =
    let l₂ : length (drop 2 r) ≡ length r - 2 = length-drop 2 r in
    let l₄ : length (drop 4 r) ≡ length r - 4 = length-drop 4 r in
    let l₈ : length (drop 8 r) ≡ length r - 8 = length-drop 8 r in
    let a : take 2 r ≡ le 2 (val (take 2 r)) = sym (ap (λ (w : ℕ). le w (val (take 2 r))) (sym (length-take-le 2 r (omega arith))) ∙ le_val (take 2 r) (bytes_take 2 r h)) in
    let b : take 2 (drop 2 r) ≡ le 2 (val (take 2 (drop 2 r))) =
    sym (ap (λ (w : ℕ). le w (val (take 2 (drop 2 r)))) (sym (length-take-le 2 (drop 2 r) (omega arith))) ∙ le_val (take 2 (drop 2 r)) (bytes_take 2 (drop 2 r) (bytes_drop 2 r h))) in
    let c : take 4 (drop 4 r) ≡ le 4 (val (take 4 (drop 4 r))) = word_bytes (drop 4 r) (bytes_drop 4 r h) (omega arith) in
    let m : val (take 2 r) ≡ 4 + length (le 4 (val (take 4 (drop 4 r))) ++ drop 8 r) = simp (length-append, length-le) (omega arith) in
    let s₁ : r ≡ take 2 r ++ drop 2 r = sym (take-append-drop 2 r) in
    let s₂ : drop 2 r ≡ take 2 (drop 2 r) ++ drop 4 r = sym (take-append-drop 2 (drop 2 r)) ∙ ap (λ (y : List ℕ). take 2 (drop 2 r) ++ y) (drop-drop 2 2 r) in
    let s₃ : drop 4 r ≡ take 4 (drop 4 r) ++ drop 8 r = sym (take-append-drop 4 (drop 4 r)) ∙ ap (λ (y : List ℕ). take 4 (drop 4 r) ++ y) (drop-drop 4 4 r) in
    s₁ ∙ ap₂ (λ (x y : List ℕ). x ++ y) (a ∙ ap (le 2) m) (s₂ ∙ ap₂ (λ (x y : List ℕ). x ++ y) b (s₃ ∙ ap (λ (x : List ℕ). x ++ drop 8 r) c))

-- behind k stand the ceiling, where the edition has one, and the contents
behind-k : (second : Bool) (r : List ℕ) → Bytes r → (form_of (edition_by second (ceiling_field r))).header_length ≤ length r
    → drop 8 r ≡ ceiling_bytes (edition_by second (ceiling_field r)) ++ drop (form_of (edition_by second (ceiling_field r))).header_length r
unfolding edition_by form_of ceiling_bytes ceiling_field
behind-k true r h m =
    let l₈ : length (drop 8 r) ≡ length r - 8 = length-drop 8 r in
    sym (take-append-drop 4 (drop 8 r)) ∙ ap₂ (λ (x y : List ℕ). x ++ y) (word_bytes (drop 8 r) (bytes_drop 8 r h) (omega arith)) (drop-drop 4 8 r)
behind-k false r h m = refl

-- a list of bytes that says its own length is the record of its fields
pub headed-fields : (s : Sort) (r : List ℕ) → Bytes r → contents_at (header_in r) ≤ length r → kind_field r ≡ kind_of s (header_in r) → length_field r ≡ length r
    → r ≡ headed s (header_in r) (contents r)
unfolding headed fields_of contents contents_at edition_field
headed-fields s r h m q e =
    let second : Bool = is_second (kind_field r) in
    fields_split r h (omega (arith, m, length-low (edition_by second (ceiling_field r)))) e
    ∙ ap₂ encode_record q
    (ap (λ (x : List ℕ). le 4 (k_field r) ++ x) (behind-k second r h m)
    ∙ sym (append_assoc (le 4 (k_field r)) (ceiling_bytes (edition_by second (ceiling_field r))) (drop (form_of (edition_by second (ceiling_field r))).header_length r)))

-- THE CONTENTS

pub length-block_bytes : (t : Block) → length (block_bytes t) ≡ 4 + block_size t
unfolding block_bytes
length-block_bytes t = simp (length-encode_record, length-encode_block)

pub length-encode_term_record : (t : Term) → length (encode_term_record t) ≡ 4 + term_size t
unfolding encode_term_record
length-encode_term_record t = simp (length-encode_record, length-term_contents)

pub block_in-bytes : (t : Block) → BlockWords t → 4 + block_size t < 65536 → block_in (block_bytes t) ≡ some t
unfolding block_in block_bytes then at_end
block_in-bytes t h n =
    let c : sub 1 (encode_record 1 (encode_block t)) ≡ got (encode_block t) [] = sub-alone (encode_block t) (simp (length-encode_block t) (omega arith)) in
    rw (c, decode_block-encode t h (omega arith)) refl

pub block_in-sound : (c : List ℕ) (t : Block) → Bytes c → block_in c ≡ some t → (c ≡ block_bytes t) × BlockWords t
unfolding block_in block_bytes
block_in-sound c t hb f =
    then-inv (sub 1 c) _ t f λ b r e₁ f₁.
    at_end-inv r _ t f₁ λ n f₂.
    let u = split-parted c 1 b r hb (sub_part 1 c b r e₁) in
    let d = decode_block-sound b t f₂ u.inside in
    (u.whole ∙ ap₂ (λ (y z : List ℕ). encode_record 1 y ++ z) d.whole n ∙ append-nil (encode_record 1 (encode_block t)), d.fits)

pub term_in-bytes : (k : ℕ) (t : Term) → TermWords k t → 4 + term_size t < 65536 → term_in k (encode_term_record t) ≡ some t
unfolding term_in encode_term_record
term_in-bytes k t h n = last-encode k (decode_term k) t (omega arith) (decode_term-encode k t h (omega arith))

pub term_in-sound : (k : ℕ) (c : List ℕ) (t : Term) → Bytes c → term_in k c ≡ some t → (c ≡ encode_term_record t) × TermWords k t
unfolding term_in encode_term_record
term_in-sound k c t hb f = last-decoded k (decode_term k) (decode_term-sound k) c t hb f

-- THE TWO RECORDS

pub length-encode_program : (h : Header) (t : Block) → length (encode_program h t) ≡ contents_at h + (4 + block_size t)
unfolding encode_program
length-encode_program h t = length-headed program h (block_bytes t) ∙ ap (λ (n : ℕ). contents_at h + n) (length-block_bytes t)

pub length-encode_term : (h : Header) (t : Term) → length (encode_term h t) ≡ contents_at h + (4 + term_size t)
unfolding encode_term
length-encode_term h t = length-headed term h (encode_term_record t) ∙ ap (λ (n : ℕ). contents_at h + n) (length-encode_term_record t)
