-- What a conversion answers, by the way out of its code: one law for each, of either sort and in either direction.
use Prim.Native.Nat.{◌+◌, ◌<◌, ℕ, ◌≤◌}
use mathlib.Core.Path.{ap, refl, subst, sym, ◌∙◌, ◌≡◌}
use mathlib.Core.Bool.{Bool, false, true, ◌||◌}
use mathlib.Core.List.{List, [], ◌∷◌}
use borrow.Author.Tests.{eqb-false, le-ltb, lt-ltb, ltb-true}
use lib.Dec.{eqb, ltb}
use lib.ListN.{length}
use native.Mathlib.Omega.{arith}
use Rattle.buffer.specs.LittleEndian.{Bytes}
use Rattle.record.specs.Answers.{Wrote, padded, too_short}
use Rattle.record.specs.declared.Conversion.{Conversion}
use Rattle.record.specs.declared.Conversion.TheVariants.{ToFirst, ToSecond}
use Rattle.record.specs.declared.Header.{Header}
use Rattle.record.specs.declared.Sort.{Sort}
use Rattle.record.specs.declared.Sort.TheVariants as sort
use Rattle.record.specs.Header.{block_bytes, contents_at, converted_header, headed, header_in, kind_field, kind_of, largest_of}
use Rattle.record.specs.Rows.{Row, bad_buffer, bad_header, first_row, header_of, limited_rows, record_in, row, too_long, wrong_edition}
use Rattle.record.specs.Term.{encode_term_record}
use Rattle.record.proofs.AnswerLaws.{fits_out, short-out, wrote-accepted}
use Rattle.record.proofs.CheckedRowLaws.{program-accepted, program-accepts, program-refuses, term-accepted, term-accepts, term-refuses}
use Rattle.record.proofs.EditionLaws.{already, no-ceiling, small-ceiling, wrong-already, wrong-other, wrong-short}
use Rattle.record.proofs.HeaderLaws.{kind_field-headed, length-headed}
use Rattle.record.proofs.HeldLaws.{held-header, held-is, held_whole, not-long}
use Rattle.record.proofs.HoldingLaws.{block-headed, program-held, term-headed}
use Rattle.record.proofs.RowLaws.{first-applies, first-skips, none_first, or-false, or_right, or-true}
use Rattle.conversion.specs.Convert.{convert_call, convert_rows, converted, last_rows}
use Rattle.conversion.specs.Converting.{Convertible, HeadedIn, check_sort, is_already}
use Rattle.conversion.proofs.ConvertLaws.{convert-refused, converted-in}

-- A refusal, with the output as it came.
abbrev pub refusal : ℕ → List ℕ → Wrote
refusal n out = record { number = n; used = 0; written = out }

-- WHAT THE CHECK OF A SORT SAYS

module _ (src : List ℕ) (used n k : ℕ) where
  check-refuses : (s : Sort) → check_sort s src used ≡ record { number = n; k = k } → (n ≡ 0 → ⊥) → (one : Bool) → one ≡ bad_buffer src used → (more : List Row)
      → first_row (row 1 one ∷ limited_rows s (bad_header s src used) src used more) ≡ n
  check-refuses sort.Program e h one b more = program-refuses src used n k e h one b more
  check-refuses sort.Term e h one b more = term-refuses src used n k e h one b more

  check-accepts : (s : Sort) → check_sort s src used ≡ record { number = n; k = k } → n ≡ 0 → (one : Bool) → one ≡ bad_buffer src used → (more : List Row)
      → first_row (row 1 one ∷ limited_rows s (bad_header s src used) src used more) ≡ first_row more
  check-accepts sort.Program e z one b more = program-accepts src used n k e z one b more
  check-accepts sort.Term e z one b more = term-accepts src used n k e z one b more

  pub check-holds : (s : Sort) → check_sort s src used ≡ record { number = n; k = k } → n ≡ 0 → Bytes src → (h : Header) × (c : List ℕ) × HeadedIn s h c src used
  check-holds sort.Program e z hb =
      let a = (program-accepted src used n k e z hb).1 in
      let p = a.3 in
      (a.0, block_bytes a.1, record { within = p.within; header = p.header; bytes = block-headed (program-held p) })
  check-holds sort.Term e z hb =
      let a = (term-accepted src used n k e z hb).1 in
      let p = a.3 in
      (a.0, encode_term_record a.1, record { within = p.within; header = p.header; bytes = term-headed p })

-- ROW 2

module _ (s : Sort) (to : Conversion) (src : List ℕ) (used : ℕ) where
  -- as code finds it: no kind, or else the kind beside the one asked for
  pub already-short : used < 4 → true ≡ is_already s to src used
  unfolding is_already
  already-short n = sym (ap (λ (b : Bool). b || already s to src used) (lt-ltb used 4 n))

  pub already-kind : 4 ≤ used → (kind asked : ℕ) → kind ≡ kind_field (record_in src used) → asked ≡ kind_of s (converted_header to (header_of src used))
      → eqb kind asked ≡ is_already s to src used
  unfolding is_already
  already-kind n kind asked e f = rw (e, f, le-ltb used 4 n) refl

  already-wrong : is_already s to src used ≡ true → wrong_edition s to src used ≡ true
  unfolding is_already
  already-wrong e = go (ltb used 4) refl e
    where
      go : (b : Bool) → ltb used 4 ≡ b → (b || already s to src used) ≡ true → wrong_edition s to src used ≡ true
      go true q f = wrong-short s to src used (ltb-true used 4 q)
      go false q f = wrong-already s to src used f

  module _ (e : is_already s to src used ≡ false) where
    not-already : already s to src used ≡ false
    unfolding is_already
    not-already = (or-false (ltb used 4) (already s to src used) e).1

    not-wrong : wrong_edition s to src used ≡ bad_header s src used
    not-wrong = wrong-other s to src used not-already

  two-first : (s : Sort) (two : Bool) (more : List Row) → two ≡ true → first_row (limited_rows s two src used more) ≡ 2
  two-first sort.Program two more e = first-applies 2 two _ e
  two-first sort.Term two more e = first-applies 2 two _ e

-- THE CALL BY ITS FIRST ROW

module _ (s : Sort) (to : Conversion) (src : List ℕ) (used : ℕ) (out : List ℕ) where
  convert-row : (n : ℕ) → first_row (convert_rows s to src used out) ≡ n → (n ≡ 0 → ⊥) → refusal n out ≡ convert_call s to src used out
  convert-row n e h = sym (convert-refused s to src used out (λ z. h (sym e ∙ z)) ∙ ap (λ (m : ℕ). refusal m out) e)

  -- row 1, of the output or of the source
  pub convert-long : too_long out ≡ true → refusal 1 out ≡ convert_call s to src used out
  convert-long e = convert-row 1 (first-applies 1 _ _ (or-true (bad_buffer src used) (too_long out) e)) (λ z. omega (arith, z))

  module _ (low : too_long out ≡ false) where
    source-alone : (bad_buffer src used || too_long out) ≡ bad_buffer src used
    source-alone = or_right (bad_buffer src used) (too_long out) low

    pub convert-one : bad_buffer src used ≡ true → refusal 1 out ≡ convert_call s to src used out
    convert-one e = convert-row 1 (first-applies 1 _ _ (source-alone ∙ e)) (λ z. omega (arith, z))

    pub convert-already : bad_buffer src used ≡ false → is_already s to src used ≡ true → refusal 2 out ≡ convert_call s to src used out
    convert-already b e =
        convert-row 2
        (first-skips 1 _ _ (source-alone ∙ b) ∙ two-first s to src used s (wrong_edition s to src used) (last_rows s to src used out) (already-wrong s to src used e))
        (λ z. omega (arith, z))

    module _ (a : is_already s to src used ≡ false) where
      -- the rows with those of the check in front
      as-checked : first_row (convert_rows s to src used out)
          ≡ first_row (row 1 (bad_buffer src used || too_long out) ∷ limited_rows s (bad_header s src used) src used (last_rows s to src used out))
      as-checked = ap (λ (two : Bool). first_row (row 1 (bad_buffer src used || too_long out) ∷ limited_rows s two src used (last_rows s to src used out))) (not-wrong s to src used a)

      pub convert-checked : (n k : ℕ) → check_sort s src used ≡ record { number = n; k = k } → (n ≡ 0 → ⊥) → refusal n out ≡ convert_call s to src used out
      convert-checked n k e h = convert-row n (as-checked ∙ check-refuses src used n k s e h _ source-alone _) h

      checked-first : (n k : ℕ) → check_sort s src used ≡ record { number = n; k = k } → n ≡ 0 → first_row (convert_rows s to src used out) ≡ first_row (last_rows s to src used out)
      checked-first n k e z = as-checked ∙ check-accepts src used n k s e z _ source-alone _

-- WHAT IS LET THROUGH

module _ {s : Sort} {h : Header} {c src : List ℕ} {used : ℕ} (p : HeadedIn s h c src used) where
  pub headed-whole : contents_at (header_in src) ≤ length src
  headed-whole = held_whole s h p.header c src used p.within p.bytes

  headed-of : header_of src used ≡ h
  headed-of = held-header s h p.header c src used p.within p.bytes

  headed-as-read : (x : Header) → x ≡ header_in src → HeadedIn s x c src used
  headed-as-read x e = subst (λ (y : Header). HeadedIn s y c src used) (sym (e ∙ held-is s h p.header c src used p.within p.bytes)) p

  headed-other : (to : Conversion) → is_already s to src used ≡ false → kind_of s h ≡ kind_of s (converted_header to h) → ⊥
  headed-other to a e =
      eqb-false (kind_field (record_in src used)) (kind_of s (converted_header to (header_of src used))) (not-already s to src used a)
      (ap kind_field p.bytes ∙ kind_field-headed s h c ∙ e ∙ ap (λ (x : Header). kind_of s (converted_header to x)) (sym headed-of))

pub convertible : (s : Sort) (to : Conversion) (src : List ℕ) (used n k : ℕ) → length src ≤ 16384 → is_already s to src used ≡ false → check_sort s src used ≡ record { number = n; k = k } → n ≡ 0
    → Bytes src → (x : Header) → x ≡ header_in src → Convertible s to x src used
convertible s to src used n k low a e z hb x is =
    let v = check-holds src used n k s e z hb in
    let p : HeadedIn s x v.1 src used = headed-as-read v.2 x is in
    record {
      contents = v.1;
      holds = p;
      low = low;
      other = headed-other p to a;
      passes = λ out l. checked-first s to src used out (not-long out l) a n k e z;
    }

-- ROWS 17 AND 10, AND THE ANSWER: g is the header in the edition asked for, and n the length that code has computed

-- in either direction row 17 is the one test that code makes
last-rows : (s : Sort) (to : Conversion) (h : Header) (src : List ℕ) (used : ℕ) → header_of src used ≡ h → (kind_of s h ≡ kind_of s (converted_header to h) → ⊥) → (out : List ℕ)
    → first_row (last_rows s to src used out) ≡ first_row (row 17 (ltb (largest_of h) (largest_of (converted_header to h))) ∷ row 10 (too_short out (converted s to src used)) ∷ [])
last-rows s ToFirst h src used is other out =
    ap (λ (b : Bool). first_row (row 17 b ∷ row 10 (too_short out (converted s ToFirst src used)) ∷ [])) (small-ceiling h src used is)
last-rows s ToSecond h src used is other out =
    sym (first-skips 17 _ _ (le-ltb (largest_of h) (largest_of (converted_header ToSecond h)) (omega (arith, no-ceiling s h other))))

module _ {s : Sort} {to : Conversion} {h : Header} {src : List ℕ} {used : ℕ} (p : Convertible s to h src used) (g : Header) (becomes : g ≡ converted_header to h) (out : List ℕ) (low : length out ≤ 16384) where
  -- what answers
  abbrev moved : List ℕ
  moved = headed s g p.contents

  moved-is : converted s to src used ≡ moved
  moved-is = converted-in to p.holds ∙ ap (λ (x : Header). headed s x p.contents) (sym becomes)

  rows_left : first_row (convert_rows s to src used out) ≡ first_row (row 17 (ltb (largest_of h) (largest_of g)) ∷ row 10 (too_short out (converted s to src used)) ∷ [])
  rows_left =
      p.passes out low ∙ last-rows s to h src used (headed-of p.holds) p.other out
      ∙ ap (λ (x : Header). first_row (row 17 (ltb (largest_of h) (largest_of x)) ∷ row 10 (too_short out (converted s to src used)) ∷ [])) (sym becomes)

  pub convert-seventeen : largest_of h < largest_of g → refusal 17 out ≡ convert_call s to src used out
  convert-seventeen l = convert-row s to src used out 17 (rows_left ∙ first-applies 17 _ _ (lt-ltb (largest_of h) (largest_of g) l)) (λ z. omega (arith, z))

  module _ (high : largest_of g ≤ largest_of h) (n : ℕ) (e : n ≡ contents_at g + length p.contents) where
    is-length : n ≡ length moved
    is-length = e ∙ sym (length-headed s g p.contents)

    ten-left : first_row (convert_rows s to src used out) ≡ first_row (row 10 (too_short out (converted s to src used)) ∷ [])
    ten-left = rows_left ∙ first-skips 17 _ _ (le-ltb (largest_of h) (largest_of g) high)

    pub convert-ten : length out < n → refusal 10 out ≡ convert_call s to src used out
    convert-ten l =
        convert-row s to src used out 10
        (ten-left ∙ first-applies 10 _ [] (ap (too_short out) moved-is ∙ short-out out moved (omega (arith, is-length, l))))
        (λ z. omega (arith, z))

    pub convert-zero : n ≤ length out → (after : List ℕ) → after ≡ padded (length out) moved → record { number = 0; used = n; written = after } ≡ convert_call s to src used out
    unfolding convert_call
    convert-zero l after a =
        let z : first_row (convert_rows s to src used out) ≡ 0 =
        ten-left ∙ none_first (row 10 (too_short out (converted s to src used)) ∷ []) (ap (too_short out) moved-is ∙ fits_out out moved (omega (arith, is-length, l)), tt) in
        ap (λ (m : ℕ). record { number = 0; used = m; written = after }) is-length
        ∙ ap (λ (b : List ℕ). record { number = 0; used = length moved; written = b }) a
        ∙ sym (wrote-accepted (first_row (convert_rows s to src used out)) (converted s to src used) out z
        ∙ ap (λ (b : List ℕ). record { number = 0; used = length b; written = padded (length out) b }) moved-is)
