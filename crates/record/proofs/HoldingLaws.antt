-- A program's or a term's record in a buffer: what the rows and the readings say of it, and that what passes the rows is one.
use Prim.Native.Nat.{◌<◌, ℕ, ◌≤◌}
use mathlib.Core.Path.{ap, ap₂, refl, subst, sym, ◌∙◌, ◌≡◌}
use mathlib.Core.Logic.{◌↔◌}
use mathlib.Core.Bool.{Bool, false, not, true}
use mathlib.Core.List.{List, [], ◌∷◌}
use mathlib.Core.Option.{some}
use borrow.Author.Tests.{not-false}
use lib.ListN.{length, take}
use lib.Seq.{length-take-le}
use native.Mathlib.Omega.{arith}
use Rattle.buffer.specs.LittleEndian.{Bytes}
use Rattle.rules.specs.FreeVariables.{Vars, all_vars, closed}
use Rattle.rules.specs.Literals.{literals_in, numerals_in, small_values}
use Rattle.rules.specs.Scope.{BlockWithin, block_in_range, term_in_range}
use Rattle.rules.specs.Sound.{SmallBlock, SmallValues, SoundTerm}
use Rattle.rules.specs.Syntax.{Atom, Block, Term, empty, tuple}
use Rattle.rules.proofs.FreeVariablesLaws.{all_closed}
use Rattle.rules.proofs.LiteralsLaws.{literals-small, small-literals, small-small_values, small_values-small, sound-numerals}
use Rattle.rules.proofs.ScopeLaws.{block_in_range-within, within-block_in_range}
use Rattle.rules.proofs.SoundTermLaws.{sound-in_range}
use Rattle.record.specs.Answers.{Checked, check_program, check_program_rows, check_term, check_term_rows, checked_by, padded}
use Rattle.record.specs.declared.Header.{Header}
use Rattle.record.specs.Header.{HeaderFits, block_bytes, block_in, contents, contents_at, encode_program, encode_term, headed, header_in, k_field, largest_of, ok_of, program, term, term_in}
use Rattle.record.specs.Holding.{IsProgram, ProgramIn, TermIn}
use Rattle.record.specs.Program.{BlockWords}
use Rattle.record.specs.Rows.{NoRow, Row, bad_block, bad_buffer, bad_header, bad_store, bad_term, block_above, block_of, block_outside, finished_term, first_row, header_of, k_of, limited_program_rows, limited_term_rows, open_term, program_of, program_rows, row, term_above, term_of, term_outside, the_term_of, unfinished, values_above}
use Rattle.record.specs.Term.{TermWords, encode_term_record}
use Rattle.record.proofs.AnswerLaws.{check-program-number, checked-accepted, checked-number}
use Rattle.record.proofs.PaddedLaws.{fits-padded, take-padded}
use Rattle.record.proofs.HeaderLaws.{block_in-bytes, block_in-sound, header_in-headed, k_field-headed, length-block_bytes, length-encode_term_record, ok-word, term_in-bytes, term_in-sound}
use Rattle.record.proofs.HeldLaws.{bytes-contents, good-buffer, good-eight, good-header, good-k, good-store, good-values, header-fits, header-whole, held-contents, held-header, held-is, held-k, held-passes, held-size, held-used, held_whole, take-fits}
use Rattle.record.proofs.RowLaws.{first-behind, first-none, holds-some, is_some, is_none-some, none_first, none-split, not-intro, numbered, or_else-some}
use Rattle.record.proofs.WordsLaws.{block_words, sound-words, words-sound}

word-k : (h : Header) → HeaderFits h → h.k < 4294967296
word-k h f = omega (arith, f.k-high)

-- WHAT ROW 1 AND A RECORD'S ROWS LET THROUGH, n the used length that is lent and `more` the rows behind: the buffer is not too
-- long, the used length is the record's own, and none of the rows behind applies
pub record Passed (buf : List ℕ) (used n : ℕ) (more : List Row) : Type 0 where
  pub low : length buf ≤ 16384
  pub same : n ≡ used
  pub behind : NoRow more

-- A BLOCK'S RECORD IN A BUFFER, whatever its variables and its literals are

pub record BlockHeld (h : Header) (P : Block) (buf : List ℕ) (used : ℕ) : Type 0 where
  pub within : used ≤ length buf
  pub header : HeaderFits h
  pub bytes : take used buf ≡ encode_program h P
  pub words : BlockWords P

module _ {h : Header} {P : Block} {buf : List ℕ} {used : ℕ} (b : BlockHeld h P buf used) where
  pub block-headed : take used buf ≡ headed program h (block_bytes P)
  unfolding encode_program
  block-headed = b.bytes

  pub block-size : used ≡ length (encode_program h P)
  block-size = sym (length-take-le used buf b.within) ∙ ap length b.bytes

  block-header : header_of buf used ≡ h
  block-header = held-header program h b.header (block_bytes P) buf used b.within block-headed

  -- the header as code reads it from the buffer
  pub block-whole : contents_at (header_in buf) ≤ length buf
  block-whole = held_whole program h b.header (block_bytes P) buf used b.within block-headed

  block_read : header_in buf ≡ h
  block_read = held-is program h b.header (block_bytes P) buf used b.within block-headed

  pub block-as-read : (x : Header) → x ≡ header_in buf → BlockHeld x P buf used
  block-as-read x e = subst (λ (y : Header). BlockHeld y P buf used) (sym (e ∙ block_read)) b

  -- the used length that row 2 lets through is the record's own
  block-used : (n : ℕ) → length buf ≤ 16384 → bad_header program buf n ≡ false → n ≡ used
  block-used n l e = held-used program h b.header (block_bytes P) buf used b.within block-headed n l (good-header program buf n e)

  pub block-is : length buf ≤ 16384 → block_of buf used ≡ some P
  block-is l =
      ap block_in (held-contents program h b.header (block_bytes P) buf used b.within block-headed)
      ∙ block_in-bytes P b.words (omega (arith, held-size program h b.header (block_bytes P) buf used b.within block-headed, length-block_bytes P))

-- what rows 1 to 5 let through is a block's record
pub passes-block : (buf : List ℕ) (used : ℕ) → Bytes buf → NoRow (row 1 (bad_buffer buf used) ∷ program_rows buf used []) → (P : Block) × BlockHeld (header_of buf used) P buf used
unfolding bad_block encode_program
passes-block buf used hb r =
    let b = good-buffer buf used r.0 in
    let g = good-header program buf used r.1.0 in
    let o = is_some (block_of buf used) r.1.1.1.0 in
    let s = block_in-sound (contents (take used buf)) o.0 (bytes-contents used buf hb) o.1 in (
      o.0,
      record {
        within = b.within;
        header = header-fits program buf used hb b g r.1.1.0;
        bytes = header-whole program buf used hb b g ∙ ap (headed program (header_of buf used)) s.0;
        words = s.1;
      },
    )

-- A PROGRAM IN A BUFFER

module _ {h : Header} {P : Block} {buf : List ℕ} {used : ℕ} (p : ProgramIn h P buf used) where
  pub program-words : BlockWords P
  program-words = block_words (ok_of h) (ok-word h p.header) h.k P (word-k h p.header) p.is_program.variables p.is_program.literals

  pub program-held : BlockHeld h P buf used
  program-held = record { within = p.within; header = p.header; bytes = p.bytes; words = program-words }

  pub program-size : used ≡ length (encode_program h P)
  program-size = block-size program-held

  -- the same record in another buffer
  pub program-elsewhere : (other : List ℕ) → take used other ≡ encode_program h P → ProgramIn h P other used
  program-elsewhere other e = record {
    within = take-fits used other (ap length e ∙ sym program-size);
    header = p.header;
    bytes = e;
    is_program = p.is_program;
  }

  pub program-header : header_of buf used ≡ h
  program-header = block-header program-held

  pub program-k : k_of buf used ≡ h.k
  program-k = ap (λ (x : Header). x.k) program-header

  pub program-whole : contents_at (header_in buf) ≤ length buf
  program-whole = block-whole program-held

  pub program-as-read : (x : Header) → x ≡ header_in buf → ProgramIn x P buf used
  program-as-read x e = subst (λ (y : Header). ProgramIn y P buf used) (sym (e ∙ block_read program-held)) p

  module _ (l : length buf ≤ 16384) where
    pub program-block : block_of buf used ≡ some P
    program-block = block-is program-held l

    pub program-is : program_of buf used ≡ P
    program-is = or_else-some empty (block_of buf used) P program-block

    -- rows 1 to 5 do not apply
    pub five-passes : (more : List Row) → NoRow more → NoRow (row 1 (bad_buffer buf used) ∷ program_rows buf used more)
    unfolding bad_block block_outside
    five-passes =
        let v : block_in_range (k_of buf used) P ≡ true = rw program-k (within-block_in_range h.k P p.is_program.variables) in
        held-passes program h p.header (block_bytes P) buf used p.within (block-headed program-held) l (is_none-some (block_of buf used) P program-block)
        (holds-some (λ t. not (block_in_range (k_of buf used) t)) (block_of buf used) P program-block ∙ not-intro v)

    -- nor does row 15
    pub program-below : block_above buf used ≡ false
    unfolding block_above
    program-below =
        let ok = ok_of (header_of buf used) in
        holds-some (λ t. not (small_values ok (literals_in t))) (block_of buf used) P program-block
        ∙ not-intro (small-small_values ok (literals_in P) (small-literals ok P (subst (λ (x : Header). SmallBlock (ok_of x) P) (sym program-header) p.is_program.literals)))

    pub program-passes : (more : List Row) → NoRow more → NoRow (row 1 (bad_buffer buf used) ∷ limited_program_rows buf used more)
    program-passes more m = five-passes (row 15 (block_above buf used) ∷ more) (program-below, m)

    -- so the first row that applies is a later one. `one` is row 1 of the call, which may look at an output buffer as well
    pub five-first : (one : Bool) → one ≡ bad_buffer buf used → (more : List Row) → first_row (row 1 one ∷ program_rows buf used more) ≡ first_row more
    five-first one e more = let r = five-passes [] tt in first-behind (row 1 one ∷ program_rows buf used []) more (e ∙ r.0, r.1)

    pub program-first : (one : Bool) → one ≡ bad_buffer buf used → (more : List Row) → first_row (row 1 one ∷ limited_program_rows buf used more) ≡ first_row more
    program-first one e more = let r = program-passes [] tt in first-behind (row 1 one ∷ limited_program_rows buf used []) more (e ∙ r.0, r.1)

  -- and where no row applies, with whatever used length, it is the record's own, and no later row applies
  pub five-passed : (n : ℕ) (one : Bool) → (one ≡ false → bad_buffer buf n ≡ false) → (more : List Row) → NoRow (row 1 one ∷ program_rows buf n more) → Passed buf used n more
  five-passed n one f more r =
      let low = (good-buffer buf n (f r.0)).low in
      record { low = low; same = block-used program-held n low r.1.0; behind = (none-split (program_rows buf n []) more r.1).1 }

  pub program-passed : (n : ℕ) (one : Bool) → (one ≡ false → bad_buffer buf n ≡ false) → (more : List Row) → NoRow (row 1 one ∷ limited_program_rows buf n more) → Passed buf used n more
  program-passed n one f more r =
      let q = five-passed n one f (row 15 (block_above buf n) ∷ more) r in
      record { low = q.low; same = q.same; behind = q.behind.1 }

-- what rows 1 to 5 let through says its length and its k
pub passed_length : (buf : List ℕ) (used : ℕ) → NoRow (check_program_rows buf used) → 8 ≤ used
passed_length buf used r = good-eight (good-header program buf used r.1.0)

pub passed-k : (buf : List ℕ) (used : ℕ) → NoRow (check_program_rows buf used) → k_of buf used ≤ 16
passed-k buf used r = (good-k buf used r.1.1.0).1

-- what passes rows 1 to 5 and 15 is a program's record
pub passes-program : (buf : List ℕ) (used : ℕ) → Bytes buf → NoRow (check_program_rows buf used) → (P : Block) × ProgramIn (header_of buf used) P buf used
unfolding block_outside block_above
passes-program buf used hb r =
    let five = none-split (row 1 (bad_buffer buf used) ∷ program_rows buf used []) (row 15 (block_above buf used) ∷ []) r in
    let q = passes-block buf used hb five.0 in
    let P : Block = q.0 in
    let is : block_of buf used ≡ some P = block-is q.1 (good-buffer buf used r.0).low in
    let v : not (block_in_range (k_of buf used) P) ≡ false =
    sym (holds-some (λ t. not (block_in_range (k_of buf used) t)) (block_of buf used) P is) ∙ r.1.1.1.1.0 in
    let ok = ok_of (header_of buf used) in
    let w : not (small_values ok (literals_in P)) ≡ false =
    sym (holds-some (λ t. not (small_values ok (literals_in t))) (block_of buf used) P is) ∙ five.1.0 in (
      P,
      record {
        within = q.1.within;
        header = q.1.header;
        bytes = q.1.bytes;
        is_program = record {
          variables = block_in_range-within (k_of buf used) P (not-false (block_in_range (k_of buf used) P) v);
          literals = literals-small ok P (small_values-small ok (literals_in P) (not-false (small_values ok (literals_in P)) w));
        };
      },
    )

-- A TERM IN A BUFFER

module _ {S : Vars} {h : Header} {t : Term} {buf : List ℕ} {used : ℕ} (p : TermIn S h t buf used) where
  pub term-words : TermWords h.k t
  term-words = sound-words (ok_of h) (ok-word h p.header) h.k S t (word-k h p.header) p.sound

  pub term-headed : take used buf ≡ headed term h (encode_term_record t)
  unfolding encode_term
  term-headed = p.bytes

  pub term-size : used ≡ length (encode_term h t)
  term-size = sym (length-take-le used buf p.within) ∙ ap length p.bytes

  pub term-k : k_of buf used ≡ h.k
  term-k = held-k term h p.header (encode_term_record t) buf used p.within term-headed

  pub term-header : header_of buf used ≡ h
  term-header = held-header term h p.header (encode_term_record t) buf used p.within term-headed

  pub term-whole : contents_at (header_in buf) ≤ length buf
  term-whole = held_whole term h p.header (encode_term_record t) buf used p.within term-headed

  pub term-as-read : (x : Header) → x ≡ header_in buf → TermIn S x t buf used
  term-as-read x e = subst (λ (y : Header). TermIn S y t buf used) (sym (e ∙ held-is term h p.header (encode_term_record t) buf used p.within term-headed)) p

  term-used : (n : ℕ) → length buf ≤ 16384 → bad_header term buf n ≡ false → n ≡ used
  term-used n l e = held-used term h p.header (encode_term_record t) buf used p.within term-headed n l (good-header term buf n e)

  module _ (l : length buf ≤ 16384) where
    pub term-some : term_of buf used ≡ some t
    term-some =
        ap₂ term_in term-k (held-contents term h p.header (encode_term_record t) buf used p.within term-headed)
        ∙ term_in-bytes h.k t term-words (omega (arith, held-size term h p.header (encode_term_record t) buf used p.within term-headed, length-encode_term_record t))

    pub term_is : the_term_of buf used ≡ t
    term_is = or_else-some (tuple []) (term_of buf used) t term-some

    term-below : term_above buf used ≡ false
    unfolding term_above
    term-below =
        let ok = ok_of (header_of buf used) in
        let v : SmallValues ok (numerals_in t) =
        subst (λ (x : Header). SmallValues (ok_of x) (numerals_in t)) (sym term-header) (sound-numerals (ok_of h) h.k S t p.sound) in
        holds-some (λ u. not (small_values ok (numerals_in u))) (term_of buf used) t term-some ∙ not-intro (small-small_values ok (numerals_in t) v)

    pub term-passes : (more : List Row) → NoRow more → NoRow (row 1 (bad_buffer buf used) ∷ limited_term_rows buf used more)
    unfolding bad_term term_outside
    term-passes more m =
        let v : term_in_range (k_of buf used) t ≡ true = rw term-k (sound-in_range (ok_of h) h.k S t p.sound) in
        held-passes term h p.header (encode_term_record t) buf used p.within term-headed l (is_none-some (term_of buf used) t term-some)
        (holds-some (λ u. not (term_in_range (k_of buf used) u)) (term_of buf used) t term-some ∙ not-intro v) (row 15 (term_above buf used) ∷ more) (term-below, m)

    pub term-first : (one : Bool) → one ≡ bad_buffer buf used → (more : List Row) → first_row (row 1 one ∷ limited_term_rows buf used more) ≡ first_row more
    term-first one e more = let r = term-passes [] tt in first-behind (row 1 one ∷ limited_term_rows buf used []) more (e ∙ r.0, r.1)

    -- rows 7 and 8 of the term that stands there
    pub term-open : open_term buf used ≡ not (closed t)
    unfolding open_term
    term-open = holds-some (λ u. not (closed u)) (term_of buf used) t term-some

    pub term-unfinished : unfinished buf used ≡ not (finished_term t)
    unfolding unfinished
    term-unfinished = holds-some (λ u. not (finished_term u)) (term_of buf used) t term-some

  pub term-passed : (n : ℕ) (one : Bool) → (one ≡ false → bad_buffer buf n ≡ false) → (more : List Row) → NoRow (row 1 one ∷ limited_term_rows buf n more) → Passed buf used n more
  term-passed n one f more r =
      let low = (good-buffer buf n (f r.0)).low in
      record { low = low; same = term-used n low r.1.0; behind = (none-split (limited_term_rows buf n []) more r.1).1 }

-- a tuple is finished
pub tuple-finished : (l : List Atom) → finished_term (tuple l) ≡ true
unfolding finished_term
tuple-finished l = refl

-- what passes rows 1 to 5 and 15 is a term's record
pub passes-term : (buf : List ℕ) (used : ℕ) → Bytes buf → NoRow (check_term_rows buf used) → (t : Term) × TermIn all_vars (header_of buf used) t buf used
unfolding bad_term term_outside term_above encode_term
passes-term buf used hb r =
    let b = good-buffer buf used r.0 in
    let g = good-header term buf used r.1.0 in
    let o = is_some (term_of buf used) r.1.1.1.0 in
    let s = term_in-sound (k_of buf used) (contents (take used buf)) o.0 (bytes-contents used buf hb) o.1 in
    let v : not (term_in_range (k_of buf used) o.0) ≡ false =
    sym (holds-some (λ t. not (term_in_range (k_of buf used) t)) (term_of buf used) o.0 o.1) ∙ r.1.1.1.1.0 in
    let ok = ok_of (header_of buf used) in
    let w : not (small_values ok (numerals_in o.0)) ≡ false =
    sym (holds-some (λ t. not (small_values ok (numerals_in t))) (term_of buf used) o.0 o.1) ∙ r.1.1.1.1.1.0 in (
      o.0,
      record {
        within = b.within;
        header = header-fits term buf used hb b g r.1.1.0;
        bytes = header-whole term buf used hb b g ∙ ap (headed term (header_of buf used)) s.0;
        sound = words-sound ok (k_of buf used) all_vars o.0 s.1 (small_values-small ok (numerals_in o.0) (not-false (small_values ok (numerals_in o.0)) w))
            (not-false (term_in_range (k_of buf used) o.0) v) (all_closed o.0);
      },
    )

-- THE CHECKER accepts exactly the records of programs and of terms

-- no row of a check applies that accepts, and k is the header's
accepted-by : (rows : List Row) (j k : ℕ) → numbered rows ≡ true → checked_by (first_row rows) j ≡ record { number = 0; k = k } → NoRow rows × (j ≡ k)
accepted-by rows j k q e =
    let z : first_row rows ≡ 0 = sym (checked-number (first_row rows) j) ∙ ap (λ (c : Checked). c.number) e in
    (first-none rows q z, ap (λ (c : Checked). c.k) (sym (checked-accepted (first_row rows) j z) ∙ e))

pub program-checked : {h : Header} {P : Block} {buf : List ℕ} {used : ℕ} → ProgramIn h P buf used → length buf ≤ 16384 → check_program buf used ≡ record { number = 0; k = h.k }
unfolding check_program
program-checked {h} {P} {buf} {used} p l =
    checked-accepted (first_row (check_program_rows buf used)) (k_of buf used) (none_first (check_program_rows buf used) (program-passes p l [] tt))
    ∙ ap (λ (n : ℕ). record { number = 0; k = n }) (program-k p)

pub check-program : (k : ℕ) (buf : List ℕ) (used : ℕ) → Bytes buf
    → (check_program buf used ≡ record { number = 0; k = k }) ↔ ((length buf ≤ 16384) × ((h : Header) × (P : Block) × (h.k ≡ k) × ProgramIn h P buf used))
unfolding check_program
check-program k buf used hb = (
  (λ e.
      let r = accepted-by (check_program_rows buf used) (k_of buf used) k refl e in
      let p = passes-program buf used hb r.0 in
      ((good-buffer buf used r.0.0).low, (header_of buf used, p.0, r.1, p.1))),
  (λ v. program-checked v.1.3 v.0 ∙ ap (λ (n : ℕ). record { number = 0; k = n }) v.1.2),
)

pub check-term : (k : ℕ) (buf : List ℕ) (used : ℕ) → Bytes buf
    → (check_term buf used ≡ record { number = 0; k = k }) ↔ ((length buf ≤ 16384) × ((h : Header) × (t : Term) × (h.k ≡ k) × TermIn all_vars h t buf used))
unfolding check_term
check-term k buf used hb = (
  (λ e.
      let r = accepted-by (check_term_rows buf used) (k_of buf used) k refl e in
      let p = passes-term buf used hb r.0 in
      ((good-buffer buf used r.0.0).low, (header_of buf used, p.0, r.1, p.1))),
  (λ v.
      let p = v.1.3 in
      checked-accepted (first_row (check_term_rows buf used)) (k_of buf used) (none_first (check_term_rows buf used) (term-passes p v.0 [] tt))
      ∙ ap (λ (n : ℕ). record { number = 0; k = n }) (term-k p ∙ v.1.2)),
)

-- a buffer that it accepts is not too long, and a header whose k it gives has passed, where its ceiling takes 4 bytes
pub checked-low : (buf : List ℕ) (used : ℕ) → (check_program buf used).number ≡ 0 → length buf ≤ 16384
checked-low buf used e = (good-buffer buf used (first-none (check_program_rows buf used) refl (sym (check-program-number buf used) ∙ e)).0).low

pub checked-fits : (h : Header) (buf : List ℕ) (used : ℕ) → check_program buf used ≡ record { number = 0; k = h.k } → largest_of h < 4294967296 → HeaderFits h
unfolding check_program
checked-fits h buf used e w =
    let r = accepted-by (check_program_rows buf used) (k_of buf used) h.k refl e in
    let g = good-k buf used r.0.1.1.0 in
    record { k-low = omega (arith, r.1, g.0); k-high = omega (arith, r.1, g.1); largest-word = w }

-- A RECORD WITH ZEROS BEHIND IT, in a buffer that has room for it

pub padded-program : (h : Header) (P : Block) (n : ℕ) → HeaderFits h → IsProgram h P → ProgramIn h P (padded n (encode_program h P)) (length (encode_program h P))
padded-program h P n f p = record {
  within = fits-padded n (encode_program h P);
  header = f;
  bytes = take-padded n (encode_program h P);
  is_program = p;
}

pub padded-term : (S : Vars) (h : Header) (t : Term) (n : ℕ) → HeaderFits h → SoundTerm (ok_of h) h.k S t
    → TermIn S h t (padded n (encode_term h t)) (length (encode_term h t))
padded-term S h t n f s = record {
  within = fits-padded n (encode_term h t);
  header = f;
  bytes = take-padded n (encode_term h t);
  sound = s;
}

-- WHERE THE CHECKER ACCEPTS a record whose tree is known, though the buffer's elements are not known to be bytes

pub checked-holds : (h : Header) (P : Block) (buf : List ℕ) (used : ℕ) → HeaderFits h → (check_program buf used).number ≡ 0
    → take used buf ≡ encode_program h P → BlockWords P → ProgramIn h P buf used
unfolding check_program block_outside block_above encode_program
checked-holds h P buf used f e held words =
    let z : first_row (check_program_rows buf used) ≡ 0 =
    sym (checked-number (first_row (check_program_rows buf used)) (k_of buf used)) ∙ e in
    let r = first-none (check_program_rows buf used) refl z in
    let b = good-buffer buf used r.0 in
    let is-h : header_of buf used ≡ h = held-header program h f (block_bytes P) buf used b.within held in
    let block : block_of buf used ≡ some P =
    ap block_in (held-contents program h f (block_bytes P) buf used b.within held)
    ∙ block_in-bytes P words (omega (arith, held-size program h f (block_bytes P) buf used b.within held, length-block_bytes P, b.low, b.within)) in
    let v : not (block_in_range (k_of buf used) P) ≡ false =
    sym (holds-some (λ t. not (block_in_range (k_of buf used) t)) (block_of buf used) P block) ∙ r.1.1.1.1.0 in
    let ok = ok_of (header_of buf used) in
    let w : not (small_values ok (literals_in P)) ≡ false =
    sym (holds-some (λ t. not (small_values ok (literals_in t))) (block_of buf used) P block) ∙ r.1.1.1.1.1.0 in
    let small : SmallBlock ok P = literals-small ok P (small_values-small ok (literals_in P) (not-false (small_values ok (literals_in P)) w)) in
    record {
      within = b.within;
      header = f;
      bytes = held;
      is_program = record {
        variables = subst (λ (x : Header). BlockWithin x.k P) is-h (block_in_range-within (k_of buf used) P (not-false (block_in_range (k_of buf used) P) v));
        literals = subst (λ (x : Header). SmallBlock (ok_of x) P) is-h small;
      };
    }

-- the k of a term's record, and the size of a store that row 6 lets through
pub store-size : (h : Header) (t : Term) (buf : List ℕ) (used : ℕ) (store : List ℕ) → HeaderFits h → take used buf ≡ encode_term h t → bad_store buf used store ≡ false → length store ≡ h.k
unfolding encode_term
store-size h t buf used store f held e = good-store buf used store e ∙ ap k_field held ∙ k_field-headed term h (encode_term_record t) (word-k h f)

-- and its values, where row 16 lets them through
pub store-values : (h : Header) (t : Term) (buf : List ℕ) (used : ℕ) (store : List ℕ) → HeaderFits h → take used buf ≡ encode_term h t → values_above buf used store ≡ false
    → SmallValues (ok_of h) store
unfolding encode_term
store-values h t buf used store f held e =
    subst (λ (x : Header). SmallValues (ok_of x) store) (ap header_in held ∙ header_in-headed term h (encode_term_record t) f) (good-values buf used store e)
