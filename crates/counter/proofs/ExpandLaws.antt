-- One law for each way out of the writing out: row 1 by the output, a row of the check, row 10, and the record.
use Prim.Native.Nat.{◌+◌, ◌-◌, ◌<◌, ◌≤◌, ℕ}
use mathlib.Core.Path.{ap, refl, sym, ◌∙◌, ◌≡◌}
use mathlib.Core.Bool.{Bool, false, true, ◌||◌}
use mathlib.Core.List.{List, [], ◌∷◌}
use lib.Dec.{leb}
use lib.ListN.{length}
use native.Mathlib.Omega.{arith}
use borrow.Author.Tests.{le-leb, leb-false, leb-true, lt-leb}
use Rattle.buffer.specs.Slice.{put, zeros}
use Rattle.buffer.proofs.StoresLaws.{stores-3}
use Rattle.record.specs.Answers.{padded, too_short}
use Rattle.record.specs.declared.Header.{Header}
use Rattle.record.specs.Header.{contents_at, encode_program, program}
use Rattle.record.specs.Program.{block_size, encode_block}
use Rattle.record.specs.Rows.{bad_buffer, first_row, program_rows, row, too_long}
use Rattle.record.proofs.HeaderLaws.{length-encode_program}
use Rattle.record.proofs.PaddedLaws.{written-padded}
use Rattle.record.proofs.RowLaws.{first-applies, first-before, or_right, or-true}
use Rattle.rules.specs.Syntax.{Block}
use Rattle.place.specs.Heads.{record_head}
use Rattle.place.specs.Whole.{header}
use Rattle.place.proofs.HeadsLaws.{length-record_head}
use Rattle.place.proofs.WholeLaws.{encode_program-header, length-header, program-at, program-used}
use Rattle.term.proofs.AnsweredLaws.{refusal}
use Rattle.counting.specs.Counting.{State, expand}
use Rattle.counting.specs.CountingCall.{counting_rows, expand_call, expand_rows, expanded, state_rows}
use Rattle.counting.specs.CountingMeaning.{Passes}
use Rattle.counting.specs.Size.{expand_size}
use Rattle.counting.proofs.ExpandCallLaws.{expand-is, expand-number, expand-refused, expand-ten}
use Rattle.counting.proofs.SizeLaws.{size-expand}
use Rattle.expansion.specs.Walk.{Given}

-- ROOM, by what is left of it behind the first bytes

pub no_room : (room start size : ℕ) → room < start → false ≡ leb (start + size) room
no_room room start size h = sym (lt-leb (start + size) room (omega arith))

pub room-behind : (room start size : ℕ) → start ≤ room → leb size (room - start) ≡ leb (start + size) room
room-behind room start size h = go (leb (start + size) room) refl
  where
    go : (b : Bool) → leb (start + size) room ≡ b → leb size (room - start) ≡ b
    go true e = le-leb size (room - start) (omega (arith, leb-true (start + size) room e))
    go false e = lt-leb size (room - start) (omega (arith, leb-false (start + size) room e))

-- WHERE NOTHING IS WRITTEN

module _ (buf : List ℕ) (used : ℕ) (words store out : List ℕ) where
  refuses : (n : ℕ) → first_row (expand_rows buf used words store out) ≡ n → (n ≡ 0 → ⊥) → refusal n out ≡ expand_call buf used words store out
  refuses n e h =
      sym (expand-refused buf used words store out (λ z. h (sym e ∙ z)) ∙ ap (λ (m : ℕ). record { number = m; used = 0; written = out }) e)

  pub gives_one : too_long out ≡ true → refusal 1 out ≡ expand_call buf used words store out
  gives_one l = refuses 1 (first-applies 1 (bad_buffer buf used || too_long out) _ (or-true (bad_buffer buf used) (too_long out) l)) (λ z. omega (arith, z))

  -- the rows of the check come first
  pub gives-number : too_long out ≡ false → (n : ℕ) → n ≡ first_row (counting_rows buf used words store) → (n ≡ 0 → ⊥) → refusal n out ≡ expand_call buf used words store out
  gives-number l n e h =
      refuses n
      (ap (λ (b : Bool). first_row (row 1 b ∷ program_rows buf used (state_rows buf used words store (row 10 (too_short out (expanded buf used words)) ∷ [])))) (or_right (bad_buffer buf used) (too_long out) l)
      ∙ first-before (counting_rows buf used words store) (row 10 (too_short out (expanded buf used words)) ∷ []) (λ z. h (e ∙ z)) ∙ sym e) h

-- THE ANSWER, of what the check lets through

module _ {h : Header} {P : Block} {buf : List ℕ} {used : ℕ} {words store : List ℕ} {s : State} (a : Passes h P buf used words store s) where
  pub given : (start : ℕ) → start ≡ contents_at h + 4 → Given buf used words start P s
  given start e = record { stands = rw e (program-at a.program a.low); ends = omega (arith, program-used a.program, e); holds = a.state }

  pub start-low : contents_at h + 4 ≤ 16384
  start-low = omega (arith, program-used a.program, a.program.within, a.low)

  -- of a record of its length
  pub record-room : (total : ℕ) → total ≡ length (encode_program h (expand s)) → contents_at h + 4 ≤ total
  record-room total e = omega (arith, length-encode_program h (expand s))

  pub size_room : (total : ℕ) → total ≡ length (encode_program h (expand s)) → contents_at h + 4 + expand_size s ≡ total
  size_room total e = omega (arith, length-encode_program h (expand s), size-expand s)

  -- its length, measured
  pub total-is : (start size : ℕ) → start ≡ contents_at h + 4 → size ≡ expand_size s → start + size ≡ length (encode_program h (expand s))
  total-is start size e f = omega (arith, length-encode_program h (expand s), size-expand s)

  module _ (out : List ℕ) (lo : length out ≤ 16384) (start size : ℕ) (e : start ≡ contents_at h + 4) (f : size ≡ expand_size s) (fits : Bool) (g : fits ≡ leb (start + size) (length out)) where
    pub gives-ten : fits ≡ false → refusal 10 out ≡ expand_call buf used words store out
    gives-ten n =
        let longer : length out < length (encode_program h (expand s)) = omega (arith, total-is start size e f, leb-false (start + size) (length out) (sym g ∙ n)) in
        refuses buf used words store out 10 (sym (expand-number buf used words store out) ∙ (expand-ten a out lo).1 longer) (λ z. omega (arith, z))

    pub roomy : fits ≡ true → start + size ≤ length out
    roomy t = leb-true (start + size) (length out) (sym g ∙ t)

    pub gives-record : fits ≡ true → (after : List ℕ) → after ≡ padded (length out) (encode_program h (expand s)) → record { number = 0; used = start + size; written = after } ≡ expand_call buf used words store out
    gives-record t after w =
        let same = total-is start size e f in
        ap (λ (m : ℕ). record { number = 0; used = m; written = after }) same
        ∙ ap (λ (b : List ℕ). record { number = 0; used = length (encode_program h (expand s)); written = b }) w
        ∙ sym (expand-is a out lo (omega (arith, same, roomy t)))

-- THE RECORD: the header, the head of the outermost block, its commands, and zeros behind
pub record-stores : (h : Header) (t : Block) (out out₁ out₂ out₃ out₄ : List ℕ) (total contents room : ℕ) → total ≡ length (encode_program h t) → contents ≡ contents_at h
    → total ≤ length out → room ≡ length out → out₁ ≡ put out 0 (header program h total) → out₂ ≡ put out₁ contents (record_head 1 (total - contents))
    → out₃ ≡ put out₂ (contents + 4) (encode_block t) → out₄ ≡ put out₃ total (zeros (room - total)) → out₄ ≡ padded (length out) (encode_program h t)
record-stores h t out out₁ out₂ out₃ out₄ total contents room e ec fits er e₁ e₂ e₃ e₄ =
    let size : total - contents ≡ 4 + block_size t = omega (arith, length-encode_program h t) in
    let all : out₃ ≡ put out 0 (encode_program h t) =
    stores-3 out out₁ out₂ out₃ (header program h total) (record_head 1 (4 + block_size t)) (encode_block t) 0 contents (contents + 4) e₁ (e₂ ∙ ap (λ (m : ℕ). put out₁ contents (record_head 1 m)) size) e₃
    (omega (arith, length-header program h total)) (omega (arith, length-record_head 1 (4 + block_size t))) (omega (arith, length-encode_program h t))
    ∙ ap (put out 0) (sym (encode_program-header h t total e)) in
    written-padded out out₃ out₄ (encode_program h t) total (sym e) fits all (e₄ ∙ ap (λ (m : ℕ). put out₃ total (zeros (m - total))) er)
