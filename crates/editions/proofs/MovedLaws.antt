-- A record and the same record moved, in their buffers: as the call says it, and as trees.
use Prim.Native.Nat.{◌+◌, ℕ, ◌≤◌}
use mathlib.Core.Path.{ap, ap₂, refl, sym, ◌∙◌, ◌≡◌}
use mathlib.Core.Bool.{Bool, cond, false, true}
use mathlib.Core.List.{List, ◌∷◌}
use lib.ListN.{length, take}
use lib.Seq.{length-take-le}
use native.Mathlib.Omega.{arith}
use Rattle.buffer.specs.LittleEndian.{Bytes}
use Rattle.conversion.proofs.ConvertLaws.{RecordIn, convert-into, into-accepts, into-fits, program-moved, program-record, program-taken, term_moved, term-record, term-taken}
use Rattle.record.specs.Answers.{Wrote, padded}
use Rattle.record.specs.declared.Conversion.TheVariants.{ToFirst, ToSecond}
use Rattle.record.specs.declared.Header.{Header}
use Rattle.record.specs.declared.Sort.{Sort}
use Rattle.record.specs.Header.{block_bytes, headed, ok_of, program, term}
use Rattle.record.specs.Holding.{ProgramIn, TermIn}
use Rattle.record.specs.Rows.{Row, bad_buffer, bad_header, first_row, header_of, k_of, row}
use Rattle.record.specs.Term.{encode_term_record, same}
use Rattle.record.proofs.ConvertedLaws.{converted-ok, converted-start, other-used, program-headed, term-headed}
use Rattle.record.proofs.EditionLaws.{k-converted}
use Rattle.record.proofs.HeldLaws.{held-header, held-size}
use Rattle.record.proofs.PaddedLaws.{take-padded}
use Rattle.record.proofs.RowLaws.{first-applies, first-skips}
use Rattle.rules.specs.FreeVariables.{Vars, all_vars}
use Rattle.rules.specs.Syntax.{Block, Term}
use Rattle.editions.specs.SameEnds.{new, old}
use Rattle.editions.specs.SameRuns.{Moved}

-- IN BOTH EDITIONS: one thing held in two buffers, with such headers
pub record Both {A : Type 0} (In : Header → A → List ℕ → ℕ → Type 0) (h : Header) (x : A) (buf : List ℕ) (used : ℕ) (other : List ℕ) (n : ℕ) : Type 0 where
  pub first : In (old h) x buf used
  pub second : In (new h) x other n
  pub low : length buf ≤ 16384
  pub low_other : length other ≤ 16384

-- A term whatever its free variables.
abbrev pub SomeTermIn : Header → Term → List ℕ → ℕ → Type 0
SomeTermIn h t buf used = (S : Vars) × TermIn S h t buf used

abbrev pub Programs : Header → Block → List ℕ → ℕ → List ℕ → ℕ → Type 0
Programs h P buf used other n = Both ProgramIn h P buf used other n

abbrev pub Terms : Header → Term → List ℕ → ℕ → List ℕ → ℕ → Type 0
Terms h t buf used other n = Both SomeTermIn h t buf used other n

abbrev pub Records : Sort → Header → List ℕ → List ℕ → ℕ → List ℕ → ℕ → Type 0
Records s h c buf used other n = Both (RecordIn s) h c buf used other n

-- either is a record
pub program-records : {h : Header} {P : Block} {buf : List ℕ} {used : ℕ} {other : List ℕ} {n : ℕ} → Programs h P buf used other n → Records program h (block_bytes P) buf used other n
program-records p = record { first = program-record p.first p.low; second = program-record p.second p.low_other; low = p.low; low_other = p.low_other }

pub term-records : {h : Header} {t : Term} {buf : List ℕ} {used : ℕ} {other : List ℕ} {n : ℕ} → Terms h t buf used other n → Records term h (encode_term_record t) buf used other n
term-records p = record { first = term-record p.first.1 p.low; second = term-record p.second.1 p.low_other; low = p.low; low_other = p.low_other }

-- WHAT THE CALL WRITES stands in the other buffer, and the other way round

-- bytes that stand first in a buffer, where the padded ones are the same
stands-first : (n : ℕ) (other bytes : List ℕ) → n ≡ length bytes → length bytes ≤ length other → padded (length other) (take n other) ≡ padded (length other) bytes → take n other ≡ bytes
stands-first n other bytes size fits e =
    let long : length (take n other) ≡ n = length-take-le n other (omega arith) in
    sym (take-padded (length other) (take n other))
    ∙ ap₂ take (long ∙ size) e
    ∙ take-padded (length other) bytes

abbrev wrote : List ℕ → ℕ → List ℕ → Wrote
wrote other n bytes = record { number = 0; used = n; written = padded (length other) bytes }

stands : {s : Sort} (h : Header) {c buf : List ℕ} {used : ℕ} (other : List ℕ) (n : ℕ) → RecordIn s (old h) c buf used → Moved s buf used other n
    → (n ≤ length other) × (take n other ≡ headed s (new h) c) × (length other ≤ 16384)
stands {s} h {c} {buf} {used} other n p m =
    let bytes : List ℕ = headed s (new h) c in
    let a = into-accepts bytes other (ap (λ (x : Wrote). x.number) (sym (convert-into ToSecond h p other) ∙ m)) in
    let both : wrote other n (take n other) ≡ wrote other (length bytes) bytes = sym m ∙ convert-into ToSecond h p other ∙ into-fits bytes other a.0 a.1 in
    let size : n ≡ length bytes = ap (λ (x : Wrote). x.used) both in
    (omega (arith, size, a.1), stands-first n other bytes size a.1 (ap (λ (x : Wrote). x.written) both), a.0)

pub moves : {s : Sort} (h : Header) {c buf : List ℕ} {used : ℕ} {other : List ℕ} {n : ℕ} → RecordIn s (old h) c buf used → RecordIn s (new h) c other n → Moved s buf used other n
moves {s} h {c} {buf} {used} {other} {n} p q =
    let size : n ≡ length (headed s (new h) c) = sym (length-take-le n other q.holds.within) ∙ ap length q.holds.bytes in
    convert-into ToSecond h p other ∙ into-fits (headed s (new h) c) other q.low (omega (arith, size, q.holds.within)) ∙ ap₂ (wrote other) (sym size) (sym q.holds.bytes)

pub programs-of : (buf : List ℕ) (used : ℕ) (other : List ℕ) (n : ℕ) → Bytes buf → Moved program buf used other n → (h : Header) × (P : Block) × Programs h P buf used other n
programs-of buf used other n hb m =
    let q = program-taken ToSecond buf used other hb (ap (λ (w : Wrote). w.number) m) in
    let h : Header = q.1.0 in
    let P : Block = q.1.1 in
    let w = stands h other n (program-record q.1.2 q.0) m in
    let model = program-moved ToSecond h q.1.2 0 in
    let there : ProgramIn (new h) P other n = record { within = w.0; header = model.header; bytes = w.1 ∙ sym (program-headed (new h) P); is_program = model.is_program } in
    (h, P, record { first = q.1.2; second = there; low = q.0; low_other = w.2 })

pub terms-of : (buf : List ℕ) (used : ℕ) (other : List ℕ) (n : ℕ) → Bytes buf → Moved term buf used other n → (h : Header) × (t : Term) × Terms h t buf used other n
terms-of buf used other n hb m =
    let q = term-taken ToSecond buf used other hb (ap (λ (w : Wrote). w.number) m) in
    let h : Header = q.1.0 in
    let t : Term = q.1.1 in
    let w = stands h other n (term-record q.1.2 q.0) m in
    let model = term_moved ToSecond h q.1.2 0 in
    let there : TermIn all_vars (new h) t other n = record { within = w.0; header = model.header; bytes = w.1 ∙ sym (term-headed (new h) t); sound = model.sound } in
    (h, t, record { first = (all_vars, q.1.2); second = (all_vars, there); low = q.0; low_other = w.2 })

-- WHAT IS THE SAME OF BOTH

record-header : {s : Sort} {h : Header} {c buf : List ℕ} {used : ℕ} → RecordIn s h c buf used → header_of buf used ≡ h
record-header {s} {h} {c} {buf} {used} p = held-header s h p.holds.header c buf used p.holds.within p.holds.bytes

module _ {s : Sort} {h : Header} {c buf : List ℕ} {used : ℕ} {other : List ℕ} {n : ℕ} (p : Records s h c buf used other n) where
  pub records-moved : Moved s buf used other n
  records-moved = moves h p.first p.second

  pub records-longer : n ≡ 4 + used
  records-longer =
      let size = held-size s (old h) p.first.holds.header c buf used p.first.holds.within p.first.holds.bytes in
      omega (arith, size, held-size s (new h) p.second.holds.header c other n p.second.holds.within p.second.holds.bytes, converted-start h)

  pub records-k : k_of buf used ≡ k_of other n
  records-k =
      ap (λ (x : Header). x.k) (record-header p.first) ∙ k-converted ToFirst h ∙ sym (k-converted ToSecond h) ∙ sym (ap (λ (x : Header). x.k) (record-header p.second))

  pub records-ok : ok_of (header_of buf used) ≡ ok_of (header_of other n)
  records-ok = ap ok_of (record-header p.first) ∙ converted-ok ToFirst ToSecond h h ∙ sym (ap ok_of (record-header p.second))

  -- row 2 with another used length
  wrong : (m : ℕ) → (m ≡ used → ⊥) → (bad_header s buf m ≡ true) × (bad_header s other (4 + m) ≡ true)
  wrong m d = (
    other-used s (old h) p.first.holds.header c buf used p.first.holds.within p.first.holds.bytes p.low m d,
    other-used s (new h) p.second.holds.header c other n p.second.holds.within p.second.holds.bytes p.low_other (4 + m) (λ e. d (omega (arith, records-longer))),
  )

-- THE ROWS OF BOTH, with any used length m and the same 4 more: rows 1 and 2, and then others that say the same where it is the record's own

abbrev pub two_rows : Sort → (List ℕ → ℕ → List Row) → List ℕ → ℕ → List Row
two_rows s rest b u = row 1 (bad_buffer b u) ∷ row 2 (bad_header s b u) ∷ rest b u

module _ {s : Sort} {h : Header} {c buf : List ℕ} {used : ℕ} {other : List ℕ} {n : ℕ} (p : Records s h c buf used other n) (rest : List ℕ → ℕ → List Row) where
  -- where row 2 applies, row 1 says which is first
  by_one : (b : List ℕ) (u : ℕ) (x : Bool) → bad_buffer b u ≡ x → bad_header s b u ≡ true → first_row (two_rows s rest b u) ≡ cond x 1 2
  by_one b u true e d = first-applies 1 (bad_buffer b u) (row 2 (bad_header s b u) ∷ rest b u) e
  by_one b u false e d = first-skips 1 (bad_buffer b u) (row 2 (bad_header s b u) ∷ rest b u) e ∙ first-applies 2 (bad_header s b u) (rest b u) d

  pub same_first : first_row (two_rows s rest buf used) ≡ first_row (two_rows s rest other n) → (m : ℕ) → bad_buffer buf m ≡ bad_buffer other (4 + m)
      → first_row (two_rows s rest buf m) ≡ first_row (two_rows s rest other (4 + m))
  same_first own m one = decide (same m used)
    where
      decide : Dec (m ≡ used) → first_row (two_rows s rest buf m) ≡ first_row (two_rows s rest other (4 + m))
      decide (yes e) =
          ap (λ (u : ℕ). first_row (two_rows s rest buf u)) e ∙ own ∙ ap (λ (u : ℕ). first_row (two_rows s rest other u)) (records-longer p ∙ ap (λ (u : ℕ). 4 + u) (sym e))
      decide (no d) = by_one buf m (bad_buffer buf m) refl (wrong p m d).0 ∙ sym (by_one other (4 + m) (bad_buffer buf m) (sym one) (wrong p m d).1)
