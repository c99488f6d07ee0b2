-- A program's commands as a row, and its translation's record as what is stored.
use Prim.Native.Nat.{◌+◌, ◌-◌, ◌≤◌, ℕ}
use mathlib.Core.Path.{ap, subst, sym, ◌∙◌, ◌≡◌}
use mathlib.Core.List.{List}
use lib.ListN.{length}
use native.Mathlib.Omega.{arith}
use Rattle.buffer.specs.Slice.{put, zeros}
use Rattle.rules.specs.Syntax.{Block}
use Rattle.rules.specs.Translation.{translate}
use Rattle.record.specs.Answers.{padded}
use Rattle.record.specs.declared.Header.{Header}
use Rattle.record.specs.Header.{contents_at, encode_term, term}
use Rattle.record.specs.Holding.{ProgramIn}
use Rattle.record.proofs.HeaderLaws.{contents_at-low, length-encode_term}
use Rattle.record.proofs.PaddedLaws.{put-padded}
use Rattle.place.specs.ProgramView.{BlockAt}
use Rattle.place.specs.Whole.{header}
use Rattle.place.proofs.WholeLaws.{encode_term-header, length-header, program-at, program-used}
use Rattle.translator.specs.RowTranslation.{RowAt, row_bytes, row_size}
use Rattle.translator.specs.TranslationTasks.{TaskIn}
use Rattle.translator.proofs.RowTranslationLaws.{row_size-most}
use Rattle.buffer.proofs.StoresLaws.{stores-2}

pub term-length : (h : Header) (P : Block) → length (encode_term h (translate h.k P)) ≡ contents_at h + row_size h.k P
unfolding row_size
term-length h P = length-encode_term h (translate h.k P)

module _ {h : Header} {P : Block} {src : List ℕ} {used : ℕ} (p : ProgramIn h P src used) (l : length src ≤ 16384) where
  module _ {start : ℕ} (e : start ≡ contents_at h) where
    -- the row that the translator starts with
    abbrev pub program-commands : RowAt src (start + 4) used
    program-commands = record { block = P; here = subst (λ (n : ℕ). BlockAt src (n + 4) P) (sym e) (program-at p l); ends = omega (arith, program-used p) }

    -- and where its translation goes
    abbrev pub program-task : (total : ℕ) → total ≡ length (encode_term h (translate h.k P))
        → TaskIn h.k src (record { from = start + 4; to = used; start = start; stop = total })
    program-task total f = record { row = program-commands; few = p.header.k-high; region = omega (arith, term-length h P) }

  -- its place and its size
  pub term-bound : (contents_at h + 4 ≤ 16384) × (row_size h.k P ≤ 557188)
  term-bound =
      (omega (arith, program-used p, p.within), omega (arith, row_size-most h.k P p.header.k-high, program-used p, p.within, contents_at-low h))

-- the header, the term and the zeros behind it, stored one after the other
pub term-stores : (h : Header) (P : Block) (out out₁ out₂ out₃ : List ℕ) (total start room : ℕ) → total ≡ length (encode_term h (translate h.k P)) → start ≡ contents_at h
    → room ≡ length out → total ≤ room → out₁ ≡ put out 0 (header term h total) → out₂ ≡ put out₁ start (row_bytes h.k P) → out₃ ≡ put out₂ total (zeros (room - total))
    → out₃ ≡ padded (length out) (encode_term h (translate h.k P))
unfolding row_bytes
term-stores h P out out₁ out₂ out₃ total start room e es r fits e₁ e₂ e₃ =
    let t : List ℕ = encode_term h (translate h.k P) in
    let s : out₂ ≡ put out 0 t =
    stores-2 out out₁ out₂ (header term h total) (row_bytes h.k P) 0 start e₁ e₂ (omega (arith, length-header term h total)) (omega (arith, term-length h P))
    ∙ ap (put out 0) (sym (encode_term-header h (translate h.k P) total e)) in
    rw (e₃, s, r) (put-padded out t total (sym e) (omega arith))
