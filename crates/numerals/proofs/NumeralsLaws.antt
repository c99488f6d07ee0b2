-- The numerals of a finished term's record, and their copy into a store.
use Prim.Native.Nat.{◌+◌, ◌<◌, ◌≤◌, ℕ}
use mathlib.Core.Path.{ap, refl, sym, ◌∙◌, ◌≡◌}
use mathlib.Core.List.{List, [], append-nil, map}
use lib.ListN.{get_or, length, set}
use native.Mathlib.Omega.{arith}
use Rattle.buffer.specs.Slice.{part, put}
use Rattle.record.specs.declared.Header.{Header}
use Rattle.record.specs.Header.{contents_at}
use Rattle.record.specs.Holding.{TermIn}
use Rattle.rules.specs.FreeVariables.{Vars}
use Rattle.rules.specs.Syntax.{num, tuple}
use Rattle.buffer.proofs.SliceLaws.{copied_next, part-re, put-nil, put-re}
use Rattle.place.specs.TermView.{AtomsAt}
use Rattle.place.proofs.WholeLaws.{term-from}
use Rattle.place.proofs.NumeralsLaws.{numerals-row}

pub record-row : {S : Vars} {h : Header} (vs : List ℕ) {buf : List ℕ} {used : ℕ} → TermIn S h (tuple (map num vs)) buf used → length buf ≤ 16384
    → {n : ℕ} → n ≡ contents_at h → AtomsAt buf (n + 4) (map num vs) × (length vs ≡ h.k)
record-row vs p l e = numerals-row vs (term-from p l e)

-- of the store d, b is what i turns leave
pub copied_none : (d vs : List ℕ) → d ≡ put d 0 (part vs 0 0)
unfolding part
copied_none d vs = sym (put-nil d 0)

pub copied-turn : (d b vs : List ℕ) (i v : ℕ) → i < length d → i < length vs → v ≡ get_or vs i 0 → b ≡ put d 0 (part vs 0 i) → set b i v ≡ put d 0 (part vs 0 (i + 1))
copied-turn d b vs i v h k e c =
    let z : 0 + i ≡ i = omega arith in
    ap (set b i) e ∙ rw z at (copied_next d vs b 0 0 i (omega arith) (omega arith) c)

pub copied_all : (d b vs : List ℕ) (i : ℕ) → i ≡ length vs → length d ≡ length vs → b ≡ put d 0 (part vs 0 i) → b ≡ vs
copied_all d b vs i h k c =
    let e : part vs 0 i ≡ vs = part-re vs [] vs [] 0 i (sym (append-nil vs)) refl (sym h) in
    c ∙ ap (put d 0) e ∙ put-re d [] d [] vs 0 (sym (append-nil d)) refl k ∙ append-nil vs
