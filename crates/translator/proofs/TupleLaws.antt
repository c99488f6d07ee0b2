-- The tuple of all variables, written one atom after the other.
use Prim.Native.Nat.{◌*◌, ◌+◌, ◌-◌, ◌<◌, ◌≤◌, suc, ℕ}
use mathlib.Core.Path.{refl, ◌∙◌, ◌≡◌}
use mathlib.Core.List.{◌++◌, List}
use lib.ListN.{length}
use native.Mathlib.Omega.{arith}
use Rattle.buffer.specs.Slice.{put}
use Rattle.buffer.proofs.SliceLaws.{put-nil, put-put}
use Rattle.rules.specs.Syntax.{ref}
use Rattle.rules.specs.Translation.{all, refs}
use Rattle.rules.proofs.SoundTermLaws.{length-refs}
use Rattle.record.specs.Term.{encode_atoms}
use Rattle.place.specs.Edit.{leaf_bytes}
use Rattle.place.specs.Heads.{record_head}
use Rattle.place.proofs.EditLaws.{length-leaf_bytes}
use Rattle.place.proofs.HeadsLaws.{length-record_head}
use Rattle.place.proofs.TermBytesLaws.{encode_atoms-cons, encode_term_record-tuple}
use Rattle.place.proofs.TranslatedLaws.{encode_atoms-nil, ref-head}
use Rattle.translator.specs.RowTranslation.{all_bytes}

-- What is left to write of the variables x to k.
abbrev pub atoms_from : ℕ → ℕ → List ℕ
atoms_from x k = encode_atoms (refs x (k + 1 - x))

refs-suc : (x n m : ℕ) → n ≡ suc m → encode_atoms (refs x n) ≡ leaf_bytes 33 x ++ encode_atoms (refs (x + 1) m)
unfolding refs leaf_bytes
refs-suc x n m e =
    let s : suc x ≡ x + 1 = omega arith in
    rw e (encode_atoms-cons (ref x) (refs (suc x) m) ∙ rw (ref-head x, s) refl)

-- nothing is left behind the last
pub atoms-end : (out : List ℕ) (p x k : ℕ) → k < x → put out p (atoms_from x k) ≡ out
unfolding refs
atoms-end out p x k h =
    let e : k + 1 - x ≡ 0 = omega arith in
    rw (e, encode_atoms-nil) (put-nil out p)

-- one atom written: what is left to do of the new list is what was to do of the old one
pub atoms-turn : (out out₁ : List ℕ) (p x k : ℕ) → x ≤ k → p + 8 ≤ length out → out₁ ≡ put out p (leaf_bytes 33 x)
    → put out₁ (p + 8) (atoms_from (x + 1) k) ≡ put out p (atoms_from x k)
atoms-turn out out₁ p x k hx h e =
    rw (e, refs-suc x (k + 1 - x) (k + 1 - (x + 1)) (omega arith)) (put-put out (leaf_bytes 33 x) (atoms_from (x + 1) k) p (p + 8) (omega (arith, length-leaf_bytes 33 x)) h)

all_bytes-head : (k : ℕ) → all_bytes k ≡ record_head 36 (4 + 8 * k) ++ encode_atoms (all k)
unfolding all_bytes
all_bytes-head k = encode_term_record-tuple (all k) ∙ rw (length-refs 1 k) refl

-- the tuple's head and all its atoms
pub all-stores : (out out₁ : List ℕ) (o k : ℕ) → o + 4 ≤ length out → out₁ ≡ put out o (record_head 36 (4 + 8 * k)) → put out₁ (o + 4) (atoms_from 1 k) ≡ put out o (all_bytes k)
all-stores out out₁ o k h e =
    let n : k + 1 - 1 ≡ k = omega arith in
    rw (e, n, all_bytes-head k) (put-put out (record_head 36 (4 + 8 * k)) (encode_atoms (all k)) o (o + 4) (omega (arith, length-record_head 36 (4 + 8 * k))) h)
