-- What stands where a scan meets the translation of a block, by the block's first command.
use Prim.Native.Nat.{◌+◌, ◌≤◌, ℕ}
use mathlib.Core.Path.{ap, ◌≡◌}
use mathlib.Core.List.{List, [], ◌∷◌}
use native.Mathlib.Omega.{arith}
use Rattle.buffer.specs.LittleEndian.{val}
use Rattle.buffer.specs.Slice.{part}
use Rattle.place.specs.TermView.{TermAt}
use Rattle.record.specs.Program.{block_size}
use Rattle.record.specs.Term.{term_size}
use Rattle.rules.specs.Syntax.{Block, Bound, Expr, Term, assign, empty, loop, nest, rec}
use Rattle.rules.specs.Translation.{all, atom_of, simple_of, translate}
use Rattle.place.proofs.ProgramBytesLaws.{block_size-assign, block_size-empty, block_size-loop, block_size-nest}
use Rattle.place.proofs.TermBytesLaws.{simple-least, term_size-let_all, term_size-let_one, term_size-rec}
use Rattle.place.proofs.TermViewLaws.{let_all-view, let_one-view, rec-view, tuple-view}
use Rattle.recognition.specs.Scan.{TermsUpTo, ended, followed, inner, own_size}
use Rattle.recognition.proofs.ScanLaws.{own-let_all, terms-index, terms-step}

-- a block has no more bytes than its translation
translate-short : (k : ℕ) (b : Block) → block_size b ≤ term_size (translate k b)
unfolding translate
translate-short k empty = omega (arith, block_size-empty)
translate-short k (assign x e r) = omega (arith, translate-short k r, block_size-assign x e r, term_size-let_one x (simple_of e) (translate k r), simple-least (simple_of e))
translate-short k (loop x n b r) =
    let t : Term = rec x (atom_of n) (all k) (translate k b) in
    omega (arith, translate-short k b, translate-short k r, block_size-loop x n b r, term_size-let_all t (translate k r), term_size-rec x (atom_of n) (all k) (translate k b))
translate-short k (nest b r) = omega (arith, translate-short k b, translate-short k r, block_size-nest b r, term_size-let_all (translate k b) (translate k r))

-- and so it ends no later where it begins at the same index
pub block-end : {l : List ℕ} {k to p : ℕ} (b : Block) → TermsUpTo l k to p (translate k b ∷ []) → p + (4 + block_size b) ≤ to
block-end {k = k} b (followed h (ended e)) = omega (arith, translate-short k b)

-- no block's translation is a rec
no-rec : {l : List ℕ} {k : ℕ} (b : Block) (q : ℕ) → TermAt l q k (translate k b) → val (part l (q + 2) 2) ≡ 39 → ⊥
unfolding translate
no-rec {k = k} empty q h e = omega (arith, (tuple-view (all k) h).kind)
no-rec {k = k} (assign x c r) q h e = omega (arith, (let_one-view x (simple_of c) (translate k r) h).kind)
no-rec {k = k} (loop x n b r) q h e = omega (arith, (let_all-view (rec x (atom_of n) (all k) (translate k b)) (translate k r) h).kind)
no-rec {k = k} (nest b r) q h e = omega (arith, (let_all-view (translate k b) (translate k r) h).kind)

module _ {l : List ℕ} {k to p : ℕ} {ts : List Term} where
  pub row-empty : TermsUpTo l k to p (translate k empty ∷ ts)
      → (val (part l (p + 2) 2) ≡ 36) × TermAt l p k (translate k empty) × TermsUpTo l k to (p + own_size (translate k empty)) ts
  unfolding translate inner
  row-empty h = let s = terms-step h in ((tuple-view (all k) s.0).kind, s.0, s.1)

  pub row-assign : (x : ℕ) (e : Expr) (r : Block) → TermsUpTo l k to p (translate k (assign x e r) ∷ ts)
      → (val (part l (p + 2) 2) ≡ 37) × TermAt l p k (translate k (assign x e r)) × TermsUpTo l k to (p + own_size (translate k (assign x e r))) (translate k r ∷ ts)
  unfolding translate inner
  row-assign x e r h = let s = terms-step h in ((let_one-view x (simple_of e) (translate k r) s.0).kind, s.0, s.1)

  -- of a loop the let-all and the rec in it
  pub row-loop : (x : ℕ) (n : Bound) (b r : Block) → TermsUpTo l k to p (translate k (loop x n b r) ∷ ts)
      → (val (part l (p + 2) 2) ≡ 38) × (val (part l (p + 6) 2) ≡ 39) × TermAt l p k (translate k (loop x n b r)) × (own_size (translate k (loop x n b r)) ≡ 4)
      × TermAt l (p + 4) k (rec x (atom_of n) (all k) (translate k b))
      × TermsUpTo l k to (p + 4 + own_size (rec x (atom_of n) (all k) (translate k b))) (translate k b ∷ translate k r ∷ ts)
  unfolding translate inner
  row-loop x n b r h =
      let s = terms-step h in
      let kind = (let_all-view (rec x (atom_of n) (all k) (translate k b)) (translate k r) s.0).kind in
      let four = own-let_all s.0 kind in
      let t = terms-step (terms-index s.1 (ap (λ (y : ℕ). p + y) four)) in
      let first = (rec-view x (atom_of n) (all k) (translate k b) t.0).kind in
      let six : p + 4 + 2 ≡ p + 6 = omega arith in
      (kind, rw six at first, s.0, four, t.0, t.1)

  pub row-nest : (b r : Block) → TermsUpTo l k to p (translate k (nest b r) ∷ ts)
      → (val (part l (p + 2) 2) ≡ 38) × (val (part l (p + 6) 2) ≡ 39 → ⊥) × TermAt l p k (translate k (nest b r))
      × TermsUpTo l k to (p + own_size (translate k (nest b r))) (translate k b ∷ translate k r ∷ ts)
  unfolding translate inner
  row-nest b r h =
      let s = terms-step h in
      let kind = (let_all-view (translate k b) (translate k r) s.0).kind in
      let t = terms-index s.1 (ap (λ (y : ℕ). p + y) (own-let_all s.0 kind)) in
      let six : p + 6 ≡ p + 4 + 2 = omega arith in
      (kind, (λ e. no-rec b (p + 4) (terms-step t).0 (rw six at e)), s.0, s.1)
