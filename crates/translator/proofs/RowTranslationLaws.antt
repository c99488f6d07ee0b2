-- The translation of a row by its first command: bytes and sizes.
use Prim.Native.Nat.{◌*◌, ◌+◌, ◌≤◌, ℕ}
use mathlib.Core.Path.{ap, refl, ◌∙◌, ◌≡◌}
use mathlib.Core.List.{◌++◌, List, append_assoc}
use lib.ListN.{length}
use native.Mathlib.Omega.{arith}
use Rattle.buffer.specs.LittleEndian.{le}
use Rattle.rules.specs.Syntax.{Block, Bound, Expr, Term, append, assign, empty, loop, nest, rec}
use Rattle.rules.specs.Translation.{all, atom_of, simple_of, translate}
use Rattle.record.specs.Program.{block_size}
use Rattle.record.specs.Term.{encode_atom, encode_simple, encode_term_record, simple_size, term_size}
use Rattle.record.proofs.HeaderLaws.{length-encode_term_record}
use Rattle.place.specs.Heads.{record_head}
use Rattle.place.proofs.ProgramBytesLaws.{block_size-assign, block_size-empty, block_size-loop, block_size-nest}
use Rattle.place.proofs.TermBytesLaws.{encode_term_record-let_all, encode_term_record-let_one, encode_term_record-rec, term_size-let_all, term_size-let_one, term_size-rec, term_size-tuple}
use Rattle.place.proofs.TranslatedLaws.{simple-most}
use Rattle.rules.proofs.SoundTermLaws.{length-refs}
use Rattle.translator.specs.RowTranslation.{all_bytes, row_bytes, row_size}

pub length-row_bytes : (k : ℕ) (b : Block) → length (row_bytes k b) ≡ row_size k b
unfolding row_bytes row_size
length-row_bytes k b = length-encode_term_record (translate k b)

-- SIZES

pub row_size-empty : (k : ℕ) → row_size k empty ≡ 4 + 8 * k
unfolding row_size translate
row_size-empty k = omega (arith, term_size-tuple (all k), length-refs 1 k)

pub row_size-assign : (k x : ℕ) (e : Expr) (r : Block) → row_size k (assign x e r) ≡ 8 + simple_size (simple_of e) + row_size k r
unfolding row_size translate
row_size-assign k x e r = omega (arith, term_size-let_one x (simple_of e) (translate k r))

pub row_size-nest : (k : ℕ) (p r : Block) → row_size k (nest p r) ≡ 4 + row_size k p + row_size k r
unfolding row_size translate
row_size-nest k p r = omega (arith, term_size-let_all (translate k p) (translate k r))

pub row_size-loop : (k x : ℕ) (n : Bound) (p r : Block) → row_size k (loop x n p r) ≡ 24 + 8 * k + row_size k p + row_size k r
unfolding row_size translate
row_size-loop k x n p r =
    let t : Term = rec x (atom_of n) (all k) (translate k p) in
    omega (arith, term_size-let_all t (translate k r), term_size-rec x (atom_of n) (all k) (translate k p), length-refs 1 k)

-- two rows one after the other share the tuple that ends them
pub row_size-append : (k : ℕ) (b c : Block) → row_size k (append b c) + (4 + 8 * k) ≡ row_size k b + row_size k c
unfolding append
row_size-append k empty c = omega (arith, row_size-empty k)
row_size-append k (assign x e r) c = omega (arith, row_size-append k r c, row_size-assign k x e r, row_size-assign k x e (append r c))
row_size-append k (loop x n p r) c = omega (arith, row_size-append k r c, row_size-loop k x n p r, row_size-loop k x n p (append r c))
row_size-append k (nest p r) c = omega (arith, row_size-append k r c, row_size-nest k p r, row_size-nest k p (append r c))

-- every row's translation ends with a tuple
pub row_size-least : (k : ℕ) (b : Block) → 4 + 8 * k ≤ row_size k b
row_size-least k empty = omega (arith, row_size-empty k)
row_size-least k (assign x e r) = omega (arith, row_size-assign k x e r, row_size-least k r)
row_size-least k (loop x n p r) = omega (arith, row_size-loop k x n p r, row_size-least k r)
row_size-least k (nest p r) = omega (arith, row_size-nest k p r, row_size-least k r)

-- no row is more than 34 times as long in translation, but for its last tuple
pub row_size-most : (k : ℕ) (b : Block) → k ≤ 16 → row_size k b ≤ 132 + 34 * block_size b
row_size-most k empty h = omega (arith, row_size-empty k, block_size-empty)
row_size-most k (assign x e r) h = omega (arith, row_size-assign k x e r, row_size-most k r h, simple-most (simple_of e), block_size-assign x e r)
row_size-most k (loop x n p r) h = omega (arith, row_size-loop k x n p r, row_size-most k p h, row_size-most k r h, block_size-loop x n p r)
row_size-most k (nest p r) h = omega (arith, row_size-nest k p r, row_size-most k p h, row_size-most k r h, block_size-nest p r)

-- BYTES

pub row_bytes-empty : (k : ℕ) → row_bytes k empty ≡ all_bytes k
unfolding row_bytes translate all_bytes
row_bytes-empty k = refl

pub row_bytes-assign : (k x : ℕ) (e : Expr) (r : Block)
    → row_bytes k (assign x e r) ≡ record_head 37 (row_size k (assign x e r)) ++ (le 4 x ++ (encode_simple (simple_of e) ++ row_bytes k r))
unfolding row_bytes row_size translate
row_bytes-assign k x e r =
    let n : 12 + simple_size (simple_of e) + term_size (translate k r) ≡ 4 + term_size (translate k (assign x e r)) = omega (arith, term_size-let_one x (simple_of e) (translate k r)) in
    rw (← n) (encode_term_record-let_one x (simple_of e) (translate k r))

pub row_bytes-nest : (k : ℕ) (p r : Block) → row_bytes k (nest p r) ≡ record_head 38 (row_size k (nest p r)) ++ (row_bytes k p ++ row_bytes k r)
unfolding row_bytes row_size translate
row_bytes-nest k p r =
    let n : 12 + term_size (translate k p) + term_size (translate k r) ≡ 4 + term_size (translate k (nest p r)) = omega (arith, term_size-let_all (translate k p) (translate k r)) in
    rw (← n) (encode_term_record-let_all (translate k p) (translate k r))

pub row_bytes-loop : (k x : ℕ) (n : Bound) (p r : Block)
    → row_bytes k (loop x n p r)
    ≡ record_head 38 (row_size k (loop x n p r)) ++ (record_head 39 (20 + 8 * k + row_size k p) ++ (le 4 x ++ (encode_atom (atom_of n) ++ (all_bytes k ++ (row_bytes k p ++ row_bytes k r)))))
unfolding row_bytes row_size translate all_bytes
row_bytes-loop k x n p r =
    let t : Term = rec x (atom_of n) (all k) (translate k p) in
    let a : 12 + term_size t + term_size (translate k r) ≡ 4 + term_size (translate k (loop x n p r)) = omega (arith, term_size-let_all t (translate k r)) in
    let b : 24 + 8 * length (all k) + term_size (translate k p) ≡ 20 + 8 * k + (4 + term_size (translate k p)) = omega (arith, length-refs 1 k) in
    rw (← a, ← b)
    (encode_term_record-let_all t (translate k r)
    ∙ ap (λ (y : List ℕ). record_head 38 (12 + term_size t + term_size (translate k r)) ++ (y ++ encode_term_record (translate k r))) (encode_term_record-rec x (atom_of n) (all k) (translate k p))
    ∙ simp append_assoc)
