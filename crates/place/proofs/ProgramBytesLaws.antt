-- The bytes of a block, from its first command on, with every head in sight; and expressions and bounds by their kinds.
use Prim.Native.Nat.{◌+◌, ◌<◌, ◌≤◌, ℕ}
use mathlib.Core.Path.{ap, refl, ◌≡◌}
use mathlib.Core.List.{◌++◌, List, [], append_assoc}
use mathlib.Core.Option.{Option}
use lib.ListN.{length, length-append}
use native.Mathlib.Omega.{arith}
use Rattle.buffer.specs.LittleEndian.{le}
use Rattle.rules.specs.Syntax.{Block, Bound, Expr, append, assign, dec, empty, inc, lit, loop, nest, upto, upto_var, var}
use Rattle.record.specs.Program.{BlockWords, block_size, bound_kind, encode_block, encode_bound, encode_expr, expr_kind, expr_number}
use Rattle.record.specs.Reading.{encode_leaf}
use Rattle.record.specs.Record.{encode_record}
use Rattle.buffer.proofs.LittleEndianLaws.{length-le}
use Rattle.record.proofs.ProgramLaws.{length-encode_block}
use Rattle.record.proofs.ReadingLaws.{length-encode_leaf}
use Rattle.record.proofs.RecordLaws.{length-encode_record}
use Rattle.place.specs.Heads.{record_head}
use Rattle.place.proofs.HeadsLaws.{encode_record-head}

-- A LEAF

pub encode_leaf-head : {X : Type 0} (kind_of val_of : X → ℕ) (make : ℕ → ℕ → Option X) (x : X) → encode_leaf kind_of val_of make x ≡ record_head (kind_of x) 8 ++ le 4 (val_of x)
unfolding encode_leaf
encode_leaf-head kind_of val_of make x = encode_record-head (kind_of x) 8 (le 4 (val_of x)) (ap (λ (y : ℕ). 4 + y) (length-le 4 (val_of x)))

-- EXPRESSIONS AND BOUNDS by their kinds

pub expr_kind-range : (e : Expr) → (16 ≤ expr_kind e) × (expr_kind e ≤ 19)
unfolding expr_kind
expr_kind-range (lit v) = omega arith
expr_kind-range (var v) = omega arith
expr_kind-range (inc v) = omega arith
expr_kind-range (dec v) = omega arith

pub bound_kind-range : (n : Bound) → (16 ≤ bound_kind n) × (bound_kind n ≤ 17)
unfolding bound_kind
bound_kind-range (upto v) = omega arith
bound_kind-range (upto_var v) = omega arith

pub inc-kind : (y : ℕ) → expr_kind (inc y) ≡ 18
unfolding expr_kind
inc-kind y = refl

pub kind-lit : (e : Expr) → expr_kind e ≡ 16 → e ≡ lit (expr_number e)
unfolding expr_kind expr_number
kind-lit (lit v) h = refl
kind-lit (var v) h = absurd (omega arith)
kind-lit (inc v) h = absurd (omega arith)
kind-lit (dec v) h = absurd (omega arith)

pub kind-var : (e : Expr) → expr_kind e ≡ 17 → e ≡ var (expr_number e)
unfolding expr_kind expr_number
kind-var (lit v) h = absurd (omega arith)
kind-var (var v) h = refl
kind-var (inc v) h = absurd (omega arith)
kind-var (dec v) h = absurd (omega arith)

pub kind-inc : (e : Expr) → expr_kind e ≡ 18 → e ≡ inc (expr_number e)
unfolding expr_kind expr_number
kind-inc (lit v) h = absurd (omega arith)
kind-inc (var v) h = absurd (omega arith)
kind-inc (inc v) h = refl
kind-inc (dec v) h = absurd (omega arith)

pub kind-dec : (e : Expr) → expr_kind e ≡ 19 → e ≡ dec (expr_number e)
unfolding expr_kind expr_number
kind-dec (lit v) h = absurd (omega arith)
kind-dec (var v) h = absurd (omega arith)
kind-dec (inc v) h = absurd (omega arith)
kind-dec (dec v) h = refl

-- BLOCKS

pub encode_block-empty : encode_block empty ≡ []
unfolding encode_block
encode_block-empty = refl

pub encode_block-nest : (p r : Block) → encode_block (nest p r) ≡ record_head 1 (4 + block_size p) ++ (encode_block p ++ encode_block r)
unfolding encode_block
encode_block-nest p r =
    rw (encode_record-head 1 (4 + block_size p) (encode_block p) (ap (λ (y : ℕ). 4 + y) (length-encode_block p))) (simp append_assoc)

pub encode_block-assign : (x : ℕ) (e : Expr) (r : Block) → encode_block (assign x e r) ≡ record_head 2 16 ++ (le 4 x ++ (encode_expr e ++ encode_block r))
unfolding encode_block
encode_block-assign x e r =
    rw (encode_record-head 2 16 (le 4 x ++ encode_expr e) (simp (length-append, length-le, length-encode_leaf))) (simp append_assoc)

pub encode_block-loop : (x : ℕ) (n : Bound) (p r : Block) → encode_block (loop x n p r) ≡ record_head 3 (20 + block_size p) ++ (le 4 x ++ (encode_bound n ++ encode_block (nest p r)))
unfolding encode_block
encode_block-loop x n p r =
    let b : List ℕ = encode_bound n ++ encode_record 1 (encode_block p) in
    let lb : 4 + length (le 4 x ++ b) ≡ 20 + block_size p = simp (length-append, length-le, length-encode_leaf, length-encode_record, length-encode_block) (omega arith) in
    rw (encode_record-head 3 (20 + block_size p) (le 4 x ++ b) lb) (simp append_assoc)

pub block_size-empty : block_size empty ≡ 0
unfolding block_size
block_size-empty = refl

pub block_size-nest : (p r : Block) → block_size (nest p r) ≡ 4 + block_size p + block_size r
unfolding block_size
block_size-nest p r = refl

pub block_size-assign : (x : ℕ) (e : Expr) (r : Block) → block_size (assign x e r) ≡ 16 + block_size r
unfolding block_size
block_size-assign x e r = refl

pub block_size-loop : (x : ℕ) (n : Bound) (p r : Block) → block_size (loop x n p r) ≡ 20 + block_size p + block_size r
unfolding block_size
block_size-loop x n p r = refl

-- only the empty block has no bytes
pub block_size-zero : (b : Block) → block_size b ≡ 0 → b ≡ empty
unfolding block_size
block_size-zero empty h = refl
block_size-zero (assign x e r) h = absurd (omega arith)
block_size-zero (loop x n p r) h = absurd (omega arith)
block_size-zero (nest p r) h = absurd (omega arith)

pub block_size-some : (b : Block) → 0 < block_size b → 4 ≤ block_size b
unfolding block_size
block_size-some empty h = absurd (omega arith)
block_size-some (assign x e r) h = omega arith
block_size-some (loop x n p r) h = omega arith
block_size-some (nest p r) h = omega arith

-- one block after another

pub encode_block-append : (b c : Block) → encode_block (append b c) ≡ encode_block b ++ encode_block c
unfolding encode_block append
encode_block-append empty c = refl
encode_block-append (assign x e r) c = rw (encode_block-append r c) (simp append_assoc)
encode_block-append (loop x n p r) c = rw (encode_block-append r c) (simp append_assoc)
encode_block-append (nest p r) c = rw (encode_block-append r c) (simp append_assoc)

pub block_size-append : (b c : Block) → block_size (append b c) ≡ block_size b + block_size c
unfolding block_size append
block_size-append empty c = omega arith
block_size-append (assign x e r) c = omega (arith, block_size-append r c)
block_size-append (loop x n p r) c = omega (arith, block_size-append r c)
block_size-append (nest p r) c = omega (arith, block_size-append r c)

pub words_append : (b c : Block) → BlockWords b → BlockWords c → BlockWords (append b c)
unfolding append
words_append empty c h k = k
words_append (assign x e r) c h k = (h.0, h.1, words_append r c h.2 k)
words_append (loop x n p r) c h k = (h.0, h.1, h.2, words_append r c h.3 k)
words_append (nest p r) c h k = (h.0, words_append r c h.1 k)
