-- The first command of a block changed in place: the bytes before and after.
use Prim.Native.Nat.{◌+◌, ◌-◌, ◌≤◌, suc, ℕ}
use mathlib.Core.Path.{ap, refl, sym, ◌∙◌, ◌≡◌}
use mathlib.Core.List.{◌++◌, List, append_assoc}
use lib.ListN.{drop, length, length-append, take}
use lib.Seq.{length-take-le}
use native.Mathlib.Omega.{arith}
use Rattle.buffer.specs.LittleEndian.{le}
use Rattle.buffer.specs.Slice.{put}
use Rattle.rules.specs.Syntax.{Block, Bound, Expr, assign, empty, lit, loop, nest, upto}
use Rattle.record.specs.Program.{block_size, bound_from, bound_kind, bound_number, encode_block, encode_bound, encode_expr, expr_from, expr_kind, expr_number}
use Rattle.buffer.proofs.LittleEndianLaws.{length-le}
use Rattle.buffer.proofs.SliceLaws.{put-re}
use Rattle.record.proofs.ProgramLaws.{length-encode_block}
use Rattle.record.proofs.ReadingLaws.{length-encode_leaf}
use Rattle.place.specs.Edit.{Cut, lead, leaf_bytes, unrolled}
use Rattle.place.specs.Heads.{record_head}
use Rattle.place.proofs.AtLaws.{put-take, split-take, take_split}
use Rattle.place.proofs.EditLaws.{cut-re, length-lead, length-leaf_bytes}
use Rattle.place.proofs.HeadsLaws.{length-record_head}
use Rattle.place.proofs.ProgramBytesLaws.{block_size-assign, block_size-empty, block_size-loop, encode_block-assign, encode_block-empty, encode_block-loop, encode_block-nest, encode_leaf-head}
use Rattle.place.proofs.UnrolledLaws.{unrolled-take}

-- THE PIECES

pub encode_expr-leaf : (e : Expr) → encode_expr e ≡ leaf_bytes (expr_kind e) (expr_number e)
unfolding leaf_bytes
encode_expr-leaf e = encode_leaf-head expr_kind expr_number expr_from e

pub encode_bound-leaf : (n : Bound) → encode_bound n ≡ leaf_bytes (bound_kind n) (bound_number n)
unfolding leaf_bytes
encode_bound-leaf n = encode_leaf-head bound_kind bound_number bound_from n

pub encode_block-assign-lead : (x : ℕ) (e : Expr) (r : Block) → encode_block (assign x e r) ≡ lead 2 16 x (expr_kind e) (expr_number e) ++ encode_block r
unfolding lead
encode_block-assign-lead x e r = encode_block-assign x e r ∙ rw (encode_expr-leaf e) (simp append_assoc)

-- of a literal
pub encode_block-assign-lit : (x v : ℕ) (r : Block) → encode_block (assign x (lit v) r) ≡ lead 2 16 x 16 v ++ encode_block r
unfolding expr_kind expr_number
encode_block-assign-lit x v r = encode_block-assign-lead x (lit v) r

pub encode_bound-upto : (v : ℕ) → encode_bound (upto v) ≡ leaf_bytes 16 v
unfolding bound_kind bound_number
encode_bound-upto v = encode_bound-leaf (upto v)

-- THE FIRST COMMAND GONE

module _ (l m pre post : List ℕ) (p used : ℕ) (fits : used ≤ length l) (place : length pre ≡ p) where
  pub assign-gone : (x : ℕ) (e : Expr) (r : Block) → take used l ≡ pre ++ (encode_block (assign x e r) ++ post) → Cut l m p 16 used
      → take (used - 16) m ≡ pre ++ (encode_block r ++ post)
  assign-gone x e r h c =
      let a : List ℕ = lead 2 16 x (expr_kind e) (expr_number e) in
      cut-re l m pre a (encode_block r ++ post) p 16 used c (h ∙ rw (encode_block-assign-lead x e r) (simp append_assoc)) fits place (length-lead 2 16 x (expr_kind e) (expr_number e))

  pub nest-gone : (r : Block) → take used l ≡ pre ++ (encode_block (nest empty r) ++ post) → Cut l m p 4 used → take (used - 4) m ≡ pre ++ (encode_block r ++ post)
  nest-gone r h c =
      let n : ℕ = 4 + block_size empty in
      cut-re l m pre (record_head 1 n) (encode_block r ++ post) p 4 used c (h ∙ rw (encode_block-nest empty r, encode_block-empty) (simp append_assoc)) fits place (length-record_head 1 n)

  -- a loop becomes an empty block: all but its first 4 bytes go, and those become the head
  pub loop-emptied : (x : ℕ) (n : Bound) (b r : Block) (d : ℕ) → d ≡ 16 + block_size b → take used l ≡ pre ++ (encode_block (loop x n b r) ++ post) → Cut l m (p + 4) d used
      → take (used - d) (put m p (record_head 1 4)) ≡ pre ++ (encode_block (nest empty r) ++ post)
  loop-emptied x n b r d ed h c =
      let hd : List ℕ = record_head 3 (20 + block_size b) in
      let mid : List ℕ = le 4 x ++ (encode_bound n ++ (record_head 1 (4 + block_size b) ++ encode_block b)) in
      let q : List ℕ = encode_block r ++ post in
      let h₁ : take used l ≡ (pre ++ hd) ++ (mid ++ q) = h ∙ rw (encode_block-loop x n b r, encode_block-nest b r) (simp append_assoc) in
      let lm : length mid ≡ d = simp (length-append, length-le, length-encode_leaf, length-record_head, length-encode_block) (omega arith) in
      let lh : length (pre ++ hd) ≡ p + 4 = rw (length-append pre hd, length-record_head 3 (20 + block_size b)) (omega arith) in
      let u : used ≡ p + 4 + (d + length q) = sym (length-take-le used l fits) ∙ ap length h₁ ∙ rw (length-append (pre ++ hd) (mid ++ q), length-append mid q, lm, lh) in
      let e : take (used - d) m ≡ (pre ++ hd) ++ q = cut-re l m (pre ++ hd) mid q (p + 4) d used c h₁ fits lh lm in
      let t : List ℕ = drop (used - d) m in
      let is : m ≡ pre ++ (hd ++ (q ++ t)) = take_split (used - d) m ((pre ++ hd) ++ q) e ∙ simp append_assoc in
      let o : List ℕ = record_head 1 4 in
      let w : put m p o ≡ pre ++ (o ++ (q ++ t)) = put-re m pre hd (q ++ t) o p is place (length-record_head 3 (20 + block_size b) ∙ sym (length-record_head 1 4)) in
      let z : 4 + block_size empty ≡ 4 = ap (λ (y : ℕ). 4 + y) block_size-empty in
      split-take (used - d) (put m p o) (pre ++ (o ++ q)) t (w ∙ simp append_assoc) (rw (length-append pre (o ++ q), length-append o q, length-record_head 1 4) (omega arith))
      ∙ rw (encode_block-nest empty r, encode_block-empty, z) (simp append_assoc)

-- AN EXPRESSION REPLACED by another, which is as long

pub assign-replaced : (l pre post : List ℕ) (p q used x : ℕ) (e e' : Expr) (r : Block) → take used l ≡ pre ++ (encode_block (assign x e r) ++ post) → used ≤ length l
    → length pre ≡ p → q ≡ p + 8 → take used (put l q (leaf_bytes (expr_kind e') (expr_number e'))) ≡ pre ++ (encode_block (assign x e' r) ++ post)
assign-replaced l pre post p q used x e e' r h fits hp hq =
    let v : List ℕ = leaf_bytes (expr_kind e') (expr_number e') in
    put-take used l (pre ++ (record_head 2 16 ++ le 4 x)) (encode_expr e) (encode_block r ++ post) v q (h ∙ rw (encode_block-assign x e r) (simp append_assoc)) fits
    (simp (length-append, length-record_head, length-le) (omega arith)) (length-encode_leaf expr_kind expr_number expr_from e ∙ sym (length-leaf_bytes (expr_kind e') (expr_number e')))
    ∙ rw (encode_block-assign x e' r, encode_expr-leaf e') (simp append_assoc)

-- by a literal, as the code writes it
pub assign-literal : (l pre post : List ℕ) (p used x v : ℕ) (e : Expr) (r : Block) → take used l ≡ pre ++ (encode_block (assign x e r) ++ post) → used ≤ length l
    → length pre ≡ p → take used (put l (p + 8) (leaf_bytes 16 v)) ≡ pre ++ (encode_block (assign x (lit v) r) ++ post)
unfolding expr_kind expr_number
assign-literal l pre post p used x v e r h fits hp = assign-replaced l pre post p (p + 8) used x e (lit v) r h fits hp refl

-- A LOOP UNROLLED

pub loop-unrolled : (l pre post : List ℕ) (p n used x q : ℕ) (e : Bound) (b r : Block) → take used l ≡ pre ++ (encode_block (loop x e b r) ++ post) → length pre ≡ p
    → n ≡ 20 + block_size b → used + n ≤ length l
    → take (used + n) (unrolled l p n 20 used (record_head 1 (n + n)) (leaf_bytes 16 q) (lead 2 16 x 16 (suc q))) ≡ pre ++ (encode_block (nest (loop x (upto q) b (assign x (lit (suc q)) b)) r) ++ post)
unfolding expr_kind expr_number bound_kind bound_number
loop-unrolled l pre post p n used x q e b r h hp hn fits =
    let hd : List ℕ = record_head 3 (20 + block_size b) in
    let mid : List ℕ = record_head 1 (4 + block_size b) in
    let body : List ℕ = encode_block b in
    let a : Block = assign x (lit (suc q)) b in
    let lb : 20 + length body ≡ n = rw (length-encode_block b) (sym hn) in
    let is : take used l ≡ pre ++ (hd ++ (le 4 x ++ (encode_bound e ++ (mid ++ (body ++ (encode_block r ++ post)))))) = h ∙ rw (encode_block-loop x e b r, encode_block-nest b r) (simp append_assoc) in
    let z : 4 + block_size (loop x (upto q) b a) ≡ n + n = rw (block_size-loop x (upto q) b a, block_size-assign x (lit (suc q)) b) (omega arith) in
    let t =
    unrolled-take l pre hd (le 4 x) (encode_bound e) mid body (encode_block r ++ post) (record_head 1 (n + n)) (leaf_bytes 16 q) (lead 2 16 x 16 (suc q)) p n 20 used is (rw lb fits) hp
    (length-record_head 3 (20 + block_size b)) (length-le 4 x) (length-encode_leaf bound_kind bound_number bound_from e) (ap (λ (y : ℕ). 16 + y) (length-record_head 1 (4 + block_size b))) lb
    (length-record_head 1 (n + n)) (length-leaf_bytes 16 q) (length-lead 2 16 x 16 (suc q)) in
    rw lb at t
    ∙ rw (encode_block-nest (loop x (upto q) b a) r, z, encode_block-loop x (upto q) b a, encode_bound-leaf (upto q), encode_block-nest b a, encode_block-assign-lead x (lit (suc q)) b) (simp append_assoc)
