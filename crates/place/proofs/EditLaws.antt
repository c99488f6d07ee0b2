-- Laws of edits on plain lists: bytes taken out, and pieces stored.
use Prim.Native.Nat.{◌+◌, ◌-◌, ◌≤◌, ℕ}
use mathlib.Core.Path.{ap, sym, ◌∙◌, ◌≡◌}
use mathlib.Core.List.{◌++◌, List, append_assoc}
use lib.ListN.{drop, length, length-append, take}
use lib.Seq.{drop_at, length-take-le, take_at}
use native.Mathlib.Omega.{arith}
use Rattle.buffer.specs.LittleEndian.{le}
use Rattle.buffer.specs.Slice.{part, put, zeros}
use Rattle.buffer.proofs.LittleEndianLaws.{length-le}
use Rattle.buffer.proofs.SliceLaws.{length_part, length-put, length-zeros, part-re, put-put}
use Rattle.place.specs.Edit.{Cut, closed_up, lead, leaf_bytes, removed}
use Rattle.place.specs.Heads.{record_head}
use Rattle.place.proofs.AtLaws.{split-take, take_split}
use Rattle.place.proofs.HeadsLaws.{length-record_head}

-- TAKING OUT

module _ (l : List ℕ) (p n used : ℕ) (order : p + n ≤ used) (fits : used ≤ length l) where
  moved : List ℕ
  moved = part l (p + n) (used - (p + n))

  length_moved : length moved ≡ used - (p + n)
  unfolding moved
  length_moved = length_part l (p + n) (used - (p + n)) (omega arith)

  length-kept : length (take p l ++ moved) ≡ used - n
  length-kept = length-append (take p l) moved ∙ rw (length-take-le p l (omega arith), length_moved) (omega arith)

  -- one move down
  pub closed_up-is : (q count : ℕ) → q ≡ p + n → count ≡ used - (p + n) → put l p (part l q count) ≡ closed_up l p n used
  unfolding closed_up
  closed_up-is q count eq ec = rw (eq, ec)

  pub length-closed_up : length (closed_up l p n used) ≡ length l
  unfolding closed_up moved
  length-closed_up = length-put l moved p (rw length_moved (omega arith))

  pub closed_up-cut : Cut l (closed_up l p n used) p n used
  unfolding closed_up moved put
  closed_up-cut = split-take (used - n) _ (take p l ++ moved) (drop (p + length moved) l) (sym (append_assoc (take p l) moved (drop (p + length moved) l))) length-kept

  pub length_removed : length (removed l p n used) ≡ length l
  unfolding removed moved
  length_removed = length-put l (moved ++ zeros n) p (rw (length-append moved (zeros n), length_moved, length-zeros n) (omega arith))

  pub removed-cut : Cut l (removed l p n used) p n used
  unfolding removed moved put
  removed-cut =
      let t : List ℕ = drop (p + length (moved ++ zeros n)) l in
      split-take (used - n) _ (take p l ++ moved) (zeros n ++ t) (simp append_assoc) length-kept

  -- moved down, and then the zeros stored
  pub removed-is : (q : ℕ) → q ≡ used - n → put (closed_up l p n used) q (zeros n) ≡ removed l p n used
  unfolding closed_up removed moved
  removed-is q e = put-put l moved (zeros n) p q (rw length_moved (omega arith)) (omega arith)

  -- what is behind: zeros, and what was there
  pub removed-behind : drop (used - n) (removed l p n used) ≡ zeros n ++ drop used l
  unfolding removed moved put
  removed-behind =
      let e : p + length (moved ++ zeros n) ≡ used = rw (length-append moved (zeros n), length_moved, length-zeros n) (omega arith) in
      let a : List ℕ = take p l ++ moved in
      let t : List ℕ = zeros n ++ drop (p + length (moved ++ zeros n)) l in
      let s : take p l ++ ((moved ++ zeros n) ++ drop (p + length (moved ++ zeros n)) l) ≡ a ++ t = simp append_assoc in
      ap (drop (used - n)) s ∙ drop_at a t (used - n) length-kept ∙ ap (λ (y : ℕ). zeros n ++ drop y l) e

-- a middle part is taken out
pub cut-re : (l m pre mid post : List ℕ) (p n used : ℕ) → Cut l m p n used → take used l ≡ pre ++ (mid ++ post) → used ≤ length l → length pre ≡ p → length mid ≡ n
    → take (used - n) m ≡ pre ++ post
cut-re l m pre mid post p n used c e fits hp hm =
    let is : l ≡ pre ++ (mid ++ (post ++ drop used l)) = take_split used l (pre ++ (mid ++ post)) e ∙ simp append_assoc in
    let u : used ≡ length pre + (length mid + length post) = sym (length-take-le used l fits) ∙ ap length e ∙ simp length-append in
    let a : take p l ≡ pre = ap (take p) is ∙ take_at pre (mid ++ (post ++ drop used l)) p hp in
    let b : part l (p + n) (used - (p + n)) ≡ post =
    part-re l (pre ++ mid) post (drop used l) (p + n) (used - (p + n)) (is ∙ simp append_assoc) (rw (length-append pre mid) (omega arith)) (omega arith) in
    c ∙ rw (a, b)

-- PIECES

pub length-leaf_bytes : (kind v : ℕ) → length (leaf_bytes kind v) ≡ 8
unfolding leaf_bytes
length-leaf_bytes kind v = simp (length-append, length-record_head, length-le)

pub length-lead : (kind n x leaf v : ℕ) → length (lead kind n x leaf v) ≡ 16
unfolding lead
length-lead kind n x leaf v = simp (length-append, length-record_head, length-le, length-leaf_bytes)

-- a leaf in two stores, and a lead in three
pub put-leaf : (l : List ℕ) (p q kind v : ℕ) → q ≡ p + 4 → q ≤ length l → put (put l p (record_head kind 8)) q (le 4 v) ≡ put l p (leaf_bytes kind v)
unfolding leaf_bytes
put-leaf l p q kind v e h = put-put l (record_head kind 8) (le 4 v) p q (ap (λ (y : ℕ). p + y) (length-record_head kind 8) ∙ sym e) h

pub put-lead : (l : List ℕ) (p q r kind n x leaf v : ℕ) → q ≡ p + 4 → r ≡ p + 8 → r ≤ length l
    → put (put (put l p (record_head kind n)) q (le 4 x)) r (leaf_bytes leaf v) ≡ put l p (lead kind n x leaf v)
unfolding lead
put-lead l p q r kind n x leaf v eq er h =
    let h₁ : List ℕ = record_head kind n in
    let a : put (put l p h₁) q (le 4 x) ≡ put l p (h₁ ++ le 4 x) = put-put l h₁ (le 4 x) p q (ap (λ (y : ℕ). p + y) (length-record_head kind n) ∙ sym eq) (omega arith) in
    let b : p + length (h₁ ++ le 4 x) ≡ r = ap (λ (y : ℕ). p + y) (simp (length-append, length-record_head, length-le)) ∙ sym er in
    ap (λ (y : List ℕ). put y r (leaf_bytes leaf v)) a ∙ put-put l (h₁ ++ le 4 x) (leaf_bytes leaf v) p r b h ∙ ap (put l p) (append_assoc h₁ (le 4 x) (leaf_bytes leaf v))
