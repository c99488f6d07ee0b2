-- What stands first in a block that stands at an index: one view for each kind, and the end of the row.
use Prim.Native.Nat.{◌+◌, ◌<◌, ◌≤◌, ℕ}
use mathlib.Core.Path.{ap, refl, subst, sym, ◌∙◌, ◌≡◌}
use mathlib.Core.List.{◌++◌, List, [], append_assoc, append-nil}
use lib.Dec.{lit<}
use lib.ListN.{length, length-append}
use native.Mathlib.Omega.{arith}
use Rattle.buffer.specs.LittleEndian.{le, val}
use Rattle.buffer.specs.Slice.{part}
use Rattle.rules.specs.Syntax.{Block, Bound, Expr, append, assign, empty, loop, nest}
use Rattle.record.specs.Program.{block_size, bound_from, bound_kind, bound_number, encode_block, encode_bound, encode_expr, expr_from, expr_kind, expr_number}
use Rattle.buffer.proofs.LittleEndianLaws.{length-le}
use Rattle.record.proofs.ProgramLaws.{length-encode_block}
use Rattle.record.proofs.ReadingLaws.{length-encode_leaf}
use Rattle.place.specs.At.{At}
use Rattle.place.specs.Heads.{record_head}
use Rattle.place.specs.ProgramView.{AssignView, BlockAt, CommandView, LoopView, NestView, first_assign, first_loop, first_nest}
use Rattle.place.proofs.AtLaws.{at-index, at_join, at_part, at_room, at_same, word_read}
use Rattle.place.proofs.HeadsLaws.{kind_at, leaf-read, length_at, length-record_head}
use Rattle.place.proofs.ProgramBytesLaws.{block_size-append, block_size-assign, block_size-empty, block_size-loop, block_size-nest, block_size-zero, bound_kind-range, encode_block-append, encode_block-assign, encode_block-loop, encode_block-nest, encode_leaf-head, expr_kind-range, words_append}

-- PLACES

pub block-index : {l : List ℕ} {p q : ℕ} {b : Block} → BlockAt l p b → p ≡ q → BlockAt l q b
block-index h e = record { here = at-index h.here e; words = h.words; small = h.small }

pub block_same : {l : List ℕ} {p : ℕ} {b c : Block} → BlockAt l p b → b ≡ c → BlockAt l p c
block_same {l} {p} h e = subst (BlockAt l p) e h

pub block_room : {l : List ℕ} {p : ℕ} {b : Block} → BlockAt l p b → p + block_size b ≤ length l
block_room {l} {p} {b} h = omega (arith, at_room h.here, length-encode_block b)

-- two blocks one after the other are one block
pub block-append : {l : List ℕ} {p q : ℕ} {b c : Block} → BlockAt l p b → BlockAt l q c → p + block_size b ≡ q → block_size b + block_size c < 65536 → BlockAt l p (append b c)
block-append {l} {p} {q} {b} {c} h k e s = record {
  here = at_same (at_join h.here k.here (ap (λ (y : ℕ). p + y) (length-encode_block b) ∙ e)) (sym (encode_block-append b c));
  words = words_append b c h.words k.words;
  small = rw (block_size-append b c) s;
}

-- THE END OF THE ROW: nothing is left exactly of the empty block

pub row-empty : (b : Block) (p to : ℕ) → p + block_size b ≡ to → to ≤ p → b ≡ empty
row-empty b p to e h = block_size-zero b (omega arith)

-- THE FIRST COMMAND, where the tree is known

unfoldable pub nest-view : {l : List ℕ} {p : ℕ} (c r : Block) → BlockAt l p (nest c r) → NestView l p (nest c r)
nest-view {l} {p} c r h =
    let hd : List ℕ = record_head 1 (4 + block_size c) in
    let k : At l p (hd ++ (encode_block c ++ encode_block r)) = at_same h.here (encode_block-nest c r) in
    let hs : 4 + block_size c + block_size r < 65536 = rw (← block_size-nest c r) h.small in
    let inside : BlockAt l (p + 4) c = record {
      here = at_part k hd (encode_block c) (encode_block r) (p + 4) refl (ap (λ (y : ℕ). p + y) (length-record_head 1 (4 + block_size c)));
      words = h.words.0;
      small = omega arith;
    } in
    let after : BlockAt l (p + (4 + block_size c)) r = record {
      here = at_part k (hd ++ encode_block c) (encode_block r) [] (p + (4 + block_size c)) (simp (append_assoc, append-nil))
          (ap (λ (y : ℕ). p + y) (simp (length-append, length-record_head, length-encode_block)));
      words = h.words.1;
      small = omega arith;
    } in
    record {
      body = c;
      rest = r;
      is = refl;
      size = block_size-nest c r;
      room = block_room h;
      kind = kind_at 1 (4 + block_size c) (encode_block c ++ encode_block r) k (lit< tt);
      stored = length_at 1 (4 + block_size c) (encode_block c ++ encode_block r) k (omega arith);
      inside = inside;
      after = after;
      flat = block-append inside after (omega arith) (omega arith);
    }

unfoldable pub assign-view : {l : List ℕ} {p : ℕ} (x : ℕ) (e : Expr) (r : Block) → BlockAt l p (assign x e r) → AssignView l p (assign x e r)
assign-view {l} {p} x e r h =
    let hd : List ℕ = record_head 2 16 in
    let k : At l p (hd ++ (le 4 x ++ (encode_expr e ++ encode_block r))) = at_same h.here (encode_block-assign x e r) in
    let hs : 16 + block_size r < 65536 = rw (← block_size-assign x e r) h.small in
    let lh : length (hd ++ le 4 x) ≡ 8 = simp (length-append, length-record_head, length-le) in
    let v = word_read x (at_part k hd (le 4 x) (encode_expr e ++ encode_block r) (p + 4) refl (ap (λ (y : ℕ). p + y) (length-record_head 2 16))) h.words.0 in
    let expr-at : At l (p + 8) (encode_expr e) = at_part k (hd ++ le 4 x) (encode_expr e) (encode_block r) (p + 8) (simp append_assoc) (ap (λ (y : ℕ). p + y) lh) in
    let n = leaf-read (expr_kind e) (expr_number e) (p + 10) (p + 12) (at_same expr-at (encode_leaf-head expr_kind expr_number expr_from e)) (omega arith) (omega arith) (omega (arith, expr_kind-range e)) h.words.1 in
    record {
      variable = x;
      expr = e;
      rest = r;
      is = refl;
      size = block_size-assign x e r;
      room = block_room h;
      kind = kind_at 2 16 (le 4 x ++ (encode_expr e ++ encode_block r)) k (lit< tt);
      stored = length_at 2 16 (le 4 x ++ (encode_expr e ++ encode_block r)) k (lit< tt);
      variable-read = v.0;
      kind-read = n.0;
      number_read = n.1;
      variable-bytes = v.1;
      number-bytes = n.2;
      expr-at = expr-at;
      after = record {
        here = at_part k (hd ++ (le 4 x ++ encode_expr e)) (encode_block r) [] (p + 16) (simp (append_assoc, append-nil))
            (ap (λ (y : ℕ). p + y) (simp (length-append, length-record_head, length-le, length-encode_leaf)));
        words = h.words.2;
        small = omega arith;
      };
    }

unfoldable pub loop-view : {l : List ℕ} {p : ℕ} (x : ℕ) (m : Bound) (c r : Block) → BlockAt l p (loop x m c r) → LoopView l p (loop x m c r)
unfolding nest-view
loop-view {l} {p} x m c r h =
    let hd : List ℕ = record_head 3 (20 + block_size c) in
    let q : List ℕ = encode_block (nest c r) in
    let k : At l p (hd ++ (le 4 x ++ (encode_bound m ++ q))) = at_same h.here (encode_block-loop x m c r) in
    let hs : 20 + block_size c + block_size r < 65536 = rw (← block_size-loop x m c r) h.small in
    let lh : length (hd ++ le 4 x) ≡ 8 = simp (length-append, length-record_head, length-le) in
    let v = word_read x (at_part k hd (le 4 x) (encode_bound m ++ q) (p + 4) refl (ap (λ (y : ℕ). p + y) (length-record_head 3 (20 + block_size c)))) h.words.0 in
    let bound_at : At l (p + 8) (encode_bound m) = at_part k (hd ++ le 4 x) (encode_bound m) q (p + 8) (simp append_assoc) (ap (λ (y : ℕ). p + y) lh) in
    let n = leaf-read (bound_kind m) (bound_number m) (p + 10) (p + 12) (at_same bound_at (encode_leaf-head bound_kind bound_number bound_from m)) (omega arith) (omega arith) (omega (arith, bound_kind-range m)) h.words.1 in
    let block : BlockAt l (p + 16) (nest c r) = record {
      here = at_part k (hd ++ (le 4 x ++ encode_bound m)) q [] (p + 16) (simp (append_assoc, append-nil))
          (ap (λ (y : ℕ). p + y) (simp (length-append, length-record_head, length-le, length-encode_leaf)));
      words = (h.words.2, h.words.3);
      small = rw (block_size-nest c r) (omega arith);
    } in
    let s = nest-view c r block in
    record {
      variable = x;
      bound = m;
      body = c;
      rest = r;
      is = refl;
      size = block_size-loop x m c r;
      room = block_room h;
      kind = kind_at 3 (20 + block_size c) (le 4 x ++ (encode_bound m ++ q)) k (lit< tt);
      stored = length_at 3 (20 + block_size c) (le 4 x ++ (encode_bound m ++ q)) k (omega arith);
      variable-read = v.0;
      kind-read = n.0;
      number_read = n.1;
      variable-bytes = v.1;
      number-bytes = n.2;
      bound_at = bound_at;
      block = block;
      block-stored = s.stored;
      inside = block-index {p = p + 16 + 4} {b = c} s.inside (omega arith);
      after = block-index {p = p + 16 + (4 + block_size c)} {b = r} s.after (omega arith);
      flat = block-index {p = p + 16 + 4} {b = append c r} s.flat (omega arith);
    }

-- THE FIRST COMMAND, by the kind read

module _ {l : List ℕ} {p : ℕ} {b : Block} (h : BlockAt l p b) (some : 0 < block_size b) where
  pub command-view : CommandView l p b (val (part l (p + 2) 2))
  command-view = go b h some
    where
      go : (c : Block) → BlockAt l p c → 0 < block_size c → CommandView l p c (val (part l (p + 2) 2))
      go empty k s = absurd (omega (arith, block_size-empty))
      go (nest c r) k s = let v = nest-view c r k in rw v.kind (first_nest v)
      go (assign x e r) k s = let v = assign-view x e r k in rw v.kind (first_assign v)
      go (loop x m c r) k s = let v = loop-view x m c r k in rw v.kind (first_loop v)

  -- the first command's kind is one of the three
  pub command-kind : (1 ≤ val (part l (p + 2) 2)) × (val (part l (p + 2) 2) ≤ 3)
  command-kind = go (val (part l (p + 2) 2)) command-view
    where
      go : (n : ℕ) → CommandView l p b n → (1 ≤ n) × (n ≤ 3)
      go _ (first_nest v) = omega arith
      go _ (first_assign v) = omega arith
      go _ (first_loop v) = omega arith

  pub as-nest : val (part l (p + 2) 2) ≡ 1 → NestView l p b
  as-nest e = go (val (part l (p + 2) 2)) command-view e
    where
      go : (n : ℕ) → CommandView l p b n → n ≡ 1 → NestView l p b
      go _ (first_nest v) q = v
      go _ (first_assign v) q = absurd (omega arith)
      go _ (first_loop v) q = absurd (omega arith)

  pub as-assign : val (part l (p + 2) 2) ≡ 2 → AssignView l p b
  as-assign e = go (val (part l (p + 2) 2)) command-view e
    where
      go : (n : ℕ) → CommandView l p b n → n ≡ 2 → AssignView l p b
      go _ (first_nest v) q = absurd (omega arith)
      go _ (first_assign v) q = v
      go _ (first_loop v) q = absurd (omega arith)

  pub as-loop : val (part l (p + 2) 2) ≡ 3 → LoopView l p b
  as-loop e = go (val (part l (p + 2) 2)) command-view e
    where
      go : (n : ℕ) → CommandView l p b n → n ≡ 3 → LoopView l p b
      go _ (first_nest v) q = absurd (omega arith)
      go _ (first_assign v) q = absurd (omega arith)
      go _ (first_loop v) q = v
