-- What a loop in play expands to, over the program's bytes: its turns to come around what stands first, and what is behind it.
use Prim.Native.Nat.{◌+◌, ◌-◌, suc, zero, ℕ}
use mathlib.Core.Path.{ap, refl, sym, ◌∙◌, ◌≡◌}
use mathlib.Core.List.{◌++◌, List, [], append_assoc}
use lib.ListN.{length, length-append}
use native.Mathlib.Omega.{arith}
use Rattle.buffer.specs.LittleEndian.{val}
use Rattle.buffer.specs.Slice.{part}
use Rattle.rules.specs.Syntax.{Block, Bound, Expr, assign, empty, lit, loop, nest, upto}
use Rattle.record.specs.Program.{block_size, encode_block, encode_bound}
use Rattle.record.proofs.ProgramLaws.{length-encode_block}
use Rattle.place.specs.Edit.{lead, leaf_bytes}
use Rattle.place.specs.Heads.{record_head}
use Rattle.place.specs.ProgramView.{BlockAt}
use Rattle.place.proofs.AtLaws.{at_part, part_at}
use Rattle.place.proofs.HeadsLaws.{length-record_head}
use Rattle.place.proofs.ProgramBytesLaws.{block_size-assign, block_size-empty, encode_block-empty, encode_block-loop, encode_block-nest}
use Rattle.place.proofs.ProgramEditLaws.{encode_block-assign-lit, encode_bound-upto}
use Rattle.place.proofs.ProgramViewLaws.{assign-view, loop-view}
use Rattle.counting.specs.Counting.{turns_around}
use Rattle.expansion.specs.Pieces.{block_bytes, last_turn, led_bytes, storing_bytes, turn_bytes, turns_bytes, unrolling_bytes}

-- the bytes of a block that stands at an index
pub block-part : (l : List ℕ) (p n : ℕ) (b : Block) → BlockAt l p b → block_size b ≡ n → part l p n ≡ encode_block b
block-part l p n b h e = part_at h.here n (length-encode_block b ∙ e)

-- THE PARTS OF A LOOP that stands at an index, with r behind it
pub record LoopParts (l : List ℕ) (at n : ℕ) (x : ℕ) (q r : Block) : Type 0 where
  pub variable : val (part l (at + 4) 4) ≡ x
  pub size : n ≡ 20 + block_size q
  pub body : part l (at + 20) (n - 20) ≡ encode_block q
  pub block : part l (at + 16) (n - 16) ≡ record_head 1 (4 + block_size q) ++ encode_block q
  pub rest : part l (at + n) (block_size r) ≡ encode_block r

pub loop-parts : (l : List ℕ) (at n x : ℕ) (bound : Bound) (q r : Block) → BlockAt l at (loop x bound q r) → n ≡ 20 + block_size q → LoopParts l at n x q r
unfolding loop-view
loop-parts l at n x bound q r h e =
    let v = loop-view x bound q r h in
    let hd : List ℕ = record_head 1 (4 + block_size q) in
    let first : part l (at + 16) (n - 16) ≡ hd ++ encode_block q =
    part_at (at_part v.block.here [] (hd ++ encode_block q) (encode_block r) (at + 16) (encode_block-nest q r ∙ sym (append_assoc hd (encode_block q) (encode_block r))) (omega arith)) (n - 16)
    (length-append hd (encode_block q) ∙ omega (arith, length-record_head 1 (4 + block_size q), length-encode_block q)) in
    record {
      variable = v.variable-read;
      size = e;
      body = block-part l (at + 20) (n - 20) q v.inside (omega arith);
      block = first;
      rest = ap (λ (k : ℕ). part l (at + k) (block_size r)) e ∙ block-part l (at + (20 + block_size q)) (block_size r) r v.after refl;
    }

module _ (l : List ℕ) (at n x : ℕ) (q r : Block) (g : LoopParts l at n x q r) where
  -- an assignment of a literal and the body are a turn
  pub turn-bytes : (v : ℕ) → encode_block (assign x (lit v) q) ≡ turn_bytes l at n v
  unfolding turn_bytes led_bytes
  turn-bytes v = encode_block-assign-lit x v q ∙ rw (g.variable, g.body) refl

  -- the turns to come, around what `first` puts in front of what follows it
  pub turns-bytes : (c : ℕ) (first : Block → Block) (m : List ℕ) → ((t : Block) → encode_block (first t) ≡ m ++ encode_block t)
      → (d : ℕ) (t : Block) → encode_block (turns_around x c q first d t) ≡ turns_bytes l at n c m d ++ encode_block t
  turns-bytes c first m h zero t = unfold turns_around turns_bytes in h t
  turns-bytes c first m h (suc d) t = step (turns-bytes c first m h d (assign x (lit (suc (c + d))) q))
    where
      step : encode_block (turns_around x c q first d (assign x (lit (suc (c + d))) q)) ≡ turns_bytes l at n c m d ++ encode_block (assign x (lit (suc (c + d))) q)
          → encode_block (turns_around x c q first (suc d) t) ≡ turns_bytes l at n c m (suc d) ++ encode_block t
      step ih = unfold turns_around turns_bytes block_bytes last_turn in (
          let a : Block = turns_around x c q first d (assign x (lit (suc (c + d))) q) in
          let u : List ℕ = turns_bytes l at n c m d ++ turn_bytes l at n (suc (c + d)) in
          let e : encode_block a ≡ u = ih ∙ ap (λ (y : List ℕ). turns_bytes l at n c m d ++ y) (turn-bytes (suc (c + d))) in
          let k : block_size a ≡ length u = sym (length-encode_block a) ∙ ap length e in
          encode_block-nest a t ∙ rw (e, k) (sym (append_assoc (record_head 1 (4 + length u)) u (encode_block t))))

  -- WHAT STANDS FIRST
  pub storing-bytes : (c : ℕ) (t : Block) → encode_block (nest (assign x (lit c) q) t) ≡ storing_bytes l at n c ++ encode_block t
  unfolding storing_bytes
  storing-bytes c t =
      let k : 4 + block_size (assign x (lit c) q) ≡ n = omega (arith, block_size-assign x (lit c) q, g.size) in
      encode_block-nest (assign x (lit c) q) t ∙ rw (k, turn-bytes c) (sym (append_assoc (record_head 1 n) (turn_bytes l at n c) (encode_block t)))

  pub unrolling-bytes : (c : ℕ) (t : Block) → encode_block (loop x (upto c) q t) ≡ unrolling_bytes l at n c ++ encode_block t
  unfolding unrolling_bytes led_bytes lead
  unrolling-bytes c t =
      let k : 20 + block_size q ≡ n = sym g.size in
      let b : encode_bound (upto c) ≡ leaf_bytes 16 c = encode_bound-upto c in
      encode_block-loop x (upto c) q t ∙ rw (k, b, encode_block-nest q t, g.variable, g.block) (simp append_assoc)

pub empty-bytes : (t : Block) → encode_block (nest empty t) ≡ record_head 1 4 ++ encode_block t
empty-bytes t =
    let k : 4 + block_size empty ≡ 4 = omega (arith, block_size-empty) in
    encode_block-nest empty t ∙ rw (k, encode_block-empty) refl

-- A BLOCK of what has these bytes
pub nest-bytes : (b t : Block) → encode_block (nest b t) ≡ (record_head 1 (4 + block_size b) ++ encode_block b) ++ encode_block t
nest-bytes b t = encode_block-nest b t ∙ sym (append_assoc (record_head 1 (4 + block_size b)) (encode_block b) (encode_block t))

-- AN ASSIGNMENT with another literal
pub summed-bytes : (l : List ℕ) (at count x : ℕ) (e : Expr) (v : ℕ) (r : Block) → BlockAt l at (assign x e r) → block_size (assign x e r) ≡ count
    → encode_block (assign x (lit v) r) ≡ led_bytes l at 2 16 v (at + 16) (count - 16)
unfolding led_bytes assign-view
summed-bytes l at count x e v r h s =
    let w = assign-view x e r h in
    encode_block-assign-lit x v r
    ∙ rw (w.variable-read, block-part l (at + 16) (count - 16) r w.after (omega (arith, block_size-assign x e r))) refl
