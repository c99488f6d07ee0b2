-- Laws of blocks inside the first blocks of a block: their bytes, the first command that the rules act on, the walk to it,
-- and the step there.
use Prim.Native.Nat.{◌*◌, ◌+◌, ◌<◌, ◌≤◌, ℕ}
use mathlib.Core.Path.{ap, refl, sym, ◌∙◌, ◌≡◌}
use mathlib.Core.Bool.{Bool, false, true}
use mathlib.Core.List.{◌++◌, List, [], append-nil, ◌∷◌}
use borrow.Author.Tests.{eq-eqb, eqb-true, lt-ltb, ltb-true, ne_eqb}
use lib.Dec.{eqb, ltb}
use lib.ListN.{length, length-append}
use native.Mathlib.Omega.{arith}
use Rattle.buffer.specs.LittleEndian.{val}
use Rattle.buffer.specs.Slice.{part}
use Rattle.rules.specs.Reduction.{on_next}
use Rattle.rules.specs.Rules.{at}
use Rattle.rules.specs.Step.{step, step_block, step_inside}
use Rattle.rules.specs.Syntax.{Answer, Block, Config, assign, empty, finished, loop, nest, next, over}
use Rattle.record.specs.Program.{BlockWords, block_size, encode_block}
use Rattle.rules.proofs.FinishedLaws.{step-finished}
use Rattle.rules.proofs.Tests.{and_both, true-false}
use Rattle.record.proofs.ProgramLaws.{length-encode_block}
use Rattle.place.specs.Heads.{record_head}
use Rattle.place.specs.Nesting.{Nests, around, plug}
use Rattle.place.specs.Path.{Spot, Walk, blocks, opens_at, path, plug_config, spot, spot_assign, spot_empty, spot_loop}
use Rattle.place.specs.ProgramView.{BlockAt}
use Rattle.place.proofs.NestingLaws.{plug-at, plug-keeps, plug-nil, plug-snoc, size-plug}
use Rattle.place.proofs.ProgramBytesLaws.{block_size-assign, block_size-empty, block_size-loop, block_size-nest, block_size-some, encode_block-nest}
use Rattle.place.proofs.ProgramViewLaws.{as-nest, block-index, block_room, block_same, nest-view}

-- BYTES AND SIZES

pub blocks-nest : Nests blocks
blocks-nest = record {
  length-encode = length-encode_block;
  encode-wrap = λ t r. let e : 4 + block_size t ≡ 4 + block_size t + 0 = omega arith in encode_block-nest t r ∙ ap (λ (n : ℕ). record_head 1 n ++ (encode_block t ++ encode_block r)) e;
  inside-le = λ r. omega arith;
}

pub block_size-plug : (p : List Block) (b : Block) → block_size (plug blocks p b) ≡ block_size b + around blocks p
block_size-plug = size-plug blocks blocks-nest

pub words-plug : (p : List Block) (b : Block) → BlockWords (plug blocks p b) → BlockWords b
words-plug = plug-keeps blocks BlockWords (λ t r h. h.0)

pub block-plug : {l : List ℕ} {o : ℕ} (p : List Block) (b : Block) → BlockAt l o (plug blocks p b) → BlockAt l (o + 4 * length p) b
block-plug p b h = record {
  here = plug-at blocks blocks-nest p b h.here;
  words = words-plug p b h.words;
  small = omega (arith, h.small, block_size-plug p b);
}

-- THE FIRST COMMAND THAT THE RULES ACT ON

pub plug-spot : (b : Block) → plug blocks (path b) (spot b) ≡ b
unfolding plug path spot
plug-spot empty = refl
plug-spot (assign x e r) = refl
plug-spot (loop x n b r) = refl
plug-spot (nest empty r) = refl
plug-spot (nest (assign x e q) r) = refl
plug-spot (nest (loop x n b q) r) = refl
plug-spot (nest (nest b q) r) = ap (λ (c : Block). nest c r) (plug-spot (nest b q))

pub spot_is : (b : Block) → 0 < block_size b → Spot (spot b)
unfolding spot
spot_is empty h = absurd (omega (arith, block_size-empty))
spot_is (assign x e r) h = spot_assign
spot_is (loop x n b r) h = spot_loop
spot_is (nest empty r) h = spot_empty
spot_is (nest (assign x e q) r) h = spot_assign
spot_is (nest (loop x n b q) r) h = spot_loop
spot_is (nest (nest b q) r) h = spot_is (nest b q) (omega (arith, block_size-nest b q))

pub path-spot : (b : Block) → Spot b → path b ≡ []
unfolding path
path-spot _ spot_assign = refl
path-spot _ spot_loop = refl
path-spot _ spot_empty = refl

pub spot-some : (b : Block) → Spot b → 0 < block_size b
unfolding block_size
spot-some _ spot_assign = omega arith
spot-some _ spot_loop = omega arith
spot-some _ spot_empty = omega arith

pub plug-some : (p : List Block) (b : Block) → 0 < block_size b → 0 < block_size (plug blocks p b)
plug-some p b h = omega (arith, block_size-plug p b)

path-nest : (b r : Block) → 0 < block_size b → path (nest b r) ≡ r ∷ path b
unfolding path
path-nest empty r h = absurd (omega (arith, block_size-empty))
path-nest (assign x e q) r h = refl
path-nest (loop x n b q) r h = refl
path-nest (nest b q) r h = refl

spot-nest : (b r : Block) → 0 < block_size b → spot (nest b r) ≡ spot b
unfolding spot
spot-nest empty r h = absurd (omega (arith, block_size-empty))
spot-nest (assign x e q) r h = refl
spot-nest (loop x n b q) r h = refl
spot-nest (nest b q) r h = refl

-- below a path, the path goes on
pub path-plug : (p : List Block) (b : Block) → 0 < block_size b → path (plug blocks p b) ≡ p ++ path b
unfolding plug
path-plug [] b h = refl
path-plug (r ∷ p) b h = path-nest (plug blocks p b) r (plug-some p b h) ∙ ap (λ (q : List Block). r ∷ q) (path-plug p b h)

pub spot-plug : (p : List Block) (b : Block) → 0 < block_size b → spot (plug blocks p b) ≡ spot b
unfolding plug
spot-plug [] b h = refl
spot-plug (r ∷ p) b h = spot-nest (plug blocks p b) r (plug-some p b h) ∙ spot-plug p b h

-- THE WALK TO IT

-- what the test of a turn is, by the numbers read
pub opens-yes : (l : List ℕ) (p : ℕ) → val (part l (p + 2) 2) ≡ 1 → 4 < val (part l p 2) → opens_at l p ≡ true
unfolding opens_at
opens-yes l p e h = rw (eq-eqb (val (part l (p + 2) 2)) 1 e, lt-ltb 4 (val (part l p 2)) h)

pub opens-kind : (l : List ℕ) (p : ℕ) → (val (part l (p + 2) 2) ≡ 1 → ⊥) → opens_at l p ≡ false
unfolding opens_at
opens-kind l p h = rw (ne_eqb (val (part l (p + 2) 2)) 1 h)

pub opens-test : (l : List ℕ) (p n : ℕ) → val (part l (p + 2) 2) ≡ 1 → n ≡ val (part l p 2) → ltb 4 n ≡ opens_at l p
unfolding opens_at
opens-test l p n e f = rw (e, f) refl

-- a block with commands in it passes the test
opens-nest : (l : List ℕ) (p : ℕ) (c r : Block) → BlockAt l p (nest c r) → 0 < block_size c → opens_at l p ≡ true
unfolding nest-view
opens-nest l p c r h s = let v = nest-view c r h in opens-yes l p v.kind (rw v.stored (omega arith))

pub walk_start : (b : Block) (o : ℕ) → 0 < block_size b → Walk b o o
walk_start b o h = record { passed = []; here = b; whole = sym (plug-nil blocks b); place = omega arith; some = h }

module _ {l : List ℕ} {o p : ℕ} {b : Block} (h : BlockAt l o b) (w : Walk b o p) where
  -- what stands where the walk is
  pub walk_at : BlockAt l p w.here
  walk_at = block-index (block-plug w.passed w.here (block_same h w.whole)) w.place

  pub walk-room : p + 4 ≤ length l
  walk-room = omega (arith, block_room walk_at, block_size-some w.here w.some)

  -- a turn
  pub walk-next : opens_at l p ≡ true → Walk b o (p + 4)
  unfolding opens_at
  walk-next e =
      let t = and_both (eqb (val (part l (p + 2) 2)) 1) (ltb 4 (val (part l p 2))) e in
      let v = as-nest walk_at w.some (eqb-true (val (part l (p + 2) 2)) 1 t.0) in
      record {
        passed = w.passed ++ (v.rest ∷ []);
        here = v.body;
        whole = w.whole ∙ ap (plug blocks w.passed) v.is ∙ sym (plug-snoc blocks w.passed v.rest v.body);
        place = rw (length-append w.passed (v.rest ∷ [])) (omega (arith, w.place));
        some = omega (arith, v.stored, ltb-true 4 (val (part l p 2)) t.1);
      }

  -- the end: what stands there is one that the rules act on
  walk-spot : opens_at l p ≡ false → Spot w.here
  walk-spot e = go w.here w.some walk_at
    where
      go : (c : Block) → 0 < block_size c → BlockAt l p c → Spot c
      go empty s k = absurd (omega (arith, block_size-empty))
      go (assign x a r) s k = spot_assign
      go (loop x n c r) s k = spot_loop
      go (nest empty r) s k = spot_empty
      go (nest (assign x a q) r) s k = true-false (sym (opens-nest l p (assign x a q) r k (omega (arith, block_size-assign x a q))) ∙ e)
      go (nest (loop x n c q) r) s k = true-false (sym (opens-nest l p (loop x n c q) r k (omega (arith, block_size-loop x n c q))) ∙ e)
      go (nest (nest c q) r) s k = true-false (sym (opens-nest l p (nest c q) r k (omega (arith, block_size-nest c q))) ∙ e)

  -- so it is the block's spot, at the end of the block's path
  pub walk_end : opens_at l p ≡ false → p ≡ o + 4 * length (path b)
  walk_end e =
      let s = walk-spot e in
      let q : path b ≡ w.passed =
      ap path w.whole ∙ path-plug w.passed w.here w.some ∙ ap (λ (y : List Block). w.passed ++ y) (path-spot w.here s) ∙ append-nil w.passed in
      rw q (sym w.place)

pub spot-at : {l : List ℕ} {o : ℕ} {b : Block} → BlockAt l o b → BlockAt l (o + 4 * length (path b)) (spot b)
spot-at {l} {o} {b} h = block-plug (path b) (spot b) (block_same h (sym (plug-spot b)))

-- THE STEP

-- a block that is not empty is not finished
not-finished : (ok : ℕ → Bool) (b : Block) (s vs : List ℕ) → 0 < block_size b → step_block ok b s ≡ finished vs → ⊥
unfolding step
not-finished ok b s vs h e =
    let f : b ≡ empty = (step-finished ok (at b s)).0 (vs, e) in
    omega (arith, ap block_size f, block_size-empty)

on_next-plug : (p : List Block) (r : Block) (a : Answer Config) → ((vs : List ℕ) → a ≡ finished vs → ⊥) → step_inside r (on_next (plug_config p) a) ≡ on_next (plug_config (r ∷ p)) a
unfolding step_inside on_next plug
on_next-plug p r (finished vs) h = absurd (h vs refl)
on_next-plug p r over h = refl
on_next-plug p r (next c) h = refl

on_next-nil : (a : Answer Config) → a ≡ on_next (plug_config []) a
unfolding on_next plug
on_next-nil (finished vs) = refl
on_next-nil over = refl
on_next-nil (next c) = refl

pub step-plug : (ok : ℕ → Bool) (p : List Block) (b : Block) (s : List ℕ) → 0 < block_size b
    → step ok (at (plug blocks p b) s) ≡ on_next (plug_config p) (step ok (at b s))
unfolding step step_block plug
step-plug ok [] b s h = on_next-nil (step_block ok b s)
step-plug ok (r ∷ p) b s h = ap (step_inside r) (step-plug ok p b s h) ∙ on_next-plug p r (step_block ok b s) (λ vs e. not-finished ok b s vs h e)

-- the empty block that stands first goes
pub step-nest-empty : (ok : ℕ → Bool) (r : Block) (s : List ℕ) → step ok (at (nest empty r) s) ≡ next (at r s)
unfolding step step_block step_inside
step-nest-empty ok r s = refl

-- the step of a block is the step of its spot, at the end of its path
pub step-spot : (ok : ℕ → Bool) (b : Block) (s : List ℕ) → 0 < block_size b → step ok (at b s) ≡ on_next (plug_config (path b)) (step ok (at (spot b) s))
step-spot ok b s h =
    ap (λ (c : Block). step ok (at c s)) (sym (plug-spot b)) ∙ step-plug ok (path b) (spot b) s (spot-some (spot b) (spot_is b h))
