-- Laws of the pass: one for each way of a turn.
use Prim.Native.Nat.{◌+◌, ◌-◌, ◌<◌, ◌≤◌, max, suc, zero, ℕ}
use mathlib.Core.Path.{ap, refl, subst, sym, ◌∙◌, ◌≡◌}
use mathlib.Core.Bool.{Bool, ◌||◌, false, true}
use mathlib.Core.List.{List, [], ◌∷◌}
use Rattle.std.proofs.Common.{Some}
use borrow.Author.Tests.{le-ltb, lt-ltb, ltb-false, ltb-true}
use lib.Dec.{ltb}
use lib.ListN.{get_or, length, set}
use lib.Seq.{get_or-set_other, get_or-set_same}
use native.Mathlib.Omega.{arith}
use Rattle.buffer.specs.LittleEndian.{val}
use Rattle.buffer.specs.Slice.{part}
use Rattle.record.specs.Program.{block_size}
use Rattle.rules.specs.Syntax.{Block, Bound, Expr, assign, empty, loop, nest}
use Rattle.place.specs.ProgramView.{BlockAt, CommandView, first_assign, first_loop, first_nest}
use Rattle.place.proofs.ProgramBytesLaws.{block_size-some, block_size-zero}
use Rattle.place.proofs.ProgramViewLaws.{as-assign, as-loop, as-nest, block-index, block_room, command-kind, command-view}
use Rattle.counting.specs.Depth.{depth_within, nesting}
use Rattle.nesting_check.specs.Rows.{Scanned, Standing, Turned, deep_from}

-- HOW DEEP WHAT IS LEFT IS, by what stands first in the innermost row

over-max : (n a b : ℕ) (d : Bool) → ltb 32 (n + max a b) || d ≡ ltb 32 (n + a) || (ltb 32 (n + b) || d)
over-max n a b d = by_tests (ltb 32 (n + a)) (ltb 32 (n + b)) refl refl
  where
    by_tests : (x y : Bool) → ltb 32 (n + a) ≡ x → ltb 32 (n + b) ≡ y → ltb 32 (n + max a b) || d ≡ x || (y || d)
    by_tests true y e f = ap (λ (t : Bool). t || d) (lt-ltb 32 (n + max a b) (omega (arith, ltb-true 32 (n + a) e)))
    by_tests false true e f = ap (λ (t : Bool). t || d) (lt-ltb 32 (n + max a b) (omega (arith, ltb-true 32 (n + b) f)))
    by_tests false false e f = ap (λ (t : Bool). t || d) (le-ltb 32 (n + max a b) (omega (arith, ltb-false 32 (n + a) e, ltb-false 32 (n + b) f)))

deep-empty : (bs : List Block) → suc (length bs) ≤ 32 → deep_from (empty ∷ bs) ≡ deep_from bs
unfolding deep_from depth_within
deep-empty bs l = ap (λ (t : Bool). t || deep_from bs) (le-ltb 32 (suc (length bs) + 0) (omega arith))

deep-assign : (x : ℕ) (e : Expr) (r : Block) (bs : List Block) → deep_from (assign x e r ∷ bs) ≡ deep_from (r ∷ bs)
unfolding deep_from depth_within
deep-assign x e r bs = refl

deep-inside : (q r : Block) (bs : List Block) → ltb 32 (suc (length bs) + max (suc (depth_within q)) (depth_within r)) || deep_from bs ≡ deep_from (q ∷ r ∷ bs)
unfolding deep_from
deep-inside q r bs =
    over-max (suc (length bs)) (suc (depth_within q)) (depth_within r) (deep_from bs)
    ∙ ap (λ (n : ℕ). ltb 32 n || (ltb 32 (suc (length bs) + depth_within r) || deep_from bs)) {x = suc (length bs) + suc (depth_within q)} {y = suc (suc (length bs)) + depth_within q} (omega arith)

deep-nest : (q r : Block) (bs : List Block) → deep_from (nest q r ∷ bs) ≡ deep_from (q ∷ r ∷ bs)
unfolding deep_from depth_within
deep-nest q r bs = deep-inside q r bs

deep-loop : (x : ℕ) (m : Bound) (q r : Block) (bs : List Block) → deep_from (loop x m q r ∷ bs) ≡ deep_from (q ∷ r ∷ bs)
unfolding deep_from depth_within
deep-loop x m q r bs = deep-inside q r bs

deep-33 : (q r : Block) (bs : List Block) → length bs ≡ 31 → deep_from (q ∷ r ∷ bs) ≡ true
unfolding deep_from
deep-33 q r bs e = ap (λ (t : Bool). t || (ltb 32 (suc (length bs) + depth_within r) || deep_from bs)) (lt-ltb 32 (suc (suc (length bs)) + depth_within q) (omega arith))

-- THE ENDS: those of the outer rows stay where another is kept behind them

standing-set : (buf : List ℕ) (used : ℕ) (ends : List ℕ) (bs : List Block) (q i v : ℕ) → length bs ≤ i → Standing buf used ends bs q → Standing buf used (set ends i v) bs q
standing-set buf used ends [] q i v l h = h
standing-set buf used ends (b ∷ bs) q i v l h =
    (h.0, get_or-set_other ends i (length bs) v 0 (λ e. omega arith) ∙ h.1, standing-set buf used ends bs (q + block_size b) i v (omega arith) h.2)

pub standing-low : (buf : List ℕ) (used : ℕ) (ends : List ℕ) (bs : List Block) (q : ℕ) → Standing buf used ends bs q → q ≤ used
standing-low buf used ends [] q h = omega (arith, h)
standing-low buf used ends (b ∷ bs) q h = omega (arith, standing-low buf used ends bs (q + block_size b) h.2)

-- where the pass is over nothing is left, and nothing too deep
pub standing-end : (buf : List ℕ) (used : ℕ) (ends : List ℕ) (bs : List Block) (q : ℕ) → Standing buf used ends bs q → used ≤ q → length bs ≤ 32 → deep_from bs ≡ false
standing-end buf used ends [] q h u l = unfold deep_from in refl
standing-end buf used ends (b ∷ bs) q h u l =
    let n : b ≡ empty = block_size-zero b (omega (arith, standing-low buf used ends bs (q + block_size b) h.2)) in
    ap (λ (z : Block). deep_from (z ∷ bs)) n ∙ deep-empty bs l ∙ standing-end buf used ends bs (q + block_size b) h.2 (omega arith) (omega arith)

-- THE START

pub scan-start : (buf : List ℕ) (used start : ℕ) (ends : List ℕ) (P : Block) → BlockAt buf start P → used ≡ start + block_size P → get_or ends 0 0 ≡ used
    → Scanned buf used (ltb 32 (nesting P)) ends 1 start
unfolding deep_from nesting
scan-start buf used start ends P b u e = record {
  rows = P ∷ [];
  stand = (b, e ∙ u, sym u);
  count = refl;
  few = omega arith;
  same = or-false (ltb 32 (1 + depth_within P)) ∙ ap (ltb 32) {x = 1 + depth_within P} {y = suc (depth_within P)} (omega arith);
}
  where
    or-false : (t : Bool) → t || false ≡ t
    or-false true = refl
    or-false false = refl

-- A TURN

-- the innermost row
pub record Row (buf : List ℕ) (used : ℕ) (deep : Bool) (ends : List ℕ) (depth q : ℕ) : Type 0 where
  pub block : Block
  pub outer : List Block
  pub here : BlockAt buf q block
  pub end : get_or ends (depth - 1) 0 ≡ q + block_size block
  pub count : depth ≡ suc (length outer)
  pub few : depth ≤ 32
  pub behind : Standing buf used ends outer (q + block_size block)
  pub same : deep_from (block ∷ outer) ≡ deep

pub row_of : (buf : List ℕ) (used : ℕ) (deep : Bool) (ends : List ℕ) (depth q : ℕ) → q < used → Scanned buf used deep ends depth q → Row buf used deep ends depth q
row_of buf used deep ends depth q l s = by_rows s.rows s.stand s.count s.same
  where
    by_rows : (rs : List Block) → Standing buf used ends rs q → length rs ≡ depth → deep_from rs ≡ deep → Row buf used deep ends depth q
    by_rows [] h c d = absurd (omega (arith, h, l))
    by_rows (b ∷ bs) h c d =
        record {
          block = b;
          outer = bs;
          here = h.0;
          end = ap (λ (n : ℕ). get_or ends n 0) {x = depth - 1} {y = length bs} (omega arith) ∙ h.1;
          count = sym c;
          few = s.few;
          behind = h.2;
          same = d;
        }

module _ {buf : List ℕ} {used : ℕ} {deep : Bool} {ends : List ℕ} {depth q : ℕ} (r : Row buf used deep ends depth q) where
  -- no row's end: something stands first
  module _ (f : q ≡ get_or ends (depth - 1) 0 → ⊥) where
    some : 0 < block_size r.block
    some = positive (block_size r.block) (λ e. f (omega (arith, r.end)))
      where
        positive : (m : ℕ) → (m ≡ 0 → ⊥) → 0 < m
        positive zero g = absurd (g refl)
        positive (suc m) g = omega arith

    pub row_room : q + 4 ≤ length buf
    row_room = omega (arith, block_room r.here, block_size-some r.block some)

    -- its record ends within the program
    pub row-end : (n : ℕ) → n ≡ val (part buf q 2) → q + n ≤ used
    row-end n e = by-view (val (part buf (q + 2) 2)) (command-view r.here some)
      where
        low : q + block_size r.block ≤ used
        low = standing-low buf used ends r.outer (q + block_size r.block) r.behind

        by-view : (k : ℕ) → CommandView buf q r.block k → q + n ≤ used
        by-view _ (first_nest v) = omega (arith, low, v.stored, v.size)
        by-view _ (first_assign v) = omega (arith, low, v.stored, v.size)
        by-view _ (first_loop v) = omega (arith, low, v.stored, v.size)

    pub turn-assign : (kind : ℕ) → kind ≡ val (part buf (q + 2) 2) → kind ≡ 2 → Turned buf used deep depth ends depth q (Some (q + 16))
    turn-assign kind g k =
        let v = as-assign r.here some (sym g ∙ k) in
        let w : q + block_size r.block ≡ q + 16 + block_size v.rest = omega (arith, v.size) in (
          record {
            rows = v.rest ∷ r.outer;
            stand = (
              v.after,
              ap (λ (n : ℕ). get_or ends n 0) {x = length r.outer} {y = depth - 1} (omega (arith, r.count)) ∙ r.end ∙ w,
              subst (Standing buf used ends r.outer) w r.behind,
            );
            count = sym r.count;
            few = r.few;
            same = sym (deep-assign v.variable v.expr v.rest r.outer) ∙ ap (λ (b : Block). deep_from (b ∷ r.outer)) (sym v.is) ∙ r.same;
          },
          omega arith,
          omega arith,
        )

    -- it is too deep
    pub turn-over : (kind : ℕ) → kind ≡ val (part buf (q + 2) 2) → (kind ≡ 2 → ⊥) → depth ≡ 32 → deep ≡ true
    turn-over kind g k c = sym r.same ∙ by-view (val (part buf (q + 2) 2)) (command-view r.here some) (λ e. k (g ∙ e))
      where
        by-view : (n : ℕ) → CommandView buf q r.block n → (n ≡ 2 → ⊥) → deep_from (r.block ∷ r.outer) ≡ true
        by-view _ (first_nest v) h =
            ap (λ (b : Block). deep_from (b ∷ r.outer)) v.is ∙ deep-nest v.body v.rest r.outer ∙ deep-33 v.body v.rest r.outer (omega (arith, r.count))
        by-view _ (first_assign v) h = absurd (h refl)
        by-view _ (first_loop v) h =
            ap (λ (b : Block). deep_from (b ∷ r.outer)) v.is ∙ deep-loop v.variable v.bound v.body v.rest r.outer
            ∙ deep-33 v.body v.rest r.outer (omega (arith, r.count))

  pub turn_end : q ≡ get_or ends (depth - 1) 0 → Turned buf used deep depth ends (depth - 1) q (Some q)
  turn_end e =
      let n : r.block ≡ empty = block_size-zero r.block (omega (arith, r.end)) in
      let z : q + block_size r.block ≡ q = omega (arith, r.end) in (
        record {
          rows = r.outer;
          stand = subst (Standing buf used ends r.outer) z r.behind;
          count = omega (arith, r.count);
          few = omega (arith, r.few);
          same = sym (deep-empty r.outer (omega (arith, r.count, r.few))) ∙ ap (λ (b : Block). deep_from (b ∷ r.outer)) (sym n) ∙ r.same;
        },
        omega (arith, r.count),
        omega arith,
      )

  -- another row is open within it: the ends and how many they are
  module _ (room : depth < 32) (long : length ends ≡ 32) (v : ℕ) (ends' : List ℕ) (more : ends' ≡ set ends depth v) (depth' : ℕ) (one : depth' ≡ depth + 1) where
    -- a loop or a block: b inside, from a bytes on, and t behind, from n bytes on
    open_row : (b t : Block) (a n : ℕ) → BlockAt buf (q + a) b → BlockAt buf (q + n) t → n ≡ a + block_size b → q + block_size r.block ≡ q + n + block_size t → 4 ≤ a
        → deep_from (r.block ∷ r.outer) ≡ deep_from (b ∷ t ∷ r.outer) → v ≡ q + n → Turned buf used deep depth ends' depth' q (Some (q + a))
    open_row b t a n hb ht e s l d g =
        let k : q + n ≡ q + a + block_size b = omega arith in
        let w : q + block_size r.block ≡ q + a + block_size b + block_size t = omega arith in
        let kept : (i : ℕ) → (i ≡ depth → ⊥) → get_or ends' i 0 ≡ get_or ends i 0 = λ i f. ap (λ (l : List ℕ). get_or l i 0) more ∙ get_or-set_other ends depth i v 0 f in (
          record {
            rows = b ∷ t ∷ r.outer;
            stand = (
              hb,
              ap (λ (l : List ℕ). get_or l (suc (length r.outer)) 0) more ∙ ap (λ (y : ℕ). get_or (set ends depth v) y 0) {x = suc (length r.outer)} {y = depth} (omega (arith, r.count)) ∙ get_or-set_same ends depth v 0 (omega arith) ∙ g ∙ k,
              (
                block-index ht k,
                kept (length r.outer) (λ y. omega (arith, r.count)) ∙ ap (λ (y : ℕ). get_or ends y 0) {x = length r.outer} {y = depth - 1} (omega (arith, r.count)) ∙ r.end ∙ w,
                subst (λ (l : List ℕ). Standing buf used l r.outer (q + a + block_size b + block_size t)) (sym more)
                    (standing-set buf used ends r.outer (q + a + block_size b + block_size t) depth v (omega (arith, r.count)) (subst (Standing buf used ends r.outer) w r.behind)),
              ),
            );
            count = omega (arith, r.count);
            few = omega arith;
            same = sym d ∙ r.same;
          },
          omega arith,
          omega arith,
        )

    module _ (f : q ≡ get_or ends (depth - 1) 0 → ⊥) (kind : ℕ) (g : kind ≡ val (part buf (q + 2) 2)) (e : v ≡ q + val (part buf q 2)) where
      pub turn-block : kind ≡ 1 → Turned buf used deep depth ends' depth' q (Some (q + 4))
      turn-block k =
          let w = as-nest r.here (some f) (sym g ∙ k) in
          open_row w.body w.rest 4 (4 + block_size w.body) w.inside w.after refl (omega (arith, w.size)) (omega arith)
          (ap (λ (z : Block). deep_from (z ∷ r.outer)) w.is ∙ deep-nest w.body w.rest r.outer) (e ∙ ap (λ (z : ℕ). q + z) w.stored)

      pub turn-loop : (kind ≡ 1 → ⊥) → (kind ≡ 2 → ⊥) → Turned buf used deep depth ends' depth' q (Some (q + 20))
      turn-loop k₁ k₂ =
          let w = as-loop r.here (some f) (third (val (part buf (q + 2) 2)) (command-kind r.here (some f)) (λ z. k₁ (g ∙ z)) (λ z. k₂ (g ∙ z))) in
          open_row w.body w.rest 20 (20 + block_size w.body) w.inside w.after refl (omega (arith, w.size)) (omega arith)
          (ap (λ (z : Block). deep_from (z ∷ r.outer)) w.is ∙ deep-loop w.variable w.bound w.body w.rest r.outer) (e ∙ ap (λ (z : ℕ). q + z) w.stored)
        where
          third : (n : ℕ) → (1 ≤ n) × (n ≤ 3) → (n ≡ 1 → ⊥) → (n ≡ 2 → ⊥) → n ≡ 3
          third n l a b = omega arith
