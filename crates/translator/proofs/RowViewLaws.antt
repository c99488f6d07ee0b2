-- The translation of a row by the numbers read at its start.
use Prim.Native.Nat.{◌*◌, ◌+◌, ◌<◌, ◌≤◌, ℕ}
use mathlib.Core.Path.{ap, refl, sym, ◌∙◌, ◌≡◌}
use mathlib.Core.Bool.{Bool, false, true}
use mathlib.Core.List.{◌++◌, List, append_assoc}
use borrow.Author.Tests.{eq-eqb, eqb-false, eqb-true, ltb-false, ltb-true, ne_eqb}
use lib.Dec.{eqb, ltb}
use lib.ListN.{length}
use native.Mathlib.Omega.{arith}
use Rattle.buffer.specs.LittleEndian.{le}
use Rattle.rules.specs.Syntax.{Block, Bound, Expr, append, assign, empty, loop, nest}
use Rattle.rules.specs.Translation.{simple_of}
use Rattle.record.specs.Front.{u16, u32}
use Rattle.record.specs.Program.{block_size, bound_kind, bound_number, expr_kind, expr_number}
use Rattle.record.specs.Term.{encode_simple}
use Rattle.place.specs.Edit.{lead, leaf_bytes}
use Rattle.place.specs.Heads.{record_head}
use Rattle.place.specs.ProgramView.{BlockAt}
use Rattle.place.proofs.ProgramBytesLaws.{block_size-append, block_size-some, bound_kind-range, expr_kind-range}
use Rattle.place.proofs.ProgramViewLaws.{as-assign, as-loop, as-nest, block_room, command-kind, row-empty}
use Rattle.place.proofs.TranslatedLaws.{atom_of-bytes, simple_of-high, simple_of-low, simple_size-high, simple_size-low}
use Rattle.translator.specs.RowTranslation.{RowAt, row_bytes, row_size}
use Rattle.translator.specs.TranslationHeads.{lead_of, let_all_head, let_all_size, let_one_head, let_one_size, opening}
use Rattle.translator.proofs.RowTranslationLaws.{row_bytes-assign, row_bytes-loop, row_bytes-nest, row_size-append, row_size-assign, row_size-loop, row_size-nest}
use Rattle.translator.proofs.TranslationHeadsLaws.{let_all_head-loop, let_all_head-nest, let_one_head-high, let_one_head-low, let_one_size-high, let_one_size-low}

-- AN ASSIGNMENT

module _ (k : ℕ) (l : List ℕ) (p x : ℕ) (e : Expr) (r : Block) (kind : u16 l (p + 10) ≡ expr_kind e) where
  assign-size : row_size k (assign x e r) ≡ let_one_size (ltb (u16 l (p + 10)) 18) + row_size k r
  assign-size = go (ltb (expr_kind e) 18) refl
    where
      go : (b : Bool) → ltb (expr_kind e) 18 ≡ b → row_size k (assign x e r) ≡ let_one_size (ltb (u16 l (p + 10)) 18) + row_size k r
      go true t =
          let h = ltb-true (expr_kind e) 18 t in
          omega (arith, row_size-assign k x e r, simple_size-low e h, let_one_size-low l p 0 (expr_kind e) (sym kind) h)
      go false t =
          let h = ltb-false (expr_kind e) 18 t in
          omega (arith, row_size-assign k x e r, simple_size-high e h, let_one_size-high l p 0 (expr_kind e) (sym kind) h)

  module _ (variable : u32 l (p + 4) ≡ x) (number : u32 l (p + 12) ≡ expr_number e) where
    assign-bytes : row_bytes k (assign x e r) ≡ let_one_head l p (row_size k (assign x e r)) ++ row_bytes k r
    unfolding lead_of lead leaf_bytes
    assign-bytes = row_bytes-assign k x e r ∙ go (ltb (expr_kind e) 18) refl
      where
        n : ℕ
        n = row_size k (assign x e r)

        go : (b : Bool) → ltb (expr_kind e) 18 ≡ b → record_head 37 n ++ (le 4 x ++ (encode_simple (simple_of e) ++ row_bytes k r)) ≡ let_one_head l p n ++ row_bytes k r
        go true t =
            let h = ltb-true (expr_kind e) 18 t in
            rw (simple_of-low e h, let_one_head-low l p n (expr_kind e) (sym kind) h, variable, kind, number) (simp append_assoc)
        go false t =
            let h = ltb-false (expr_kind e) 18 t in
            rw (simple_of-high e h, let_one_head-high l p n (expr_kind e) (sym kind) h, variable, number) (simp append_assoc)

-- A BLOCK OR A LOOP

nest-bytes : (k : ℕ) (l : List ℕ) (p : ℕ) (b r : Block) → u16 l (p + 2) ≡ 1
    → row_bytes k (nest b r) ≡ let_all_head k l p (row_size k (nest b r)) (row_size k b) ++ (row_bytes k b ++ row_bytes k r)
nest-bytes k l p b r kind =
    rw (let_all_head-nest l k p (row_size k (nest b r)) (row_size k b) 1 (sym kind) (λ z. omega arith)) (row_bytes-nest k b r)

loop-bytes : (k : ℕ) (l : List ℕ) (p x : ℕ) (n : Bound) (b r : Block) → u16 l (p + 2) ≡ 3
    → u32 l (p + 4) ≡ x → u16 l (p + 10) ≡ bound_kind n → u32 l (p + 12) ≡ bound_number n
    → row_bytes k (loop x n b r) ≡ let_all_head k l p (row_size k (loop x n b r)) (row_size k b) ++ (row_bytes k b ++ row_bytes k r)
unfolding lead_of lead leaf_bytes
loop-bytes k l p x n b r kind variable bound number =
    rw (let_all_head-loop l k p (row_size k (loop x n b r)) (row_size k b) 3 (sym kind) refl, variable, bound, number)
    (row_bytes-loop k x n b r ∙ rw (atom_of-bytes n) (simp append_assoc))

-- THE FIRST COMMAND OF A ROW

-- The row is an assignment and a row.
pub record Assigned (k : ℕ) (l : List ℕ) (p q : ℕ) (b : Block) : Type 0 where
  pub rest : RowAt l (p + 16) q
  pub reach : p + 16 ≤ q
  pub low : 16 ≤ u16 l (p + 10)
  pub high : u16 l (p + 10) ≤ 19
  pub size : row_size k b ≡ let_one_size (ltb (u16 l (p + 10)) 18) + row_size k rest.block
  pub bytes : row_bytes k b ≡ let_one_head l p (row_size k b) ++ row_bytes k rest.block

-- The row is a block or a loop, with a row inside, and a row.
pub record Opened (k : ℕ) (l : List ℕ) (p q : ℕ) (b : Block) : Type 0 where
  pub inner : RowAt l (p + opening (eqb (u16 l (p + 2)) 3)) (p + u16 l p)
  pub rest : RowAt l (p + u16 l p) q
  pub past : p < p + opening (eqb (u16 l (p + 2)) 3)
  pub order : p + opening (eqb (u16 l (p + 2)) 3) ≤ p + u16 l p
  pub reach : p + u16 l p ≤ q
  pub size : row_size k b ≡ let_all_size k (eqb (u16 l (p + 2)) 3) + row_size k inner.block + row_size k rest.block
  pub bytes : row_bytes k b ≡ let_all_head k l p (row_size k b) (row_size k inner.block) ++ (row_bytes k inner.block ++ row_bytes k rest.block)

-- The row is a head, which adds so many bytes to the translation, and what follows that head, as one row.
pub record Stepped (k : ℕ) (l : List ℕ) (p q : ℕ) (b : Block) (step adds : ℕ) : Type 0 where
  pub row : RowAt l (p + step) q
  pub reach : p + step ≤ q
  pub size : row_size k b ≡ adds + row_size k row.block

-- a kind that is neither 2 nor 3
one_of : (n : ℕ) → 1 ≤ n → n ≤ 3 → (n ≡ 2 → ⊥) → (n ≡ 3 → ⊥) → n ≡ 1
one_of n a b two three = omega (arith, two, three)

module _ {l : List ℕ} {p q : ℕ} (h : RowAt l p q) where
  pub row_room : q ≤ length l
  row_room = omega (arith, block_room h.here, h.ends)

  pub row-none : q ≤ p → h.block ≡ empty
  row-none e = row-empty h.block p q h.ends e

  module _ (some : p < q) where
    size-some : 0 < block_size h.block
    size-some = omega (arith, h.ends)

    -- a record stands there
    pub row-four : p + 4 ≤ q
    row-four = omega (arith, block_size-some h.block size-some, h.ends)

    kind-one : (u16 l (p + 2) ≡ 2 → ⊥) → (u16 l (p + 2) ≡ 3 → ⊥) → u16 l (p + 2) ≡ 1
    kind-one two three = let range = command-kind h.here size-some in one_of (u16 l (p + 2)) range.0 range.1 two three

    pub row-assign : (k : ℕ) → u16 l (p + 2) ≡ 2 → Assigned k l p q h.block
    row-assign k two =
        let v = as-assign h.here size-some two in
        let e = h.ends in
        let s = v.size in
        let n : row_size k h.block ≡ row_size k (assign v.variable v.expr v.rest) = ap (row_size k) v.is in
        record {
          rest = record { block = v.rest; here = v.after; ends = omega arith };
          reach = omega arith;
          low = omega (arith, expr_kind-range v.expr, v.kind-read);
          high = omega (arith, expr_kind-range v.expr, v.kind-read);
          size = n ∙ assign-size k l p v.variable v.expr v.rest v.kind-read;
          bytes = ap (row_bytes k) v.is
              ∙ assign-bytes k l p v.variable v.expr v.rest v.kind-read v.variable-read v.number_read
              ∙ ap (λ (y : ℕ). let_one_head l p y ++ row_bytes k v.rest) (sym n);
        }

    -- the kind of a loop's bound
    pub bound-kind : u16 l (p + 2) ≡ 3 → (16 ≤ u16 l (p + 10)) × (u16 l (p + 10) ≤ 19)
    bound-kind three =
        let v = as-loop h.here size-some three in
        (omega (arith, bound_kind-range v.bound, v.kind-read), omega (arith, bound_kind-range v.bound, v.kind-read))

    -- the row by the numbers that a loop or a block has there
    opened : (k : ℕ) (body rest : Block) (t : Bool) → eqb (u16 l (p + 2)) 3 ≡ t → BlockAt l (p + opening t) body → BlockAt l (p + (opening t + block_size body)) rest
        → u16 l p ≡ opening t + block_size body → block_size h.block ≡ opening t + block_size body + block_size rest → 4 ≤ opening t
        → row_size k h.block ≡ let_all_size k t + row_size k body + row_size k rest
        → row_bytes k h.block ≡ let_all_head k l p (row_size k h.block) (row_size k body) ++ (row_bytes k body ++ row_bytes k rest)
        → Opened k l p q h.block
    opened k body rest t is inside after stored size four sum bytes =
        let e = h.ends in
        record {
          inner = record { block = body; here = rw is inside; ends = rw (is, stored) (omega arith) };
          rest = record { block = rest; here = rw stored after; ends = omega arith };
          past = rw is (omega arith);
          order = rw (is, stored) (omega arith);
          reach = omega arith;
          size = rw is sum;
          bytes = bytes;
        }

    opened-loop : (k : ℕ) → u16 l (p + 2) ≡ 3 → Opened k l p q h.block
    unfolding opening let_all_size
    opened-loop k three =
        let v = as-loop h.here size-some three in
        let n : row_size k h.block ≡ row_size k (loop v.variable v.bound v.body v.rest) = ap (row_size k) v.is in
        opened k v.body v.rest true (eq-eqb (u16 l (p + 2)) 3 three) v.inside v.after v.stored v.size (omega arith)
        (n ∙ row_size-loop k v.variable v.bound v.body v.rest)
        (ap (row_bytes k) v.is
        ∙ loop-bytes k l p v.variable v.bound v.body v.rest three v.variable-read v.kind-read v.number_read
        ∙ ap (λ (y : ℕ). let_all_head k l p y (row_size k v.body) ++ (row_bytes k v.body ++ row_bytes k v.rest)) (sym n))

    opened-nest : (k : ℕ) → u16 l (p + 2) ≡ 1 → Opened k l p q h.block
    unfolding opening let_all_size
    opened-nest k one =
        let v = as-nest h.here size-some one in
        let n : row_size k h.block ≡ row_size k (nest v.body v.rest) = ap (row_size k) v.is in
        opened k v.body v.rest false (ne_eqb (u16 l (p + 2)) 3 (λ z. omega arith)) v.inside v.after v.stored v.size (omega arith)
        (n ∙ row_size-nest k v.body v.rest)
        (ap (row_bytes k) v.is
        ∙ nest-bytes k l p v.body v.rest one
        ∙ ap (λ (y : ℕ). let_all_head k l p y (row_size k v.body) ++ (row_bytes k v.body ++ row_bytes k v.rest)) (sym n))

    pub row_open : (k : ℕ) → (u16 l (p + 2) ≡ 2 → ⊥) → Opened k l p q h.block
    row_open k two = go (eqb (u16 l (p + 2)) 3) refl
      where
        go : (t : Bool) → eqb (u16 l (p + 2)) 3 ≡ t → Opened k l p q h.block
        go true t = opened-loop k (eqb-true (u16 l (p + 2)) 3 t)
        go false t = opened-nest k (kind-one two (eqb-false (u16 l (p + 2)) 3 t))

    -- FOR A SCAN THAT STEPS INTO HEADS

    pub step-assign : (k : ℕ) → u16 l (p + 2) ≡ 2 → Stepped k l p q h.block 16 (let_one_size (ltb (u16 l (p + 10)) 18))
    step-assign k two = let a = row-assign k two in record { row = a.rest; reach = a.reach; size = a.size }

    pub step_loop : (k : ℕ) → u16 l (p + 2) ≡ 3 → Stepped k l p q h.block 20 (28 + 16 * k)
    step_loop k three =
        let v = as-loop h.here size-some three in
        let e = h.ends in
        let s = v.size in
        let a = block_size-append v.body v.rest in
        let n : row_size k h.block ≡ row_size k (loop v.variable v.bound v.body v.rest) = ap (row_size k) v.is in
        record {
          row = record { block = append v.body v.rest; here = v.flat; ends = omega arith };
          reach = omega arith;
          size = omega (arith, row_size-loop k v.variable v.bound v.body v.rest, row_size-append k v.body v.rest);
        }

    pub step-nest : (k : ℕ) → (u16 l (p + 2) ≡ 2 → ⊥) → (u16 l (p + 2) ≡ 3 → ⊥) → Stepped k l p q h.block 4 (8 + 8 * k)
    step-nest k two three =
        let v = as-nest h.here size-some (kind-one two three) in
        let e = h.ends in
        let s = v.size in
        let a = block_size-append v.body v.rest in
        let n : row_size k h.block ≡ row_size k (nest v.body v.rest) = ap (row_size k) v.is in
        record {
          row = record { block = append v.body v.rest; here = v.flat; ends = omega arith };
          reach = omega arith;
          size = omega (arith, row_size-nest k v.body v.rest, row_size-append k v.body v.rest);
        }
