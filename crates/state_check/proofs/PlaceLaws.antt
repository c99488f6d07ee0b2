-- Laws of the walk through a block's commands: a command or the end stands at a place exactly where the walk meets it.
use Prim.Native.Nat.{◌+◌, ◌<◌, ◌≤◌, ℕ}
use mathlib.Core.Path.{ap, refl, subst, sym, ◌∙◌, ◌≡◌}
use mathlib.Core.Bool.{Bool, false, true}
use mathlib.Core.List.{List}
use mathlib.Core.Option.{none, some}
use borrow.Author.Tests.{eqb-false, eqb-true}
use lib.Dec.{eqb}
use lib.ListN.{length}
use native.Mathlib.Omega.{arith}
use Rattle.buffer.specs.LittleEndian.{val}
use Rattle.buffer.specs.Slice.{part}
use Rattle.record.specs.Program.{block_size}
use Rattle.rules.specs.Syntax.{Block, assign, empty, loop, nest}
use Rattle.place.specs.ProgramView.{BlockAt}
use Rattle.place.proofs.ProgramBytesLaws.{block_size-empty, block_size-zero}
use Rattle.place.proofs.ProgramViewLaws.{assign-view, block-index, loop-view, nest-view}
use Rattle.counting.specs.Place.{rest_at}
use Rattle.counting.proofs.PlaceLaws.{rest-self}
use Rattle.record.proofs.ReadingLaws.{pick_other}
use Rattle.state_check.specs.Class.{is_some}

place_here : (t : Block) (q p : ℕ) → p ≡ q → true ≡ is_some (rest_at t q p)
unfolding is_some
place_here t q p e = sym (ap is_some (ap (rest_at t q) e ∙ rest-self t q))

place_end : (t : Block) (q p : ℕ) → t ≡ empty → eqb p q ≡ is_some (rest_at t q p)
place_end t q p e = by-test (eqb p q) refl ∙ sym (ap (λ (z : Block). is_some (rest_at z q p)) e)
  where
    by-test : (b : Bool) → eqb p q ≡ b → b ≡ is_some (rest_at empty q p)
    by-test true f = place_here empty q p (eqb-true p q f)
    by-test false f = unfold rest_at is_some in (sym (ap is_some (pick_other p q (some empty) none (eqb-false p q f))))

-- The bytes hold the program's first command at o.
module _ (buf : List ℕ) (o : ℕ) where
  -- How long the record at the place q is.
  abbrev stored : ℕ → ℕ
  stored q = val (part buf (o + q) 2)

  -- What is behind the command that stands first.
  record Behind (t : Block) (q p : ℕ) : Type 0 where
    room : o + q + 4 ≤ length buf
    behind : Block
    stands : BlockAt buf (o + (q + stored q)) behind
    size : q + stored q + block_size behind ≡ q + block_size t
    long : 4 ≤ stored q
    same : (p ≡ q → ⊥) → rest_at t q p ≡ rest_at behind (q + stored q) p

  behind-of : (t : Block) (q p : ℕ) → (t ≡ empty → ⊥) → BlockAt buf (o + q) t → Behind t q p
  unfolding assign-view loop-view nest-view rest_at
  behind-of empty q p n h = absurd (n refl)
  behind-of (assign x e r) q p n h =
      let v = assign-view x e r h in
      let s : q + stored q ≡ q + 16 = omega (arith, v.stored) in
      record {
        room = omega (arith, v.room, v.size);
        behind = r;
        stands = block-index v.after (omega arith);
        size = omega (arith, v.size);
        long = omega (arith, v.stored);
        same = λ f. pick_other p q _ _ f ∙ ap (λ (m : ℕ). rest_at r m p) (sym s);
      }
  behind-of (loop x m b r) q p n h =
      let v = loop-view x m b r h in
      let s : q + stored q ≡ q + (20 + block_size b) = omega (arith, v.stored) in
      record {
        room = omega (arith, v.room, v.size);
        behind = r;
        stands = block-index v.after (omega arith);
        size = omega (arith, v.size);
        long = omega (arith, v.stored);
        same = λ f. pick_other p q _ _ f ∙ ap (λ (m : ℕ). rest_at r m p) (sym s);
      }
  behind-of (nest b r) q p n h =
      let v = nest-view b r h in
      let s : q + stored q ≡ q + (4 + block_size b) = omega (arith, v.stored) in
      record {
        room = omega (arith, v.room, v.size);
        behind = r;
        stands = block-index v.after (omega arith);
        size = omega (arith, v.size);
        long = omega (arith, v.stored);
        same = λ f. pick_other p q _ _ f ∙ ap (λ (m : ℕ). rest_at r m p) (sym s);
      }

  -- The walk has come to q.
  pub record Walked (b : Block) (a end p q : ℕ) : Type 0 where
    pub left : Block
    pub stands : BlockAt buf (o + q) left
    pub size : q + block_size left ≡ end
    pub same : rest_at b a p ≡ rest_at left q p

  pub walked_start : (b : Block) (a end p : ℕ) → BlockAt buf (o + a) b → a + block_size b ≡ end → Walked b a end p a
  walked_start b a end p h e = record { left = b; stands = h; size = e; same = refl }

module _ {buf : List ℕ} {o : ℕ} {b : Block} {a end p q : ℕ} (w : Walked buf o b a end p q) where
  pub walked_end : (q < end → ⊥) → eqb p q ≡ is_some (rest_at b a p)
  walked_end l = place_end w.left q p (block_size-zero w.left (omega (arith, w.size, l))) ∙ ap is_some (sym w.same)

  module _ (l : q < end) where
    behind : Behind buf o w.left q p
    behind = behind-of buf o w.left q p (λ e. omega (arith, w.size, ap block_size e ∙ block_size-empty)) w.stands

    pub walked-room : o + q + 4 ≤ length buf
    walked-room = behind.room

    pub walked_here : p ≡ q → true ≡ is_some (rest_at b a p)
    walked_here e = place_here w.left q p e ∙ ap is_some (sym w.same)

    pub walked_next : (p ≡ q → ⊥) → (n : ℕ) → n ≡ val (part buf (o + q) 2) → Walked buf o b a end p (q + n)
    walked_next f n e =
        subst (λ (m : ℕ). Walked buf o b a end p (q + m)) (sym e)
        (record { left = behind.behind; stands = behind.stands; size = omega (arith, behind.size, w.size); same = w.same ∙ behind.same f })

    pub walked-long : (n : ℕ) → n ≡ val (part buf (o + q) 2) → (4 ≤ n) × (q + n ≤ end)
    walked-long n e = (omega (arith, behind.long), omega (arith, behind.size, w.size))
