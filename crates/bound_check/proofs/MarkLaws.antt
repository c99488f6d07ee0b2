-- The marks, and the turns of the two passes.
use Prim.Native.Nat.{◌+◌, ◌<◌, ◌≤◌, ℕ}
use mathlib.Core.Path.{◌≡◌, ap, ap₂, refl, subst, sym, ◌∙◌}
use mathlib.Core.Bool.{◌&&◌, ◌||◌, Bool, false, not, true}
use mathlib.Core.List.{List}
use borrow.Author.Tests.{eqb-false, eqb-true}
use lib.Dec.{eqb}
use lib.ListN.{get_or, get_or-replicate, length, replicate, set}
use lib.Seq.{get_or-set_other, get_or-set_same}
use native.Mathlib.Omega.{arith}
use Rattle.buffer.specs.LittleEndian.{val}
use Rattle.buffer.specs.Slice.{part}
use Rattle.record.specs.Program.{bound_kind, bound_number}
use Rattle.rules.specs.Scope.{BlockWithin, BoundWithin, Within}
use Rattle.rules.specs.Syntax.{Block, Bound, assign, empty, loop, nest, upto, upto_var}
use Rattle.place.specs.ProgramView.{BlockAt}
use Rattle.place.proofs.ProgramNumberLaws.{bound-upto, bound-upto_var}
use Rattle.place.proofs.ProgramViewLaws.{row-empty}
use Rattle.forecast.specs.Rows.{RowOf}
use Rattle.forecast.specs.Steady.{assigned, bound_outside, bounds_outside, steady}
use Rattle.record.specs.declared.kind.Kind.{Kind}
use Rattle.record.specs.declared.kind.Kind.TheVariants as variant
use Rattle.bound_check.specs.Marks.{NextHead, marked}
use Rattle.bound_check.specs.declared.Heads.{Heads}
use Rattle.std.specs.Prelude.{Some}
use Rattle.std.proofs.Math.Bool.{or-false, or-true, or_assoc}
use Rattle.record.specs.Kind.{kind_named}
use Rattle.bound_check.proofs.HeadLaws.{Passed, pass}

not-not : (a : Bool) → not (not a) ≡ a
not-not true = refl
not-not false = refl

-- THE MARKS

-- one more
marked-set : (marks : List Bool) (x y : ℕ) → x < length marks → marked (set marks x true) y ≡ (marked marks y || eqb y x)
unfolding marked
marked-set marks x y h = go (eqb y x) refl
  where
    go : (t : Bool) → eqb y x ≡ t → get_or (set marks x true) y false ≡ (get_or marks y false || t)
    go true e = ap (λ (j : ℕ). get_or (set marks x true) j false) (eqb-true y x e) ∙ get_or-set_same marks x true false h ∙ sym (or-true (get_or marks y false))
    go false e = get_or-set_other marks x y true false (eqb-false y x e) ∙ sym (or-false (get_or marks y false))

-- none at first
pub marked-none : (y : ℕ) → y ≤ 16 → marked (replicate 17 false) y ≡ false
unfolding marked
marked-none y h = get_or-replicate 17 y false false (omega arith)

-- a bound of fewer variables
pub bound-within : {k : ℕ} (m : Bound) → k ≤ 16 → BoundWithin k m → BoundWithin 16 m
bound-within (upto n) e h = tt
bound-within (upto_var x) e h = (h.0, omega (arith, h.1))

-- ONE STEP, in a row of which the commands from s on are the block b

module _ {s t : Heads} {x : ℕ} {kind : Kind} (N : NextHead s (Some (x, kind)) t) {l : List ℕ} (src : s.src.now ≡ l) where
  pub head-passed : {k : ℕ} {b : Block} → RowOf l k s.at s.to b → Passed l k s.at s.to b kind
  head-passed h = pass h N.0 (N.2 ∙ ap (λ (m : List ℕ). kind_named (val (part m (s.at + 2) 2))) src)

-- THE FIRST PASS, of which the commands from s on are left: what is marked, and what those assign

pub record Marking (l : List ℕ) (k : ℕ) (b : Block) (first marks : List Bool) (s : Heads) : Type 0 where
  pub block : Block
  pub src : s.src.now ≡ l
  pub row : RowOf l k s.at s.to block
  pub same : (y : ℕ) → y ≤ 16 → (marked marks y || assigned block y) ≡ (marked first y || assigned b y)

pub mark-end : {l : List ℕ} {k : ℕ} {b : Block} {first marks : List Bool} {s : Heads} → Marking l k b first marks s → s.to ≤ s.at
    → (y : ℕ) → y ≤ 16 → marked marks y ≡ (marked first y || assigned b y)
unfolding assigned
mark-end {marks = marks} {s = s} M e y h =
    sym (or-false (marked marks y)) ∙ ap (λ (c : Block). marked marks y || assigned c y) (sym (row-empty M.block s.at s.to M.row.ends e)) ∙ M.same y h

module _ {l : List ℕ} {k : ℕ} {b : Block} {first marks : List Bool} {s t : Heads} {at : ℕ} {kind : Kind}
    (M : Marking l k b first marks s) (N : NextHead s (Some (at, kind)) t) where
  pub mark-passed : Passed l k s.at s.to M.block kind
  mark-passed = head-passed N M.src M.row

  pub mark-variable : (kind ≡ variant.Block → ⊥) → (at + 16 ≤ length l) × Within k (val (part l (at + 4) 4))
  mark-variable f = let v = mark-passed.named f in rw N.1 (v.0, v.1)

  -- past an assignment or a loop, whose variable x is marked
  pub mark-named : (kind ≡ variant.Block → ⊥) → k ≤ 16 → length marks ≡ 17 → {x : ℕ} → x ≡ val (part l (at + 4) 4)
      → {marks' : List Bool} → marks' ≡ set marks x true → Marking l k b first marks' t
  mark-named f few long {x} is e =
      let P = mark-passed in
      let v = P.named f in
      let i : x ≡ val (part l (s.at + 4) 4) = is ∙ ap (λ (j : ℕ). val (part l (j + 4) 4)) N.1 in
      rw (N.3, e) (record {
        block = P.rest;
        src = M.src;
        row = P.row;
        same = λ y g.
            ap (λ (z : Bool). z || assigned P.rest y) (marked-set marks x y (omega (arith, v.1)))
            ∙ or_assoc (marked marks y) (eqb y x) (assigned P.rest y)
            ∙ ap (λ (z : Bool). marked marks y || z) (ap (λ (j : ℕ). eqb y j || assigned P.rest y) i ∙ sym (v.2 y)) ∙ M.same y g;
      })

  -- past a block's head
  pub mark-nameless : kind ≡ variant.Block → Marking l k b first marks t
  mark-nameless f =
      let P = mark-passed in
      rw N.3 (record {
        block = P.rest;
        src = M.src;
        row = P.row;
        same = λ y g. ap (λ (z : Bool). marked marks y || z) (sym (P.nameless f y)) ∙ M.same y g;
      })

-- THE SECOND PASS, of which the commands from s on are left: their bounds are outside the marks exactly where all are

pub record Looking (S : ℕ → Bool) (l : List ℕ) (k : ℕ) (b : Block) (s : Heads) : Type 0 where
  pub block : Block
  pub src : s.src.now ≡ l
  pub row : RowOf l k s.at s.to block
  pub same : bounds_outside S block ≡ bounds_outside S b

-- none is found
pub look-end : {S : ℕ → Bool} {l : List ℕ} {k : ℕ} {b : Block} {s : Heads} → Looking S l k b s → s.to ≤ s.at → false ≡ not (bounds_outside S b)
unfolding bounds_outside
look-end {S = S} {s = s} L e = ap not (ap (bounds_outside S) (sym (row-empty L.block s.at s.to L.row.ends e)) ∙ L.same)

module _ {S : ℕ → Bool} {l : List ℕ} {k : ℕ} {b : Block} {s t : Heads} {at : ℕ} {kind : Kind}
    (L : Looking S l k b s) (N : NextHead s (Some (at, kind)) t) where
  pub look-passed : Passed l k s.at s.to L.block kind
  look-passed = head-passed N L.src L.row

  pub look-loop : kind ≡ variant.Loop → k ≤ 16 → (x : ℕ) × ((m : Bound) × ((c : Block) × ((d : Block) × (BlockAt l at (loop x m c d) × BoundWithin 16 m))))
  look-loop f few = let v = look-passed.bounded f in rw N.1 (v.0, (v.1.0, (v.1.1.0, (v.1.1.1.0, (v.1.1.1.1.0, bound-within v.1.0 few v.1.1.1.1.1.0)))))

  -- past what is no loop
  pub look-on : (kind ≡ variant.Loop → ⊥) → Looking S l k b t
  look-on f = let P = look-passed in rw N.3 (record { block = P.rest; src = L.src; row = P.row; same = sym (P.boundless f S) ∙ L.same })

  module _ (f : kind ≡ variant.Loop) {r : Bool} (says : (x : ℕ) (m : Bound) (c d : Block) → BlockAt l at (loop x m c d) → r ≡ not (bound_outside S m)) where
    outside : bounds_outside S L.block ≡ (not r && bounds_outside S look-passed.rest)
    outside =
        let v = look-passed.bounded f in
        let h = subst (λ (j : ℕ). BlockAt l j (loop v.0 v.1.0 v.1.1.0 v.1.1.1.0)) (sym N.1) v.1.1.1.1.0 in
        let e = says v.0 v.1.0 v.1.1.0 v.1.1.1.0 h in
        v.1.1.1.1.1.1 S ∙ ap (λ (a : Bool). a && bounds_outside S look-passed.rest) (sym (ap not e ∙ not-not (bound_outside S v.1.0)))

    -- past a loop whose bound is not marked
    pub look-past : r ≡ false → Looking S l k b t
    look-past g = rw N.3 (record {
      block = look-passed.rest;
      src = L.src;
      row = look-passed.row;
      same = sym (outside ∙ ap (λ (a : Bool). not a && bounds_outside S look-passed.rest) g) ∙ L.same;
    })

    -- one is found
    pub look-found : r ≡ true → true ≡ not (bounds_outside S b)
    look-found g = ap not (sym (outside ∙ ap (λ (a : Bool). not a && bounds_outside S look-passed.rest) g) ∙ L.same)

-- A LOOP'S BOUND, by its kind

pub bound-free : (S : ℕ → Bool) (m : Bound) → bound_kind m ≡ 16 → false ≡ not (bound_outside S m)
unfolding bound_outside
bound-free S m e = ap (λ (d : Bound). not (bound_outside S d)) (sym (bound-upto m e))

pub bound-held : (S : ℕ → Bool) (m : Bound) → (bound_kind m ≡ 16 → ⊥) → S (bound_number m) ≡ not (bound_outside S m)
unfolding bound_outside
bound-held S m f = sym (not-not (S (bound_number m))) ∙ ap (λ (d : Bound). not (bound_outside S d)) (sym (bound-upto_var m f))

-- THE CHECK: the marks are the variables that are assigned

outside-same : (S U : ℕ → Bool) (k : ℕ) → ((y : ℕ) → Within k y → S y ≡ U y) → (b : Block) → BlockWithin k b → bounds_outside S b ≡ bounds_outside U b
unfolding bounds_outside bound_outside
outside-same S U k f empty h = refl
outside-same S U k f (assign x e r) h = outside-same S U k f r h.2
outside-same S U k f (loop x m c r) h =
    ap₂ ◌&&◌ (bound-same m h.1) (ap₂ ◌&&◌ (outside-same S U k f c h.2) (outside-same S U k f r h.3))
  where
    bound-same : (m : Bound) → BoundWithin k m → bound_outside S m ≡ bound_outside U m
    bound-same (upto n) h = refl
    bound-same (upto_var x) h = ap not (f x h)
outside-same S U k f (nest c r) h = ap₂ ◌&&◌ (outside-same S U k f c h.0) (outside-same S U k f r h.1)

pub marks-steady : {l : List ℕ} {k from to : ℕ} {b : Block} (marks : List Bool) → k ≤ 16 → RowOf l k from to b
    → ((y : ℕ) → y ≤ 16 → marked marks y ≡ (marked (replicate 17 false) y || assigned b y)) → bounds_outside (marked marks) b ≡ steady b
unfolding steady
marks-steady {k = k} {b = b} marks few h f =
    outside-same (marked marks) (assigned b) k
    (λ y w. f y (omega (arith, w.1)) ∙ ap (λ (t : Bool). t || assigned b y) (marked-none y (omega (arith, w.1)))) b h.within
