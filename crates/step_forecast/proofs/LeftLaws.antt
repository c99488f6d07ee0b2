-- What is left of a walk over a row, turn by turn.
use Prim.Native.Nat.{◌*◌, ◌+◌, ◌<◌, ◌≤◌, ◌^◌, ℕ}
use mathlib.Core.Path.{◌≡◌, ap, refl, subst, sym, ◌∙◌}
use mathlib.Core.Logic.{inl, inr, ◌⊎◌}
use mathlib.Core.Bool.{Bool, false, true}
use mathlib.Core.List.{List}
use borrow.Author.Tests.{eqb-false, eqb-true}
use lib.Dec.{eqb}
use lib.ListN.{length}
use native.Mathlib.Omega.{arith}
use Rattle.place.proofs.ProgramViewLaws.{row-empty}
use Rattle.rules.specs.Evaluate.{assign_steps}
use Rattle.rules.specs.Syntax.{Block, empty}
use Rattle.forecast.specs.Figures.{loop_steps, steps_of}
use Rattle.forecast.specs.Rows.{Opened, RowOf, opens_assign, opens_loop, opens_nest}
use Rattle.step_forecast.specs.declared.Part.{Part}

-- THE FIRST COMMAND'S STEPS, those inside it and those behind it

pub record Parts (l s : List ℕ) (at end : ℕ) (b : Block) (own turns inner next : ℕ) : Type 0 where
  pub inside : Block
  pub rest : Block
  pub within : (turns ≡ 0 → ⊥) → RowOf l (length s) inner next inside
  pub behind : RowOf l (length s) next end rest
  pub past : at < inner
  pub order : inner ≤ next
  pub last : next ≤ end
  pub once : turns ≤ own
  pub steps : steps_of s b ≡ own + turns * steps_of s inside + steps_of s rest

pub parts-of : {l s : List ℕ} {at end : ℕ} {b : Block} {own turns inner next : ℕ} → Opened l s at end b own turns inner next → Parts l s at end b own turns inner next
parts-of {s = s} {b = b} {own = own} {turns = turns} (opens_assign x e r is o t i n h) =
    let m : steps_of s b ≡ assign_steps e + steps_of s r = ap (steps_of s) is ∙ (unfold steps_of in refl) in
    let z : steps_of s empty ≡ 0 = unfold steps_of in refl in
    let y : turns * steps_of s empty ≡ 0 = ap (λ (j : ℕ). turns * j) z ∙ omega arith in
    record {
      inside = empty;
      rest = r;
      within = λ f. absurd (f t);
      behind = h;
      past = omega arith;
      order = omega arith;
      last = omega (arith, h.ends);
      once = omega arith;
      steps = omega arith;
    }
parts-of {s = s} {b = b} {turns = turns} (opens_loop x m c r is o t i h k) =
    let g : steps_of s b ≡ turns * (3 + steps_of s c) + 2 + steps_of s r =
    ap (steps_of s) is ∙ (unfold steps_of loop_steps in ap (λ (j : ℕ). j * (3 + steps_of s c) + 2 + steps_of s r) (sym t)) in
    record {
      inside = c;
      rest = r;
      within = λ f. h;
      behind = k;
      past = omega arith;
      order = omega (arith, h.ends);
      last = omega (arith, k.ends);
      once = omega arith;
      steps = omega arith;
    }
parts-of {s = s} {b = b} {turns = turns} (opens_nest c r is o t i h k) =
    let g : steps_of s b ≡ steps_of s c + (1 + steps_of s r) = ap (steps_of s) is ∙ (unfold steps_of in refl) in
    let y : turns * steps_of s c ≡ steps_of s c = ap (λ (j : ℕ). j * steps_of s c) t ∙ omega arith in
    record {
      inside = c;
      rest = r;
      within = λ f. h;
      behind = k;
      past = omega arith;
      order = omega (arith, h.ends);
      last = omega (arith, k.ends);
      once = omega arith;
      steps = omega arith;
    }

-- WHAT IS LEFT of the block b, of which a + whole.times times its steps is to be found: a row, to be counted on top of `found`

-- the part is the row of the block b, or empty where that has nothing to count
pub record PartOf (l s : List ℕ) (p : Part) (b : Block) : Type 0 where
  pub row : p.from < p.to → RowOf l (length s) p.from p.to b
  pub none : p.to ≤ p.from → p.times * steps_of s b ≡ 0

pub record Left (l s : List ℕ) (whole : Part) (b : Block) (a : ℕ) (left : Part) (found : ℕ) : Type 0 where
  pub block : Block
  pub part : PartOf l s left block
  pub low : whole.from ≤ left.from
  pub high : left.to ≤ whole.to
  pub small : found < 2 ^ 64
  pub same : found + left.times * steps_of s block ≡ a + whole.times * steps_of s b

-- The same once a command of the row `opened` is opened and its own steps are counted: one row for a call, and one that stays. Both are
-- shorter than the row that was opened.
pub record Halves (l s : List ℕ) (whole : Part) (b : Block) (a : ℕ) (opened : Part) (sum : ℕ) (called kept : Part) : Type 0 where
  pub called_block : Block
  pub kept_block : Block
  pub called_part : PartOf l s called called_block
  pub kept_part : PartOf l s kept kept_block
  pub low : whole.from ≤ kept.from
  pub high : kept.to ≤ whole.to
  pub less : kept.to + opened.from < opened.to + kept.from
  pub shorter : called.to + whole.from < whole.to + called.from
  pub small : sum < 2 ^ 64
  pub same : sum + called.times * steps_of s called_block + kept.times * steps_of s kept_block ≡ a + whole.times * steps_of s b

-- nothing is left
done-steps : {l : List ℕ} (s : List ℕ) {p q : ℕ} {b : Block} → RowOf l (length s) p q b → q ≤ p → steps_of s b ≡ 0
unfolding steps_of
done-steps s {p = p} {q = q} {b = b} h e = ap (steps_of s) (row-empty b p q h.ends e)

row-part : {l : List ℕ} (s : List ℕ) {p : Part} {b : Block} → RowOf l (length s) p.from p.to b → PartOf l s p b
row-part s {p} h = record { row = λ _. h; none = λ e. ap (λ (j : ℕ). p.times * j) (done-steps s h e) ∙ omega arith }

pub left-start : {l : List ℕ} (s : List ℕ) {whole : Part} {b : Block} (a : ℕ) → RowOf l (length s) whole.from whole.to b → a < 2 ^ 64 → Left l s whole b a whole a
left-start s {b = b} a h f = record { block = b; part = row-part s h; low = omega arith; high = omega arith; small = f; same = refl }

module _ {l s : List ℕ} {whole : Part} {b : Block} {a : ℕ} {left : Part} {found : ℕ} (L : Left l s whole b a left found) where
  module _ {own turns inner next : ℕ} (O : Opened l s left.from left.to L.block own turns inner next) where
    parts : Parts l s left.from left.to L.block own turns inner next
    parts = parts-of O

    total : a + whole.times * steps_of s b ≡ found + left.times * own + left.times * turns * steps_of s parts.inside + left.times * steps_of s parts.rest
    total = sym L.same ∙ ap (λ (j : ℕ). found + left.times * j) parts.steps ∙ omega arith

    -- its own steps are too many
    pub own-large : (found + left.times * own < 2 ^ 64 → ⊥) → a + whole.times * steps_of s b < 2 ^ 64 → ⊥
    own-large large small = large (omega (arith, total))

    -- what is run inside starts behind the command's own start, and nothing overlaps
    module _ {start : ℕ} (from_start : (turns ≡ 0 → start ≡ next) × ((turns ≡ 0 → ⊥) → start ≡ inner)) where
      pub in_order : (left.from < start) × (start ≤ next) × (next ≤ left.to)
      in_order = go (eqb turns 0) refl
        where
          go : (t : Bool) → eqb turns 0 ≡ t → (left.from < start) × (start ≤ next) × (next ≤ left.to)
          go true c = let e = from_start.0 (eqb-true turns 0 c) in omega (arith, parts.past, parts.order, parts.last)
          go false c = let e = from_start.1 (eqb-false turns 0 c) in omega (arith, parts.past, parts.order, parts.last)

    module _ {sum : ℕ} (summed : (found + left.times * own < 2 ^ 64) × (sum ≡ found + left.times * own)) where
      module _ {start : ℕ} (from_start : (turns ≡ 0 → start ≡ next) × ((turns ≡ 0 → ⊥) → start ≡ inner)) where
        abbrev inside : Part
        inside = record { from = start; to = next; times = left.times * turns }

        abbrev behind : Part
        behind = record { from = next; to = left.to; times = left.times }

        inside-part : PartOf l s inside parts.inside
        inside-part = go (eqb turns 0) refl
          where
            go : (t : Bool) → eqb turns 0 ≡ t → PartOf l s inside parts.inside
            go true c = let z = eqb-true turns 0 c in record {
              row = λ g. absurd (omega (arith, from_start.0 z));
              none = λ e. ap (λ (j : ℕ). left.times * j * steps_of s parts.inside) z ∙ omega arith;
            }
            go false c = let n = eqb-false turns 0 c in
                row-part s (subst (λ (i : ℕ). RowOf l (length s) i next parts.inside) (sym (from_start.1 n)) (parts.within n))

        -- what is inside by the call, what is behind by the loop
        pub inside-called : Halves l s whole b a left sum inside behind
        inside-called =
            let o = in_order from_start in
            record {
              called_block = parts.inside;
              kept_block = parts.rest;
              called_part = inside-part;
              kept_part = row-part s parts.behind;
              low = omega (arith, L.low);
              high = L.high;
              less = omega arith;
              shorter = omega (arith, L.low, L.high);
              small = omega (arith, summed);
              same = omega (arith, summed.1, total);
            }

        -- what is behind by the call, what is inside by the loop
        pub behind-called : Halves l s whole b a left sum behind inside
        behind-called =
            let o = in_order from_start in
            record {
              called_block = parts.rest;
              kept_block = parts.inside;
              called_part = row-part s parts.behind;
              kept_part = inside-part;
              low = omega (arith, L.low);
              high = omega (arith, L.high);
              less = omega arith;
              shorter = omega (arith, L.low, L.high);
              small = omega (arith, summed);
              same = omega (arith, summed.1, total);
            }

        -- in whichever order the code takes them
        pub halves : {r : Part × Part} → ((r ≡ (inside, behind)) ⊎ (r ≡ (behind, inside))) → Halves l s whole b a left sum r.0 r.1
        halves (inl e) = rw e inside-called
        halves (inr e) = rw e behind-called

-- THE CALL

module _ {l s : List ℕ} {whole : Part} {b : Block} {a : ℕ} {opened : Part} {sum : ℕ} {called kept : Part} (H : Halves l s whole b a opened sum called kept) where
  -- none is made
  pub halves-none : called.to ≤ called.from → Left l s whole b a kept sum
  halves-none e = record {
    block = H.kept_block;
    part = H.kept_part;
    low = H.low;
    high = H.high;
    small = H.small;
    same = omega (arith, H.called_part.none e, H.same);
  }

  pub halves-large : (sum + called.times * steps_of s H.called_block < 2 ^ 64 → ⊥) → a + whole.times * steps_of s b < 2 ^ 64 → ⊥
  halves-large large small = large (omega (arith, H.same))

  pub halves-done : {more : ℕ} → (sum + called.times * steps_of s H.called_block < 2 ^ 64) × (more ≡ sum + called.times * steps_of s H.called_block) → Left l s whole b a kept more
  halves-done v = record {
    block = H.kept_block;
    part = H.kept_part;
    low = H.low;
    high = H.high;
    small = omega arith;
    same = omega (arith, H.same);
  }
