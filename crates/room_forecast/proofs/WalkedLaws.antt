-- What is left to walk, turn by turn.
use Prim.Native.Nat.{◌+◌, ◌-◌, ◌<◌, ◌≤◌, max, ℕ}
use mathlib.Core.Path.{ap, refl, subst, sym, ◌∙◌, ◌≡◌}
use mathlib.Core.Logic.{inl, inr, ◌⊎◌}
use mathlib.Core.List.{List}
use native.Mathlib.Omega.{arith}
use Rattle.rules.specs.Syntax.{Block}
use Rattle.forecast.specs.Figures.{longest_of}
use Rattle.forecast.proofs.WeightLaws.{weigh-longest}
use Rattle.room_forecast.specs.Walked.{Left, PartsOf, RowsTo, longest_found, weights_of}
use Rattle.room_forecast.specs.declared.Measure.{Measure}
use Rattle.room_forecast.specs.declared.Part.{Part}
use Rattle.room_forecast.specs.declared.Parts.{Parts}
use Rattle.room_forecast.proofs.SplitLaws.{longest-short}

-- How the code comes to the two parts of a row, the longer and the shorter: as the one inside and the rest, or the other way.
abbrev pub Came : Type 0 → Type 0 → Parts → Part → Part → Type 0
Came A C p longer shorter = (A × (longer ≡ p.inside) × (shorter ≡ p.rest)) ⊎ (C × (longer ≡ p.rest) × (shorter ≡ p.inside))

-- THE LONGEST FOUND

found-least : (μ : Measure) (s : List ℕ) (found around : ℕ) (b : Block) → found ≤ longest_found μ s found around b
unfolding longest_found
found-least μ s found around b = omega arith

-- a row that comes to no more is not walked
found-same : (μ : Measure) (s : List ℕ) (found around : ℕ) (b : Block) → around + longest_of (weights_of μ) s b ≤ found → found ≡ longest_found μ s found around b
unfolding longest_found
found-same μ s found around b h = omega arith

-- in either order
found-both : (a i r : ℕ) → (max (max a i) r ≡ max a (max i r)) × (max (max a r) i ≡ max a (max i r))
found-both a i r = (omega arith, omega arith)

module _ {μ : Measure} {l s : List ℕ} {whole : Part} {b : Block} {found : ℕ} where
  module _ {most : ℕ} {left : Part} (L : Left μ l s whole b found most left) where
    pub left_end : left.to ≤ left.from → max most (left.around + left.weight) ≡ longest_found μ s found whole.around b
    unfolding longest_found
    left_end e = ap (λ x. max most (left.around + x)) (sym (longest-short μ l s left L.block L.rows (omega arith))) ∙ L.same

    module _ (fits : longest_found μ s found whole.around b + 24 < 18446744073709551616) where
      pub left-fits : left.around + longest_of (weights_of μ) s L.block + 24 < 18446744073709551616
      unfolding longest_found
      left-fits = let e = L.same in omega arith

      pub end_fits : left.around + left.weight < 18446744073709551616
      end_fits = omega (arith, left-fits, L.rows.weighs, weigh-longest (weights_of μ) s L.block)

    module _ {p : Parts} (q : PartsOf μ l s left L.block most p) where
      rest-order : p.rest.from ≤ p.rest.to
      rest-order = omega (arith, q.rest.row.ends)

      -- the two ways to the same longest
      inside-then-rest : (x : ℕ) → x ≡ longest_found μ s p.found p.inside.around q.inner
          → longest_found μ s x p.rest.around q.behind ≡ longest_found μ s found whole.around b
      unfolding longest_found
      inside-then-rest x e =
          ap (λ (y : ℕ). max y (p.rest.around + longest_of (weights_of μ) s q.behind)) e
          ∙ (found-both p.found (p.inside.around + longest_of (weights_of μ) s q.inner) (p.rest.around + longest_of (weights_of μ) s q.behind)).0
          ∙ sym q.most
          ∙ L.same

      rest-then-inside : (x : ℕ) → x ≡ longest_found μ s p.found p.rest.around q.behind
          → longest_found μ s x p.inside.around q.inner ≡ longest_found μ s found whole.around b
      unfolding longest_found
      rest-then-inside x e =
          ap (λ (y : ℕ). max y (p.inside.around + longest_of (weights_of μ) s q.inner)) e
          ∙ (found-both p.found (p.inside.around + longest_of (weights_of μ) s q.inner) (p.rest.around + longest_of (weights_of μ) s q.behind)).1
          ∙ sym q.most
          ∙ L.same

      left-rest : (x : ℕ) → x ≡ longest_found μ s p.found p.inside.around q.inner → Left μ l s whole b found x p.rest
      left-rest x e = record {
        block = q.behind;
        rows = q.rest;
        low = omega (arith, L.low, q.past, q.order, q.next);
        high = omega (arith, L.high, q.end);
        same = inside-then-rest x e;
      }

      left-inside : (x : ℕ) → p.inside.from < p.inside.to → x ≡ longest_found μ s p.found p.rest.around q.behind → Left μ l s whole b found x p.inside
      left-inside x some e = record {
        block = q.inner;
        rows = q.inside some;
        low = omega (arith, L.low, q.past);
        high = omega (arith, L.high, q.end, q.next, rest-order);
        same = rest-then-inside x e;
      }

      -- nothing is left inside
      pub turn-none : p.inside.to ≤ p.inside.from → Left μ l s whole b found p.found p.rest
      turn-none e = left-rest p.found (found-same μ s p.found p.inside.around q.inner (q.short (omega arith)))

      -- one of the two is walked by a call, and the other is left to the loop
      module _ {A C : Type 0} {longer shorter : Part} (some : p.inside.from < p.inside.to) (came : Came A C p longer shorter) where
        pub turn-less : left.from < left.to → (shorter.to - shorter.from < left.to - left.from) × (longer.to - longer.from < left.to - left.from)
        turn-less t = go came
          where
            less : (p.rest.to - p.rest.from < left.to - left.from) × (p.inside.to - p.inside.from < left.to - left.from)
            less = (omega (arith, q.past, q.order, q.next, q.end), omega (arith, q.past, q.next, q.end, rest-order))

            go : Came A C p longer shorter → (shorter.to - shorter.from < left.to - left.from) × (longer.to - longer.from < left.to - left.from)
            go (inl v) = rw (v.1, v.2) less
            go (inr v) = rw (v.1, v.2) (less.1, less.0)

        -- what the call asks, and what is left behind it
        abbrev Asked : Part → Type 0
        Asked part = (c : Block) × (RowsTo μ l s part c × (longest_found μ s p.found part.around c + 24 < 18446744073709551616))

        pub turn-rows : longest_found μ s found whole.around b + 24 < 18446744073709551616 → Asked shorter
        turn-rows fits = go came
          where
            go : Came A C p longer shorter → Asked shorter
            go (inl v) =
                let x : ℕ = longest_found μ s p.found p.rest.around q.behind in
                subst Asked (sym v.2) (q.behind, (q.rest, omega (arith, found-least μ s x p.inside.around q.inner, rest-then-inside x refl)))
            go (inr v) =
                let x : ℕ = longest_found μ s p.found p.inside.around q.inner in
                subst Asked (sym v.2) (q.inner, (q.inside some, omega (arith, found-least μ s x p.rest.around q.behind, inside-then-rest x refl)))

        abbrev Walks : ℕ → Part → Type 0
        Walks x part = (c : Block) → RowsTo μ l s part c → x ≡ longest_found μ s p.found part.around c

        pub turn-left : (x : ℕ) → ((c : Block) → RowsTo μ l s shorter c → x ≡ longest_found μ s p.found shorter.around c) → Left μ l s whole b found x longer
        turn-left x e = go came
          where
            go : Came A C p longer shorter → Left μ l s whole b found x longer
            go (inl v) = subst (Left μ l s whole b found x) (sym v.1) (left-inside x some (subst (Walks x) v.2 e q.behind q.rest))
            go (inr v) =
                subst (Left μ l s whole b found x) (sym v.1) (left-rest x (subst (Walks x) v.2 e q.inner (q.inside some)))

        -- a part that is too short for a loop
        pub turn-short : shorter.to - shorter.from < 20 → Left μ l s whole b found p.found longer
        turn-short short = go came
          where
            go : Came A C p longer shorter → Left μ l s whole b found p.found longer
            go (inl v) =
                let n : p.rest.to - p.rest.from < 20 = subst (λ (part : Part). part.to - part.from < 20) v.2 short in
                let z = longest-short μ l s p.rest q.behind q.rest n in
                subst (Left μ l s whole b found p.found) (sym v.1)
                (left-inside p.found some (found-same μ s p.found p.rest.around q.behind (omega (arith, z, q.least))))
            go (inr v) =
                let n : p.inside.to - p.inside.from < 20 = subst (λ (part : Part). part.to - part.from < 20) v.2 short in
                subst (Left μ l s whole b found p.found) (sym v.1) (left-rest p.found (found-same μ s p.found p.inside.around q.inner (omega (arith, q.short n))))
