-- A row split at its first command, from what each function that is called for it says.
use Prim.Native.Nat.{◌+◌, ◌-◌, ◌*◌, ◌<◌, ◌≤◌, max, suc, zero, ℕ}
use mathlib.Core.Path.{ap, refl, sym, ◌∙◌, ◌≡◌}
use mathlib.Core.List.{List}
use lib.ListN.{length}
use native.Mathlib.Omega.{arith}
use Rattle.rules.specs.Syntax.{Block, empty}
use Rattle.forecast.specs.Figures.{Weights, longest_of, turn_weight, weigh}
use Rattle.forecast.specs.Rows.{Opened, RowOf}
use Rattle.forecast.proofs.WeightLaws.{weigh-longest}
use Rattle.room_forecast.specs.Walked.{PartsOf, RowsTo, behind_of, inside_of, inside_weight, longest_found, own_weight, top_of, unrolled_of, waiting_of, weighed_of, weights_of}
use Rattle.room_forecast.specs.declared.Measure.{Measure}
use Rattle.room_forecast.specs.declared.Part.{Part}
use Rattle.room_forecast.specs.declared.Weighed.{Weighed}
use Rattle.room_forecast.proofs.PartsLaws.{inside-some, longest-opened, longest-passed, opened-behind, opened_inside, opened-order, opened-past, opened-turn, opened-weigh, short-longest, unrolls-passed, waiting-weighs, weigh-least}
use Rattle.room_forecast.proofs.WeightsLaws.{nested-most, plain-weight}

-- A row of fewer than 20 bytes weighs all that it comes to.
pub longest-short : (μ : Measure) (l s : List ℕ) (p : Part) (b : Block) → RowsTo μ l s p b → p.to - p.from < 20 → longest_of (weights_of μ) s b ≡ p.weight
longest-short μ l s p b h e = short-longest (weights_of μ) s b (omega (arith, h.row.ends)) ∙ sym h.weighs

-- all turns are the others and this one
all-turns : (n d m i : ℕ) → (n ≡ 0 → ⊥) → d ≡ m + 16 + i → (n * d ≡ (n - 1) * d + (m + 16 + i)) × (16 + i ≤ n * d)
all-turns zero d m i h e = absurd (h refl)
all-turns (suc q) d m i h e = let z : suc q - 1 ≡ q = omega arith in rw z (omega arith, omega arith)

-- the most that a row comes to, with u around it: as it stands t, inside it v + i, behind it r
around-passed : (u t i r : ℕ) → i ≤ u + t → u + max t r ≡ max (u + t) (max i (u + r))
around-passed u t i r h = omega arith

around-opened : (u t v i r : ℕ) → u + max t (max (v + i) r) ≡ max (u + t) (max (u + v + i) (u + r))
around-opened u t v i r = omega arith

max-first : (a p q : ℕ) → max a (max p q) ≡ max (max a p) q
max-first a p q = omega arith

module _ {μ : Measure} {l s : List ℕ} {left : Part} {b : Block} (h : RowsTo μ l s left b) where
  abbrev w : Weights
  w = weights_of μ

  abbrev inside : ℕ
  inside = inside_weight w b

  abbrev behind : ℕ
  behind = weigh w (behind_of b)

  module _ {steps turns inner next : ℕ} (looked : (c : Block) → RowOf l (length s) left.from left.to c → Opened l s left.from left.to c steps turns inner next) where
    abbrev O : Opened l s left.from left.to b steps turns inner next
    O = looked b h.row

    module _ {own : ℕ} (owned : (m t : List ℕ) (end : ℕ) (c : Block) (turns₁ next₁ : ℕ) → Opened m t left.from end c steps turns₁ inner next₁ → own ≡ own_weight w c) where
      own_is : own ≡ own_weight w b
      own_is = owned l s left.to b turns next O

      pub split-own : own ≤ left.weight
      split-own = omega (arith, h.weighs, opened-weigh w O, own_is)

      both_is : left.weight - own ≡ (weighed_of μ b).inside + (weighed_of μ b).behind
      both_is = omega (arith, h.weighs, opened-weigh w O, own_is)

      pub split-both : (t : List ℕ) × ((c : Block) × ((steps₁ : ℕ) × ((turns₁ : ℕ) × (Opened l t left.from left.to c steps₁ turns₁ inner next
          × (left.weight - own ≡ (weighed_of μ c).inside + (weighed_of μ c).behind)))))
      split-both = (s, (b, (steps, (turns, (O, both_is)))))

      module _ {parts : Weighed} (weighed : (t : List ℕ) (c : Block) (steps₁ turns₁ : ℕ) → Opened l t left.from left.to c steps₁ turns₁ inner next
          → left.weight - own ≡ (weighed_of μ c).inside + (weighed_of μ c).behind → parts ≡ weighed_of μ c) where
        parts_is : parts ≡ weighed_of μ b
        parts_is = weighed s b steps turns O both_is

        inside_is : parts.inside ≡ inside
        inside_is = ap (λ (p : Weighed). p.inside) parts_is

        behind-is : parts.behind ≡ behind
        behind-is = ap (λ (p : Weighed). p.behind) parts_is

        pub row_fits : left.around + longest_of w s b + 24 < 18446744073709551616 → left.around + left.weight < 18446744073709551616
        row_fits fits = omega (arith, h.weighs, weigh-longest w s b)

        -- the command is counted in what was found
        counted : (found more x : ℕ) → more ≡ max found (left.around + top_of w s b) → left.around + longest_of w s b ≡ max (left.around + top_of w s b) x
            → longest_found μ s found left.around b ≡ max more x
        unfolding longest_found
        counted found more x g e = ap (max found) e ∙ max-first found (left.around + top_of w s b) x ∙ ap (λ (y : ℕ). max y x) (sym g)

        behind-least : (found more : ℕ) → more ≡ max found (left.around + top_of w s b) → left.around + parts.behind ≤ more
        unfolding top_of
        behind-least found more g = omega (arith, behind-is, opened-weigh w O)

        -- the part behind the command
        abbrev rest : Part
        rest = record { from = next; to = left.to; around = left.around; weight = parts.behind }

        -- nothing inside is run
        module _ (found : ℕ) {more : ℕ} (grown : more ≡ max found (left.around + left.weight)) (z : turns ≡ 0) where
          as-stands : left.weight ≡ top_of w s b
          unfolding top_of
          as-stands = let u = unrolls-passed O z in let m = h.weighs in let e : unrolled_of s b * turn_weight w inside ≡ 0 = ap (λ (x : ℕ). x * turn_weight w inside) u ∙ omega arith in omega arith

          passed_is : more ≡ max found (left.around + top_of w s b)
          passed_is = grown ∙ ap (λ (x : ℕ). max found (left.around + x)) as-stands

          nothing-least : left.around + longest_of w s empty ≤ left.around + top_of w s b
          unfolding longest_of top_of
          nothing-least = omega (arith, weigh-least w b)

          pub split-passed : PartsOf μ l s left b found (record { found = more; inside = record { from = next; to = next; around = left.around; weight = parts.inside }; rest = rest })
          split-passed = record {
            inner = empty;
            behind = behind_of b;
            inside = λ e. absurd (omega arith);
            rest = record { row = opened-behind O; weighs = behind-is };
            past = omega (arith, opened-past O, opened-order O);
            order = omega arith;
            next = refl;
            end = refl;
            short = λ e. omega (arith, nothing-least, passed_is);
            least = behind-least found more passed_is;
            most = counted found more (max (left.around + longest_of w s empty) (left.around + longest_of w s (behind_of b))) passed_is
                (ap (λ (x : ℕ). left.around + x) (longest-passed w O z)
                ∙ around-passed left.around (top_of w s b) (left.around + longest_of w s empty) (longest_of w s (behind_of b)) nothing-least);
          }

        module _ (some : turns ≡ 0 → ⊥) where
          pub turn-fits : left.around + longest_of w s b + 24 < 18446744073709551616 → turn_weight w parts.inside < 18446744073709551616
          unfolding turn_weight
          turn-fits fits =
              let o = opened-weigh w O in
              let m = weigh-longest w s b in
              let p = inside_is in
              omega (arith, plain-weight μ, nested-most μ)

          module _ {turn n : ℕ} (turned : turn ≡ turn_weight w parts.inside)
              (unrolled : (m t : List ℕ) (end : ℕ) (c : Block) (steps₁ next₁ : ℕ) → Opened m t left.from end c steps₁ turns inner next₁ → n ≡ unrolled_of t c) where
            turn_is : turn ≡ turn_weight w inside
            turn_is = turned ∙ ap (turn_weight w) inside_is

            top-is : left.weight + n * turn ≡ top_of w s b
            unfolding top_of
            top-is = let t = turn_is in let m = h.weighs in let u = unrolled l s left.to b steps next O in cc (t, m, u)

            pub peak-fits : left.around + longest_of w s b + 24 < 18446744073709551616 → left.around + (left.weight + n * turn) < 18446744073709551616
            peak-fits fits = omega (arith, top-is, longest-opened w O some)

            waits : (turns * turn ≡ (turns - 1) * turn + (w.nested + 16 + parts.inside)) × (16 + parts.inside ≤ turns * turn)
            unfolding turn_weight
            waits = let d = turned in let p = plain-weight μ in all-turns turns turn w.nested parts.inside some (omega arith)

            waiting-is : turns * turn - (16 + parts.inside) + parts.behind ≡ waiting_of w turns b
            unfolding waiting_of
            waiting-is =
                let e : (turns - 1) * turn + w.nested + parts.behind ≡ (turns - 1) * turn_weight w inside + w.nested + behind = cc (turn_is, behind-is) in
                let m = waits.0 in
                omega arith

            pub waiting-fits : left.around + longest_of w s b + 24 < 18446744073709551616
                → (16 + parts.inside ≤ turns * turn) × (left.around + (turns * turn + parts.behind) < 18446744073709551616)
            waiting-fits fits =
                let m = waits.1 in
                (m, omega (arith, waiting-is, inside_is, inside-some w O (opened-turn O some), weigh-longest w s (inside_of b), longest-opened w O some))

            module _ (found : ℕ) {hold top more : ℕ} (held : hold ≡ left.around + (turns * turn - (16 + parts.inside) + parts.behind))
                (peaked : top ≡ left.around + (left.weight + n * turn)) (grown : more ≡ max found top) where
              more-is : more ≡ max found (left.around + top_of w s b)
              more-is = grown ∙ ap (max found) (peaked ∙ ap (λ (x : ℕ). left.around + x) top-is)

              not-assign : inner ≡ left.from + 16 → ⊥
              not-assign = opened-turn O some

              hold-is : hold ≡ left.around + waiting_of w turns b
              hold-is = held ∙ ap (λ (x : ℕ). left.around + x) waiting-is

              abbrev first : Part
              first = record { from = inner; to = next; around = hold; weight = parts.inside }

              inner-rows : RowsTo μ l s first (inside_of b)
              inner-rows = record { row = opened_inside O not-assign; weighs = inside_is ∙ inside-some w O not-assign }

              inner-short : next - inner < 20 → hold + longest_of w s (inside_of b) ≤ more
              inner-short e =
                  omega (arith, longest-short μ l s first (inside_of b) inner-rows e, more-is, hold-is, inside_is, waiting-weighs w O some)

              pub split-opened : PartsOf μ l s left b found (record { found = more; inside = first; rest = rest })
              split-opened = record {
                inner = inside_of b;
                behind = behind_of b;
                inside = λ _. inner-rows;
                rest = record { row = opened-behind O; weighs = behind-is };
                past = opened-past O;
                order = opened-order O;
                next = refl;
                end = refl;
                short = inner-short;
                least = behind-least found more more-is;
                most = counted found more (max (hold + longest_of w s (inside_of b)) (left.around + longest_of w s (behind_of b))) more-is
                    (rw hold-is
                    (ap (λ (x : ℕ). left.around + x) (longest-opened w O some)
                    ∙ around-opened left.around (top_of w s b) (waiting_of w turns b) (longest_of w s (inside_of b)) (longest_of w s (behind_of b))));
              }
