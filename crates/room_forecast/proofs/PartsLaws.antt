-- The first command of a row and its two parts: what they weigh, and the most that the row comes to.
use Prim.Native.Nat.{◌+◌, ◌-◌, ◌*◌, ◌<◌, ◌≤◌, max, suc, ℕ}
use mathlib.Core.Path.{ap₂, refl, sym, ◌∙◌, ◌≡◌}
use mathlib.Core.List.{List}
use lib.ListN.{length}
use native.Mathlib.Omega.{arith}
use Rattle.place.proofs.ProgramBytesLaws.{block_size-assign, block_size-loop, block_size-nest}
use Rattle.record.specs.Program.{block_size}
use Rattle.rules.specs.Evaluate.{assign_steps}
use Rattle.rules.specs.Step.{bound_value}
use Rattle.rules.specs.Syntax.{Block, Expr, assign, dec, empty, inc, lit, loop, nest, var}
use Rattle.translator.specs.RowTranslation.{RowAt}
use Rattle.forecast.specs.Figures.{Weights, assign_weight, longest_of, loop_longest, program_weights, turn_weight, weigh}
use Rattle.forecast.specs.Rows.{Opened, RowOf, opens_assign, opens_loop, opens_nest}
use Rattle.forecast.proofs.WeightLaws.{weigh-longest}
use Rattle.room_forecast.specs.Walked.{behind_of, inside_of, inside_weight, own_weight, top_of, unrolled_of, waiting_of, weighed_of, weights_of}
use Rattle.room_forecast.specs.declared.Measure.{Measure}
use Rattle.room_forecast.specs.declared.Weighed.{Weighed}

-- A row as the translator has it.
abbrev pub row_at : {l : List ℕ} {k p q : ℕ} {b : Block} → RowOf l k p q b → RowAt l p q
row_at {b = b} h = record { block = b; here = h.here; ends = h.ends }

-- A ROW OF FEWER THAN 20 BYTES has no loop, and only a loop makes it longer

pub short-longest : (w : Weights) (s : List ℕ) (b : Block) → block_size b < 20 → longest_of w s b ≡ weigh w b
unfolding longest_of weigh
short-longest w s empty h = refl
short-longest w s (assign x e r) h = let z = block_size-assign x e r in omega (arith, short-longest w s r (omega arith))
short-longest w s (loop x m c r) h = absurd (omega (arith, block_size-loop x m c r))
short-longest w s (nest c r) h = let z = block_size-nest c r in omega (arith, short-longest w s c (omega arith), short-longest w s r (omega arith))

pub weigh-least : (w : Weights) (b : Block) → w.nothing ≤ weigh w b
unfolding weigh
weigh-least w empty = omega arith
weigh-least w (assign x e r) = omega (arith, weigh-least w r)
weigh-least w (loop x m c r) = omega (arith, weigh-least w r)
weigh-least w (nest c r) = omega (arith, weigh-least w r)

-- AN ASSIGNMENT, by its steps

steps-plain : (w : Weights) (e : Expr) → assign_steps e ≡ 1 → assign_weight w e ≡ w.plain
unfolding assign_steps assign_weight
steps-plain w (lit n) h = refl
steps-plain w (var x) h = refl
steps-plain w (inc x) h = absurd (omega arith)
steps-plain w (dec x) h = absurd (omega arith)

steps-worked : (w : Weights) (e : Expr) → (assign_steps e ≡ 1 → ⊥) → assign_weight w e ≡ w.worked
unfolding assign_steps assign_weight
steps-worked w (lit n) h = absurd (h refl)
steps-worked w (var x) h = absurd (h refl)
steps-worked w (inc x) h = refl
steps-worked w (dec x) h = refl

-- in a configuration both are as long
assign-bytes : (e : Expr) → assign_weight program_weights e ≡ 16
unfolding assign_weight program_weights
assign-bytes (lit n) = refl
assign-bytes (var x) = refl
assign-bytes (inc x) = refl
assign-bytes (dec x) = refl

-- BY THE FIRST COMMAND

-- the most that a loop and what is behind it come to, over plain numbers
loop-opened : (w : Weights) (q c r p l : ℕ)
    → max (loop_longest w (suc q) c p + r) l ≡ max (w.looped + c + r + suc q * turn_weight w c) (max (q * turn_weight w c + w.nested + r + p) l)
unfolding loop_longest
loop-opened w q c r p l = omega arith

loop-passed : (w : Weights) (c r p l : ℕ) → max (loop_longest w 0 c p + r) l ≡ max (w.looped + c + r + 0 * turn_weight w c) l
unfolding loop_longest
loop-passed w c r p l = omega arith

module _ {l s : List ℕ} {from end : ℕ} {b : Block} {own turns inner next : ℕ} where
  pub opened-past : Opened l s from end b own turns inner next → from < inner
  opened-past (opens_assign x e r is o t i n row) = omega arith
  opened-past (opens_loop x m c r is o t i inside behind) = omega arith
  opened-past (opens_nest c r is o t i inside behind) = omega arith

  pub opened-order : Opened l s from end b own turns inner next → inner ≤ next
  opened-order (opens_assign x e r is o t i n row) = omega arith
  opened-order (opens_loop x m c r is o t i inside behind) = omega (arith, inside.ends)
  opened-order (opens_nest c r is o t i inside behind) = omega (arith, inside.ends)

  pub opened-behind : Opened l s from end b own turns inner next → RowOf l (length s) next end (behind_of b)
  unfolding behind_of
  opened-behind (opens_assign x e r is o t i n row) = rw is row
  opened-behind (opens_loop x m c r is o t i inside behind) = rw is behind
  opened-behind (opens_nest c r is o t i inside behind) = rw is behind

  pub opened_inside : Opened l s from end b own turns inner next → (inner ≡ from + 16 → ⊥) → RowOf l (length s) inner next (inside_of b)
  unfolding inside_of
  opened_inside (opens_assign x e r is o t i n row) h = absurd (h i)
  opened_inside (opens_loop x m c r is o t i inside behind) h = rw is inside
  opened_inside (opens_nest c r is o t i inside behind) h = rw is inside

  -- where there is a turn it is no assignment
  pub opened-turn : Opened l s from end b own turns inner next → (turns ≡ 0 → ⊥) → inner ≡ from + 16 → ⊥
  opened-turn (opens_assign x e r is o t i n row) h = λ _. h t
  opened-turn (opens_loop x m c r is o t i inside behind) h = λ e. omega arith
  opened-turn (opens_nest c r is o t i inside behind) h = λ e. omega arith

  -- WHAT IT WEIGHS BY ITSELF

  pub own-bytes : Opened l s from end b own turns inner next → inner - from ≡ own_weight program_weights b
  unfolding own_weight program_weights
  own-bytes (opens_assign x e r is o t i n row) = rw is (omega (arith, assign-bytes e))
  own-bytes (opens_loop x m c r is o t i inside behind) = rw is (omega arith)
  own-bytes (opens_nest c r is o t i inside behind) = rw is (omega arith)

  pub own-nested : (w : Weights) → Opened l s from end b own turns inner next → inner ≡ from + 4 → w.nested ≡ own_weight w b
  unfolding own_weight
  own-nested w (opens_assign x e r is o t i n row) h = absurd (omega arith)
  own-nested w (opens_loop x m c r is o t i inside behind) h = absurd (omega arith)
  own-nested w (opens_nest c r is o t i inside behind) h = rw is refl

  pub own-looped : (w : Weights) → Opened l s from end b own turns inner next → inner ≡ from + 20 → w.looped ≡ own_weight w b
  unfolding own_weight
  own-looped w (opens_assign x e r is o t i n row) h = absurd (omega arith)
  own-looped w (opens_loop x m c r is o t i inside behind) h = rw is refl
  own-looped w (opens_nest c r is o t i inside behind) h = absurd (omega arith)

  pub own-plain : (w : Weights) → Opened l s from end b own turns inner next → (inner ≡ from + 4 → ⊥) → (inner ≡ from + 20 → ⊥) → own ≡ 1 → w.plain ≡ own_weight w b
  unfolding own_weight
  own-plain w (opens_assign x e r is o t i n row) h g f = rw is (sym (steps-plain w e (sym o ∙ f)))
  own-plain w (opens_loop x m c r is o t i inside behind) h g f = absurd (g i)
  own-plain w (opens_nest c r is o t i inside behind) h g f = absurd (h i)

  pub own-worked : (w : Weights) → Opened l s from end b own turns inner next → (inner ≡ from + 4 → ⊥) → (inner ≡ from + 20 → ⊥) → (own ≡ 1 → ⊥) → w.worked ≡ own_weight w b
  unfolding own_weight
  own-worked w (opens_assign x e r is o t i n row) h g f = rw is (sym (steps-worked w e (λ y. f (o ∙ y))))
  own-worked w (opens_loop x m c r is o t i inside behind) h g f = absurd (g i)
  own-worked w (opens_nest c r is o t i inside behind) h g f = absurd (h i)

  -- WHAT THE PARTS WEIGH

  pub opened-weigh : (w : Weights) → Opened l s from end b own turns inner next → weigh w b ≡ own_weight w b + (inside_weight w b + weigh w (behind_of b))
  unfolding weigh own_weight inside_weight behind_of
  opened-weigh w (opens_assign x e r is o t i n row) = rw is (omega arith)
  opened-weigh w (opens_loop x m c r is o t i inside behind) = rw is (omega arith)
  opened-weigh w (opens_nest c r is o t i inside behind) = rw is (omega arith)

  pub inside-none : (w : Weights) → Opened l s from end b own turns inner next → inner ≡ from + 16 → inside_weight w b ≡ 0
  unfolding inside_weight
  inside-none w (opens_assign x e r is o t i n row) h = rw is refl
  inside-none w (opens_loop x m c r is o t i inside behind) h = absurd (omega arith)
  inside-none w (opens_nest c r is o t i inside behind) h = absurd (omega arith)

  pub inside-some : (w : Weights) → Opened l s from end b own turns inner next → (inner ≡ from + 16 → ⊥) → inside_weight w b ≡ weigh w (inside_of b)
  unfolding inside_weight inside_of
  inside-some w (opens_assign x e r is o t i n row) h = absurd (h i)
  inside-some w (opens_loop x m c r is o t i inside behind) h = rw is refl
  inside-some w (opens_nest c r is o t i inside behind) h = rw is refl

  -- THE TURNS THAT IT UNROLLS

  pub unrolls-all : Opened l s from end b own turns inner next → inner ≡ from + 20 → turns ≡ unrolled_of s b
  unfolding unrolled_of
  unrolls-all (opens_assign x e r is o t i n row) h = absurd (omega arith)
  unrolls-all (opens_loop x m c r is o t i inside behind) h = rw is t
  unrolls-all (opens_nest c r is o t i inside behind) h = absurd (omega arith)

  pub unrolls-none : Opened l s from end b own turns inner next → (inner ≡ from + 20 → ⊥) → 0 ≡ unrolled_of s b
  unfolding unrolled_of
  unrolls-none (opens_assign x e r is o t i n row) h = rw is refl
  unrolls-none (opens_loop x m c r is o t i inside behind) h = absurd (h i)
  unrolls-none (opens_nest c r is o t i inside behind) h = rw is refl

  pub unrolls-passed : Opened l s from end b own turns inner next → turns ≡ 0 → unrolled_of s b ≡ 0
  unfolding unrolled_of
  unrolls-passed (opens_assign x e r is o t i n row) h = rw is refl
  unrolls-passed (opens_loop x m c r is o t i inside behind) h = rw is (sym t ∙ h)
  unrolls-passed (opens_nest c r is o t i inside behind) h = rw is refl

  -- THE MOST THAT THE ROW COMES TO

  pub longest-passed : (w : Weights) → Opened l s from end b own turns inner next → turns ≡ 0 → longest_of w s b ≡ max (top_of w s b) (longest_of w s (behind_of b))
  unfolding weigh longest_of inside_weight unrolled_of behind_of top_of
  longest-passed w (opens_assign x e r is o t i n row) h = rw is (omega arith)
  longest-passed w (opens_loop x m c r is o t i inside behind) h =
      let z : bound_value s m ≡ 0 = sym t ∙ h in
      rw is (rw z (loop-passed w (weigh w c) (weigh w r) (longest_of w s c) (longest_of w s r)))
  longest-passed w (opens_nest c r is o t i inside behind) h = absurd (omega arith)

  pub longest-opened : (w : Weights) → Opened l s from end b own turns inner next → (turns ≡ 0 → ⊥)
      → longest_of w s b ≡ max (top_of w s b) (max (waiting_of w turns b + longest_of w s (inside_of b)) (longest_of w s (behind_of b)))
  unfolding weigh longest_of inside_weight unrolled_of behind_of inside_of top_of waiting_of
  longest-opened w (opens_assign x e r is o t i n row) h = absurd (h t)
  longest-opened w (opens_loop x m c r is o t i inside behind) h =
      let z : bound_value s m ≡ suc (turns - 1) = sym t ∙ omega arith in
      rw is (rw z (loop-opened w (turns - 1) (weigh w c) (weigh w r) (longest_of w s c) (longest_of w s r)))
  longest-opened w (opens_nest c r is o t i inside behind) h =
      let z : turns - 1 ≡ 0 = omega arith in
      rw is (rw z (omega (arith, weigh-longest w s c)))

  -- where there is no command inside, nothing is longer there than before
  pub waiting-weighs : (w : Weights) → Opened l s from end b own turns inner next → (turns ≡ 0 → ⊥) → waiting_of w turns b + inside_weight w b ≤ top_of w s b
  unfolding weigh inside_weight unrolled_of behind_of top_of waiting_of turn_weight
  waiting-weighs w (opens_assign x e r is o t i n row) h = absurd (h t)
  waiting-weighs w (opens_loop x m c r is o t i inside behind) h =
      let z : bound_value s m ≡ suc (turns - 1) = sym t ∙ omega arith in
      rw is (rw z (omega arith))
  waiting-weighs w (opens_nest c r is o t i inside behind) h =
      let z : turns - 1 ≡ 0 = omega arith in
      rw is (rw z (omega arith))

-- THE TWO PARTS from what both weigh together

abbrev weighed : ℕ → ℕ → Weighed
weighed i r = record { inside = i; behind = r }

weighed-is : (μ : Measure) (b : Block) (i r : ℕ) → i ≡ (weighed_of μ b).inside → r ≡ (weighed_of μ b).behind → weighed i r ≡ weighed_of μ b
weighed-is μ b i r h g = ap₂ weighed h g

module _ (μ : Measure) {both : ℕ} {b : Block} (e : both ≡ (weighed_of μ b).inside + (weighed_of μ b).behind) where
  module _ {l s : List ℕ} {from end : ℕ} {own turns inner next : ℕ} (O : Opened l s from end b own turns inner next) where
    pub weighed-assign : inner ≡ from + 16 → weighed 0 both ≡ weighed_of μ b
    weighed-assign h = let z = inside-none (weights_of μ) O h in weighed-is μ b 0 both (omega arith) (omega arith)

    pub weighed-inside : (inner ≡ from + 16 → ⊥) → (x : ℕ) → x ≡ weigh (weights_of μ) (inside_of b) → (x ≤ both) × (weighed x (both - x) ≡ weighed_of μ b)
    weighed-inside h x g = let z = inside-some (weights_of μ) O h in (omega arith, weighed-is μ b x (both - x) (omega arith) (omega arith))

    pub weighed-behind : (x : ℕ) → x ≡ weigh (weights_of μ) (behind_of b) → (x ≤ both) × (weighed (both - x) x ≡ weighed_of μ b)
    weighed-behind x g = (omega arith, weighed-is μ b (both - x) x (omega arith) (omega arith))
