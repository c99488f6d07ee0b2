-- The weights of what is measured, and what a row weighs.
use Prim.Native.Nat.{◌+◌, ◌-◌, ◌≤◌, ℕ}
use mathlib.Core.Path.{refl, ◌≡◌}
use mathlib.Core.List.{List}
use native.Mathlib.Omega.{arith}
use Rattle.rules.specs.Syntax.{Block}
use Rattle.translator.specs.RowTranslation.{RowAt, row_size}
use Rattle.forecast.specs.Figures.{program_weights, term_weights, weigh}
use Rattle.forecast.proofs.BoundLaws.{Light, program-light, term-light}
use Rattle.forecast.proofs.WeightLaws.{program-weigh, term-weigh}
use Rattle.room_forecast.specs.Walked.{Few, weights_of}
use Rattle.room_forecast.specs.declared.Measure.{Measure}
use Rattle.room_forecast.specs.declared.Measure.TheVariants.{Program, Term}

pub weights-light : (μ : Measure) → Few μ → Light (weights_of μ)
weights-light Program h = program-light
weights-light (Term k) h = term-light k h

pub plain-weight : (μ : Measure) → (weights_of μ).plain ≡ 16
unfolding program_weights term_weights
plain-weight Program = refl
plain-weight (Term k) = refl

pub nested-most : (μ : Measure) → (weights_of μ).nested ≤ 8
unfolding program_weights term_weights
nested-most Program = omega arith
nested-most (Term k) = omega arith

-- WHAT A ROW WEIGHS

pub weigh-bytes : {l : List ℕ} {from to : ℕ} (h : RowAt l from to) → to - from ≡ weigh program_weights h.block
weigh-bytes h = omega (arith, h.ends, program-weigh h.block)

pub weigh-term : (k : ℕ) (b : Block) → row_size k b ≡ 4 + weigh (term_weights k) b
unfolding row_size
weigh-term k b = omega (arith, term-weigh k b)
