-- How the code finds the most that a row of commands comes to: command by command, with what is inside the first and what is behind it.
use Rattle.std.specs.Prelude.{◌*◌, ◌+◌, ◌-◌, ◌<◌, ◌≤◌, max, ℕ, ◌≡◌, List, length, ⊤}
use Rattle.rules.specs.Step.{bound_value}
use Rattle.rules.specs.Syntax.{Block, assign, empty, loop, nest}
use Rattle.forecast.specs.Figures.{Weights, assign_weight, longest_of, program_weights, term_weights, turn_weight, weigh}
use Rattle.forecast.specs.Rows.{RowOf}
use Rattle.room_forecast.specs.declared.Measure.{Measure}
use Rattle.room_forecast.specs.declared.Measure.TheVariants.{Program, Term}
use Rattle.room_forecast.specs.declared.Part.{Part}
use Rattle.room_forecast.specs.declared.Parts.{Parts}
use Rattle.room_forecast.specs.declared.Weighed.{Weighed}

-- The weights of what is measured.
abbrev pub weights_of : Measure → Weights
weights_of Program = program_weights
weights_of (Term k) = term_weights k

-- It has no more variables than a record may have.
abbrev pub Few : Measure → Type 0
Few Program = ⊤
Few (Term k) = k ≤ 16

-- THE FIRST COMMAND of a block: what is inside it, and what is behind it. An assignment has nothing inside.
unfoldable pub inside_of : Block → Block
inside_of empty = empty
inside_of (assign x e r) = empty
inside_of (loop x b c r) = c
inside_of (nest c r) = c

unfoldable pub behind_of : Block → Block
behind_of empty = empty
behind_of (assign x e r) = r
behind_of (loop x b c r) = r
behind_of (nest c r) = r

-- What it weighs by itself.
unfoldable pub own_weight : Weights → Block → ℕ
own_weight w empty = 0
own_weight w (assign x e r) = assign_weight w e
own_weight w (loop x b c r) = w.looped
own_weight w (nest c r) = w.nested

-- What is inside it weighs; of an assignment 0, for there is no row inside.
unfoldable pub inside_weight : Weights → Block → ℕ
inside_weight w empty = 0
inside_weight w (assign x e r) = 0
inside_weight w (loop x b c r) = weigh w c
inside_weight w (nest c r) = weigh w c

-- The turns that it unrolls: a loop's alone.
unfoldable pub unrolled_of : List ℕ → Block → ℕ
unrolled_of s empty = 0
unrolled_of s (assign x e r) = 0
unrolled_of s (loop x b c r) = bound_value s b
unrolled_of s (nest c r) = 0

-- The block as it stands, with the turns of its first command unrolled.
unfoldable pub top_of : Weights → List ℕ → Block → ℕ
top_of w s b = weigh w b + unrolled_of s b * turn_weight w (inside_weight w b)

-- What stands around the inside of its first command, which is run so many times, while that runs for the first time.
unfoldable pub waiting_of : Weights → ℕ → Block → ℕ
waiting_of w turns b = (turns - 1) * turn_weight w (inside_weight w b) + w.nested + weigh w (behind_of b)

-- What is inside the first command of a block weighs, and what is behind it.
abbrev pub weighed_of : Measure → Block → Weighed
weighed_of μ b = record { inside = inside_weight (weights_of μ) b; behind = weigh (weights_of μ) (behind_of b) }

-- The row is that of the block b, and what it weighs is known.
pub record RowsTo (μ : Measure) (l s : List ℕ) (p : Part) (b : Block) : Type 0 where
  pub row : RowOf l (length s) p.from p.to b
  pub weighs : p.weight ≡ weigh (weights_of μ) b

-- The longest found so far, or the most that the block b comes to with what stands around it.
unfoldable pub longest_found : Measure → List ℕ → ℕ → ℕ → Block → ℕ
longest_found μ s found around b = max found (around + longest_of (weights_of μ) s b)

-- The two parts of the first command of a row, which is that of the block b: what is inside it, where that is run, and what is behind it.
-- The longest is that found so far, the command counted, or that of a part. A part that is too short for a loop comes to no more.
pub record PartsOf (μ : Measure) (l s : List ℕ) (left : Part) (b : Block) (found : ℕ) (p : Parts) : Type 0 where
  pub inner : Block
  pub behind : Block
  pub inside : p.inside.from < p.inside.to → RowsTo μ l s p.inside inner
  pub rest : RowsTo μ l s p.rest behind
  pub past : left.from < p.inside.from
  pub order : p.inside.from ≤ p.inside.to
  pub next : p.inside.to ≡ p.rest.from
  pub end : p.rest.to ≡ left.to
  pub short : p.inside.to - p.inside.from < 20 → p.inside.around + longest_of (weights_of μ) s inner ≤ p.found
  pub least : p.rest.around + p.rest.weight ≤ p.found
  pub most : longest_found μ s found left.around b
      ≡ max p.found (max (p.inside.around + longest_of (weights_of μ) s inner) (p.rest.around + longest_of (weights_of μ) s behind))

-- What is left to walk of the row `whole`, which is that of the block b.
pub record Left (μ : Measure) (l s : List ℕ) (whole : Part) (b : Block) (found most : ℕ) (left : Part) : Type 0 where
  pub block : Block
  pub rows : RowsTo μ l s left block
  pub low : whole.from ≤ left.from
  pub high : left.to ≤ whole.to
  pub same : longest_found μ s most left.around block ≡ longest_found μ s found whole.around b
