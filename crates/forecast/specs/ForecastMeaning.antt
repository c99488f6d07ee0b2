-- WHAT A FORECAST ANSWERS (demand 2; 02 C-19), in plain facts: "The three figures are those of a run with no largest value, no ceiling and
-- no limit on buffers." That they are those of the real run wherever it finishes is `Foretold`, of lists of orders.
use Rattle.std.specs.Prelude.{◌<◌, ℕ, ◌≡◌, ◌↔◌, Bool, true, List, map, length}
use Rattle.std.proofs.Math.Option.{some}
use Rattle.buffer.specs.LittleEndian.{Bytes}
use Rattle.record.specs.declared.Header.{Header}
use Rattle.record.specs.Header.{encode_program, encode_term}
use Rattle.record.specs.Holding.{ProgramIn, ProgramWithStore}
use Rattle.record.specs.Rows.{block_of}
use Rattle.rules.specs.Reduction.{reduce}
use Rattle.rules.specs.Rules.{at}
use Rattle.rules.specs.Run.{iterate}
use Rattle.rules.specs.Step.{step}
use Rattle.rules.specs.Store.{no_limit}
use Rattle.rules.specs.Substitution.{state_of}
use Rattle.rules.specs.Syntax.{Atom, Block, Config, Term, empty, num, tuple}
use Rattle.forecast.specs.Forecast.{Forecast, bound_assigned, figure_too_large, forecast_call}
use Rattle.forecast.specs.Longest.{Longest}
use Rattle.forecast.specs.Steady.{Assigns, Bounds, Steady}

-- The length of a configuration's record, whatever buffer it would need.
abbrev pub config_length : Header → Config → ℕ
config_length h c = length (encode_program h c.block)

-- The same of a term's.
abbrev pub term_length : Header → Term → ℕ
term_length h t = length (encode_term h t)

-- The three figures are those of a run from the program P and the store μ to its end, made by `step ok` and `reduce ok`: the end comes
-- after so many steps and not after another number, in both machines; no state on the way is longer than its figure, and some one is as long.
pub record FiguresOf (ok : ℕ → Bool) (h : Header) (P : Block) (μ : List ℕ) (f : Forecast) : Type 0 where
  pub end : List ℕ
  pub steps : iterate (step ok) f.steps (at P μ) ≡ some (at empty end)
  pub no_other : (n : ℕ) (ν : List ℕ) → iterate (step ok) n (at P μ) ≡ some (at empty ν) → n ≡ f.steps
  pub reductions : iterate (reduce ok) f.steps (state_of h.k (at P μ)) ≡ some (tuple (map num end))
  pub no_other_term : (n : ℕ) (l : List Atom) → iterate (reduce ok) n (state_of h.k (at P μ)) ≡ some (tuple l) → n ≡ f.steps
  pub program : Longest (step ok) (config_length h) (at P μ) f.steps f.program_bytes
  pub term : Longest (reduce ok) (term_length h) (state_of h.k (at P μ)) f.steps f.term_bytes

-- A run with no largest value and no limit on buffers, from the program P and the store μ to its end, has a figure above n: it takes more
-- steps, or some configuration or some term on the way is longer.
pub data FigureAbove (h : Header) (P : Block) (μ : List ℕ) (n : ℕ) : Type 0 where
  steps : (m : ℕ) (ν : List ℕ) → iterate (step no_limit) m (at P μ) ≡ some (at empty ν) → n < m → FigureAbove h P μ n
  program : (m : ℕ) (c : Config) → iterate (step no_limit) m (at P μ) ≡ some c → n < config_length h c → FigureAbove h P μ n
  term : (m : ℕ) (t : Term) → iterate (reduce no_limit) m (state_of h.k (at P μ)) ≡ some t → n < term_length h t → FigureAbove h P μ n

-- What is accepted: what rows 1 to 6, 15 and 16 let through, the record of the program P with this header and k values, none above the
-- ceiling, and no command of P assigns a loop's bound.
pub record Accepted (h : Header) (P : Block) (buf : List ℕ) (used : ℕ) (μ : List ℕ) : Type 0 where
  pub lent : ProgramWithStore h P buf used μ
  pub steady : Steady P

-- What rows 18 and 19 ask, and what an accepted call answers.
pub record ForecastMeans : Type 0 where
  -- 18: some command assigns a variable used as a loop bound, an assignment or a loop whose index it is, run or not
  pub eighteen : (buf : List ℕ) (used : ℕ) (P : Block) → block_of buf used ≡ some P
      → (bound_assigned buf used ≡ true) ↔ ((x : ℕ) × Assigns x P × Bounds x P)
  -- 19: a figure above 18,446,744,073,709,551,615, of what the rows before let through
  pub nineteen : (h : Header) (P : Block) (buf : List ℕ) (used : ℕ) (μ : List ℕ) → Accepted h P buf used μ
      → (figure_too_large buf used μ ≡ true) ↔ FigureAbove h P μ 18446744073709551615
  -- every accepted call is of such a program and store
  pub takes : (buf : List ℕ) (used : ℕ) (μ : List ℕ) → Bytes buf → (forecast_call buf used μ).number ≡ 0
      → (h : Header) × (P : Block) × Accepted h P buf used μ
  -- THE FIGURES, of whatever program the buffer holds
  pub foretells : (h : Header) (P : Block) (buf : List ℕ) (used : ℕ) (μ : List ℕ) → ProgramIn h P buf used → (forecast_call buf used μ).number ≡ 0
      → FiguresOf no_limit h P μ (forecast_call buf used μ)
