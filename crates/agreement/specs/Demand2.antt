-- DEMAND 2: steps, translation and reductions are the paper's as 01 fixes them; the read-back accepts, given buffer enough,
-- exactly the terms that some program translates to, and gives that program; a run makes a further step exactly when budget is
-- left, it isn't finished, the next value isn't too large and the next state fits.
use Rattle.std.specs.Prelude.{◌<◌, ℕ, ◌≤◌, ◌≡◌, ◌↔◌, true, List, length}
use Rattle.buffer.specs.LittleEndian.{Bytes}
use Rattle.batch.specs.BatchMeaning.{BatchMeans}
use Rattle.conversion.specs.ConversionMeaning.{ConversionMeans}
use Rattle.counting.specs.CountingMeaning.{CountingMeans}
use Rattle.record.specs.Answers.{check_program, check_term}
use Rattle.record.specs.declared.Header.{Header}
use Rattle.record.specs.Header.{largest_of, ok_of}
use Rattle.record.specs.Holding.{ProgramIn, TermIn}
use Rattle.record.specs.RowMeaning.{RowsMean}
use Rattle.reducer.specs.ReducerRan.{ReducerRan}
use Rattle.reducer.specs.RunReducer.{run_reducer}
use Rattle.rules.specs.FreeVariables.{all_vars, closed, no_vars}
use Rattle.rules.specs.Reduction.{reduce}
use Rattle.rules.specs.Replaced.{ReduceReplacing, ReductionsReplacing, replaced_next}
use Rattle.rules.specs.Rules.{Raises, RaisesTerm, Reduce, Step}
use Rattle.rules.specs.Sound.{SmallValues}
use Rattle.rules.specs.Step.{step}
use Rattle.rules.specs.Store.{no_limit}
use Rattle.rules.specs.Syntax.{Atom, Block, Config, Term, empty, finished, next, over, tuple}
use Rattle.rules.specs.Translation.{translate}
use Rattle.stepper.specs.RunStepper.{run_stepper}
use Rattle.stepper.specs.StepperRan.{StepperRan}
use Rattle.term.specs.CallMeaning.{CallsMean}
use Rattle.weighing.specs.WeighMeaning.{WeighMeans}

-- The demand, in seven parts: the rules, the rows and the other calls, the counting stepper, the batch, the conversions, the checks, the runs.
pub record Demand2 : Type 0 where
  -- THE RULES: a step, and a reduction of a closed term, is one of the paper's; over is a value that the rule works out and
  -- that is too large; finished is the empty block, and the tuple
  pub steps : (h : Header) (c d : Config) → (step (ok_of h) c ≡ next d) ↔ Step (ok_of h) c d
  pub reduces : (h : Header) (t u : Term) → closed t ≡ true → (reduce (ok_of h) t ≡ next u) ↔ Reduce (ok_of h) t u
  -- and each reduction of the rules replaces so many variables, and no other number (02 C-13)
  pub replaces : (h : Header) (t u : Term) (n : ℕ) → ReduceReplacing (ok_of h) t n u ↔ (Reduce (ok_of h) t u × (replaced_next t ≡ n))
  -- so that as many reductions from one term have one number counted from the rules
  pub replaces_one : (h : Header) (t u v : Term) (i m n : ℕ) → ReductionsReplacing (ok_of h) t i m u → ReductionsReplacing (ok_of h) t i n v → m ≡ n
  pub steps_over : (h : Header) (c : Config) → (step (ok_of h) c ≡ over) ↔ ((n : ℕ) × Raises c n × (largest_of h < n))
  pub reduces_over : (h : Header) (t : Term) → closed t ≡ true → (reduce (ok_of h) t ≡ over) ↔ ((n : ℕ) × RaisesTerm t n × (largest_of h < n))
  pub steps_over_rules : (h : Header) (c : Config) → (step (ok_of h) c ≡ over) ↔ ((d : Config) × Step no_limit c d × (Step (ok_of h) c d → ⊥))
  pub reduces_over_rules : (h : Header) (t : Term) → closed t ≡ true → (reduce (ok_of h) t ≡ over) ↔ ((u : Term) × Reduce no_limit t u × (Reduce (ok_of h) t u → ⊥))
  pub steps_finished : (h : Header) (c : Config) → ((vs : List ℕ) × (step (ok_of h) c ≡ finished vs)) ↔ (c.block ≡ empty)
  pub reduces_finished : (h : Header) (t : Term) → ((vs : List ℕ) × (reduce (ok_of h) t ≡ finished vs)) ↔ ((l : List Atom) × (t ≡ tuple l))
  pub injective : (k : ℕ) (P Q : Block) → translate k P ≡ translate k Q → P ≡ Q
  -- THE ROWS' TESTS in plain facts, and what translate, read back, substitute, result and weigh answer
  pub rows_mean : RowsMean
  pub calls_mean : CallsMean
  pub weigh_means : WeighMeans
  -- THE COUNTING STEPPER (02 C-14): its rows, its states and steps, its run and the writing out
  pub counting_means : CountingMeans
  -- A BATCH (02 C-16): its rows, what it leaves, and each answer that of the run on its store alone
  pub batch_means : BatchMeans
  -- THE CONVERSIONS (02 C-18): what they write, there and back, and of a translation
  pub conversion_means : ConversionMeans
  -- CHECK: 0 and k exactly where the bytes are the record of a program, of a term, in a buffer that is not too long
  pub checks_program : (k : ℕ) (buf : List ℕ) (used : ℕ) → Bytes buf
      → (check_program buf used ≡ record { number = 0; k = k }) ↔ ((length buf ≤ 16384) × ((h : Header) × (P : Block) × (h.k ≡ k) × ProgramIn h P buf used))
  pub checks_term : (k : ℕ) (buf : List ℕ) (used : ℕ) → Bytes buf
      → (check_term buf used ≡ record { number = 0; k = k }) ↔ ((length buf ≤ 16384) × ((h : Header) × (t : Term) × (h.k ≡ k) × TermIn all_vars h t buf used))
  -- THE RUNS, of any program, and of any closed term
  pub runs_stepper : (h : Header) (P : Block) (buf : List ℕ) (used : ℕ) (store : List ℕ) (budget : ℕ)
      → ProgramIn h P buf used → length buf ≤ 16384 → length store ≡ h.k → SmallValues (ok_of h) store
      → StepperRan h (record { block = P; store = store }) (length buf) budget (run_stepper buf used store budget)
  pub runs_reducer : (h : Header) (t : Term) (buf : List ℕ) (used budget : ℕ) → TermIn no_vars h t buf used → length buf ≤ 16384
      → ReducerRan h t (length buf) budget (run_reducer buf used budget)
