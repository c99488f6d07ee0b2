-- What a forecast answers, proved.
use Prim.Native.Nat.{◌<◌, ℕ}
use mathlib.Core.Path.{ap, refl, subst, sym, ◌∙◌, ◌≡◌}
use mathlib.Core.Logic.{inl, inr, ◌↔◌, ◌⊎◌}
use mathlib.Core.Bool.{Bool, false, not, true, ◌||◌}
use mathlib.Core.List.{List, map}
use mathlib.Core.Option
use mathlib.Core.Option.{some}
use borrow.Author.Tests.{not-false, not-true}
use native.Mathlib.Omega.{arith}
use Rattle.buffer.specs.LittleEndian.{Bytes}
use Rattle.record.specs.Answers.{check_program_rows}
use Rattle.record.specs.declared.Header.{Header}
use Rattle.record.specs.Holding.{ProgramIn}
use Rattle.record.specs.Rows.{block_of, first_row, header_of, program_of, store_rows}
use Rattle.record.proofs.HoldingLaws.{passes-program, program-block, program-header, program-is}
use Rattle.record.proofs.RowLaws.{none-split, none_at-zero}
use Rattle.record.proofs.RowMeaningLaws.{ltb_iff, or-iff}
use Rattle.rules.specs.Evaluate.{evaluate}
use Rattle.rules.specs.Reduction.{reduce}
use Rattle.rules.specs.Rules.{at}
use Rattle.rules.specs.Run.{iterate}
use Rattle.rules.specs.Scope.{ConfigWithin}
use Rattle.rules.specs.Step.{step}
use Rattle.rules.specs.Store.{no_limit}
use Rattle.rules.specs.Substitution.{state_of}
use Rattle.rules.specs.Syntax.{Answer, Atom, Block, Config, Term, empty, finished, next, num, over, tuple}
use Rattle.rules.proofs.FinishedLaws.{finished-block, finished-state}
use Rattle.rules.proofs.IterateLaws.{OnNext, iterate-keeps}
use Rattle.rules.proofs.LockStep.{lock-steps}
use Rattle.rules.proofs.ScopeLaws.{WithinAnswer, within_step}
use Rattle.rules.proofs.WalkLaws.{empty-halts, tuple-halts}
use Rattle.forecast.specs.Figures.{Figures, figures}
use Rattle.forecast.specs.Forecast.{Forecast, bound_assigned, figure_rows, figure_too_large, forecast_by, forecast_call, forecast_rows, some_too_large, too_large}
use Rattle.forecast.specs.ForecastMeaning.{Accepted, FigureAbove, FiguresOf, ForecastMeans, config_length, term_length}
use Rattle.forecast.specs.Steady.{Assigns, Bounds, Steady, steady}
use Rattle.forecast.proofs.ForecastLaws.{accepted-by, bound-assigned, figure-large, forecast-number, forecast-takes}
use Rattle.forecast.proofs.ForetoldLaws.{configuration-limited, steps-foretold, steps-limited, term-limited}
use Rattle.forecast.proofs.LongestLaws.{image-of, longest-most}
use Rattle.forecast.proofs.SteadyLaws.{steady-fact, unsteady-fact}

-- ROW 18

steady-iff : (P : Block) → (not (steady P) ≡ true) ↔ ((x : ℕ) × Assigns x P × Bounds x P)
steady-iff P = ((λ e. unsteady-fact P (not-true (steady P) e)), (λ v. by (steady P) refl v.0 v.1 v.2))
  where
    by : (b : Bool) → steady P ≡ b → (x : ℕ) → Assigns x P → Bounds x P → not b ≡ true
    by true e x i j = absurd (steady-fact P e x i j)
    by false e x i j = refl

eighteen-iff : (buf : List ℕ) (used : ℕ) (P : Block) → block_of buf used ≡ some P → (bound_assigned buf used ≡ true) ↔ ((x : ℕ) × Assigns x P × Bounds x P)
eighteen-iff buf used P e =
    subst (λ (b : Bool). (b ≡ true) ↔ ((x : ℕ) × Assigns x P × Bounds x P)) (sym (bound-assigned buf used P e)) (steady-iff P)

-- THE FIGURES OF A RUN

-- the number of values stays
within-next : (k : ℕ) (a : Answer Config) → WithinAnswer k a → OnNext (ConfigWithin k) a
within-next k (finished vs) h = tt
within-next k over h = tt
within-next k (next c) h = h

within-steps : (ok : ℕ → Bool) (k n : ℕ) (a b : Config) → ConfigWithin k a → iterate (step ok) n a ≡ some b → ConfigWithin k b
within-steps ok k = iterate-keeps (step ok) (ConfigWithin k) (λ c h. within-next k (step ok c) (within_step ok k c h))

-- the answer with these figures
abbrev pub answered : Figures → Forecast
answered f = record { number = 0; steps = f.steps; program_bytes = f.program_bytes; term_bytes = f.term_bytes }

module _ (h : Header) (P : Block) (μ : List ℕ) (within : ConfigWithin h.k (at P μ)) where
  -- the reducer's states are those of configurations that the stepper reaches
  pub reducer-at : (ok : ℕ → Bool) (n : ℕ) (t : Term) → iterate (reduce ok) n (state_of h.k (at P μ)) ≡ some t
      → (c : Config) × (iterate (step ok) n (at P μ) ≡ some c) × (state_of h.k c ≡ t)
  reducer-at ok n t e = image-of (state_of h.k) (iterate (step ok) n (at P μ)) t (sym (lock-steps ok h.k n (at P μ) within) ∙ e)

  -- and its ends are theirs
  reduced : (ok : ℕ → Bool) (n : ℕ) (ν : List ℕ) → iterate (step ok) n (at P μ) ≡ some (at empty ν)
      → iterate (reduce ok) n (state_of h.k (at P μ)) ≡ some (tuple (map num ν))
  reduced ok n ν e =
      lock-steps ok h.k n (at P μ) within ∙ ap (Option.map (state_of h.k)) e
      ∙ ap some (finished-state h.k ν (within-steps ok h.k n (at P μ) (at empty ν) within e).size)

  pub stepped : (ok : ℕ → Bool) (n : ℕ) (l : List Atom) → iterate (reduce ok) n (state_of h.k (at P μ)) ≡ some (tuple l)
      → (ν : List ℕ) × (iterate (step ok) n (at P μ) ≡ some (at empty ν))
  stepped ok n l e =
      let v = reducer-at ok n (tuple l) e in
      let c = v.0 in
      (c.store, v.1 ∙ ap (λ (b : Block). some (at b c.store)) (finished-block h.k c.block c.store l v.2))

module _ (h : Header) (P : Block) (μ : List ℕ) (fixed : Steady P) (within : ConfigWithin h.k (at P μ)) where
  -- wherever a run finishes, the figures are its own
  pub figures-of : (ok : ℕ → Bool) (n : ℕ) (ν : List ℕ) → iterate (step ok) n (at P μ) ≡ some (at empty ν) → FiguresOf ok h P μ (answered (figures h μ P))
  figures-of ok n ν e =
      let same : n ≡ (figures h μ P).steps = steps-limited h P μ fixed ok n ν e in
      let ends = subst (λ (m : ℕ). iterate (step ok) m (at P μ) ≡ some (at empty ν)) same e in
      record {
        end = ν;
        steps = ends;
        no_other = λ m ρ i. steps-limited h P μ fixed ok m ρ i;
        reductions = reduced h P μ within ok (figures h μ P).steps ν ends;
        no_other_term = λ m l i. let v = stepped h P μ within ok m l i in steps-limited h P μ fixed ok m v.0 v.1;
        program = configuration-limited h P μ fixed ok (figures h μ P).steps ν ends;
        term = term-limited h P μ fixed within ok (figures h μ P).steps ν ends;
      }

  -- with no limit it finishes
  pub unlimited : FiguresOf no_limit h P μ (answered (figures h μ P))
  unlimited = figures-of no_limit (figures h μ P).steps (evaluate P μ).store (steps-foretold h P μ fixed)

  -- ROW 19

  abbrev Above : ℕ → Type 0
  Above = FigureAbove h P μ

  above-figure : (n : ℕ) → (n < (figures h μ P).steps) ⊎ ((n < (figures h μ P).program_bytes) ⊎ (n < (figures h μ P).term_bytes)) → Above n
  above-figure n (inl l) = FigureAbove.steps (figures h μ P).steps unlimited.end unlimited.steps l
  above-figure n (inr (inl l)) =
      let (m, c, i, e, q) = unlimited.program.met in
      FigureAbove.program m c e (omega (arith, q))
  above-figure n (inr (inr l)) =
      let (m, t, i, e, q) = unlimited.term.met in
      FigureAbove.term m t e (omega (arith, q))

  figure-above : (n : ℕ) → Above n → (n < (figures h μ P).steps) ⊎ ((n < (figures h μ P).program_bytes) ⊎ (n < (figures h μ P).term_bytes))
  figure-above n (FigureAbove.steps m ν e l) = inl (omega (arith, steps-limited h P μ fixed no_limit m ν e))
  figure-above n (FigureAbove.program m c e l) =
      inr (inl (omega (
        arith,
        longest-most (step no_limit) (config_length h) (at P μ) (at empty unlimited.end) (figures h μ P).steps (figures h μ P).program_bytes
            unlimited.steps (empty-halts no_limit unlimited.end) unlimited.program m c e,
      )))
  figure-above n (FigureAbove.term m t e l) =
      inr (inr (omega (
        arith,
        longest-most (reduce no_limit) (term_length h) (state_of h.k (at P μ)) (tuple (map num unlimited.end)) (figures h μ P).steps (figures h μ P).term_bytes
            unlimited.reductions (tuple-halts no_limit (map num unlimited.end)) unlimited.term m t e,
      )))

  large-iff : (some_too_large (figures h μ P) ≡ true) ↔ Above 18446744073709551615
  unfolding some_too_large too_large
  large-iff =
      let f = figures h μ P in
      let v = or-iff (too_large f.steps) (too_large f.program_bytes || too_large f.term_bytes) (ltb_iff 18446744073709551615 f.steps)
      (or-iff (too_large f.program_bytes) (too_large f.term_bytes) (ltb_iff 18446744073709551615 f.program_bytes) (ltb_iff 18446744073709551615 f.term_bytes)) in
      ((λ e. above-figure 18446744073709551615 (v.0 e)), (λ a. v.1 (figure-above 18446744073709551615 a)))

-- an accepted start is a configuration
accepted-within : {h : Header} {P : Block} {buf : List ℕ} {used : ℕ} {μ : List ℕ} → Accepted h P buf used μ → ConfigWithin h.k (at P μ)
accepted-within a = record { block = a.lent.holds.is_program.variables; size = a.lent.count }

nineteen-iff : (h : Header) (P : Block) (buf : List ℕ) (used : ℕ) (μ : List ℕ) → Accepted h P buf used μ
    → (figure_too_large buf used μ ≡ true) ↔ FigureAbove h P μ 18446744073709551615
nineteen-iff h P buf used μ a =
    subst (λ (b : Bool). (b ≡ true) ↔ FigureAbove h P μ 18446744073709551615)
    (sym (figure-large buf used μ h P (program-header a.lent.holds) (program-block a.lent.holds a.lent.short)))
    (large-iff h P μ a.steady (accepted-within a))

-- WHAT IS ACCEPTED, and its answer

module _ (h : Header) (P : Block) (buf : List ℕ) (used : ℕ) (μ : List ℕ) (holds : ProgramIn h P buf used) (z : (forecast_call buf used μ).number ≡ 0) where
  none-applies : first_row (forecast_rows buf used μ) ≡ 0
  none-applies = sym (forecast-number buf used μ) ∙ z

  pub accepts : Accepted h P buf used μ
  accepts =
      let t = forecast-takes holds used μ none-applies in
      record {
        lent = record { holds = holds; short = t.low; count = t.count; values = t.values };
        steady = steady-fact P (not-false (steady P) (sym (bound-assigned buf used P (program-block holds t.low)) ∙ t.unassigned));
      }

  pub answer-is : forecast_call buf used μ ≡ answered (figures h μ P)
  unfolding forecast_call
  answer-is =
      ap (λ (m : ℕ). forecast_by m (figures (header_of buf used) μ (program_of buf used))) none-applies
      ∙ rw (program-header holds, program-is holds accepts.lent.short) (accepted-by (figures h μ P))

  foretells-figures : FiguresOf no_limit h P μ (forecast_call buf used μ)
  foretells-figures =
      subst (λ (f : Forecast). FiguresOf no_limit h P μ f) (sym answer-is)
      (unlimited h P μ accepts.steady (accepted-within accepts))

takes-accepted : (buf : List ℕ) (used : ℕ) (μ : List ℕ) → Bytes buf → (forecast_call buf used μ).number ≡ 0 → (h : Header) × (P : Block) × Accepted h P buf used μ
takes-accepted buf used μ bytes z =
    let rows = none_at-zero (forecast_rows buf used μ) refl (sym (forecast-number buf used μ) ∙ z) in
    let p = passes-program buf used bytes (none-split (check_program_rows buf used) (store_rows buf used μ (figure_rows buf used μ)) rows).0 in
    (header_of buf used, p.0, accepts (header_of buf used) p.0 buf used μ p.1 z)

-- THE THEOREM

pub forecast-means : ForecastMeans
forecast-means = record { eighteen = eighteen-iff; nineteen = nineteen-iff; takes = takes-accepted; foretells = foretells-figures }
