-- THE FIGURES ARE FORETOLD (02, C-19): with no limit a steady program finishes after exactly its steps, and its longest
-- configuration and term on the way are the figures; so of the real run, under any limit, wherever it finishes.
use Prim.Native.Nat.{◌+◌, ℕ}
use mathlib.Core.Path.{◌≡◌, ap, refl, subst, sym, ◌∙◌}
use mathlib.Core.Bool.{Bool}
use mathlib.Core.List.{List}
use mathlib.Core.Option.{some}
use Rattle.record.specs.declared.Header.{Header}
use Rattle.record.specs.Header.{contents_at}
use Rattle.rules.specs.Evaluate.{evaluate}
use Rattle.rules.specs.Reduction.{reduce}
use Rattle.rules.specs.Rules.{at}
use Rattle.rules.specs.Run.{iterate}
use Rattle.rules.specs.Scope.{ConfigWithin}
use Rattle.rules.specs.Step.{step}
use Rattle.rules.specs.Store.{no_limit}
use Rattle.rules.specs.Substitution.{state_of}
use Rattle.rules.specs.Syntax.{Block, empty}
use Rattle.rules.proofs.EvaluateLaws.{finishes-evaluated, steps-unlimited, terminates}
use Rattle.rules.proofs.LockStep.{lock-steps}
use Rattle.forecast.specs.Figures.{Weights, figures, longest_of, program_weights, steps_of, term_weights}
use Rattle.forecast.specs.ForecastMeaning.{config_length, term_length}
use Rattle.forecast.specs.Longest.{Longest}
use Rattle.forecast.specs.Steady.{Steady}
use Rattle.forecast.proofs.FiguresLaws.{Falling, program-goes, weight}
use Rattle.forecast.proofs.LongestLaws.{longest-held, longest-image, longest-longer}
use Rattle.forecast.proofs.WayLaws.{way-longest, way-reaches}
use Rattle.forecast.proofs.WeightLaws.{program-falling, program-length, term-falling, term-length}

module _ (hd : Header) (P : Block) (s : List ℕ) (h : Steady P) where
  -- STEPS

  foretold-evaluated : (evaluate P s).steps ≡ steps_of s P
  foretold-evaluated =
      let t = program-goes program_weights program-falling P s h in
      sym (finishes-evaluated no_limit P s (steps_of s P) t.0 (way-reaches (step no_limit) (weight program_weights) t.1)).0

  -- with no limit the program finishes after exactly so many steps
  pub steps-foretold : iterate (step no_limit) (figures hd s P).steps (at P s) ≡ some (at empty (evaluate P s).store)
  unfolding figures
  steps-foretold = ap (λ n. iterate (step no_limit) n (at P s)) (sym foretold-evaluated) ∙ terminates P s

  -- and so wherever it finishes under a limit
  pub steps-limited : (ok : ℕ → Bool) (n : ℕ) (ν : List ℕ) → iterate (step ok) n (at P s) ≡ some (at empty ν) → n ≡ (figures hd s P).steps
  unfolding figures
  steps-limited ok n ν e = (finishes-evaluated ok P s n ν e).0 ∙ foretold-evaluated

  -- LONGEST

  longest-weight : (w : Weights) → Falling w → Longest (step no_limit) (weight w) (at P s) (steps_of s P) (longest_of w s P)
  longest-weight w f = way-longest (step no_limit) (weight w) (program-goes w f P s h).1

  longest-limited : (w : Weights) → Falling w → (ok : ℕ → Bool) (n : ℕ) (ν : List ℕ) → iterate (step ok) n (at P s) ≡ some (at empty ν)
      → Longest (step ok) (weight w) (at P s) n (longest_of w s P)
  unfolding figures
  longest-limited w f ok n ν e =
      longest-held (step no_limit) (step ok) (weight w) (λ m a b. steps-unlimited ok m a b) (at P s) (at empty ν) n (longest_of w s P) e
      (subst (λ m. Longest (step no_limit) (weight w) (at P s) m (longest_of w s P)) (sym (steps-limited ok n ν e)) (longest-weight w f))

  -- the longest configuration of the real run, wherever it finishes
  pub configuration-limited : (ok : ℕ → Bool) (n : ℕ) (ν : List ℕ) → iterate (step ok) n (at P s) ≡ some (at empty ν)
      → Longest (step ok) (config_length hd) (at P s) n (figures hd s P).program_bytes
  unfolding figures
  configuration-limited ok n ν e =
      longest-longer (step ok) (weight program_weights) (config_length hd) (contents_at hd + 4) (λ c. program-length hd c.block) (at P s) n (longest_of program_weights s P)
      (longest-limited program_weights program-falling ok n ν e)

  -- and its longest term
  pub term-limited : ConfigWithin hd.k (at P s) → (ok : ℕ → Bool) (n : ℕ) (ν : List ℕ) → iterate (step ok) n (at P s) ≡ some (at empty ν)
      → Longest (reduce ok) (term_length hd) (state_of hd.k (at P s)) n (figures hd s P).term_bytes
  unfolding figures
  term-limited g ok n ν e =
      longest-image (step ok) (reduce ok) (state_of hd.k) (λ c. contents_at hd + 4 + weight (term_weights hd.k) c) (term_length hd) (term-length hd) (at P s) (λ m. lock-steps ok hd.k m (at P s) g) n
      (contents_at hd + 4 + longest_of (term_weights hd.k) s P)
      (longest-longer (step ok) (weight (term_weights hd.k)) (λ c. contents_at hd + 4 + weight (term_weights hd.k) c) (contents_at hd + 4) (λ c. refl) (at P s) n (longest_of (term_weights hd.k) s P)
      (longest-limited (term_weights hd.k) (term-falling hd.k) ok n ν e))
