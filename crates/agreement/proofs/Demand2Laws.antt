-- Demand 2, proved.
use Prim.Native.Nat.{◌<◌, ℕ}
use mathlib.Core.Path.{◌≡◌}
use mathlib.Core.Logic.Iff
use mathlib.Core.Logic.{◌↔◌}
use mathlib.Core.Bool.{false}
use Rattle.record.specs.declared.Header.{Header}
use Rattle.record.specs.Header.{largest_of, ok_of}
use Rattle.batch.proofs.BatchMeaningLaws.{batch-means}
use Rattle.conversion.proofs.ConversionMeaningLaws.{conversion-means}
use Rattle.counting.proofs.CountingMeaningLaws.{counting-means}
use Rattle.record.proofs.HoldingLaws.{check-program, check-term}
use Rattle.record.proofs.RowMeaningLaws.{rows-mean}
use Rattle.reducer.proofs.RunReducerLaws.{reducer-ran}
use Rattle.rules.proofs.FinishedLaws.{reduce-finished, step-finished}
use Rattle.rules.proofs.OverLaws.{reduce-over, reduce-over-no_limit, step-over, step-over-no_limit}
use Rattle.rules.proofs.ReadBackLaws.{translate-injective}
use Rattle.rules.proofs.ReplacedLaws.{replacing-iff, replacing-same}
use Rattle.rules.proofs.RulesLaws.{reduce-iff, step-iff}
use Rattle.rules.proofs.StoreLaws.{up_to-above}
use Rattle.rules.proofs.Tests.{iff-under}
use Rattle.stepper.proofs.RunStepperLaws.{stepper-ran}
use Rattle.term.proofs.CallMeaningLaws.{calls-mean}
use Rattle.weighing.proofs.WeighLaws.{weigh-means}
use Rattle.agreement.specs.Demand2.{Demand2}

-- a value that does not pass is above the largest that does
over-largest : (h : Header) {P : ℕ → Type 0} → ((n : ℕ) × P n × (ok_of h n ≡ false)) ↔ ((n : ℕ) × P n × (largest_of h < n))
over-largest h {P} = iff-under (λ n. ok_of h n ≡ false) (λ n. largest_of h < n) (up_to-above (largest_of h))

pub demand2 : Demand2
demand2 = record {
  steps = λ h. step-iff (ok_of h);
  reduces = λ h. reduce-iff (ok_of h);
  replaces = λ h. replacing-iff (ok_of h);
  replaces_one = λ h t u v i m n. replacing-same;
  steps_over = λ h c. Iff.trans (step-over (ok_of h) c) (over-largest h);
  reduces_over = λ h t e. Iff.trans (reduce-over (ok_of h) t e) (over-largest h);
  steps_over_rules = λ h. step-over-no_limit (ok_of h);
  reduces_over_rules = λ h. reduce-over-no_limit (ok_of h);
  steps_finished = λ h. step-finished (ok_of h);
  reduces_finished = λ h. reduce-finished (ok_of h);
  injective = translate-injective;
  rows_mean = rows-mean;
  calls_mean = calls-mean;
  weigh_means = weigh-means;
  counting_means = counting-means;
  batch_means = batch-means;
  conversion_means = conversion-means;
  checks_program = check-program;
  checks_term = check-term;
  runs_stepper = λ hd P buf used store budget h l e hs. stepper-ran h l store e hs budget;
  runs_reducer = λ hd t buf used budget h l. reducer-ran h l budget;
}
