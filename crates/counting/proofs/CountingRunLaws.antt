-- ANY NUMBER OF STEPS of the counting stepper is as many of its expansion (02 C-14).
use Prim.Native.Nat.{ℕ}
use mathlib.Core.Path.{◌≡◌}
use mathlib.Core.Bool.{Bool}
use mathlib.Core.Option.{map}
use Rattle.rules.specs.Run.{iterate}
use Rattle.rules.specs.Step.{step}
use Rattle.counting.specs.CountStep.{count_step}
use Rattle.counting.specs.Counting.{Counting, expand_config}
use Rattle.counting.proofs.CountingLaws.{counting-step}
use Rattle.counting.proofs.SimulationLaws.{iterate-same}

pub counting-steps : (ok : ℕ → Bool) (n : ℕ) (c : Counting) → iterate (step ok) n (expand_config c) ≡ map expand_config (iterate (count_step ok) n c)
counting-steps ok = iterate-same (count_step ok) (step ok) expand_config (counting-step ok)
