-- What an engine needs to answer as the run of its machine: the same outcome, the same count, and a tally of the budget.
use Prim.Native.Nat.{◌+◌, ◌-◌, ℕ}
use mathlib.Core.Path.{◌≡◌}
use native.Mathlib.Omega.{arith}
use Rattle.rules.specs.Run.{Ran}
use Rattle.run.specs.declared.Outcome.{Outcome}
use Rattle.run.specs.declared.Tally.{Tally}
use Rattle.run.specs.Represents.{answered, as_outcome}
use Rattle.run.specs.RunAnswer.{accepted}

pub answered-accepted : {A : Type 0} (r : Ran A) (o : Outcome) (t : Tally) (budget used : ℕ)
    → as_outcome o ≡ r.outcome → t.steps ≡ r.count → t.steps + t.left ≡ budget → answered o t used ≡ accepted budget r used
answered-accepted r o t budget used outcome steps total =
    let left : t.left ≡ budget - r.count = omega arith in
    cc
