-- One store at the index of the variable.
use native.Mathlib.Omega.{arith}
use Prim.Native.Nat.{◌-◌}
use mathlib.Core.Path.{sym}
use Rattle.rules.proofs.StoreLaws.{update-set}
use Rattle.run.proofs.value.set_value.Goals as goal

pub returns : goal.returns
returns c =
    sym (update-set c.args.store.now c.args.variable (c.args.variable - 1) c.args.value (omega arith))
