-- After i turns the first i values stand in the store.
use mathlib.Core.Path.{◌≡◌}
use lib.ListN.{take}
use Rattle.report.specs.Line.{values_in}
use Rattle.report.proofs.input.read_values.Given as goal

abbrev pub invariant-loop-i : goal.invariant-loop-i
invariant-loop-i l = take l.i l.store ≡ values_in l.i l.bytes
