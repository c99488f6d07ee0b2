-- The values from number i on, put behind those written, give all.
use mathlib.Core.Path.{◌≡◌}
use Prim.Native.Nat.{◌+◌, ◌*◌, ◌≤◌}
use lib.ListN.{drop, length}
use Rattle.buffer.specs.Slice.{put}
use Rattle.print.specs.Words.{spaced_all}
use Rattle.print.proofs.put_values.Given as goal

abbrev pub invariant-loop-value : goal.invariant-loop-value
invariant-loop-value l =
    (l.place ≤ l.at + 11 * l.value-index) × (l.place + length (spaced_all (drop l.value-index l.store)) ≡ l.at + length (spaced_all l.store)) × (put l.out l.place (spaced_all (drop l.value-index l.store)) ≡ put l.initial.out l.at (spaced_all l.store))
