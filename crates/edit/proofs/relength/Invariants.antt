-- What is left to do of the present bytes is what was to do behind the header.
use Prim.Native.Nat.{◌+◌, ◌*◌, ◌-◌, ◌≤◌}
use mathlib.Core.Path.{◌≡◌}
use lib.ListN.{length}
use Rattle.place.specs.Heads.{relength, shifted}
use Rattle.edit.proofs.relength.Given as goal

abbrev pub invariant-loop-i : goal.invariant-loop-i
invariant-loop-i l =
    (l.i ≤ l.count) × (length l.buf ≡ length l.initial.buf) × (relength (shifted l.up l.down) (l.count - l.i) (l.start + 4 * l.i) l.buf ≡ relength (shifted l.up l.down) l.count l.start l.initial.buf)

abbrev pub decreases-loop-i : goal.decreases-loop-i
decreases-loop-i l = l.count - l.i
