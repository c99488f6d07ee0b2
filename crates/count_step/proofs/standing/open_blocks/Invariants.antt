use mathlib.Core.Path.{◌≡◌}
use mathlib.Core.List.{List}
use Prim.Native.Nat.{ℕ, ◌-◌}
use Rattle.rules.specs.Syntax.{Block}
use Rattle.counting.specs.Counting.{here}
use Rattle.counting.specs.Entries.{Entry}
use Rattle.count_step.specs.Inner.{Inner}
use Rattle.count_step.specs.Standing.{Opened, kind_of}
use Rattle.count_step.proofs.standing.open_blocks.Given as goal

abbrev pub invariant-loop-inside : goal.invariant-loop-inside
invariant-loop-inside l =
    (P : Block) (es : List Entry) (i : ℕ) (r : Block) (count : ℕ) → Inner l.program.start l.program.used l.n P es i r (here r) l.program.bytes.now l.initial.words count
    → (o : Opened l.program.start l.program.used l.many P es r l.program.bytes.now l.words count) × (l.inside ≡ kind_of o.left)

abbrev pub decreases-loop-inside : goal.decreases-loop-inside
decreases-loop-inside l = 31 - l.many
