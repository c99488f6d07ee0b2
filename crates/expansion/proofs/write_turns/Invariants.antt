-- To put the turns still to be written into the place that is left is to put all of them into the first.
use Rattle.expansion.specs.Pieces.{turns_bytes}
use Rattle.buffer.specs.Slice.{put}
use Prim.Native.Nat.{◌+◌, ◌-◌, ◌≤◌, ℕ}
use mathlib.Core.Path.{◌≡◌}
use mathlib.Core.List.{List}
use lib.ListN.{length}
use Rattle.expansion.proofs.write_turns.Given as goal

abbrev pub invariant-loop-done : goal.invariant-loop-done
invariant-loop-done l =
    (length l.out ≡ length l.initial.out) × (l.last ≤ length l.initial.out)
    × ((m : List ℕ) → l.initial.first + length (turns_bytes l.piece.bytes.now l.piece.at l.piece.n l.reached m l.turns) ≡ l.initial.last
    → (put l.out l.first (turns_bytes l.piece.bytes.now l.piece.at l.piece.n l.reached m (l.turns - l.done)) ≡ put l.initial.out l.initial.first (turns_bytes l.piece.bytes.now l.piece.at l.piece.n l.reached m l.turns))
    × (l.first + length (turns_bytes l.piece.bytes.now l.piece.at l.piece.n l.reached m (l.turns - l.done)) ≡ l.last))
