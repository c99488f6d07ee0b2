-- After i turns the first i bytes are the other's.
use Rattle.std.proofs.Common.{◌≡◌, take}
use Rattle.moves.proofs.copy_bytes.Given as goal

abbrev pub invariant-loop-i : goal.invariant-loop-i
invariant-loop-i l = take l.i l.dst ≡ take l.i l.src
