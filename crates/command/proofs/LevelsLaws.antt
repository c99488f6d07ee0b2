-- The walk through the heads of a block's first blocks, as the count of them takes it.
use Prim.Native.Nat.{ℕ, ◌<◌}
use mathlib.Core.List.{List}
use lib.ListN.{length}
use Rattle.rules.specs.Syntax.{Block}
use Rattle.record.specs.Program.{block_size}
use Rattle.place.specs.Path.{Walk, opens_at, path}
use Rattle.place.specs.ProgramView.{BlockAt}
use Rattle.place.proofs.PathLaws.{walk_start, walk-room, walk-next, walk_end}
use Rattle.plan.proofs.LevelsLaws.{HeadWalk}

pub walks : {l : List ℕ} {o : ℕ} {P : Block} → BlockAt l o P → 0 < block_size P → HeadWalk (Walk P o) (opens_at l) o (length (path P)) (length l)
walks {l} {o} {P} h s = record { first = walk_start P o s; next = λ p w. walk-next h w; stop = λ p w. walk_end h w; low = λ p w. walk-room h w }
