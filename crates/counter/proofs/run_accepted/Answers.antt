use mathlib.Core.Path.{ap}
use Prim.Native.Nat.{◌+◌, ℕ}
use native.Mathlib.Omega.{arith}
use Rattle.counter.proofs.RunLaws.{holds, start-low}
use Rattle.counter.proofs.run_accepted.Goals as goal

pub overflow_add-start : goal.overflow_add-start
overflow_add-start c = omega (arith, start-low c.requires.2, c.contents_at-start.ensures)

pub run_words-requires : goal.run_words-requires
run_words-requires c =
    (c.requires.0, c.requires.1, holds c.requires.2 _ c.make_canonical.ensures (c.contents_at-start.result + 4) (ap (λ (m : ℕ). m + 4) c.contents_at-start.ensures) c.open_count-n.result c.open_count-n.ensures)

pub returns : goal.returns
returns c =
    λ P s a. c.run_words.ensures c.args.h P s c.largest-largest.ensures (holds a _ c.make_canonical.ensures (c.contents_at-start.result + 4) (ap (λ (m : ℕ). m + 4) c.contents_at-start.ensures) c.open_count-n.result c.open_count-n.ensures)
