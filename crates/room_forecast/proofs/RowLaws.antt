-- A whole row, with nothing found and nothing around it: what it comes to, and that it fits in 64 bits.
use Prim.Native.Nat.{◌+◌, ◌<◌, ◌≤◌, suc, zero, ℕ}
use mathlib.Core.Path.{◌≡◌}
use mathlib.Core.List.{List}
use lib.ListN.{get_or, length}
use native.Mathlib.Omega.{arith}
use Rattle.place.proofs.ProgramViewLaws.{block_room}
use Rattle.rules.specs.Store.{lookup}
use Rattle.rules.specs.Syntax.{Block}
use Rattle.forecast.specs.Figures.{longest_of}
use Rattle.forecast.specs.Rows.{RowOf}
use Rattle.forecast.proofs.BoundLaws.{WordStore, longest-small}
use Rattle.room_forecast.specs.Walked.{Few, longest_found, weights_of}
use Rattle.room_forecast.specs.declared.Measure.{Measure}
use Rattle.room_forecast.proofs.WeightsLaws.{weights-light}

pub found-alone : (μ : Measure) (s : List ℕ) (b : Block) → longest_found μ s 0 0 b ≡ longest_of (weights_of μ) s b
unfolding longest_found
found-alone μ s b = omega arith

-- what a contract knows of a slice of u32
words : (s : List ℕ) → ((i : ℕ) → get_or s i 0 < 4294967296) → WordStore s
unfolding lookup
words s h zero = omega arith
words s h (suc i) = h i

pub row_small : (μ : Measure) (l s : List ℕ) (from to : ℕ) (b : Block) → Few μ → RowOf l (length s) from to b → length l ≤ 16384 → ((i : ℕ) → get_or s i 0 < 4294967296)
    → longest_of (weights_of μ) s b + 16 < 2305843009213693952
row_small μ l s from to b few h size values =
    longest-small (weights_of μ) (weights-light μ few) b s (omega (arith, block_room h.here)) h.here.words (words s values)
