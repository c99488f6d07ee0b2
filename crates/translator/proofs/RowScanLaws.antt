-- The turns of the scan that measures a translation.
use Prim.Native.Nat.{◌*◌, ◌+◌, ◌<◌, ◌≤◌, ℕ}
use mathlib.Core.Path.{ap, ◌≡◌}
use mathlib.Core.List.{List}
use native.Mathlib.Omega.{arith}
use Rattle.rules.specs.Syntax.{Block}
use Rattle.record.specs.Program.{block_size}
use Rattle.translator.specs.RowScan.{Scanned}
use Rattle.translator.specs.RowTranslation.{RowAt, row_size}
use Rattle.translator.proofs.RowTranslationLaws.{row_size-empty, row_size-least, row_size-most}
use Rattle.translator.proofs.RowViewLaws.{Stepped, row-none}

pub scan-start : (k : ℕ) (src : List ℕ) (from to : ℕ) (h : RowAt src from to) → Scanned k src to h.block (4 + 8 * k) from
scan-start k src from to h = record { row = h; sum = omega arith }

module _ {k : ℕ} {src : List ℕ} {to : ℕ} {b : Block} {total at : ℕ} (s : Scanned k src to b total at) where
  pub scan_step : (step adds added : ℕ) → Stepped k src at to s.row.block step adds → added ≡ adds → Scanned k src to b (total + added) (at + step)
  scan_step step adds added f e = record { row = f.row; sum = omega (arith, s.sum, f.size) }

  pub scan-end : to ≤ at → total ≡ row_size k b
  scan-end e = omega (arith, s.sum, row_size-empty k, ap (row_size k) (row-none s.row e))

  -- nothing counted is above this, so no sum wraps
  pub scan-bound : k ≤ 16 → block_size b < 65536 → (step adds : ℕ) → Stepped k src at to s.row.block step adds → total + adds ≤ 2228620
  scan-bound few small step adds f = omega (arith, s.sum, f.size, row_size-most k b few, row_size-least k f.row.block)
