-- What was counted and what is left make up the translation, and one tuple more; nothing counted comes near a wrap.
use Prim.Native.Nat.{◌-◌}
use Rattle.translator.specs.RowScan.{Scanned}
use Rattle.translator.specs.RowTranslation.{RowAt}
use Rattle.translator.proofs.row_size.Given as goal

abbrev pub invariant-loop-at : goal.invariant-loop-at
invariant-loop-at l = (h : RowAt l.src l.from l.to) → Scanned l.k l.src l.to h.block l.total l.at

abbrev pub decreases-loop-at : goal.decreases-loop-at
decreases-loop-at l = l.to - l.at
