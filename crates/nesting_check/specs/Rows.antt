-- A pass over a program's bytes with the ends of the rows that are open (02 C-14, refusal 12).
use Rattle.std.specs.Prelude.{◌+◌, ◌≤◌, suc, ℕ, ◌≡◌, Bool, ◌||◌, false, true, List, [], ◌∷◌, Option, None, Some, ltb, get_or, length}
use Rattle.record.specs.Program.{block_size}
use Rattle.rules.specs.Syntax.{Block}
use Rattle.place.specs.ProgramView.{BlockAt}
use Rattle.counting.specs.Depth.{depth_within}

-- What is left of each open row, innermost first: some of it is nested over 32 deep.
unfoldable pub deep_from : List Block → Bool
deep_from [] = false
deep_from (b ∷ bs) = ltb 32 (suc (length bs) + depth_within b) || deep_from bs

-- They stand from q to `used`, one behind the other, and their ends are kept.
abbrev pub Standing : List ℕ → ℕ → List ℕ → List Block → ℕ → Type 0
Standing buf used ends [] q = q ≡ used
Standing buf used ends (b ∷ bs) q = BlockAt buf q b × (get_or ends (length bs) 0 ≡ q + block_size b) × Standing buf used ends bs (q + block_size b)

-- The pass has come to q: so many rows are open, and what is left of them is too deep where the program is.
pub record Scanned (buf : List ℕ) (used : ℕ) (deep : Bool) (ends : List ℕ) (depth q : ℕ) : Type 0 where
  pub rows : List Block
  pub stand : Standing buf used ends rows q
  pub count : length rows ≡ depth
  pub few : depth ≤ 32
  pub same : deep_from rows ≡ deep

-- A turn at q, before which so many rows are open: the program is too deep, or the pass comes to the place that is handed back.
abbrev pub Turned : List ℕ → ℕ → Bool → ℕ → List ℕ → ℕ → ℕ → Option ℕ → Type 0
Turned buf used deep before ends depth q None = deep ≡ true
Turned buf used deep before ends depth q (Some r) = Scanned buf used deep ends depth r × (depth + q + q + 1 ≤ before + r + r) × (q ≤ r)
