-- A row of commands in the bytes of a program, and its first command opened: how the code sees what it weighs.
use Rattle.std.specs.Prelude.{◌*◌, ◌+◌, ℕ, ◌≡◌, List, length}
use Rattle.place.specs.ProgramView.{BlockAt}
use Rattle.record.specs.Program.{block_size}
use Rattle.rules.specs.Evaluate.{assign_steps}
use Rattle.rules.specs.Scope.{BlockWithin}
use Rattle.rules.specs.Step.{bound_value}
use Rattle.rules.specs.Syntax.{Block, Bound, Expr, assign, loop, nest}

-- The bytes from index p up to q are the commands of the block b, whose variables are 1 to k.
pub record RowOf (l : List ℕ) (k p q : ℕ) (b : Block) : Type 0 where
  pub here : BlockAt l p b
  pub ends : p + block_size b ≡ q
  pub within : BlockWithin k b

-- They are the commands of some block.
abbrev pub RowIn : List ℕ → ℕ → ℕ → ℕ → Type 0
RowIn l k p q = (b : Block) × RowOf l k p q b

-- The first command of the block b, whose bytes go from `from` up to `end`: its own steps, how often what is inside it is run, where that
-- starts, and where it ends, which is where the rest starts. An assignment has nothing inside.
pub data Opened (l s : List ℕ) (from end : ℕ) (b : Block) (own turns inner next : ℕ) : Type 0 where
  opens_assign : (x : ℕ) (e : Expr) (r : Block) → b ≡ assign x e r → own ≡ assign_steps e → turns ≡ 0 → inner ≡ from + 16 → next ≡ from + 16
      → RowOf l (length s) next end r → Opened l s from end b own turns inner next
  opens_loop : (x : ℕ) (m : Bound) (c r : Block) → b ≡ loop x m c r → own ≡ 3 * turns + 2 → turns ≡ bound_value s m → inner ≡ from + 20
      → RowOf l (length s) inner next c → RowOf l (length s) next end r → Opened l s from end b own turns inner next
  opens_nest : (c r : Block) → b ≡ nest c r → own ≡ 1 → turns ≡ 1 → inner ≡ from + 4
      → RowOf l (length s) inner next c → RowOf l (length s) next end r → Opened l s from end b own turns inner next
