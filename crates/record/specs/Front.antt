-- What stands first in a list of bytes, by its places: the form in which code reads it.
use Rattle.std.specs.Prelude.{ℕ, ◌≤◌, ◌≡◌, Bool, not, List, length}
use Rattle.std.proofs.Math.Option.{Option, some}
use Rattle.buffer.specs.LittleEndian.{val}
use Rattle.buffer.specs.Slice as slice
use Rattle.record.specs.Reading.{Got, at_end, sub, then}
use Rattle.record.specs.Rows.{is_none}

-- The number in the two bytes, and in the four bytes, at a place.
abbrev pub u16 : List ℕ → ℕ → ℕ
u16 l at = val (slice.part l at 2)

-- The same of four bytes.
abbrev pub u32 : List ℕ → ℕ → ℕ
u32 l at = val (slice.part l at 4)

-- A record of n bytes stands first: it says its own length, and ends within the list.
pub record Front (l : List ℕ) (n : ℕ) : Type 0 where
  pub least : 4 ≤ n
  pub most : n ≤ length l
  pub stored : u16 l 0 ≡ n

-- What a reader found, where nothing follows it.
unfoldable pub only : {A : Type 0} → Got A → Option A
only g = then g (λ a r. at_end r (some a))

-- The bytes are one record of a kind, and nothing after it.
unfoldable pub is_only : ℕ → List ℕ → Bool
is_only kind l = not (is_none (only (sub kind l)))
