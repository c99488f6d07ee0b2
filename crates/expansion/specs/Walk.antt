-- The walk over a state's entries, from the outermost inwards (02 C-14): what is still to be read, and what an entry says.
use Rattle.std.specs.Prelude.{◌*◌, ◌+◌, ◌-◌, ◌<◌, ◌≤◌, ℕ, ◌≡◌, ◌++◌, List, [], ◌∷◌, get_or, length}
use Rattle.buffer.specs.LittleEndian.{val}
use Rattle.buffer.specs.Slice.{part}
use Rattle.rules.specs.Syntax.{Block}
use Rattle.record.specs.Program.{block_size, encode_block}
use Rattle.place.specs.Heads.{record_head}
use Rattle.place.specs.ProgramView.{BlockAt}
use Rattle.counting.specs.Counting.{State, expand}
use Rattle.counting.specs.Held.{Held}
use Rattle.counting.specs.ReadState.{Read, is_last, read_here, read_open, read_state, right}
use Rattle.counting.specs.Size.{expand_size}
use Rattle.counting.specs.StateWords.{decode_state, held_at, held_from}
use Rattle.expansion.specs.Entry.{inside_of, to_come}
use Rattle.expansion.specs.Pieces.{around_bytes, first_bytes, rest_bytes}

-- The bytes l hold the program P, whose first command stands at `start`, up to `used`; the words ws hold its state s.
pub record Given (l : List ℕ) (used : ℕ) (ws : List ℕ) (start : ℕ) (P : Block) (s : State) : Type 0 where
  pub stands : BlockAt l start P
  pub ends : used ≡ start + block_size P
  pub holds : decode_state P ws ≡ right s

-- What entries hold where r is left of their holder, at the place p.
unfoldable pub read_left : ℕ → ℕ → List Held → ℕ → Block → Read State
read_left waits sum [] p r = read_here waits sum r
read_left waits sum (h ∷ hs) p r = read_open waits (is_last hs) h p (λ q m i. read_state waits sum hs q m i) r

-- The entries from word e on hold the state s of the commands between the places p and `end`.
pub record Left (l ws : List ℕ) (start e p end : ℕ) (s : State) : Type 0 where
  pub count : ℕ
  pub words : e + 6 * count ≡ 189
  pub rest : Block
  pub stands : BlockAt l (start + p) rest
  pub ends : p + block_size rest ≡ end
  pub reads : read_left (get_or ws 1 0) (get_or ws 2 0) (held_from ws e count) p rest ≡ right s

-- The length of the record at the place p.
abbrev pub length_at : List ℕ → ℕ → ℕ → ℕ
length_at l start p = val (part l (start + p) 2)

-- An entry is held open, as a block or as a loop whose reached count is not above its top.
abbrev pub IsHeld : Held → Type 0
IsHeld h = (1 ≤ h.what) × (h.what ≤ 2) × (h.what ≡ 2 → h.reached ≤ h.top)

-- The entry at word e stands around m: what it is held open as has a record at p that ends by `end`, and s expands to m with
-- its turns to come around it and what is behind it.
pub record Around (l ws : List ℕ) (start e p end : ℕ) (s : State) (m : List ℕ) : Type 0 where
  pub words : e + 6 ≤ 189
  pub low : 4 ≤ length_at l start p
  pub high : p + length_at l start p ≤ end
  pub room : start + end ≤ length l
  pub long : 0 < to_come (held_at ws e) → 20 ≤ length_at l start p
  pub counts : get_or ws e 0 ≡ 2 → get_or ws (e + 3) 0 ≤ get_or ws (e + 2) 0
  pub what : (1 ≤ get_or ws e 0) × (get_or ws e 0 ≤ 2)
  pub size : expand_size s ≡ to_come (held_at ws e) * length_at l start p + (end - (p + length_at l start p)) + length m
  pub bytes : encode_block (expand s) ≡ around_bytes l (start + p) (length_at l start p) (end - (p + length_at l start p)) (get_or ws (e + 3) 0) (to_come (held_at ws e)) m

-- A block of what t expands to.
abbrev pub block_of : State → List ℕ
block_of t = record_head 1 (4 + expand_size t) ++ encode_block (expand t)

-- The entry at word e has t inside.
pub record Opened (l ws : List ℕ) (start e p end : ℕ) (s : State) : Type 0 where
  pub inner : State
  pub left : Left l ws start (e + 6) (inside_of (held_at ws e)) (p + length_at l start p) inner
  pub around : Around l ws start e p end s (block_of inner)

-- The entry at word e is a loop's within which nothing is open.
pub record Shut (l ws : List ℕ) (start e p end : ℕ) (s : State) : Type 0 where
  pub long : 20 ≤ length_at l start p
  pub around : Around l ws start e p end s (first_bytes (get_or ws (e + 5) 0) (get_or ws (e + 4) 0) l (start + p) (length_at l start p) (get_or ws (e + 3) 0))

-- No entry stands at word e: the commands between the places are left, with the sum that waits.
pub record Ended (l ws : List ℕ) (start p end : ℕ) (s : State) : Type 0 where
  pub order : p ≤ end
  pub room : start + end ≤ length l
  pub enough : 0 < get_or ws 1 0 → p + 16 ≤ end
  pub size : expand_size s ≡ end - p
  pub bytes : encode_block (expand s) ≡ rest_bytes (get_or ws 1 0) (get_or ws 2 0) l (start + p) (end - p)
