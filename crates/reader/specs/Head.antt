-- What stands at a place of a list of bytes (01 "Records": length, 2 bytes, the whole record; kind, 2 bytes; contents).
use Rattle.std.specs.Prelude.{ℕ, ◌+◌, ◌&&◌, Bool, false, true, List, leb, length}
use Rattle.buffer.specs.LittleEndian.{val}
use Rattle.buffer.specs.Slice.{part}
use Rattle.reader.specs.declared.Head.{Head}
use Rattle.reader.specs.declared.Head.TheVariants.{End, Record, Short}

-- The length that a record at a place says it has (01 "Records": its first 2 bytes).
abbrev pub length_at : List ℕ → ℕ → ℕ
length_at l at = val (part l at 2)

-- The kind of a record at a place (01 "Records": its next 2 bytes).
abbrev pub kind_at : List ℕ → ℕ → ℕ
kind_at l at = val (part l (at + 2) 2)

-- A whole record stands at a place: it has its length and kind, 4 bytes, and ends within the bytes.
unfoldable pub whole_at : List ℕ → ℕ → Bool
whole_at l at = leb 4 (length_at l at) && leb (at + length_at l at) (length l)

-- What stands where nothing is left, or where something is that is whole or not.
unfoldable pub head_if : Bool → Bool → ℕ → ℕ → Head
head_if true whole n k = End
head_if false true n k = Record n k
head_if false false n k = Short

-- What stands at a place: the end of the bytes, a record's length and kind, or no whole record.
unfoldable pub head_at : List ℕ → ℕ → Head
head_at l at = head_if (leb (length l) at) (whole_at l at) (length_at l at) (kind_at l at)

-- How many bytes the record takes that stands there; 0 where none does.
unfoldable pub length_of : Head → ℕ
length_of (Record n k) = n
length_of End = 0
length_of Short = 0

-- The place past the record at a place; the place itself where none is.
unfoldable pub next_at : List ℕ → ℕ → ℕ
next_at l at = at + length_of (head_at l at)
