-- The records inside a term as the record reader finds them (01 "Records": it carries the lent bytes and how far it has come).
use Rattle.std.specs.Prelude.{ℕ, List, drop, take}
use Rattle.reader.specs.Head.{head_at, length_of}

-- The bytes of the whole record that stands at a place; none where none does.
unfoldable pub record_at : List ℕ → ℕ → List ℕ
record_at l at = take (length_of (head_at l at)) (drop at l)
