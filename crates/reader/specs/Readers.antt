-- The readers that functions hand back (01 "Records": the reader carries the lent bytes and how far it has come).
use Rattle.std.specs.Prelude.{ℕ, List}
use Rattle.std.specs.Borrow.{Bor}
use Rattle.reader.specs.Head.{next_at}
use Rattle.reader.specs.declared.Reader.{Reader}

-- The lent bytes, at a place.
abbrev pub reader_at : Bor (List ℕ) → ℕ → Reader
reader_at s at = record { bytes = s; place = at }

-- The same bytes, past the record at the reader's place.
abbrev pub onward_of : Reader → Reader
onward_of r = record { bytes = r.bytes; place = next_at r.bytes.now r.place }
