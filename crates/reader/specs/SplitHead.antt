-- The reader beside the record layer: what `split` finds at the front of the bytes that are left.
use Rattle.std.specs.Prelude.{◌+◌, length}
use Rattle.record.specs.Record.{Split, bad, end, part}
use Rattle.reader.specs.declared.Head.{Head}
use Rattle.reader.specs.declared.Head.TheVariants.{End, Record, Short}

-- What a split finds, as the reader says it: a record's length counts its length and kind, 4 bytes (01 "Records").
unfoldable pub split_head : Split → Head
split_head end = End
split_head bad = Short
split_head (part k b r) = Record (4 + length b) k
