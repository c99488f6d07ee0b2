-- Bytes that are one thing and nothing after it, as a check sees the parts of a record.
use Rattle.std.specs.Prelude.{ℕ, List, [], ◌∷◌}
use Rattle.std.proofs.Math.Option.{Option, some}
use Rattle.rules.specs.Syntax.{Atom, Simple}
use Rattle.record.specs.Reading.{at_end, sub, then}
use Rattle.record.specs.Record.{Split, bad, end, part, split}
use Rattle.record.specs.Term.{decode_atoms, read_simple}

-- The kind of the record that stands first, where nothing follows it; 0 everywhere else.
unfoldable pub kind_alone : Split → ℕ
kind_alone end = 0
kind_alone bad = 0
kind_alone (part k b []) = k
kind_alone (part k b (x ∷ r)) = 0

-- The kind of the one record that the bytes are; 0, which is no kind, where they are not one record.
unfoldable pub record_kind : List ℕ → ℕ
record_kind l = kind_alone (split l)

-- What a let-one binds.
unfoldable pub only_simple : List ℕ → Option Simple
only_simple l = then (read_simple l) (λ e r. at_end r (some e))

-- The atoms of a tuple of n.
unfoldable pub only_tuple : ℕ → List ℕ → Option (List Atom)
only_tuple n l = then (sub 36 l) (λ c r. at_end r (decode_atoms n c))
