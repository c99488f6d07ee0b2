-- The first four bytes of records, of records that stand one in another, and their lengths brought up to date.
use Rattle.std.specs.Prelude.{◌+◌, ◌-◌, ◌<◌, suc, zero, ℕ, ◌++◌, List, [], ◌∷◌}
use Rattle.buffer.specs.LittleEndian.{le, val}
use Rattle.buffer.specs.Slice.{part, put}

-- The first four bytes of a record of n bytes: its length and its kind.
unfoldable pub record_head : ℕ → ℕ → List ℕ
record_head kind n = le 2 n ++ le 2 kind

-- The heads of records of one kind that stand one in another around n bytes, the outermost first: each record has as many
-- bytes besides those n as the list says.
unfoldable pub heads_around : ℕ → List ℕ → ℕ → List ℕ
heads_around kind [] n = []
heads_around kind (e ∷ es) n = record_head kind (n + e) ++ heads_around kind es n

-- Each of their lengths takes 2 bytes.
abbrev pub Lengths : List ℕ → ℕ → Type 0
Lengths [] n = Unit {0}
Lengths (e ∷ es) n = (n + e < 65536) × Lengths es n

-- The lengths stored at p, p + 4, .., so many of them, each put through f.
unfoldable pub relength : (ℕ → ℕ) → ℕ → ℕ → List ℕ → List ℕ
relength f zero p l = l
relength f (suc count) p l = relength f count (p + 4) (put l p (le 2 (f (val (part l p 2)))))

-- A number with so much added and so much taken off.
abbrev pub shifted : ℕ → ℕ → ℕ → ℕ
shifted up down v = v + up - down
