-- Edits in place: bytes taken out of the first `used` of a list, the pieces that are stored, and a record unrolled.
use Rattle.std.specs.Prelude.{◌+◌, ◌-◌, ℕ, ◌≡◌, ◌++◌, List, take}
use Rattle.buffer.specs.LittleEndian.{le}
use Rattle.buffer.specs.Slice.{part, put, zeros}
use Rattle.place.specs.Heads.{record_head}

-- TAKING OUT

-- The list m begins with the first `used` bytes of l without the n bytes at p.
abbrev pub Cut : List ℕ → List ℕ → ℕ → ℕ → ℕ → Type 0
Cut l m p n used = take (used - n) m ≡ take p l ++ part l (p + n) (used - (p + n))

-- The bytes from p + n up to `used`, moved down to p; what stood at the end stays there.
unfoldable pub closed_up : List ℕ → ℕ → ℕ → ℕ → List ℕ
closed_up l p n used = put l p (part l (p + n) (used - (p + n)))

-- The same, with zeros in the n bytes before `used`.
unfoldable pub removed : List ℕ → ℕ → ℕ → ℕ → List ℕ
removed l p n used = put l p (part l (p + n) (used - (p + n)) ++ zeros n)

-- PIECES

-- A record of a kind that holds one number.
unfoldable pub leaf_bytes : ℕ → ℕ → List ℕ
leaf_bytes kind v = record_head kind 8 ++ le 4 v

-- The first 16 bytes of an assignment, a loop, a let-one of an atom or a rec of n bytes: its head, its variable, and a
-- record of a kind that holds one number.
unfoldable pub lead : ℕ → ℕ → ℕ → ℕ → ℕ → List ℕ
lead kind n x leaf v = record_head kind n ++ (le 4 x ++ leaf_bytes leaf v)

-- UNROLLING

-- A record of n bytes at p, whose body starts s bytes on, with room made for its unrolling: the body and all behind it once
-- more n + 20 bytes on, and the record itself 4 bytes on.
unfoldable pub spread : List ℕ → ℕ → ℕ → ℕ → ℕ → List ℕ
spread l p n s used =
    let m : List ℕ = put l (p + n + 20) (part l (p + s) (used - (p + s))) in
    put m (p + 4) (part m p n)

-- The record unrolled: a head before it, a smaller count in it, and a lead behind it, before its body once more.
unfoldable pub unrolled : List ℕ → ℕ → ℕ → ℕ → ℕ → List ℕ → List ℕ → List ℕ → List ℕ
unrolled l p n s used head leaf led = put (put (put (spread l p n s used) p head) (p + 12) leaf) (p + 4 + n) led
