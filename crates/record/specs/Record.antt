-- One record: length (2 bytes, the whole record), kind (2 bytes), contents (01 "Records").
use Rattle.std.specs.Prelude.{◌+◌, ◌-◌, ℕ, ◌&&◌, Bool, false, true, ◌++◌, List, [], ◌∷◌, leb, drop, length, take}
use Rattle.buffer.specs.LittleEndian.{le, val}

-- The record of a kind with its contents, which are never cut: one of 65,536 bytes or more has no room for its length in 2 bytes,
-- and is longer than any buffer.
unfoldable pub encode_record : ℕ → List ℕ → List ℕ
encode_record k b = le 2 (4 + length b) ++ (le 2 k ++ b)

-- What stands at the front of a list of bytes: nothing, no record, or a record of a kind with contents, and what follows it.
pub data Split : Type 0 where
  end : Split
  bad : Split
  part : ℕ → List ℕ → List ℕ → Split

-- The record of kind k whose contents are the next n bytes, and what follows it; no record where the test fails.
unfoldable pub cut : Bool → ℕ → ℕ → List ℕ → Split
cut true k n xs = part k (take n xs) (drop n xs)
cut false k n xs = bad

-- A record needs its four bytes, and a length of at least 4 that does not run past the end.
unfoldable pub split : List ℕ → Split
split [] = end
split (a ∷ []) = bad
split (a ∷ b ∷ []) = bad
split (a ∷ b ∷ c ∷ []) = bad
split (a ∷ b ∷ c ∷ d ∷ xs) =
    cut (leb 4 (val (a ∷ b ∷ [])) && leb (val (a ∷ b ∷ []) - 4) (length xs)) (val (c ∷ d ∷ [])) (val (a ∷ b ∷ []) - 4) xs
