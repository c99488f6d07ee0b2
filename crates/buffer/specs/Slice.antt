-- A lent slice of bytes as a list, with what is written into it and what is read from it at a place.
use Rattle.std.specs.Prelude.{ℕ, ◌+◌, List, ◌++◌, length, take, drop, replicate}

-- The list l after vs was written over it from index at.
unfoldable pub put : List ℕ → ℕ → List ℕ → List ℕ
put l at vs = take at l ++ (vs ++ drop (at + length vs) l)

-- The n elements of l from index at.
unfoldable pub part : List ℕ → ℕ → ℕ → List ℕ
part l at n = take n (drop at l)

-- The list of n zeros.
unfoldable pub zeros : ℕ → List ℕ
zeros n = replicate n 0
