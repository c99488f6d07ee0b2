-- The buffer layer's work where the places lie within the slices, and nothing where they do not.
use Rattle.std.specs.Prelude.{ℕ, ◌+◌, Bool, true, false, ◌&&◌, List, leb, length}
use Rattle.buffer.specs.Slice.{put, part, zeros}

-- Whether count places from at on are within len.
unfoldable pub inside : ℕ → ℕ → ℕ → Bool
inside len at count = leb (at + count) len

-- The new list where the test says so, else the old one.
unfoldable pub changed_if : Bool → List ℕ → List ℕ → List ℕ
changed_if true new old = new
changed_if false new old = old

-- The list after the count elements at `from` were moved down to `to`; nothing is done where `to` is above `from`.
unfoldable pub moved_down : List ℕ → ℕ → ℕ → ℕ → List ℕ
moved_down l from to count = changed_if (leb to from && inside (length l) from count) (put l to (part l from count)) l

-- The same of a move up; nothing is done where `to` is below `from`.
unfoldable pub moved_up : List ℕ → ℕ → ℕ → ℕ → List ℕ
moved_up l from to count = changed_if (leb from to && inside (length l) to count) (put l to (part l from count)) l

-- The list after count zeros were written from `at` on.
unfoldable pub zeroed : List ℕ → ℕ → ℕ → List ℕ
zeroed l at count = changed_if (inside (length l) at count) (put l at (zeros count)) l

-- The list `dst` after the count elements of `src` at `from` were copied to `to`.
unfoldable pub copied : List ℕ → ℕ → List ℕ → ℕ → ℕ → List ℕ
copied src from dst to count = changed_if (inside (length src) from count && inside (length dst) to count) (put dst to (part src from count)) dst
