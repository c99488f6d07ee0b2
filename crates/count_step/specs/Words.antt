-- What a step reads and writes of the words, by itself: n entries stand before the one that it edits (02 C-14).
use Rattle.std.specs.Prelude.{◌*◌, ◌+◌, suc, zero, ℕ, Bool, ◌&&◌, not, List, eqb, ltb, get_or, set}
use Rattle.counting.specs.Frames.{place_word}
use Rattle.counting.specs.Held.{body_mark}
use Rattle.state_words.specs.Entry.{last_loop}

-- The last of n entries is that of a loop that is at no place in its body: a place is held plus 2.
unfoldable pub shut_words : List ℕ → ℕ → Bool
shut_words ws n = last_loop ws n && ltb (get_or ws (place_word n) 0) 2

-- The entry behind n is that of a loop with a turn still to come.
unfoldable pub again_words : List ℕ → ℕ → Bool
again_words ws n = eqb (get_or ws (3 + 6 * n) 0) 2 && not (eqb (get_or ws (3 + 6 * n + 3) 0) (get_or ws (3 + 6 * n + 2) 0))

-- A loop unrolled once more: the reached count goes down, and at 0 it runs.
unfoldable pub unrolled_by : ℕ → List ℕ → ℕ → List ℕ
unrolled_by zero ws n = set ws (3 + 6 * n + 4) 1
unrolled_by (suc c) ws n = set ws (3 + 6 * n + 3) c

unfoldable pub unrolled_words : List ℕ → ℕ → List ℕ
unrolled_words ws n = unrolled_by (get_or ws (3 + 6 * n + 3) 0) ws n

-- Its first turn, its index stored, its next turn.
unfoldable pub first_words : List ℕ → ℕ → List ℕ
first_words ws n = set (set ws (3 + 6 * n + 3) 1) (3 + 6 * n + 5) 1

unfoldable pub body_words : List ℕ → ℕ → ℕ → List ℕ
body_words ws n p = set ws (3 + 6 * n + 5) (body_mark p)

unfoldable pub next_words : List ℕ → ℕ → List ℕ
next_words ws n = set (set ws (3 + 6 * n + 3) (suc (get_or ws (3 + 6 * n + 3) 0))) (3 + 6 * n + 5) 1
