-- The pieces that an expansion is written in (02 C-14), over the program's bytes l: `at` is where a record of n of them stands.
use Rattle.std.specs.Prelude.{◌+◌, ◌-◌, suc, zero, ℕ, ◌++◌, List, length}
use Rattle.buffer.specs.LittleEndian.{val}
use Rattle.buffer.specs.Slice.{part}
use Rattle.place.specs.Edit.{lead}
use Rattle.place.specs.Heads.{record_head}

-- An assignment or a loop of n bytes, of the variable of the one at `at` and with the literal v; and behind it `count` bytes of
-- the program.
unfoldable pub led_bytes : List ℕ → ℕ → ℕ → ℕ → ℕ → ℕ → ℕ → List ℕ
led_bytes l at kind n v from count = lead kind n (val (part l (at + 4) 4)) 16 v ++ part l from count

-- The turn v of the loop at `at`: its index's assignment, and its body.
unfoldable pub turn_bytes : List ℕ → ℕ → ℕ → ℕ → List ℕ
turn_bytes l at n v = led_bytes l at 2 16 v (at + 20) (n - 20)

-- A block command of these bytes.
unfoldable pub block_bytes : List ℕ → List ℕ
block_bytes m = record_head 1 (4 + length m) ++ m

-- The last of the d + 1 turns that come after turn c.
unfoldable pub last_turn : ℕ → ℕ → ℕ
last_turn c d = suc (c + d)

-- The d turns that come after turn c, around m.
unfoldable pub turns_bytes : List ℕ → ℕ → ℕ → ℕ → List ℕ → ℕ → List ℕ
turns_bytes l at n c m zero = m
turns_bytes l at n c m (suc d) = block_bytes (turns_bytes l at n c m d ++ turn_bytes l at n (last_turn c d))

-- The same with the bytes of the program behind the record.
unfoldable pub around_bytes : List ℕ → ℕ → ℕ → ℕ → ℕ → ℕ → List ℕ → List ℕ
around_bytes l at n behind c d m = turns_bytes l at n c m d ++ part l (at + n) behind

-- What a loop stands for within which nothing is open, without its turns to come, by its progress and whether it is running.
unfoldable pub storing_bytes : List ℕ → ℕ → ℕ → ℕ → List ℕ
storing_bytes l at n c = record_head 1 n ++ turn_bytes l at n c

unfoldable pub unrolling_bytes : List ℕ → ℕ → ℕ → ℕ → List ℕ
unrolling_bytes l at n c = led_bytes l at 3 n c (at + 16) (n - 16)

unfoldable pub first_bytes : ℕ → ℕ → List ℕ → ℕ → ℕ → ℕ → List ℕ
first_bytes (suc zero) running l at n c = storing_bytes l at n c
first_bytes zero zero l at n c = unrolling_bytes l at n c
first_bytes zero (suc f) l at n c = record_head 1 4
first_bytes (suc (suc i)) zero l at n c = unrolling_bytes l at n c
first_bytes (suc (suc i)) (suc f) l at n c = record_head 1 4

-- What is left of a block, where a sum v waits at its first command or none does.
unfoldable pub rest_bytes : ℕ → ℕ → List ℕ → ℕ → ℕ → List ℕ
rest_bytes zero v l at count = part l at count
rest_bytes (suc w) v l at count = led_bytes l at 2 16 v (at + 16) (count - 16)
