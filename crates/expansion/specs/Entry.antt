-- What an entry of a state says of the expansion (02 C-14), by its numbers.
use Rattle.std.specs.Prelude.{◌-◌, suc, zero, ℕ, Bool, false, true, ltb}
use Rattle.counting.specs.Held.{Held}
use Rattle.state_words.specs.declared.EntryWords.{EntryWords}

-- The numbers that six words are.
abbrev pub as_held : EntryWords → Held
as_held w = record { what = w.what; at = w.at; top = w.top; reached = w.reached; running = w.running; progress = w.progress }

-- Something can be open inside it: of a block always, of a loop where its body has a place. By what it is held open as, and
-- its progress.
unfoldable pub opens_as : ℕ → ℕ → Bool
opens_as zero i = false
opens_as (suc zero) i = true
opens_as (suc (suc what)) i = ltb 1 i

unfoldable pub opens : Held → Bool
opens h = opens_as h.what h.progress

-- The place inside it: of a block its progress, of a loop two less.
unfoldable pub inside_as : ℕ → ℕ → ℕ
inside_as zero i = i - 2
inside_as (suc zero) i = i
inside_as (suc (suc what)) i = i - 2

unfoldable pub inside_of : Held → ℕ
inside_of h = inside_as h.what h.progress

-- The turns that are still to come: a block has none.
unfoldable pub to_come_as : ℕ → ℕ → ℕ → ℕ
to_come_as zero top c = top - c
to_come_as (suc zero) top c = 0
to_come_as (suc (suc what)) top c = top - c

unfoldable pub to_come : Held → ℕ
to_come h = to_come_as h.what h.top h.reached

-- The length of what a loop stands for within which nothing is open, without its turns to come, by its progress and whether it
-- is running: the index's assignment and the body in a block, the loop itself, or an empty block.
unfoldable pub first_size : ℕ → ℕ → ℕ → ℕ
first_size (suc zero) running n = n
first_size zero zero n = n
first_size zero (suc f) n = 4
first_size (suc (suc i)) zero n = n
first_size (suc (suc i)) (suc f) n = 4
