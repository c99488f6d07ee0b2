-- A state as numbers: the place in the outermost block, the sum that waits, and an entry for each loop or block that is open,
-- outermost first (02 C-14).
use Rattle.std.specs.Prelude.{◌+◌, suc, zero, ℕ, List, [], ◌∷◌, map}
use Rattle.record.specs.Program.{block_size}
use Rattle.rules.specs.Syntax.{Block}
use Rattle.counting.specs.Counting.{State, at_zero, here, in_block, in_body, storing, summed, unrolling}
use Rattle.counting.specs.Place.{body_at, inside_at, place_of}

-- An entry: what it is held open as, 1 a block or 2 a loop (another number: as neither); the place of its record; of a loop its
-- top count, the count reached, and 0 unrolling or another number running; its progress: of a block its place, of a loop 0
-- none, 1 the index still to be stored, p + 2 the place p in the body.
pub record Held : Type 0 where
  pub what : ℕ
  pub at : ℕ
  pub top : ℕ
  pub reached : ℕ
  pub running : ℕ
  pub progress : ℕ

-- WHAT THE NUMBERS OF AN ENTRY STAND FOR

-- What is held open: nothing more, a block, a loop in play, or what is neither.
pub data Opening : Type 0 where
  nothing : Opening
  block : Opening
  loop_in_play : Opening
  neither : Opening

unfoldable pub opening_of : ℕ → Opening
opening_of zero = nothing
opening_of (suc zero) = block
opening_of (suc (suc zero)) = loop_in_play
opening_of (suc (suc (suc n))) = neither

-- Whether a loop in play is still unrolling or already running.
pub data Phase : Type 0 where
  unrolls : Phase
  runs : Phase

unfoldable pub phase_of : ℕ → Phase
phase_of zero = unrolls
phase_of (suc n) = runs

-- How far a loop's body has gone: not at all, its index still to be stored, at a place.
pub data Progress : Type 0 where
  none : Progress
  to_store : Progress
  at_place : ℕ → Progress

unfoldable pub progress_of : ℕ → Progress
progress_of zero = none
progress_of (suc zero) = to_store
progress_of (suc (suc p)) = at_place p

-- The numbers of a state: the place in the outermost block; whether a sum waits, which is where this is not 0, and the sum;
-- the entries.
pub record Numbers : Type 0 where
  pub place : ℕ
  pub waits : ℕ
  pub sum : ℕ
  pub held : List Held

-- The entry of a block that is open at p, at the place i inside.
unfoldable pub held_block : ℕ → ℕ → Held
held_block p i = record { what = 1; at = p; top = 0; reached = 0; running = 0; progress = i }

-- The progress of a loop whose body is at the place p: p + 2.
abbrev pub body_mark : ℕ → ℕ
body_mark p = suc (suc p)

-- The entry of a loop in play at p, of c turns reached and d to come, unrolling or running, with this progress.
unfoldable pub held_loop : ℕ → ℕ → ℕ → ℕ → ℕ → Held
held_loop p c d running progress = record { what = 2; at = p; top = c + d; reached = c; running = running; progress = progress }

-- The numbers of a state within an entry at p that holds it open.
unfoldable pub around : ℕ → (ℕ → Held) → Numbers → Numbers
around p h w = record { place = p; waits = w.waits; sum = w.sum; held = h w.place ∷ w.held }

-- The numbers of an entry at p within which nothing is open.
unfoldable pub shut_at : ℕ → Held → Numbers
shut_at p h = record { place = p; waits = 0; sum = 0; held = h ∷ [] }

-- How many bytes are left of a block from where a loop or a block q stands, with r behind it.
unfoldable pub left_at_loop : Block → Block → ℕ
left_at_loop q r = 20 + block_size q + block_size r

unfoldable pub left_at_block : Block → Block → ℕ
left_at_block q r = 4 + block_size q + block_size r

-- The numbers of a block open at p, with those of what is inside, by where its first command stands.
unfoldable pub block_numbers : (ℕ → Numbers) → ℕ → Numbers
block_numbers inside p = around p (held_block p) (inside (inside_at p))

-- The same of a loop in its turn c, with those of its body.
unfoldable pub turn_numbers : ℕ → ℕ → (ℕ → Numbers) → ℕ → Numbers
turn_numbers c d inside p = around p (λ i. held_loop p c d 1 (body_mark i)) (inside (body_at p))

-- The numbers of a state of the block b whose first command stands at a.
unfoldable pub numbers : State → Block → ℕ → Numbers
numbers (here r) b a = record { place = place_of b a (block_size r); waits = 0; sum = 0; held = [] }
numbers (summed x e v r) b a = record { place = place_of b a (16 + block_size r); waits = 1; sum = v; held = [] }
numbers (in_block q s r) b a = block_numbers (λ m. numbers s q m) (place_of b a (left_at_block q r))
numbers (unrolling x c d q r) b a = let p = place_of b a (left_at_loop q r) in shut_at p (held_loop p c d 0 0)
numbers (at_zero x d q r) b a = let p = place_of b a (left_at_loop q r) in shut_at p (held_loop p 0 d 1 0)
numbers (storing x c d q r) b a = let p = place_of b a (left_at_loop q r) in shut_at p (held_loop p c d 1 1)
numbers (in_body x c d q s r) b a = turn_numbers c d (λ m. numbers s q m) (place_of b a (left_at_loop q r))

-- NUMBERS AS THEY ARE HANDED OUT: 0 for what a state does not hold, and 1 for what is only not 0

-- 1 where a number is not 0.
unfoldable pub mark : ℕ → ℕ
mark zero = 0
mark (suc n) = 1

-- The sum, where one waits.
unfoldable pub waiting_sum : ℕ → ℕ → ℕ
waiting_sum zero v = 0
waiting_sum (suc w) v = v

-- An entry that is not a block's.
abbrev pub canonical_loop : Held → Held
canonical_loop h = record { what = h.what; at = h.at; top = h.top; reached = h.reached; running = mark h.running; progress = h.progress }

-- An entry, by what it is held open as: a block has no counts.
unfoldable pub canonical_as : ℕ → Held → Held
canonical_as zero h = canonical_loop h
canonical_as (suc zero) h = held_block h.at h.progress
canonical_as (suc (suc n)) h = canonical_loop h

unfoldable pub canonical_held : Held → Held
canonical_held h = canonical_as h.what h

-- The same of the numbers.
unfoldable pub canonical : Numbers → Numbers
canonical w = record { place = w.place; waits = mark w.waits; sum = waiting_sum w.waits w.sum; held = map canonical_held w.held }
