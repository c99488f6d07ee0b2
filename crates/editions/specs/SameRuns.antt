-- "A MOVED CARD RUNS THE SAME COUNTS AND END VALUES IN EVERY RUN THAT HAS ROOM" (02 C-18), over the calls' definitions and whole lists of
-- orders to all engines, refused ones included.
use Rattle.std.specs.Prelude.{◌+◌, ℕ, ◌≡◌, List, [], ◌∷◌, length, take}
use Rattle.agreement.specs.Orders.{Lent, Order, World, counted, order, play, recorded, reduces, steps, to, to_counting, to_reducer, to_stepper}
use Rattle.agreement.specs.Together.{answer_to}
use Rattle.buffer.specs.LittleEndian.{Bytes}
use Rattle.conversion.specs.Convert.{convert_call}
use Rattle.record.specs.Answers.{Wrote, padded}
use Rattle.record.specs.declared.Conversion.TheVariants.{ToFirst, ToSecond}
use Rattle.record.specs.declared.Sort.{Sort}
use Rattle.record.specs.Header.{program, term}
use Rattle.record.specs.Rows.{bad_buffer}
use Rattle.rules.specs.Run.{no_room}
use Rattle.run.specs.RunAnswer.{RunAnswer}
use Rattle.term.specs.Calls.{result_call}

-- The first n bytes of `other` are the record in `buf`, moved to edition 2: lent `other` to write into, the call is accepted and writes
-- just what stands there, with zeros behind it.
abbrev pub Moved : Sort → List ℕ → ℕ → List ℕ → ℕ → Type 0
Moved s buf used other n = convert_call s ToSecond buf used other ≡ record { number = 0; used = n; written = padded (length other) (take n other) }

-- THE ORDERS of two lists: used lengths 4 more, whether they are the records' own or not; the same stores lent and the same budgets. To
-- the counting stepper each is lent a program and the other the same program moved, in buffers that row 1 says the same of.
pub data SameOrder : Order → Order → Type 0 where
  to_recorded : (used : ℕ) (lent : Lent) (budget : ℕ) → SameOrder (to_stepper used lent budget) (to_stepper (4 + used) lent budget)
  to_counted : (buf other : List ℕ) (n : ℕ) → Bytes buf → Moved program buf n other (4 + n) → (used : ℕ) → bad_buffer buf used ≡ bad_buffer other (4 + used)
      → (lent : Lent) (budget : ℕ) → SameOrder (to_counting buf used lent budget) (to_counting other (4 + used) lent budget)
  to_reduces : (used budget : ℕ) → SameOrder (to_reducer used budget) (to_reducer (4 + used) budget)

-- Order by order.
pub data SameOrders : List Order → List Order → Type 0 where
  none : SameOrders [] []
  more : {o p : Order} {os ps : List Order} → SameOrder o p → SameOrders os ps → SameOrders (o ∷ os) (p ∷ ps)

-- WHAT THE ENGINES HOLD, in a world v beside a world w: the records moved, used lengths 4 more, and all else the same.
pub record SameWorld (w v : World) : Type 0 where
  -- 01's stepper: its record, its store, its total of steps
  pub stepper_record : Moved program (w (steps recorded)).memory.buf (w (steps recorded)).memory.used (v (steps recorded)).memory.buf (v (steps recorded)).memory.used
  pub stepper_used : (v (steps recorded)).memory.used ≡ 4 + (w (steps recorded)).memory.used
  pub stepper_store : (v (steps recorded)).memory.store ≡ (w (steps recorded)).memory.store
  pub stepper_total : (v (steps recorded)).total ≡ (w (steps recorded)).total
  -- the counting stepper: its words, its store, its total of steps
  pub counting_words : (v (steps counted)).memory.words ≡ (w (steps counted)).memory.words
  pub counting_store : (v (steps counted)).memory.store ≡ (w (steps counted)).memory.store
  pub counting_total : (v (steps counted)).total ≡ (w (steps counted)).total
  -- the reducer: its record, its totals of variables replaced and of steps, and the values that result shows of it
  pub reducer_record : Moved term (w reduces).memory.buf (w reduces).memory.used (v reduces).memory.buf (v reduces).memory.used
  pub reducer_used : (v reduces).memory.used ≡ 4 + (w reduces).memory.used
  pub reducer_replaced : (v reduces).memory.replaced ≡ (w reduces).memory.replaced
  pub reducer_total : (v reduces).total ≡ (w reduces).total
  pub reducer_shows : (store : List ℕ) → result_call (v reduces).memory.buf (v reduces).memory.used store ≡ result_call (w reduces).memory.buf (w reduces).memory.used store

-- Before the first order: any program's record for the stepper and any term's for the reducer, each of edition 1 in the one world and
-- moved in the other, at the start of buffers of any length; any stores and words, any totals that are the same.
pub record MovedStart (w v : World) : Type 0 where
  pub stepper_bytes : Bytes (w (steps recorded)).memory.buf
  pub stepper_record : Moved program (w (steps recorded)).memory.buf (w (steps recorded)).memory.used (v (steps recorded)).memory.buf (v (steps recorded)).memory.used
  pub stepper_store : (v (steps recorded)).memory.store ≡ (w (steps recorded)).memory.store
  pub stepper_total : (v (steps recorded)).total ≡ (w (steps recorded)).total
  pub counting : v (steps counted) ≡ w (steps counted)
  pub reducer_bytes : Bytes (w reduces).memory.buf
  pub reducer_record : Moved term (w reduces).memory.buf (w reduces).memory.used (v reduces).memory.buf (v reduces).memory.used
  pub reducer_replaced : (v reduces).memory.replaced ≡ (w reduces).memory.replaced
  pub reducer_total : (v reduces).total ≡ (w reduces).total

-- What an order is answered in a world.
abbrev pub answer_in : World → Order → RunAnswer
answer_in w (to e o) = answer_to e (w e).memory o

-- The same run: outcome, steps and budget left.
pub record SameRun (a b : RunAnswer) : Type 0 where
  pub outcome : b.outcome ≡ a.outcome
  pub steps : b.steps ≡ a.steps
  pub left : b.left ≡ a.left

-- IN BUFFERS 4 BYTES LONGER: after every list the worlds are the same, and each further order has the same answer, refusals by their
-- number included.
pub record Longer (w v : World) : Type 0 where
  pub stepper : length (v (steps recorded)).memory.buf ≡ 4 + length (w (steps recorded)).memory.buf
  pub reducer : length (v reduces).memory.buf ≡ 4 + length (w reduces).memory.buf

-- Of every start and every two such lists, w and v being the worlds after them.
unfoldable pub SameRuns : Type 0
SameRuns = (w₀ v₀ : World) → MovedStart w₀ v₀ → Longer w₀ v₀ → (os ps : List Order) → SameOrders os ps → (w v : World) → w ≡ play w₀ os → v ≡ play v₀ ps
    → SameWorld w v × ((o p : Order) → SameOrder o p → SameRun (answer_in w o) (answer_in v p) × ((answer_in v p).number ≡ (answer_in w o).number))

-- IN ANY TWO BUFFERS, "in every run that has room": no order of either list is answered with no room.
abbrev pub HasRoom : World → List Order → Type 0
HasRoom w [] = Unit {0}
HasRoom w (o ∷ os) = ((answer_in w o).outcome ≡ no_room → ⊥) × HasRoom (order w o) os

-- The worlds after the lists are the same, and so is each further run that has room.
unfoldable pub SameWithRoom : Type 0
SameWithRoom = (w₀ v₀ : World) → MovedStart w₀ v₀ → (os ps : List Order) → SameOrders os ps → HasRoom w₀ os → HasRoom v₀ ps → (w v : World) → w ≡ play w₀ os → v ≡ play v₀ ps
    → SameWorld w v
    × ((o p : Order) → SameOrder o p → ((answer_in w o).outcome ≡ no_room → ⊥) → ((answer_in v p).outcome ≡ no_room → ⊥) → SameRun (answer_in w o) (answer_in v p))

-- BY THE CALLS: what 01's stepper and the reducer hold in any world, each moved by its call into some output buffer, is such a start.
unfoldable pub moved_world : World → Wrote → Wrote → World
moved_world w a b (steps recorded) = record { memory = record { buf = a.written; used = a.used; store = (w (steps recorded)).memory.store }; total = (w (steps recorded)).total }
moved_world w a b (steps counted) = w (steps counted)
moved_world w a b reduces = record { memory = record { buf = b.written; used = b.used; replaced = (w reduces).memory.replaced }; total = (w reduces).total }

-- Wherever both calls accept.
unfoldable pub MovedByCalls : Type 0
MovedByCalls = (w : World) → Bytes (w (steps recorded)).memory.buf → Bytes (w reduces).memory.buf → (out other : List ℕ) (a b : Wrote)
    → a ≡ convert_call program ToSecond (w (steps recorded)).memory.buf (w (steps recorded)).memory.used out → a.number ≡ 0
    → b ≡ convert_call term ToSecond (w reduces).memory.buf (w reduces).memory.used other → b.number ≡ 0
    → MovedStart w (moved_world w a b)

-- And a record that is moved back beside the one that it was: moved there again it is that one.
unfoldable pub MovedBack : Type 0
MovedBack = (s : Sort) (src : List ℕ) (used : ℕ) → Bytes src → (out : List ℕ) (a : Wrote) → a ≡ convert_call s ToFirst src used out → a.number ≡ 0 → Moved s a.written a.used src used
