-- A LIST OF RUN ORDERS to the engines, each lent what the last one to that engine left (01 "Run orders"): 01's stepper, the stepper
-- that carries loops as counts (02 C-14), and the reducer. An engine is what it holds between orders, what one order makes of that,
-- and a total of steps; a list may mix orders to all of them in any way.
use Rattle.std.specs.Prelude.{◌+◌, suc, zero, ℕ, ◌≡◌, List, length, take}
use Rattle.counting.specs.CountingCall.{CountingCall, run_counting}
use Rattle.record.specs.declared.Header.{Header}
use Rattle.record.specs.Header.{ok_of}
use Rattle.reducer.specs.RunReducer.{ReducerCall, run_reducer}
use Rattle.rules.specs.Play.{Each, plays}
use Rattle.rules.specs.Sound.{SmallValues}
use Rattle.stepper.specs.RunStepper.{StepperCall, run_stepper}

-- THE ENGINES

-- The two steppers: one carries its configuration as a record, the other carries its loops as counts.
pub data Stepper : Type 0 where
  recorded : Stepper
  counted : Stepper

-- Either stepper, and the reducer.
pub data Engine : Type 0 where
  steps : Stepper → Engine
  reduces : Engine

-- WHAT AN ENGINE HOLDS BETWEEN ORDERS: what its last order left, and the used length that its last accepted order gave

-- 01's stepper: its buffer, the used length, the store.
pub record RecordedMemory : Type 0 where
  pub buf : List ℕ
  pub used : ℕ
  pub store : List ℕ

-- The counting stepper: the words of its state, the store.
pub record CountedMemory : Type 0 where
  pub words : List ℕ
  pub store : List ℕ

-- The reducer: its buffer, the used length, and its total of variables replaced (02 C-13).
pub record ReducerMemory : Type 0 where
  pub buf : List ℕ
  pub used : ℕ
  pub replaced : ℕ

-- What each engine holds.
abbrev pub Memory : Engine → Type 0
Memory (steps recorded) = RecordedMemory
Memory (steps counted) = CountedMemory
Memory reduces = ReducerMemory

-- The store that a stepper holds.
abbrev pub store_in : (e : Stepper) → Memory (steps e) → List ℕ
store_in recorded m = m.store
store_in counted m = m.store

-- AN ORDER TO AN ENGINE

-- The store that an order to a stepper is lent: the one that the last order left, or other values.
pub data Lent : Type 0 where
  own : Lent
  other : List ℕ → Lent

-- To 01's stepper: the used length, the store and the budget.
pub record RecordedOrder : Type 0 where
  pub used : ℕ
  pub lent : Lent
  pub budget : ℕ

-- To the counting stepper: the program's buffer too.
pub record CountedOrder : Type 0 where
  pub buf : List ℕ
  pub used : ℕ
  pub lent : Lent
  pub budget : ℕ

-- To the reducer: the used length and the budget.
pub record ReducerOrder : Type 0 where
  pub used : ℕ
  pub budget : ℕ

-- What an order to each engine is lent.
abbrev pub OrderTo : Engine → Type 0
OrderTo (steps recorded) = RecordedOrder
OrderTo (steps counted) = CountedOrder
OrderTo reduces = ReducerOrder

-- An order to some engine.
pub data Order : Type 0 where
  to : (e : Engine) → OrderTo e → Order

-- An order to 01's stepper from the used length, the store and the budget.
abbrev pub to_stepper : ℕ → Lent → ℕ → Order
to_stepper used lent budget = to (steps recorded) (record { used = used; lent = lent; budget = budget })

-- An order to the counting stepper from the program's buffer, its used length, the store and the budget.
abbrev pub to_counting : List ℕ → ℕ → Lent → ℕ → Order
to_counting buf used lent budget = to (steps counted) (record { buf = buf; used = used; lent = lent; budget = budget })

-- An order to the reducer from the used length and the budget.
abbrev pub to_reducer : ℕ → ℕ → Order
to_reducer used budget = to reduces (record { used = used; budget = budget })

-- WHAT ONE ORDER MAKES OF IT

-- What an engine holds after an order, and the count of steps that the order returned.
pub record Played (M : Type 0) : Type 0 where
  pub memory : M
  pub count : ℕ

-- The values that an order lends a stepper whose own store is given.
unfoldable pub values_lent : Lent → List ℕ → List ℕ
values_lent own store = store
values_lent (other xs) store = xs

-- The own store after an order: as the order left it; what was lent in its place is not the engine's.
unfoldable pub own_after : Lent → List ℕ → List ℕ → List ℕ
own_after own before after = after
own_after (other xs) before after = before

-- The used length that counts from now on, by the order's number: an accepted order's own, else the one before.
unfoldable pub used_after : ℕ → ℕ → ℕ → ℕ
used_after zero new before = new
used_after (suc n) new before = before

-- After an order to 01's stepper.
unfoldable pub after_recorded : RecordedMemory → Lent → StepperCall → RecordedMemory
after_recorded m lent r = record { buf = r.buf; used = used_after r.answer.number r.answer.used m.used; store = own_after lent m.store r.store }

-- After an order to the counting stepper.
unfoldable pub after_counted : CountedMemory → Lent → CountingCall → CountedMemory
after_counted m lent r = record { words = r.words; store = own_after lent m.store r.store }

-- After an order to the reducer.
unfoldable pub after_reducer : ReducerMemory → ReducerCall → ReducerMemory
after_reducer m r = record { buf = r.buf; used = used_after r.answer.number r.answer.used m.used; replaced = m.replaced + r.replaced }

-- What an engine holds after an order, with the count: by the engine's answer.
unfoldable pub played_recorded : RecordedMemory → Lent → StepperCall → Played RecordedMemory
played_recorded m lent r = record { memory = after_recorded m lent r; count = r.answer.steps }

-- The same of the counting stepper.
unfoldable pub played_counted : CountedMemory → Lent → CountingCall → Played CountedMemory
played_counted m lent r = record { memory = after_counted m lent r; count = r.answer.steps }

-- The same of the reducer.
unfoldable pub played_reducer : ReducerMemory → ReducerCall → Played ReducerMemory
played_reducer m r = record { memory = after_reducer m r; count = r.answer.steps }

-- One order to an engine: the very calls that the engines' contracts cite.
unfoldable pub played : (e : Engine) → Memory e → OrderTo e → Played (Memory e)
played (steps recorded) m o = played_recorded m o.lent (run_stepper m.buf o.used (values_lent o.lent m.store) o.budget)
played (steps counted) m o = played_counted m o.lent (run_counting o.buf o.used m.words (values_lent o.lent m.store) o.budget)
played reduces m o = played_reducer m (run_reducer m.buf o.used o.budget)

-- THE WORLD

-- Where an engine stands: what it holds, and its total of steps.
pub record Standing (M : Type 0) : Type 0 where
  pub memory : M
  pub total : ℕ

-- Every engine.
abbrev pub World : Type 0
World = (e : Engine) → Standing (Memory e)

-- A total grows by the count that the order returned.
unfoldable pub advanced : {M : Type 0} → Standing M → Played M → Standing M
advanced s p = record { memory = p.memory; total = s.total + p.count }

-- The world in which one engine stands elsewhere.
unfoldable pub change : (e : Engine) → Standing (Memory e) → World → World
change (steps recorded) s w (steps recorded) = s
change (steps recorded) s w (steps counted) = w (steps counted)
change (steps recorded) s w reduces = w reduces
change (steps counted) s w (steps recorded) = w (steps recorded)
change (steps counted) s w (steps counted) = s
change (steps counted) s w reduces = w reduces
change reduces s w (steps recorded) = w (steps recorded)
change reduces s w (steps counted) = w (steps counted)
change reduces s w reduces = s

-- One order.
unfoldable pub order : World → Order → World
order w (to e o) = change e (advanced (w e) (played e (w e).memory o)) w

-- The list's orders one after the other.
abbrev pub play : World → List Order → World
play w os = plays order w os

-- WHAT A LIST MAY HOLD: any used lengths and budgets, and

-- other values than the own are not k of them, or one is above the ceiling, and they are refused;
abbrev pub AllowedLent : Header → Lent → Type 0
AllowedLent h own = Unit {0}
AllowedLent h (other xs) = length xs ≡ h.k → SmallValues (ok_of h) xs → ⊥

-- each order to the counting stepper is lent a buffer that begins with the record of the start's program (02 C-14), whose bytes are
-- given.
abbrev pub AllowedTo : Header → List ℕ → (e : Engine) → OrderTo e → Type 0
AllowedTo h program (steps recorded) o = AllowedLent h o.lent
AllowedTo h program (steps counted) o = AllowedLent h o.lent × (take (length program) o.buf ≡ program)
AllowedTo h program reduces o = Unit {0}

-- The same of an order to any engine.
abbrev pub Allowed : Header → List ℕ → Order → Type 0
Allowed h program (to e o) = AllowedTo h program e o

-- Every order of the list is allowed.
abbrev pub AllAllowed : Header → List ℕ → List Order → Type 0
AllAllowed h program os = Each (Allowed h program) os
