-- Lists of orders in both editions, proved.
use Prim.Native.Nat.{◌+◌, ℕ}
use mathlib.Core.Path.{ap, ap₂, subst, sym, ◌∙◌, ◌≡◌}
use mathlib.Core.Logic.{inl, inr, ◌⊎◌}
use mathlib.Core.List.{List}
use lib.ListN.{length}
use Rattle.agreement.specs.Orders.{CountedMemory, Lent, Order, RecordedMemory, ReducerMemory, Standing, World, advanced, after_recorded, after_reducer, change, counted, order, own_after, play, played, played_counted, played_recorded, played_reducer, recorded, reduces, steps, to_counting, to_reducer, to_stepper, values_lent}
use Rattle.buffer.specs.LittleEndian.{Bytes}
use Rattle.counting.specs.CountingCall.{CountingCall, run_counting}
use Rattle.record.specs.declared.Header.{Header}
use Rattle.record.specs.Header.{program}
use Rattle.record.specs.Rows.{bad_buffer}
use Rattle.record.proofs.ConvertedLaws.{longer-buffer}
use Rattle.reducer.proofs.RunReducerLaws.{reducer-number}
use Rattle.rules.specs.Play.{plays}
use Rattle.rules.specs.Syntax.{Block, Term}
use Rattle.stepper.specs.RunStepper.{StepperCall, run_stepper}
use Rattle.stepper.proofs.RunStepperLaws.{stepper-number}
use Rattle.editions.specs.SameRuns.{HasRoom, Longer, Moved, MovedStart, SameOrder, SameOrders, SameRun, SameRuns, SameWithRoom, SameWorld, answer_in, more, none, to_counted, to_recorded, to_reduces}
use Rattle.editions.proofs.CountingLaws.{counting-same}
use Rattle.editions.proofs.MovedLaws.{Programs, Terms, program-records, programs-of, records-longer, records-moved, term-records, terms-of}
use Rattle.editions.proofs.ReducerLaws.{reducer-rows, reducer-same, shows_same}
use Rattle.editions.proofs.RoomLaws.{RoomIn, Roomy, room-for}
use Rattle.editions.proofs.StepperLaws.{StepperSame, stepper-rows, stepper-same}

-- WHAT THE ENGINES OF BOTH WORLDS HOLD, as trees

record StepperHolds (s s' : Standing RecordedMemory) : Type 0 where
  h : Header
  P : Block
  programs : Programs h P s.memory.buf s.memory.used s'.memory.buf s'.memory.used
  store : s'.memory.store ≡ s.memory.store
  total : s'.total ≡ s.total

record ReducerHolds (s s' : Standing ReducerMemory) : Type 0 where
  h : Header
  t : Term
  terms : Terms h t s.memory.buf s.memory.used s'.memory.buf s'.memory.used
  replaced : s'.memory.replaced ≡ s.memory.replaced
  total : s'.total ≡ s.total

record Holds (w v : World) : Type 0 where
  stepper : StepperHolds (w (steps recorded)) (v (steps recorded))
  counting : v (steps counted) ≡ w (steps counted)
  reducer : ReducerHolds (w reduces) (v reduces)

starts : (w v : World) → MovedStart w v → Holds w v
starts w v s =
    let p = programs-of (w (steps recorded)).memory.buf (w (steps recorded)).memory.used (v (steps recorded)).memory.buf (v (steps recorded)).memory.used s.stepper_bytes s.stepper_record in
    let q = terms-of (w reduces).memory.buf (w reduces).memory.used (v reduces).memory.buf (v reduces).memory.used s.reducer_bytes s.reducer_record in
    record {
      stepper = record { h = p.0; P = p.1; programs = p.2; store = s.stepper_store; total = s.stepper_total };
      counting = s.counting;
      reducer = record { h = q.0; t = q.1; terms = q.2; replaced = s.reducer_replaced; total = s.reducer_total };
    }

same-world : (w v : World) → Holds w v → SameWorld w v
same-world w v e = record {
  stepper_record = records-moved (program-records e.stepper.programs);
  stepper_used = records-longer (program-records e.stepper.programs);
  stepper_store = e.stepper.store;
  stepper_total = e.stepper.total;
  counting_words = ap (λ (s : Standing CountedMemory). s.memory.words) e.counting;
  counting_store = ap (λ (s : Standing CountedMemory). s.memory.store) e.counting;
  counting_total = ap (λ (s : Standing CountedMemory). s.total) e.counting;
  reducer_record = records-moved (term-records e.reducer.terms);
  reducer_used = records-longer (term-records e.reducer.terms);
  reducer_replaced = e.reducer.replaced;
  reducer_total = e.reducer.total;
  reducer_shows = λ store. shows_same e.reducer.terms store;
}

-- ONE ORDER IN BOTH WORLDS

-- It has room: the buffers are 4 bytes longer, or neither answer is no room.
abbrev Room : World → World → Order → Order → Type 0
Room w v o p = Longer w v ⊎ (Roomy (answer_in w o).outcome × Roomy (answer_in v p).outcome)

record Next (w v : World) (o p : Order) : Type 0 where
  holds : Holds (order w o) (order v p)
  run : SameRun (answer_in w o) (answer_in v p)
  longer : Longer w v → Longer (order w o) (order v p)

same-counting-run : (a b : CountingCall) → b ≡ a → SameRun a.answer b.answer
same-counting-run a b e = record {
  outcome = ap (λ (x : CountingCall). x.answer.outcome) e;
  steps = ap (λ (x : CountingCall). x.answer.steps) e;
  left = ap (λ (x : CountingCall). x.answer.left) e;
}

-- to 01's stepper
module _ (w v : World) (e : Holds w v) (used : ℕ) (lent : Lent) (budget : ℕ) where
  abbrev m : RecordedMemory
  m = (w (steps recorded)).memory

  abbrev m' : RecordedMemory
  m' = (v (steps recorded)).memory

  abbrev stepped : StepperCall
  stepped = run_stepper m.buf used (values_lent lent m.store) budget

  abbrev stepped' : List ℕ → StepperCall
  stepped' store = run_stepper m'.buf (4 + used) (values_lent lent store) budget

  abbrev RecordedRoom : List ℕ → Type 0
  RecordedRoom store = RoomIn m.buf m'.buf stepped.answer (stepped' store).answer

  -- the store that is lent is the same
  recorded-same : RecordedRoom m'.store → StepperSame e.stepper.h m.buf m.used m'.buf m'.used stepped (stepped' m'.store)
  recorded-same =
      subst (λ (store : List ℕ). RecordedRoom store → StepperSame e.stepper.h m.buf m.used m'.buf m'.used stepped (stepped' store)) (sym e.stepper.store)
      (stepper-same e.stepper.programs used (values_lent lent m.store) budget)

  recorded-next : Room w v (to_stepper used lent budget) (to_stepper (4 + used) lent budget) → Next w v (to_stepper used lent budget) (to_stepper (4 + used) lent budget)
  unfolding order change advanced played played_recorded after_recorded
  recorded-next room =
      let s = recorded-same (room-for (length m.buf) (length m'.buf) (λ l. l.stepper) room) in
      record {
        holds = record {
          stepper = record {
            h = e.stepper.h;
            P = s.held;
            programs = s.both;
            store = ap₂ (own_after lent) e.stepper.store s.besides;
            total = ap₂ (λ (i j : ℕ). i + j) e.stepper.total s.run.steps;
          };
          counting = e.counting;
          reducer = e.reducer;
        };
        run = s.run;
        longer = λ l. record { stepper = s.longer l.stepper; reducer = l.reducer };
      }

  recorded-number : Longer w v → (answer_in v (to_stepper (4 + used) lent budget)).number ≡ (answer_in w (to_stepper used lent budget)).number
  recorded-number l =
      ap (λ (store : List ℕ). (stepped' store).answer.number) e.stepper.store ∙ stepper-number m'.buf (4 + used) (values_lent lent m.store) budget
      ∙ sym (stepper-rows e.stepper.programs used (values_lent lent m.store) budget (longer-buffer m.buf m'.buf used l.stepper e.stepper.programs.low_other))
      ∙ sym (stepper-number m.buf used (values_lent lent m.store) budget)

-- to the reducer
module _ (w v : World) (e : Holds w v) (used budget : ℕ) where
  abbrev n : ReducerMemory
  n = (w reduces).memory

  abbrev n' : ReducerMemory
  n' = (v reduces).memory

  reduces-next : Room w v (to_reducer used budget) (to_reducer (4 + used) budget) → Next w v (to_reducer used budget) (to_reducer (4 + used) budget)
  unfolding order change advanced played played_reducer after_reducer
  reduces-next room =
      let s = reducer-same e.reducer.terms used budget (room-for (length n.buf) (length n'.buf) (λ l. l.reducer) room) in
      record {
        holds = record {
          stepper = e.stepper;
          counting = e.counting;
          reducer = record {
            h = e.reducer.h;
            t = s.held;
            terms = s.both;
            replaced = ap₂ (λ (i j : ℕ). i + j) e.reducer.replaced s.besides;
            total = ap₂ (λ (i j : ℕ). i + j) e.reducer.total s.run.steps;
          };
        };
        run = s.run;
        longer = λ l. record { stepper = l.stepper; reducer = s.longer l.reducer };
      }

  reduces-number : Longer w v → (answer_in v (to_reducer (4 + used) budget)).number ≡ (answer_in w (to_reducer used budget)).number
  reduces-number l =
      reducer-number n'.buf (4 + used) budget
      ∙ sym (reducer-rows e.reducer.terms used budget (longer-buffer n.buf n'.buf used l.reducer e.reducer.terms.low_other))
      ∙ sym (reducer-number n.buf used budget)

-- to the counting stepper
module _ (w v : World) (e : Holds w v) (buf other : List ℕ) (i : ℕ) (hb : Bytes buf) (moved : Moved program buf i other (4 + i)) (used : ℕ) (one : bad_buffer buf used ≡ bad_buffer other (4 + used))
    (lent : Lent) (budget : ℕ) where
  abbrev counts : List ℕ → ℕ → CountedMemory → CountingCall
  counts b u c = run_counting b u c.words (values_lent lent c.store) budget

  counted_same : counts other (4 + used) (v (steps counted)).memory ≡ counts buf used (w (steps counted)).memory
  counted_same =
      let p = programs-of buf i other (4 + i) hb moved in
      ap (λ (s : Standing CountedMemory). counts other (4 + used) s.memory) e.counting
      ∙ counting-same p.2 (w (steps counted)).memory.words (values_lent lent (w (steps counted)).memory.store) budget used one

  counted_next : Next w v (to_counting buf used lent budget) (to_counting other (4 + used) lent budget)
  unfolding order change played
  counted_next = record {
    holds = record {
      stepper = e.stepper;
      counting = ap₂ (λ (s : Standing CountedMemory) (r : CountingCall). advanced s (played_counted s.memory lent r)) e.counting counted_same;
      reducer = e.reducer;
    };
    run = same-counting-run (counts buf used (w (steps counted)).memory) (counts other (4 + used) (v (steps counted)).memory) counted_same;
    longer = λ l. record { stepper = l.stepper; reducer = l.reducer };
  }

-- to any of them
next : (w v : World) → Holds w v → (o p : Order) → SameOrder o p → Room w v o p → Next w v o p
next w v e _ _ (to_recorded used lent budget) room = recorded-next w v e used lent budget room
next w v e _ _ (to_counted buf other i hb moved used one lent budget) room = counted_next w v e buf other i hb moved used one lent budget
next w v e _ _ (to_reduces used budget) room = reduces-next w v e used budget room

number : (w v : World) → Holds w v → Longer w v → (o p : Order) → SameOrder o p → (answer_in v p).number ≡ (answer_in w o).number
number w v e l _ _ (to_recorded used lent budget) = recorded-number w v e used lent budget l
number w v e l _ _ (to_counted buf other i hb moved used one lent budget) = ap (λ (x : CountingCall). x.answer.number) (counted_same w v e buf other i hb moved used one lent budget)
number w v e l _ _ (to_reduces used budget) = reduces-number w v e used budget l

-- LISTS OF THEM

holds-longer : (w v : World) → Holds w v → Longer w v → (os ps : List Order) → SameOrders os ps → Holds (play w os) (play v ps) × Longer (play w os) (play v ps)
unfolding plays
holds-longer w v e l _ _ none = (e, l)
holds-longer w v e l _ _ (more {o} {p} {os} {ps} s ss) =
    let q = next w v e o p s (inl l) in
    holds-longer (order w o) (order v p) q.holds (q.longer l) os ps ss

pub same_runs : SameRuns
unfolding SameRuns
same_runs w₀ v₀ start l os ps ss w v is is' =
    let q = holds-longer w₀ v₀ (starts w₀ v₀ start) l os ps ss in
    let after = subst (λ (x : World). Holds x v × Longer x v) (sym is) (subst (λ (y : World). Holds (play w₀ os) y × Longer (play w₀ os) y) (sym is') q) in
    (same-world w v after.0, (λ o p s. ((next w v after.0 o p s (inl after.1)).run, number w v after.0 after.1 o p s)))

holds-roomy : (w v : World) → Holds w v → (os ps : List Order) → SameOrders os ps → HasRoom w os → HasRoom v ps → Holds (play w os) (play v ps)
unfolding plays
holds-roomy w v e _ _ none r r' = e
holds-roomy w v e _ _ (more {o} {p} {os} {ps} s ss) r r' =
    let q = next w v e o p s (inr (r.0, r'.0)) in
    holds-roomy (order w o) (order v p) q.holds os ps ss r.1 r'.1

pub same-with-room : SameWithRoom
unfolding SameWithRoom
same-with-room w₀ v₀ start os ps ss r r' w v is is' =
    let q = holds-roomy w₀ v₀ (starts w₀ v₀ start) os ps ss r r' in
    let after = subst (λ (x : World). Holds x v) (sym is) (subst (λ (y : World). Holds (play w₀ os) y) (sym is') q) in
    (same-world w v after, (λ o p s a b. (next w v after o p s (inr (a, b))).run))
