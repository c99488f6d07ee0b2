-- A list of orders: each engine stands as many steps from its start as its total says, and holds that state.
use Prim.Native.Nat.{suc, zero, ℕ, ◌≤◌}
use mathlib.Core.Path.{ap, refl, subst, sym, ◌∙◌, ◌≡◌}
use mathlib.Core.Bool.{Bool}
use mathlib.Core.List.{List, [], ◌∷◌}
use mathlib.Core.Option.{some}
use lib.ListN.{length, take}
use native.Mathlib.Nat.{add-zero}
use native.Mathlib.Omega.{arith}
use Rattle.counting.specs.CountStep.{count_step}
use Rattle.counting.specs.Counting.{Counting, expand_config, start}
use Rattle.counting.specs.CountingCall.{counting_rows, run_counting}
use Rattle.counting.specs.CountingMeaning.{Passes}
use Rattle.counting.specs.ReadState.{right}
use Rattle.counting.specs.SmallState.{SmallState}
use Rattle.counting.specs.StateWords.{decode_state}
use Rattle.counting.proofs.CountingRanLaws.{CountingTakes, counting-number, counting-ran, counting-refused, counting-rows, counting-takes, takes-passes}
use Rattle.record.specs.declared.Header.{Header}
use Rattle.record.specs.Header.{encode_program, ok_of}
use Rattle.record.specs.Holding.{ProgramIn, TermIn}
use Rattle.record.specs.Rows.{first_row}
use Rattle.record.proofs.HoldingLaws.{program-elsewhere, program-size}
use Rattle.reducer.specs.RunReducer.{reducer_rows, run_reducer}
use Rattle.rules.specs.FreeVariables.{no_vars}
use Rattle.rules.specs.Play.{Each, Moves, Stands}
use Rattle.rules.specs.Reduction.{reduce}
use Rattle.rules.specs.Replaced.{ReductionsReplacing}
use Rattle.rules.specs.Run.{iterate}
use Rattle.rules.specs.Sound.{SmallValues, SoundConfig}
use Rattle.rules.specs.Step.{step}
use Rattle.rules.specs.Substitution.{state_of}
use Rattle.rules.specs.Syntax.{Answer, Block, Config, Term}
use Rattle.run.specs.RunAnswer.{refusal}
use Rattle.stepper.specs.RunStepper.{run_stepper, stepper_rows}
use Rattle.reducer.proofs.RunReducerLaws.{reducer-ran, reducer-refused, reducer-takes}
use Rattle.rules.proofs.PlayLaws.{stands-plays}
use Rattle.rules.proofs.ReplacedLaws.{replacing-add}
use Rattle.stepper.proofs.RunStepperLaws.{stepper-ran, stepper-refused, stepper-takes}
use Rattle.agreement.specs.Examples.{budget}
use Rattle.agreement.specs.Orders.{AllAllowed, Allowed, AllowedLent, CountedMemory, Engine, Lent, Memory, Order, OrderTo, Played, RecordedMemory, ReducerMemory, Standing, World, advanced, after_counted, after_recorded, after_reducer, change, counted, order, other, own, own_after, play, played, played_counted, played_recorded, played_reducer, recorded, reduces, steps, to, used_after, values_lent}

-- where a number is 0 and where it is not
by_number : {P : Type 0} (n : ℕ) → (n ≡ 0 → P) → ((n ≡ 0 → ⊥) → P) → P
by_number zero f g = f refl
by_number (suc n) f g = g (λ e. omega arith)

used-accepted : (m new before : ℕ) → m ≡ 0 → used_after m new before ≡ new
unfolding used_after
used-accepted m new before e = rw e refl

used-refused : (m new before : ℕ) → (m ≡ 0 → ⊥) → used_after m new before ≡ before
unfolding used_after
used-refused zero new before h = absurd (h refl)
used-refused (suc m) new before h = refl

-- AN ORDER IN THE WORLD is one to the engine e, or leaves it where it stands
reach : (e : Engine) (w : World) (o : Order) {C : Order → Type 0} → ((p : OrderTo e) → order w (to e p) e ≡ advanced (w e) (played e (w e).memory p) → C (to e p))
    → ((p : Order) → order w p e ≡ w e → C p) → C o
unfolding order change
reach (steps recorded) w (to (steps recorded) p) f g = f p refl
reach (steps recorded) w (to (steps counted) p) f g = g (to (steps counted) p) refl
reach (steps recorded) w (to reduces p) f g = g (to reduces p) refl
reach (steps counted) w (to (steps recorded) p) f g = g (to (steps recorded) p) refl
reach (steps counted) w (to (steps counted) p) f g = f p refl
reach (steps counted) w (to reduces p) f g = g (to reduces p) refl
reach reduces w (to (steps recorded) p) f g = g (to (steps recorded) p) refl
reach reduces w (to (steps counted) p) f g = g (to (steps counted) p) refl
reach reduces w (to reduces p) f g = f p refl

-- ANY ENGINE, with its machine f and what it is to hold a state of that

module _ (e : Engine) {A : Type 0} (f : A → Answer A) (Holds : Standing (Memory e) → A → Type 0) where
  abbrev pub total_in : World → ℕ
  total_in w = (w e).total

  abbrev pub HoldsIn : World → A → Type 0
  HoldsIn w a = Holds (w e) a

  abbrev pub MovesIn : World → Order → A → Type 0
  MovesIn = Moves f total_in order HoldsIn

  abbrev pub StandsIn : A → World → Type 0
  StandsIn = Stands f total_in order HoldsIn

  -- one order makes the steps that it counts, and leaves the state after them
  pub record Moved (s : Standing (Memory e)) (o : OrderTo e) (a : A) : Type 0 where
    pub state : A
    pub stepped : iterate f (played e s.memory o).count a ≡ some state
    pub holds : Holds (advanced s (played e s.memory o)) state

  -- a refused one leaves all as it was
  stays : (s : Standing (Memory e)) (o : OrderTo e) (a : A) → Holds s a → played e s.memory o ≡ record { memory = s.memory; count = 0 } → Moved s o a
  unfolding iterate advanced
  stays s o a h q = record {
    state = a;
    stepped = ap (λ (p : Played (Memory e)). iterate f p.count a) q;
    holds =
        subst (λ (p : Played (Memory e)). Holds (advanced s p) a) (sym q)
        (subst (λ (n : ℕ). Holds (record { memory = s.memory; total = n }) a) (sym (add-zero s.total)) h);
  }

  own-order : (w : World) (o : OrderTo e) (a : A) → order w (to e o) e ≡ advanced (w e) (played e (w e).memory o) → Moved (w e) o a → MovesIn w (to e o) a
  unfolding advanced
  own-order w o a q m = record {
    state = m.state;
    count = (played e (w e).memory o).count;
    counted = ap (λ (s : Standing (Memory e)). s.total) q;
    stepped = m.stepped;
    holds = subst (λ (s : Standing (Memory e)). Holds s m.state) (sym q) m.holds;
  }

  others-order : (w : World) (o : Order) (a : A) → order w o e ≡ w e → HoldsIn w a → MovesIn w o a
  unfolding iterate
  others-order w o a q h = record {
    state = a;
    count = 0;
    counted = ap (λ (s : Standing (Memory e)). s.total) q ∙ sym (add-zero (w e).total);
    stepped = refl;
    holds = subst (λ (s : Standing (Memory e)). Holds s a) (sym q) h;
  }

  -- so it is after every list of orders, where it is after one to the engine itself
  module _ (May : Order → Type 0) (law : (s : Standing (Memory e)) (o : OrderTo e) (a : A) → May (to e o) → Holds s a → Moved s o a) where
    moves-in : (w : World) (o : Order) (a : A) → May o → HoldsIn w a → MovesIn w o a
    moves-in w o a =
        reach e w o {C = λ (p : Order). May p → HoldsIn w a → MovesIn w p a} (λ p q m h. own-order w p a q (law (w e) p a m h)) (λ p q m h. others-order w p a q h)

    pub stands-in : (begin : A) (os : List Order) (w : World) → Each May os → StandsIn begin w → StandsIn begin (play w os)
    stands-in = stands-plays f total_in order HoldsIn May moves-in

-- 01's STEPPER

module _ (hd : Header) where
  -- a sound configuration, in its buffer and its store
  pub record RecordedHolds (s : Standing RecordedMemory) (c : Config) : Type 0 where
    pub program : ProgramIn hd c.block s.memory.buf s.memory.used
    pub store : s.memory.store ≡ c.store
    pub sound : SoundConfig (ok_of hd) hd.k c

  abbrev RecordedMoved : Standing RecordedMemory → OrderTo (steps recorded) → Config → Type 0
  RecordedMoved = Moved (steps recorded) (step (ok_of hd)) RecordedHolds

  recorded-refused : (m : RecordedMemory) (lent : Lent) (n : ℕ) → (n ≡ 0 → ⊥)
      → played_recorded m lent (record { answer = refusal n; buf = m.buf; store = values_lent lent m.store }) ≡ record { memory = m; count = 0 }
  unfolding played_recorded after_recorded values_lent own_after
  recorded-refused m own n h = rw (used-refused n 0 m.used h) refl
  recorded-refused m (other xs) n h = rw (used-refused n 0 m.used h) refl

  -- an accepted order with the own store
  recorded-moved : (s : Standing RecordedMemory) (budget : ℕ) (c : Config) → RecordedHolds s c → length s.memory.buf ≤ 16384
      → RecordedMoved s (record { used = s.memory.used; lent = own; budget = budget }) c
  unfolding played played_recorded after_recorded values_lent own_after advanced
  recorded-moved s budget c h l =
      let m : RecordedMemory = s.memory in
      let size : length m.store ≡ hd.k = ap length h.store ∙ h.sound.variables.size in
      let values : SmallValues (ok_of hd) m.store = subst (SmallValues (ok_of hd)) (sym h.store) h.sound.values in
      let r = stepper-ran h.program l m.store size values budget in
      let call = run_stepper m.buf m.used m.store budget in
      let begin : record { block = c.block; store = m.store } ≡ c = ap (λ (x : List ℕ). record { block = c.block; store = x }) h.store in
      let used = used-accepted call.answer.number call.answer.used m.used r.ran.number in
      record {
        state = r.c;
        stepped = ap (iterate (step (ok_of hd)) call.answer.steps) (sym begin) ∙ r.ran.stepped;
        holds = record { program = subst (ProgramIn hd r.c.block call.buf) (sym used) r.again; store = r.values; sound = r.sound };
      }

  recorded-order : (s : Standing RecordedMemory) (used : ℕ) (lent : Lent) (budget : ℕ) (c : Config) → AllowedLent hd lent → RecordedHolds s c
      → RecordedMoved s (record { used = used; lent = lent; budget = budget }) c
  unfolding played values_lent
  recorded-order s used own budget c a h =
      by_number (first_row (stepper_rows s.memory.buf used s.memory.store))
      (λ z. let t = stepper-takes h.program used s.memory.store z in
      subst (λ (n : ℕ). RecordedMoved s (record { used = n; lent = own; budget = budget }) c) (sym t.same) (recorded-moved s budget c h t.low))
      (λ n. stays (steps recorded) (step (ok_of hd)) RecordedHolds s (record { used = used; lent = own; budget = budget }) c h
      (ap (played_recorded s.memory own) (stepper-refused s.memory.buf used s.memory.store budget n) ∙ recorded-refused s.memory own _ n))
  recorded-order s used (other xs) budget c a h =
      by_number (first_row (stepper_rows s.memory.buf used xs))
      (λ z. let t = stepper-takes h.program used xs z in absurd (a t.count t.values))
      (λ n. stays (steps recorded) (step (ok_of hd)) RecordedHolds s (record { used = used; lent = other xs; budget = budget }) c h
      (ap (played_recorded s.memory (other xs)) (stepper-refused s.memory.buf used xs budget n) ∙ recorded-refused s.memory (other xs) _ n))

-- THE COUNTING STEPPER, of the program P, whose record some buffer holds

module _ (hd : Header) (P : Block) {cb : List ℕ} {cu : ℕ} (given : ProgramIn hd P cb cu) where
  -- a state of the program whose counts pass, and which expands to a sound configuration
  pub record CountedHolds (s : Standing CountedMemory) (c : Counting) : Type 0 where
    pub state : decode_state P s.memory.words ≡ right c.state
    pub store : s.memory.store ≡ c.store
    pub small : SmallState (ok_of hd) c.state
    pub sound : SoundConfig (ok_of hd) hd.k (expand_config c)

  abbrev CountedMoved : Standing CountedMemory → OrderTo (steps counted) → Counting → Type 0
  CountedMoved = Moved (steps counted) (count_step (ok_of hd)) CountedHolds

  -- The length of the program's record.
  abbrev pub long : ℕ
  long = length (encode_program hd P)

  -- a buffer that begins with it
  pub begins : (buf : List ℕ) → take long buf ≡ encode_program hd P → ProgramIn hd P buf long
  begins buf e =
      subst (ProgramIn hd P buf) (program-size given) (program-elsewhere given buf (subst (λ (n : ℕ). take n buf ≡ encode_program hd P) (sym (program-size given)) e))

  -- what no row refuses, of such a buffer with the words and the store that it holds
  pub accepts : (s : Standing CountedMemory) (c : Counting) → CountedHolds s c → (buf : List ℕ) → take long buf ≡ encode_program hd P
      → (n : ℕ) → CountingTakes hd P buf long n s.memory.words s.memory.store → Passes hd P buf n s.memory.words s.memory.store c.state
  accepts s c h buf e n t = takes-passes (begins buf e) n s.memory.words s.memory.store t c.state h.state

  counted-refused : (m : CountedMemory) (lent : Lent) (n : ℕ)
      → played_counted m lent (record { answer = refusal n; words = m.words; store = values_lent lent m.store }) ≡ record { memory = m; count = 0 }
  unfolding played_counted after_counted values_lent own_after
  counted-refused m own n = refl
  counted-refused m (other xs) n = refl

  counted-moved : (s : Standing CountedMemory) (buf : List ℕ) (used budget : ℕ) (c : Counting) → CountedHolds s c → take long buf ≡ encode_program hd P
      → CountingTakes hd P buf long used s.memory.words s.memory.store
      → CountedMoved s (record { buf = buf; used = used; lent = own; budget = budget }) c
  unfolding played played_counted after_counted values_lent own_after advanced
  counted-moved s buf used budget c h e t =
      let m : CountedMemory = s.memory in
      let call = run_counting buf used m.words m.store budget in
      let r = counting-ran (accepts s c h buf e used t) budget in
      let begin : record { state = c.state; store = m.store } ≡ c = ap (λ (x : List ℕ). record { state = c.state; store = x }) h.store in
      record {
        state = r.c;
        stepped = ap (iterate (count_step (ok_of hd)) call.answer.steps) (sym begin) ∙ r.ran.stepped;
        holds = record { state = r.reads; store = r.values; small = r.small; sound = r.sound };
      }

  -- what its rows let through
  pub counted-takes : (buf : List ℕ) (used : ℕ) (words store : List ℕ) (budget : ℕ) → take long buf ≡ encode_program hd P
      → (run_counting buf used words store budget).answer.number ≡ 0 → CountingTakes hd P buf long used words store
  counted-takes buf used words store budget e z = counting-takes (begins buf e) used words store (counting-rows buf used words store budget z)

  counted-order : (s : Standing CountedMemory) (buf : List ℕ) (used : ℕ) (lent : Lent) (budget : ℕ) (c : Counting) → AllowedLent hd lent
      → take long buf ≡ encode_program hd P → CountedHolds s c → CountedMoved s (record { buf = buf; used = used; lent = lent; budget = budget }) c
  unfolding played values_lent
  counted-order s buf used own budget c a e h =
      let m : CountedMemory = s.memory in
      by_number (first_row (counting_rows buf used m.words m.store))
      (λ z. counted-moved s buf used budget c h e (counted-takes buf used m.words m.store budget e (counting-number buf used m.words m.store budget ∙ z)))
      (λ n. stays (steps counted) (count_step (ok_of hd)) CountedHolds s (record { buf = buf; used = used; lent = own; budget = budget }) c h
      (ap (played_counted m own) (counting-refused buf used m.words m.store budget n) ∙ counted-refused m own _))
  counted-order s buf used (other xs) budget c a e h =
      let m : CountedMemory = s.memory in
      by_number (first_row (counting_rows buf used m.words xs))
      (λ z. let t = counted-takes buf used m.words xs budget e (counting-number buf used m.words xs budget ∙ z) in absurd (a t.count t.values))
      (λ n. stays (steps counted) (count_step (ok_of hd)) CountedHolds s (record { buf = buf; used = used; lent = other xs; budget = budget }) c h
      (ap (played_counted m (other xs)) (counting-refused buf used m.words xs budget n) ∙ counted-refused m (other xs) _))

-- THE REDUCER, from the closed term t₀

module _ (hd : Header) (t₀ : Term) where
  -- a sound closed term in its buffer; its totals are those of the rules' reductions from t₀ to the term
  pub record ReducerHolds (s : Standing ReducerMemory) (t : Term) : Type 0 where
    pub term : TermIn no_vars hd t s.memory.buf s.memory.used
    pub counted : ReductionsReplacing (ok_of hd) t₀ s.total s.memory.replaced t

  abbrev ReducerMoved : Standing ReducerMemory → OrderTo reduces → Term → Type 0
  ReducerMoved = Moved reduces (reduce (ok_of hd)) ReducerHolds

  -- its numbers being what they were, all is
  same_numbers : (m : ReducerMemory) (used replaced : ℕ) → used ≡ m.used → replaced ≡ m.replaced
      → ◌≡◌ {A = Played ReducerMemory} (record { memory = record { buf = m.buf; used = used; replaced = replaced }; count = 0 }) (record { memory = m; count = 0 })
  same_numbers m used replaced a b = rw (a, b) refl

  reducer-stayed : (m : ReducerMemory) (n : ℕ) → (n ≡ 0 → ⊥)
      → played_reducer m (record { answer = refusal n; replaced = 0; buf = m.buf }) ≡ record { memory = m; count = 0 }
  unfolding played_reducer after_reducer
  reducer-stayed m n h = same_numbers m _ _ (used-refused n 0 m.used h) (add-zero m.replaced)

  reducer-moved : (s : Standing ReducerMemory) (budget : ℕ) (t : Term) → ReducerHolds s t → length s.memory.buf ≤ 16384
      → ReducerMoved s (record { used = s.memory.used; budget = budget }) t
  unfolding played played_reducer after_reducer advanced
  reducer-moved s budget t h l =
      let m : ReducerMemory = s.memory in
      let r = reducer-ran h.term l budget in
      let call = run_reducer m.buf m.used budget in
      let used = used-accepted call.answer.number call.answer.used m.used r.ran.number in
      record {
        state = r.t;
        stepped = r.ran.stepped;
        holds = record { term = subst (TermIn no_vars hd r.t call.buf) (sym used) r.again; counted = replacing-add (ok_of hd) h.counted r.replaces };
      }

  reducer-order : (s : Standing ReducerMemory) (o : OrderTo reduces) (t : Term) → Unit {0} → ReducerHolds s t → ReducerMoved s o t
  unfolding played
  reducer-order s o t a h =
      by_number (first_row (reducer_rows s.memory.buf o.used))
      (λ z. let r = reducer-takes h.term o.used z in
      subst (λ (n : ℕ). ReducerMoved s (record { used = n; budget = o.budget }) t) (sym r.same) (reducer-moved s o.budget t h r.low))
      (λ n. stays reduces (reduce (ok_of hd)) ReducerHolds s o t h
      (ap (played_reducer s.memory) (reducer-refused s.memory.buf o.used o.budget n) ∙ reducer-stayed s.memory _ n))

  -- AFTER A LIST, whatever is lent to the steppers in it

  abbrev pub ReducerStands : World → Type 0
  ReducerStands = StandsIn reduces (reduce (ok_of hd)) ReducerHolds t₀

  pub reducer-stands : (os : List Order) (w : World) → ReducerStands w → ReducerStands (play w os)
  reducer-stands os w = stands-in reduces (reduce (ok_of hd)) ReducerHolds (λ (o : Order). Unit {0}) reducer-order t₀ os w (each-any os)
    where
      each-any : (os : List Order) → Each (λ (o : Order). Unit {0}) os
      each-any [] = tt
      each-any (o ∷ os) = (tt, each-any os)

-- ALL OF THEM, from the program P and the store μ

-- A state of each engine's machine.
abbrev pub At : Engine → Type 0
At (steps recorded) = Config
At (steps counted) = Counting
At reduces = Term

abbrev pub machine : (ℕ → Bool) → (e : Engine) → At e → Answer (At e)
machine ok (steps recorded) = step ok
machine ok (steps counted) = count_step ok
machine ok reduces = reduce ok

module _ (hd : Header) (P : Block) (μ : List ℕ) {cb : List ℕ} {cu : ℕ} (given : ProgramIn hd P cb cu) where
  -- Where each starts.
  abbrev pub starts : (e : Engine) → At e
  starts (steps recorded) = record { block = P; store = μ }
  starts (steps counted) = record { state = start P; store = μ }
  starts reduces = state_of hd.k (record { block = P; store = μ })

  abbrev pub Holds : (e : Engine) → Standing (Memory e) → At e → Type 0
  Holds (steps recorded) s c = RecordedHolds hd s c
  Holds (steps counted) s c = CountedHolds hd P given s c
  Holds reduces s t = ReducerHolds hd (starts reduces) s t

  -- The engine stands as many steps from its start as its total says.
  abbrev pub StandsFrom : (e : Engine) → World → Type 0
  StandsFrom e = StandsIn e (machine (ok_of hd) e) (Holds e) (starts e)

  order-to : (e : Engine) (s : Standing (Memory e)) (o : OrderTo e) (a : At e) → Allowed hd (encode_program hd P) (to e o) → Holds e s a
      → Moved e (machine (ok_of hd) e) (Holds e) s o a
  order-to (steps recorded) s o c a h = recorded-order hd s o.used o.lent o.budget c a h
  order-to (steps counted) s o c a h = counted-order hd P given s o.buf o.used o.lent o.budget c a.0 a.1 h
  order-to reduces s o t a h = reducer-order hd (starts reduces) s o t a h

  pub stands : (e : Engine) (os : List Order) (w : World) → AllAllowed hd (encode_program hd P) os → StandsFrom e w → StandsFrom e (play w os)
  stands e = stands-in e (machine (ok_of hd) e) (Holds e) (Allowed hd (encode_program hd P)) (order-to e) (starts e)
