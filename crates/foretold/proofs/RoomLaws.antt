-- EVERY STATE THAT AN ENGINE WENT THROUGH STOOD IN ITS BUFFER, whose length no order changes: the start's record is in it, an accepted order
-- goes to nothing longer than it, a refused one goes nowhere.
use Prim.Native.Nat.{◌+◌, ◌-◌, suc, zero, ℕ, ◌≤◌}
use mathlib.Core.Path.{◌≡◌, ap, refl, subst, sym, ◌∙◌}
use mathlib.Core.Bool.{Bool, false, true}
use mathlib.Core.List.{List, [], ◌∷◌}
use mathlib.Core.Option.{some-injective, some}
use borrow.Author.Tests.{leb-false, leb-true}
use lib.Dec.{leb}
use lib.ListN.{length}
use native.Mathlib.Omega.{arith}
use Rattle.agreement.specs.Demand3.{Start, begun, start_world}
use Rattle.agreement.specs.Orders.{AllAllowed, Allowed, AllowedLent, Engine, Lent, Order, RecordedMemory, Standing, World, advanced, after_recorded, after_reducer, change, counted, order, other, own, play, played, played_recorded, played_reducer, recorded, reduces, steps, to, values_lent}
use Rattle.agreement.proofs.Demand3Laws.{accepted-program, list-stands, reducer-term}
use Rattle.agreement.proofs.Play.{RecordedHolds, StandsFrom, stands}
use Rattle.forecast.specs.ForecastMeaning.{config_length, term_length}
use Rattle.forecast.specs.Longest.{Longest}
use Rattle.record.specs.declared.Header.{Header}
use Rattle.record.specs.Header.{encode_program, encode_term, ok_of}
use Rattle.record.specs.Holding.{ProgramIn, TermIn}
use Rattle.record.specs.Rows.{first_row}
use Rattle.record.proofs.HoldingLaws.{program-elsewhere, program-size, term-size}
use Rattle.reducer.specs.RunReducer.{ReducerCall, reduced_to, reducer_rows, run_reducer}
use Rattle.reducer.proofs.RunReducerLaws.{reducer-is, reducer-refused, reducer-ran, reducer-takes}
use Rattle.rules.specs.FreeVariables.{Vars, no_vars}
use Rattle.rules.specs.Play.{plays}
use Rattle.rules.specs.Reduction.{reduce}
use Rattle.rules.specs.Rules.{at}
use Rattle.rules.specs.Run.{iterate}
use Rattle.rules.specs.Step.{step}
use Rattle.rules.specs.Substitution.{state_of}
use Rattle.rules.specs.Syntax.{Answer, Block, Config, Term}
use Rattle.rules.proofs.IterateLaws.{iterate-split}
use Rattle.run.proofs.RanLaws.{run-way}
use Rattle.stepper.specs.RunStepper.{StepperCall, run_stepper, stepped_to, stepper_rows}
use Rattle.stepper.proofs.RunStepperLaws.{stepper-is, stepper-ran, stepper-refused, stepper-takes}
use Rattle.stepping.specs.State.{config_bytes}

-- OF ANY MACHINE: f is its step, `size` the length of a state's record

module _ {A : Type 0} (f : A → Answer A) (size : A → ℕ) where
  -- every state after 0, 1, .. n steps from a is no longer than the room
  abbrev pub Within : A → ℕ → ℕ → Type 0
  Within a n room = (m : ℕ) (b : A) → m ≤ n → iterate f m a ≡ some b → size b ≤ room

  within_none : (a : A) (room : ℕ) → size a ≤ room → Within a 0 room
  unfolding iterate
  within_none a room h zero b l e = subst (λ (c : A). size c ≤ room) (some-injective a b e) h
  within_none a room h (suc m) b l e = absurd (omega arith)

  -- two stretches of steps are one
  within-further : (a b : A) (n j room : ℕ) → Within a n room → iterate f n a ≡ some b → Within b j room → Within a (n + j) room
  within-further a b n j room p reached q m c l e = test (leb m n) refl
    where
      test : (t : Bool) → leb m n ≡ t → size c ≤ room
      test true i = p m c (leb-true m n i) e
      test false i =
          let far = leb-false m n i in
          q (m - n) c (omega arith)
          (sym (iterate-split f n (m - n) a b reached) ∙ ap (λ (k : ℕ). iterate f k a) {x = n + (m - n)} {y = m} (omega arith) ∙ e)

  -- so a run to the end has room for the longest state on the way
  pub longest-within : (a : A) (n p room : ℕ) → Longest f size a n p → Within a n room → p ≤ room
  longest-within a n p room l w = let (m, b, h, i, q) = l.met in omega (arith, w m b h i, q)

-- 01's STEPPER

module _ (hd : Header) where
  -- a call leaves a buffer as long as the room, and goes from c through nothing longer
  abbrev StepperGoes : Config → ℕ → StepperCall → Type 0
  StepperGoes c room r = (length r.buf ≡ room) × Within (step (ok_of hd)) (config_length hd) c r.answer.steps room

  program-fits : {P : Block} {buf : List ℕ} {used : ℕ} → ProgramIn hd P buf used → length (encode_program hd P) ≤ length buf
  program-fits h = omega (arith, program-size h, h.within)

  stepper-stays : (c : Config) (buf : List ℕ) (used : ℕ) → ProgramIn hd c.block buf used → (n : ℕ) (store : List ℕ) (budget : ℕ)
      → (first_row (stepper_rows buf n store) ≡ 0 → ⊥) → StepperGoes c (length buf) (run_stepper buf n store budget)
  stepper-stays c buf used h n store budget ne =
      subst (StepperGoes c (length buf)) (sym (stepper-refused buf n store budget ne))
      (refl, within_none (step (ok_of hd)) (config_length hd) c (length buf) (program-fits h))

  stepper-goes : (P : Block) (buf : List ℕ) (used : ℕ) → ProgramIn hd P buf used → (n : ℕ) (store : List ℕ) (budget : ℕ)
      → first_row (stepper_rows buf n store) ≡ 0 → StepperGoes (at P store) (length buf) (run_stepper buf n store budget)
  stepper-goes P buf used h n store budget z =
      let t = stepper-takes h n store z in
      subst (λ (i : ℕ). StepperGoes (at P store) (length buf) (run_stepper buf i store budget)) (sym t.same) (
        (stepper-ran h t.low store t.count t.values budget).same_room,
        subst (λ (r : StepperCall). Within (step (ok_of hd)) (config_length hd) (at P store) r.answer.steps (length buf))
            (sym (stepper-is h t.low store t.count t.values budget))
            (unfold stepped_to in run-way (step (ok_of hd)) (config_bytes hd) (length buf) (at P store) budget (program-fits h)),
      )

  -- an order with the own store; other values are refused
  recorded-goes : (s : Standing RecordedMemory) (c : Config) → RecordedHolds hd s c → (n : ℕ) (lent : Lent) (budget : ℕ) → AllowedLent hd lent
      → StepperGoes c (length s.memory.buf) (run_stepper s.memory.buf n (values_lent lent s.memory.store) budget)
  unfolding values_lent
  recorded-goes s c h n own budget a = test (first_row (stepper_rows s.memory.buf n s.memory.store)) refl
    where
      test : (m : ℕ) → first_row (stepper_rows s.memory.buf n s.memory.store) ≡ m
          → StepperGoes c (length s.memory.buf) (run_stepper s.memory.buf n s.memory.store budget)
      test zero z =
          subst (λ (μ : List ℕ). StepperGoes (at c.block μ) (length s.memory.buf) (run_stepper s.memory.buf n s.memory.store budget)) h.store
          (stepper-goes c.block s.memory.buf s.memory.used h.program n s.memory.store budget z)
      test (suc m) e = stepper-stays c s.memory.buf s.memory.used h.program n s.memory.store budget (λ z. omega arith)
  recorded-goes s c h n (other xs) budget a =
      stepper-stays c s.memory.buf s.memory.used h.program n xs budget (λ z. let t = stepper-takes h.program n xs z in a t.count t.values)

-- THE REDUCER

module _ (hd : Header) where
  abbrev ReducerGoes : Term → ℕ → ReducerCall → Type 0
  ReducerGoes t room r = (length r.buf ≡ room) × Within (reduce (ok_of hd)) (term_length hd) t r.answer.steps room

  term_fits : {S : Vars} {t : Term} {buf : List ℕ} {used : ℕ} → TermIn S hd t buf used → length (encode_term hd t) ≤ length buf
  term_fits h = omega (arith, term-size h, h.within)

  reducer-goes : (t : Term) (buf : List ℕ) (used : ℕ) → TermIn no_vars hd t buf used → (n budget : ℕ) → ReducerGoes t (length buf) (run_reducer buf n budget)
  reducer-goes t buf used h n budget = test (first_row (reducer_rows buf n)) refl
    where
      test : (m : ℕ) → first_row (reducer_rows buf n) ≡ m → ReducerGoes t (length buf) (run_reducer buf n budget)
      test zero z =
          let r = reducer-takes h n z in
          subst (λ (i : ℕ). ReducerGoes t (length buf) (run_reducer buf i budget)) (sym r.same) (
            (reducer-ran h r.low budget).same_room,
            subst (λ (q : ReducerCall). Within (reduce (ok_of hd)) (term_length hd) t q.answer.steps (length buf)) (sym (reducer-is h r.low budget))
                (unfold reduced_to in run-way (reduce (ok_of hd)) (encode_term hd) (length buf) t budget (term_fits h)),
          )
      test (suc m) e =
          subst (ReducerGoes t (length buf)) (sym (reducer-refused buf n budget (λ z. omega arith)))
          (refl, within_none (reduce (ok_of hd)) (term_length hd) t (length buf) (term_fits h))

-- IN THE WORLD, from the program P and the store μ

module _ (hd : Header) (P : Block) (μ : List ℕ) where
  -- what the engine's total says that it went through stood in its buffer; the counting stepper has none for its states
  abbrev pub Stood : Engine → World → Type 0
  Stood (steps recorded) w =
      Within (step (ok_of hd)) (config_length hd) (at P μ) (w (steps recorded)).total (length (w (steps recorded)).memory.buf)
  Stood (steps counted) w = Unit {0}
  Stood reduces w = Within (reduce (ok_of hd)) (term_length hd) (state_of hd.k (at P μ)) (w reduces).total (length (w reduces).memory.buf)

  -- after an order, which leaves a buffer of `after` bytes
  further : {A : Type 0} (f : A → Answer A) (size : A → ℕ) (a b : A) (n j room after : ℕ) → Within f size a n room → iterate f n a ≡ some b
      → (after ≡ room) × Within f size b j room → Within f size a (n + j) after
  further f size a b n j room after p reached q = subst (Within f size a (n + j)) (sym q.0) (within-further f size a b n j room p reached q.1)

  module _ {cb : List ℕ} {cu : ℕ} (given : ProgramIn hd P cb cu) where
    stood-order : (e : Engine) (w : World) (o : Order) → Allowed hd (encode_program hd P) o → StandsFrom hd P μ given e w → Stood e w → Stood e (order w o)
    unfolding order change advanced played played_recorded after_recorded played_reducer after_reducer
    stood-order (steps recorded) w (to (steps recorded) o) a s p =
        let here = w (steps recorded) in
        further (step (ok_of hd)) (config_length hd) (at P μ) s.state here.total
        (run_stepper here.memory.buf o.used (values_lent o.lent here.memory.store) o.budget).answer.steps (length here.memory.buf) _ p s.reached
        (recorded-goes hd here s.state s.holds o.used o.lent o.budget a)
    stood-order (steps recorded) w (to (steps counted) o) a s p = p
    stood-order (steps recorded) w (to reduces o) a s p = p
    stood-order (steps counted) w o a s p = tt
    stood-order reduces w (to (steps recorded) o) a s p = p
    stood-order reduces w (to (steps counted) o) a s p = p
    stood-order reduces w (to reduces o) a s p =
        let here = w reduces in
        further (reduce (ok_of hd)) (term_length hd) (state_of hd.k (at P μ)) s.state here.total
        (run_reducer here.memory.buf o.used o.budget).answer.steps (length here.memory.buf) _ p s.reached
        (reducer-goes hd s.state here.memory.buf here.memory.used s.holds.term o.used o.budget)

    stood-plays : (e : Engine) (os : List Order) (w : World) → AllAllowed hd (encode_program hd P) os → StandsFrom hd P μ given e w → Stood e w → Stood e (play w os)
    unfolding plays
    stood-plays e [] w a s p = p
    stood-plays e (o ∷ os) w a s p =
        stood-plays e os (order w o) a.1 (stands hd P μ given e (o ∷ []) w (a.0, tt) s) (stood-order e w o a.0 s p)

  -- FROM A START
  module _ (s : Start hd P μ) where
    stood-start : (e : Engine) → Stood e (start_world hd P μ s)
    unfolding begun
    stood-start (steps recorded) =
        within_none (step (ok_of hd)) (config_length hd) (at P μ) (length s.stepper_buf)
        (program-fits hd (program-elsewhere (accepted-program hd P μ s) s.stepper_buf s.stepper_begins))
    stood-start (steps counted) = tt
    stood-start reduces =
        within_none (reduce (ok_of hd)) (term_length hd) (state_of hd.k (at P μ)) (length s.reducer_buf) (term_fits hd (reducer-term hd P μ s))

    first-stands : (e : Engine) → StandsFrom hd P μ (accepted-program hd P μ s) e (start_world hd P μ s)
    unfolding plays
    first-stands e = list-stands hd P μ s [] tt e

    pub list-stood : (os : List Order) → AllAllowed hd (encode_program hd P) os → (e : Engine) → Stood e (play (start_world hd P μ s) os)
    list-stood os a e = stood-plays (accepted-program hd P μ s) e os (start_world hd P μ s) a (first-stands e) (stood-start e)
