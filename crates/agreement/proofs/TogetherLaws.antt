-- Two lanes that both come to an end of their own come to it after the same number of steps.
use Prim.Native.Nat.{◌+◌, ℕ}
use mathlib.Core.Path.{ap, refl, subst, sym, ◌∙◌, ◌≡◌}
use mathlib.Core.Logic.{◌↔◌}
use mathlib.Core.Bool.{Bool, cond, false, true}
use mathlib.Core.List.{List}
use mathlib.Core.Option.{map, some-injective, some}
use lib.ListN.{length, take}
use native.Mathlib.Omega.{arith}
use Rattle.counting.specs.Counting.{expand_config}
use Rattle.counting.specs.CountingCall.{run_counting}
use Rattle.counting.specs.CountingRan.{no_record}
use Rattle.counting.proofs.CountingRanLaws.{counting-ran}
use Rattle.record.specs.declared.Header.{Header}
use Rattle.record.specs.Header.{encode_program, encode_term, ok_of}
use Rattle.record.specs.Holding.{ProgramIn}
use Rattle.record.proofs.HeaderLaws.{ok-limit}
use Rattle.reducer.specs.RunReducer.{run_reducer}
use Rattle.reducer.proofs.RunReducerLaws.{reducer-number, reducer-ran, reducer-takes}
use Rattle.rules.specs.Reduction.{on_next, reduce}
use Rattle.rules.specs.Run.{Outcome, is_finished, is_over, iterate, no_room, outcome_of, refused, spent}
use Rattle.rules.specs.Sound.{SoundConfig}
use Rattle.rules.specs.Step.{step}
use Rattle.rules.specs.Substitution.{state_of}
use Rattle.rules.specs.Syntax.{Answer, Block, Config, Term, finished, next, over}
use Rattle.run.specs.RanFrom.{RanFrom}
use Rattle.run.specs.RunAnswer.{RunAnswer, room_for}
use Rattle.stepping.specs.State.{config_bytes}
use Rattle.record.proofs.HoldingLaws.{term-words}
use Rattle.rules.proofs.IterateLaws.{iterate-further}
use Rattle.rules.proofs.LockStep.{lock-step, lock-steps}
use Rattle.rules.proofs.RestLaws.{Rests, rests-finished, rests-on_next, rests-once, rests-over}
use Rattle.rules.proofs.SoundConfigLaws.{sound-steps}
use Rattle.stepper.specs.RunStepper.{run_stepper}
use Rattle.stepper.proofs.RunStepperLaws.{stepper-number, stepper-ran, stepper-takes}
use Rattle.agreement.specs.Demand3.{start_world}
use Rattle.agreement.specs.Orders.{AllowedLent, AllowedTo, Engine, Lent, OrderTo, Stepper, World, counted, other, own, play, recorded, reduces, steps, store_in, values_lent}
use Rattle.agreement.specs.Together.{StopTogether, Stopped, Together, TogetherAnswered, answer_to, stepper_reads}
use Rattle.agreement.proofs.Demand3Laws.{accepted-program, block_held, config, config-reached, first, held, held-words, list-stands, on_next-over, over-on_next, same-config, sound-config}
use Rattle.agreement.proofs.Play.{StandsFrom, accepts, counted-takes}

-- WHAT A STATE READS, by its step

room-stops : (b : Bool) → Stopped (cond b spent no_room) → ⊥
room-stops true h = h.1 refl
room-stops false h = h.0 refl

room-over : (b : Bool) → cond b spent no_room ≡ is_over → ⊥
room-over true e = let z : ◌≡◌ {A = ℕ} 0 1 = cc in omega arith
room-over false e = let z : ◌≡◌ {A = ℕ} 0 1 = cc in omega arith

module _ {A : Type 0} (f : A → Answer A) (fits : A → Bool) where
  stopped-rests : (o : Answer A) → Stopped (outcome_of f fits o) → Rests o
  unfolding outcome_of
  stopped-rests (finished vs) h = tt
  stopped-rests over h = tt
  stopped-rests (next b) h = room-stops (fits b) h

  over-read : (o : Answer A) → outcome_of f fits o ≡ is_over → o ≡ over
  unfolding outcome_of
  over-read (finished vs) e = absurd (let z : ◌≡◌ {A = ℕ} 0 1 = cc in omega arith)
  over-read over e = refl
  over-read (next b) e = absurd (room-over (fits b) e)

  reads_over : (o : Answer A) → (outcome_of f fits o ≡ is_over) ↔ (o ≡ over)
  unfolding outcome_of
  reads_over o = (over-read o, (λ e. ap (outcome_of f fits) e))

-- the same of the answer of a run
answered-rests : {A : Type 0} {f : A → Answer A} {bytes : A → List ℕ} {a₀ : A} {room budget : ℕ} {answer : RunAnswer} {a : A}
    → RanFrom f bytes a₀ room budget answer a → Stopped answer.outcome → Rests (f a)
answered-rests {f = f} {answer = answer} {a = a} r h = go answer.outcome refl
  where
    go : (o : Outcome) → answer.outcome ≡ o → Rests (f a)
    go is_finished e = rests-finished (f a) (r.finishes.0 e)
    go is_over e = rests-over (f a) (r.overs.0 e)
    go no_room e = absurd (h.0 e)
    go spent e = absurd (h.1 e)
    go refused e = absurd (r.not_refused e)

-- FROM ONE START: a configuration m steps from it and a term n reductions from its term, both at rest
module _ (hd : Header) (c₀ : Config) (sound : SoundConfig (ok_of hd) hd.k c₀) (m n : ℕ) (c : Config) (t : Term)
    (within : SoundConfig (ok_of hd) hd.k c) (stepped : iterate (step (ok_of hd)) m c₀ ≡ some c) (reduced : iterate (reduce (ok_of hd)) n (state_of hd.k c₀) ≡ some t) where
  in_step : reduce (ok_of hd) (state_of hd.k c) ≡ on_next (state_of hd.k) (step (ok_of hd) c)
  in_step = lock-step (ok_of hd) hd.k c within.variables

  reached : iterate (reduce (ok_of hd)) m (state_of hd.k c₀) ≡ some (state_of hd.k c)
  reached = lock-steps (ok_of hd) hd.k m c₀ sound.variables ∙ ap (map (state_of hd.k)) stepped

  totals : Rests (step (ok_of hd) c) → Rests (reduce (ok_of hd) t) → m ≡ n
  totals p q = rests-once (reduce (ok_of hd)) (state_of hd.k c₀) (state_of hd.k c) t m n reached reduced (rw in_step (rests-on_next (state_of hd.k) (step (ok_of hd) c) p)) q

  overs : m ≡ n → (step (ok_of hd) c ≡ over) ↔ (reduce (ok_of hd) t ≡ over)
  overs e =
      let same : t ≡ state_of hd.k c = some-injective t (state_of hd.k c) (sym reduced ∙ ap (λ (i : ℕ). iterate (reduce (ok_of hd)) i (state_of hd.k c₀)) (sym e) ∙ reached) in
      let lock : reduce (ok_of hd) t ≡ on_next (state_of hd.k) (step (ok_of hd) c) = ap (reduce (ok_of hd)) same ∙ in_step in
      ((λ o. lock ∙ over-on_next (state_of hd.k) (step (ok_of hd) c) o), (λ o. on_next-over (state_of hd.k) (step (ok_of hd) c) (sym lock ∙ o)))

  -- two readings of the two states, each over exactly where its state is
  both-over : {O P : Type 0} → (O ↔ (step (ok_of hd) c ≡ over)) → (P ↔ (reduce (ok_of hd) t ≡ over)) → Rests (step (ok_of hd) c) → Rests (reduce (ok_of hd) t) → (O ↔ P) × (m ≡ n)
  both-over a b p q =
      let e = totals p q in
      (((λ x. b.1 ((overs e).0 (a.0 x))), (λ x. a.1 ((overs e).1 (b.0 x)))), e)

-- IN ANY WORLD in which the engines stand as their totals say
module _ (hd : Header) (P : Block) (μ : List ℕ) {cb : List ℕ} {cu : ℕ} (given : ProgramIn hd P cb cu)
    (sound : SoundConfig (ok_of hd) hd.k (record { block = P; store = μ })) (w : World) (stand : (e : Engine) → StandsFrom hd P μ given e w) where
  -- what a stepper reads is read from its configuration, in a room of its own
  pub record Room (e : Stepper) (c : Config) (o : Outcome) : Type 0 where
    pub fits : Config → Bool
    pub is : o ≡ outcome_of (step (ok_of hd)) fits (step (ok_of hd) c)

  reads-room : (e : Stepper) (Q : Block) → Room e (record { block = Q; store = store_in e (w (steps e)).memory }) (stepper_reads hd e (w (steps e)).memory Q)
  reads-room recorded Q = record { fits = room_for (config_bytes hd) (length (w (steps recorded)).memory.buf); is = refl }
  reads-room counted Q = record { fits = room_for no_record 0; is = refl }

  pub stop-together : (e : Stepper) → StopTogether hd P e w
  stop-together e =
      let c = held hd P μ given sound w stand e in
      let t = (stand reduces).state in
      let room = reads-room e c.block in
      let fr = room_for (encode_term hd) (length (w reduces).memory.buf) in
      record {
        Q = c.block;
        t = t;
        stepper_holds = block_held hd P μ given sound w stand e;
        reducer_holds = (stand reduces).holds.term.bytes;
        program_words = held-words hd P μ given sound w stand e;
        term_words = term-words (stand reduces).holds.term;
        together = λ p q.
            both-over hd (record { block = P; store = μ }) sound (w (steps e)).total (w reduces).total c t (sound-config hd P μ given sound w stand e)
            (config-reached hd P μ given sound w stand e ∙ ap some (same-config hd P μ given sound w stand e)) (stand reduces).reached
            (subst (λ (o : Outcome). (o ≡ is_over) ↔ (step (ok_of hd) c ≡ over)) (sym room.is) (reads_over (step (ok_of hd)) room.fits (step (ok_of hd) c)))
            (reads_over (reduce (ok_of hd)) fr (reduce (ok_of hd) t))
            (stopped-rests (step (ok_of hd)) room.fits (step (ok_of hd) c) (subst Stopped room.is p)) (stopped-rests (reduce (ok_of hd)) fr (reduce (ok_of hd) t) q);
      }

pub together : Together
unfolding Together
together e hd P μ s os a = stop-together hd P μ (accepted-program hd P μ s) (first hd P μ s) (play (start_world hd P μ s) os) (list-stands hd P μ s os a) e

-- AS THE LANES ANSWER

-- a run of a machine ended: the state that it left is so many steps from the start, and its outcome is read from it
pub record Ended {A : Type 0} (f : A → Answer A) (a₀ : A) (n : ℕ) (answer : RunAnswer) : Type 0 where
  pub left : A
  pub reached : iterate f (n + answer.steps) a₀ ≡ some left
  pub overs : (answer.outcome ≡ is_over) ↔ (f left ≡ over)
  pub rests : Stopped answer.outcome → Rests (f left)

ended : {A : Type 0} {f : A → Answer A} {bytes : A → List ℕ} {a₀ a b : A} {n room budget : ℕ} {answer : RunAnswer}
    → iterate f n a₀ ≡ some a → RanFrom f bytes a room budget answer b → Ended f a₀ n answer
ended {f = f} {a₀ = a₀} {a = a} {b = b} {n = n} {answer = answer} e r =
    record { left = b; reached = iterate-further f n answer.steps a₀ a b e r.stepped; overs = r.overs; rests = answered-rests r }

module _ (hd : Header) (P : Block) (μ : List ℕ) {cb : List ℕ} {cu : ℕ} (given : ProgramIn hd P cb cu)
    (sound : SoundConfig (ok_of hd) hd.k (record { block = P; store = μ })) (w : World) (stand : (e : Engine) → StandsFrom hd P μ given e w) where
  abbrev StepperEnds : Stepper → RunAnswer → Type 0
  StepperEnds e answer = Ended (step (ok_of hd)) (record { block = P; store = μ }) (w (steps e)).total answer

  -- from the configuration that a stepper holds
  from-held : (e : Stepper) → iterate (step (ok_of hd)) (w (steps e)).total (record { block = P; store = μ }) ≡ some (held hd P μ given sound w stand e)
  from-held e = config-reached hd P μ given sound w stand e ∙ ap some (same-config hd P μ given sound w stand e)

  recorded-ends : (used : ℕ) (lent : Lent) (budget : ℕ) → AllowedLent hd lent → (answer : RunAnswer)
      → answer ≡ (run_stepper (w (steps recorded)).memory.buf used (values_lent lent (w (steps recorded)).memory.store) budget).answer → answer.number ≡ 0
      → StepperEnds recorded answer
  unfolding values_lent config
  recorded-ends used own budget a answer is z =
      let m = (w (steps recorded)).memory in
      let program = (stand (steps recorded)).holds.program in
      let s = sound-config hd P μ given sound w stand recorded in
      let t = stepper-takes program used m.store (sym (stepper-number m.buf used m.store budget) ∙ ap (λ (x : RunAnswer). x.number) (sym is) ∙ z) in
      let r = stepper-ran program t.low m.store s.variables.size s.values budget in
      subst (StepperEnds recorded) (sym (is ∙ ap (λ (n : ℕ). (run_stepper m.buf n m.store budget).answer) t.same)) (ended (from-held recorded) r.ran)
  recorded-ends used (other xs) budget a answer is z =
      let t = stepper-takes (stand (steps recorded)).holds.program used xs (sym (stepper-number (w (steps recorded)).memory.buf used xs budget) ∙ ap (λ (x : RunAnswer). x.number) (sym is) ∙ z) in
      absurd (a t.count t.values)

  counted-ends : (buf : List ℕ) (used : ℕ) (lent : Lent) (budget : ℕ) → AllowedLent hd lent → take (length (encode_program hd P)) buf ≡ encode_program hd P → (answer : RunAnswer)
      → answer ≡ (run_counting buf used (w (steps counted)).memory.words (values_lent lent (w (steps counted)).memory.store) budget).answer → answer.number ≡ 0
      → StepperEnds counted answer
  unfolding values_lent config expand_config
  counted-ends buf used own budget a e answer is z =
      let m = (w (steps counted)).memory in
      let t = counted-takes hd P given buf used m.words m.store budget e (ap (λ (x : RunAnswer). x.number) (sym is) ∙ z) in
      let r = counting-ran (accepts hd P given (w (steps counted)) (stand (steps counted)).state (stand (steps counted)).holds buf e used t) budget in
      subst (StepperEnds counted) (sym is) (ended (from-held counted) r.expands)
  counted-ends buf used (other xs) budget a e answer is z =
      let t = counted-takes hd P given buf used (w (steps counted)).memory.words xs budget e (ap (λ (x : RunAnswer). x.number) (sym is) ∙ z) in
      absurd (a t.count t.values)

  stepper-ends : (e : Stepper) (o : OrderTo (steps e)) → AllowedTo hd (encode_program hd P) (steps e) o → (answer : RunAnswer)
      → answer ≡ answer_to (steps e) (w (steps e)).memory o → answer.number ≡ 0 → StepperEnds e answer
  stepper-ends recorded o a answer is z = recorded-ends o.used o.lent o.budget a answer is z
  stepper-ends counted o a answer is z = counted-ends o.buf o.used o.lent o.budget a.0 a.1 answer is z

  reducer-ends : (o : OrderTo reduces) (answer : RunAnswer) → answer ≡ answer_to reduces (w reduces).memory o → answer.number ≡ 0
      → Ended (reduce (ok_of hd)) (state_of hd.k (record { block = P; store = μ })) (w reduces).total answer
  reducer-ends o answer is z =
      let m = (w reduces).memory in
      let term = (stand reduces).holds.term in
      let t = reducer-takes term o.used (sym (reducer-number m.buf o.used o.budget) ∙ ap (λ (x : RunAnswer). x.number) (sym is) ∙ z) in
      let r = reducer-ran term t.low o.budget in
      subst (Ended (reduce (ok_of hd)) (state_of hd.k (record { block = P; store = μ })) (w reduces).total)
      (sym (is ∙ ap (λ (n : ℕ). (run_reducer m.buf n o.budget).answer) t.same)) (ended (stand reduces).reached r.ran)

  answered-together : (e : Stepper) (o : OrderTo (steps e)) → AllowedTo hd (encode_program hd P) (steps e) o → (p : OrderTo reduces) (a b : RunAnswer)
      → a ≡ answer_to (steps e) (w (steps e)).memory o → b ≡ answer_to reduces (w reduces).memory p → a.number ≡ 0 → b.number ≡ 0
      → Stopped a.outcome → Stopped b.outcome → ((a.outcome ≡ is_over) ↔ (b.outcome ≡ is_over)) × ((w (steps e)).total + a.steps ≡ (w reduces).total + b.steps)
  answered-together e o may p a b is-a is_b za zb sa sb =
      let c₀ : Config = record { block = P; store = μ } in
      let s = stepper-ends e o may a is-a za in
      let r = reducer-ends p b is_b zb in
      both-over hd c₀ sound ((w (steps e)).total + a.steps) ((w reduces).total + b.steps) s.left r.left
      (sound-steps (ok_of hd) (ok-limit hd) hd.k ((w (steps e)).total + a.steps) c₀ s.left sound s.reached) s.reached r.reached s.overs r.overs (s.rests sa) (r.rests sb)

pub together-answered : TogetherAnswered
unfolding TogetherAnswered
together-answered e hd P μ s os a w is o may p x y is_x is_y zx zy sx sy =
    let given = accepted-program hd P μ s in
    answered-together hd P μ given (first hd P μ s) w (λ f. subst (StandsFrom hd P μ given f) (sym is) (list-stands hd P μ s os a f)) e o may p x y is_x is_y zx zy sx sy
