-- Demand 3 of either stepper and the facts beside it, proved.
use Prim.Native.Nat.{ℕ, ◌≤◌}
use mathlib.Core.Path.{ap, refl, subst, sym, ◌∙◌, ◌≡◌}
use mathlib.Core.Bool.{Bool}
use mathlib.Core.List.{List, map}
use mathlib.Core.Option
use mathlib.Core.Option.{some-injective, some}
use lib.ListN.{length, take}
use native.Mathlib.Omega.{arith}
use Rattle.counting.specs.Counting.{expand_config}
use Rattle.counting.specs.CountingMeaning.{Passes}
use Rattle.counting.specs.Depth.{nesting}
use Rattle.counting.proofs.CountingMeaningLaws.{start-expands}
use Rattle.counting.proofs.CountingRanLaws.{counting-ran}
use Rattle.counting.proofs.CountingRunLaws.{counting-steps}
use Rattle.counting.proofs.StateWordsLaws.{decode-start}
use Rattle.record.specs.Answers.{Wrote, check_program}
use Rattle.record.specs.declared.Header.{Header}
use Rattle.record.specs.Header.{encode_program, encode_term, largest_of, ok_of}
use Rattle.record.specs.Holding.{ProgramIn, TermIn}
use Rattle.record.specs.Program.{BlockWords}
use Rattle.record.specs.Rows.{header_of, program_of}
use Rattle.rules.specs.FreeVariables.{no_vars}
use Rattle.rules.specs.Reduction.{on_next, reduce}
use Rattle.rules.specs.Replaced.{done}
use Rattle.rules.specs.Run.{iterate}
use Rattle.rules.specs.Sound.{SoundConfig}
use Rattle.rules.specs.Step.{step}
use Rattle.rules.specs.Substitution.{from_store, state_of, substitute}
use Rattle.rules.specs.Syntax.{Answer, Block, Config, Term, empty, finished, next, num, over, tuple}
use Rattle.rules.specs.Translation.{translate}
use Rattle.record.proofs.HeaderLaws.{ok-limit, ok-word}
use Rattle.record.proofs.HoldingLaws.{check-program, program-elsewhere, program-header, program-is, program-k, program-words, term-words}
use Rattle.record.proofs.WordsLaws.{block_words}
use Rattle.reducer.proofs.RunReducerLaws.{reducer-number, reducer-passes, reducer-takes}
use Rattle.rules.proofs.FinishedLaws.{finished-block, finished-state}
use Rattle.rules.proofs.LiteralsLaws.{not-small}
use Rattle.rules.proofs.LockStep.{lock-step, lock-steps}
use Rattle.rules.proofs.SoundTermLaws.{sound-state_of}
use Rattle.term.specs.Calls.{Substituted, substitute_call}
use Rattle.stepper.proofs.RunStepperLaws.{stepper-number, stepper-passes, stepper-takes}
use Rattle.term.proofs.CallLaws.{stored-size, stored-values}
use Rattle.agreement.specs.Demand3.{Agreed, Agreement, Demand3, Demand3Calls, Demand3Either, Demand3Refusals, HoldsBlock, Refuses, Start, begun, start_world}
use Rattle.agreement.specs.Orders.{AllAllowed, Engine, Memory, Order, RecordedMemory, Standing, Stepper, World, counted, play, recorded, reduces, steps, store_in}
use Rattle.agreement.specs.WeighedStore.{TermLent}
use Rattle.agreement.proofs.StartLaws.{engines-take, program-holds, translates}
use Rattle.agreement.proofs.Play.{At, Holds, StandsFrom, begins, counted-takes, machine, stands, starts}

-- WHAT IS READ FROM THE TWO STATES, where the one is the other's translation with the store substituted

pub on_next-over : {A B : Type 0} (f : A → B) (a : Answer A) → on_next f a ≡ over → a ≡ over
unfolding on_next
on_next-over f (finished vs) e = cc
on_next-over f over e = refl
on_next-over f (next a) e = cc

pub over-on_next : {A B : Type 0} (f : A → B) (a : Answer A) → a ≡ over → on_next f a ≡ over
unfolding on_next
over-on_next f a e = rw e refl

state-is : (k : ℕ) (c : Config) → state_of k c ≡ substitute (from_store c.store) (translate k c.block)
unfolding state_of
state-is k c = refl

-- THE CONFIGURATION that a stepper's state stands for

unfoldable pub config : (e : Stepper) → At (steps e) → Config
config recorded c = c
config counted c = expand_config c

-- its steps are the stepper's own
pub config-steps : (ok : ℕ → Bool) (e : Stepper) (n : ℕ) (a b : At (steps e)) → iterate (machine ok (steps e)) n a ≡ some b → iterate (step ok) n (config e a) ≡ some (config e b)
unfolding config
config-steps ok recorded n a b h = h
config-steps ok counted n a b h = counting-steps ok n a ∙ ap (Option.map expand_config) h

module _ (hd : Header) (P : Block) (μ : List ℕ) {cb : List ℕ} {cu : ℕ} (given : ProgramIn hd P cb cu) where
  pub first-config : (e : Stepper) → config e (starts hd P μ given (steps e)) ≡ record { block = P; store = μ }
  unfolding config
  first-config recorded = refl
  first-config counted = unfold expand_config in (ap (λ (b : Block). record { block = b; store = μ }) (start-expands P))

  -- it is sound; its block is the one held, and its store the one held

  pub config-sound : (e : Stepper) (s : Standing (Memory (steps e))) (a : At (steps e)) → Holds hd P μ given (steps e) s a → SoundConfig (ok_of hd) hd.k (config e a)
  unfolding config
  config-sound recorded s a h = h.sound
  config-sound counted s a h = h.sound

  config-block : (e : Stepper) (s : Standing (Memory (steps e))) (a : At (steps e)) → Holds hd P μ given (steps e) s a → HoldsBlock hd P e s.memory (config e a).block
  unfolding config
  config-block recorded s a h = h.program.bytes
  config-block counted s a h = (a.state, h.state, (unfold expand_config in refl))

  config-store : (e : Stepper) (s : Standing (Memory (steps e))) (a : At (steps e)) → Holds hd P μ given (steps e) s a → (config e a).store ≡ store_in e s.memory
  unfolding config
  config-store recorded s a h = sym h.store
  config-store counted s a h = unfold expand_config in (sym h.store)

  -- IN ANY WORLD in which the engines stand as their totals say, from a sound configuration and its term
  module _ (sound : SoundConfig (ok_of hd) hd.k (record { block = P; store = μ })) (w : World) (stand : (e : Engine) → StandsFrom hd P μ given e w) where
    -- either stepper, its state being a, its block and store the configuration held
    module _ (e : Stepper) where
      abbrev here : StandsFrom hd P μ given (steps e) w
      here = stand (steps e)

      abbrev values : List ℕ
      values = store_in e (w (steps e)).memory

      abbrev pub held : Config
      held = record { block = (config e here.state).block; store = values }

      pub same-config : config e here.state ≡ held
      same-config = ap (λ (s : List ℕ). record { block = (config e here.state).block; store = s }) (config-store e (w (steps e)) here.state here.holds)

      pub sound-config : SoundConfig (ok_of hd) hd.k held
      sound-config = subst (SoundConfig (ok_of hd) hd.k) same-config (config-sound e (w (steps e)) here.state here.holds)

      -- its block is the one that the stepper holds, and its numbers take 4 bytes
      pub block_held : HoldsBlock hd P e (w (steps e)).memory held.block
      block_held = config-block e (w (steps e)) here.state here.holds

      pub held-words : BlockWords held.block
      held-words = block_words (ok_of hd) (ok-word hd given.header) hd.k held.block (omega (arith, given.header.k-high)) sound-config.variables.block sound-config.literals

      -- it is as many steps from the start as the total says
      pub config-reached : iterate (step (ok_of hd)) (w (steps e)).total (record { block = P; store = μ }) ≡ some (config e here.state)
      config-reached =
          ap (iterate (step (ok_of hd)) (w (steps e)).total) (sym (first-config e))
          ∙ config-steps (ok_of hd) e (w (steps e)).total (starts hd P μ given (steps e)) here.state here.reached

      abbrev t : Term
      t = (stand reduces).state

      same-state : (w (steps e)).total ≡ (w reduces).total → t ≡ state_of hd.k held
      same-state q = some-injective t (state_of hd.k held)
          (sym (stand reduces).reached
          ∙ ap (λ (n : ℕ). iterate (reduce (ok_of hd)) n (state_of hd.k (record { block = P; store = μ }))) (sym q)
          ∙ lock-steps (ok_of hd) hd.k (w (steps e)).total (record { block = P; store = μ }) sound.variables
          ∙ ap (Option.map (state_of hd.k)) config-reached
          ∙ ap (λ (d : Config). some (state_of hd.k d)) same-config)

      pub agrees : Agreed hd P e w
      agrees q =
          let within = sound-config.variables in
          let term = (stand reduces).holds.term in
          let same = same-state q in
          let lock : reduce (ok_of hd) t ≡ on_next (state_of hd.k) (step (ok_of hd) held) = ap (reduce (ok_of hd)) same ∙ lock-step (ok_of hd) hd.k held within in
          let end : held.block ≡ empty → t ≡ tuple (map num values) =
          λ z. same ∙ ap (λ b. state_of hd.k (record { block = b; store = values })) z ∙ finished-state hd.k values within.size in
          record {
            Q = held.block;
            t = t;
            stepper_holds = block_held;
            reducer_holds = term.bytes;
            program_words = held-words;
            term_words = term-words term;
            states = term.bytes ∙ ap (encode_term hd) (same ∙ state-is hd.k held);
            finished_both = ((λ z. (map num values, end z)), (λ l. finished-block hd.k held.block values l.0 (sym same ∙ l.1)));
            over_both = ((λ o. lock ∙ over-on_next (state_of hd.k) (step (ok_of hd) held) o), (λ o. on_next-over (state_of hd.k) (step (ok_of hd) held) (sym lock ∙ o)));
            same_values = end;
          }

    -- what no row refuses, of a buffer that begins with the program's record
    pub lent-own : (buf : List ℕ) → take (length (encode_program hd P)) buf ≡ encode_program hd P → length buf ≤ 16384 → nesting P ≤ 32
        → Passes hd P buf (length (encode_program hd P)) (w (steps counted)).memory.words (w (steps counted)).memory.store (stand (steps counted)).state.state
    lent-own buf e low deep = record {
      program = begins hd P given buf e;
      low = low;
      deep = deep;
      count = (sound-config counted).variables.size;
      state = (stand (steps counted)).holds.state;
      values = (sound-config counted).values;
      small = (stand (steps counted)).holds.small;
    }

    pub refuses : Refuses hd P w
    refuses =
        let m = (w (steps recorded)).memory in
        let program = (stand (steps recorded)).holds.program in
        let n = (w (steps counted)).memory in
        let l = (w reduces).memory in
        let term = (stand reduces).holds.term in
        record {
          stepper_used = λ used xs budget ne e. ne (stepper-takes program used xs (sym (stepper-number m.buf used xs budget) ∙ e)).same;
          stepper_store = λ used xs budget ne e. ne (stepper-takes program used xs (sym (stepper-number m.buf used xs budget) ∙ e)).count;
          stepper_values = λ used xs budget n among above e. not-small (largest_of hd) xs n among above (stepper-takes program used xs (sym (stepper-number m.buf used xs budget) ∙ e)).values;
          counting_used = λ buf used xs budget e ne z. ne (counted-takes hd P given buf used n.words xs budget e z).same;
          counting_store = λ buf used xs budget e ne z. ne (counted-takes hd P given buf used n.words xs budget e z).count;
          counting_values = λ buf used xs budget e k among above z. not-small (largest_of hd) xs k among above (counted-takes hd P given buf used n.words xs budget e z).values;
          reducer_used = λ used budget ne e. ne (reducer-takes term used (sym (reducer-number l.buf used budget) ∙ e)).same;
          stepper_takes = λ budget low. stepper-number m.buf m.used m.store budget ∙ stepper-passes program low m.store (sound-config recorded).variables.size (sound-config recorded).values;
          counting_takes = λ buf budget e low deep. (counting-ran (lent-own buf e low deep) budget).ran.number;
          reducer_takes = λ budget low. reducer-number l.buf l.used budget ∙ reducer-passes term low;
        }

-- WHAT A START THAT IS ACCEPTED HAS

module _ (hd : Header) (P : Block) (μ : List ℕ) (s : Start hd P μ) where
  -- the header, and the program's record, in the buffer that the checker accepted
  pub accepted-program : ProgramIn hd P s.check_buf s.check_used
  accepted-program = program-holds hd P s.check_buf s.check_used s.checked s.program s.program_words s.ceiling_word

  -- an accepted store has k values
  accepted-store : length μ ≡ hd.k
  accepted-store = stored-size hd (translate hd.k P) s.term_buf s.term_used μ accepted-program.header s.term s.substituted

  pub first : SoundConfig (ok_of hd) hd.k (record { block = P; store = μ })
  first = record {
    variables = record { block = accepted-program.is_program.variables; size = accepted-store };
    literals = accepted-program.is_program.literals;
    values = stored-values hd (translate hd.k P) s.term_buf s.term_used μ accepted-program.header s.term s.substituted;
  }

  pub reducer-term : TermIn no_vars hd (state_of hd.k (record { block = P; store = μ })) s.reducer_buf s.reducer_used
  reducer-term = record {
    within = s.reducer_fits;
    header = accepted-program.header;
    bytes = s.reducer_begins ∙ ap (encode_term hd) (sym (state-is hd.k (record { block = P; store = μ })));
    sound = sound-state_of (ok_of hd) (ok-limit hd) hd.k (record { block = P; store = μ }) first;
  }

  start-stands : (e : Engine) → StandsFrom hd P μ accepted-program e (start_world hd P μ s)
  unfolding iterate begun config
  start-stands (steps recorded) = record {
    state = record { block = P; store = μ };
    reached = refl;
    holds = record { program = program-elsewhere accepted-program s.stepper_buf s.stepper_begins; store = refl; sound = first };
  }
  start-stands (steps counted) = record {
    state = starts hd P μ accepted-program (steps counted);
    reached = refl;
    holds = record {
      state = decode-start P;
      store = refl;
      small = tt;
      sound = subst (SoundConfig (ok_of hd) hd.k) (sym (first-config hd P μ accepted-program counted)) first;
    };
  }
  start-stands reduces = record {
    state = state_of hd.k (record { block = P; store = μ });
    reached = refl;
    holds = record { term = reducer-term; counted = done };
  }

  -- after a list
  pub list-stands : (os : List Order) → AllAllowed hd (encode_program hd P) os → (e : Engine) → StandsFrom hd P μ accepted-program e (play (start_world hd P μ s) os)
  list-stands os a e = stands hd P μ accepted-program e os (start_world hd P μ s) a (start-stands e)

-- THE THEOREMS

pub demand3-either : Demand3Either
unfolding Demand3Either Agreement
demand3-either e hd P μ s os a = agrees hd P μ (accepted-program hd P μ s) (first hd P μ s) (play (start_world hd P μ s) os) (list-stands hd P μ s os a) e

pub demand3 : Demand3
unfolding Demand3 Demand3Either
demand3 = demand3-either recorded

pub demand3-refusals : Demand3Refusals
unfolding Demand3Refusals
demand3-refusals hd P μ s os a = refuses hd P μ (accepted-program hd P μ s) (first hd P μ s) (play (start_world hd P μ s) os) (list-stands hd P μ s os a)

-- FROM THE REAL CALLS

-- from a world u that is a start's
agreed-from : (hd : Header) (P : Block) (μ : List ℕ) (u v : World) (s : (x : Start hd P μ) × (start_world hd P μ x ≡ v)) → u ≡ v
    → (os : List Order) → AllAllowed hd (encode_program hd P) os → (w : World) → w ≡ play u os → (e : Stepper) → Agreed hd P e w
unfolding Demand3Either Agreement
agreed-from hd P μ u v s uv os a w ew e = subst (Agreed hd P e) (sym (ew ∙ ap (λ (x : World). play x os) (uv ∙ sym s.1))) (demand3-either e hd P μ s.0 os a)

pub demand3-calls : Demand3Calls
unfolding Demand3Calls
demand3-calls k cb cu hb checked out tw te tz μ sw se sz sb hs rb fits hr os a w ew =
    let p = (check-program k cb cu hb).0 checked in
    let P : Block = program_of cb cu in
    let hd : Header = header_of cb cu in
    let h : ProgramIn hd P cb cu =
    subst (λ (Q : Block). ProgramIn hd Q cb cu) (sym (program-is p.1.3 p.0)) (subst (λ (x : Header). ProgramIn x p.1.1 cb cu) (sym (program-header p.1.3)) p.1.3) in
    let is-k : k ≡ hd.k = sym (program-k p.1.3 ∙ p.1.2) in
    let is-checked : check_program cb cu ≡ record { number = 0; k = hd.k } = checked ∙ ap (λ (n : ℕ). record { number = 0; k = n }) is-k in
    let term : TermLent hd P tw.written tw.used =
    subst (λ (x : Wrote). TermLent hd P x.written x.used) (sym te) (translates hd P cb cu is-checked h.bytes (program-words h) h.header.largest-word out (sym (ap (λ (x : Wrote). x.number) te) ∙ tz)) in
    let size = stored-size hd (translate hd.k P) tw.written tw.used μ h.header term.bytes (sym (ap (λ (x : Substituted). x.number) se) ∙ sz) in
    let small = stored-values hd (translate hd.k P) tw.written tw.used μ h.header term.bytes (sym (ap (λ (x : Substituted). x.number) se) ∙ sz) in
    let s = (engines-take hd P cb cu is-checked h.bytes (program-words h) h.header.largest-word μ size small).start tw.written tw.used term sb hs rb
    (subst (λ (x : Substituted). x.used ≤ length rb) se fits) (subst (λ (x : Substituted). take x.used rb ≡ take x.used x.written) se hr) in
    let m : RecordedMemory = record { buf = sb; used = cu; store = μ } in
    let allowed : AllAllowed hd (encode_program hd P) os = subst (λ (b : List ℕ). AllAllowed hd b os) h.bytes a in
    agreed-from hd P μ (begun m (record { buf = rb; used = sw.used; replaced = 0 })) (begun m (record { buf = rb; used = (substitute_call tw.written tw.used μ).used; replaced = 0 }))
    s (ap (λ (x : Substituted). begun m (record { buf = rb; used = x.used; replaced = 0 })) se) os allowed w ew
