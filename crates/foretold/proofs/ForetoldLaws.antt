-- The figures of a forecast are those of the real run wherever it finishes, and no run goes beyond them: proved.
use Prim.Native.Nat.{ℕ, ◌≤◌}
use mathlib.Core.Path.{ap, refl, subst, sym, ◌∙◌, ◌≡◌}
use mathlib.Core.Logic.{◌↔◌}
use mathlib.Core.List.{List, map}
use mathlib.Core.Option
use mathlib.Core.Option.{some}
use lib.ListN.{length, take}
use native.Mathlib.Omega.{arith}
use Rattle.agreement.specs.Demand3.{FinishedTerm, start_world}
use Rattle.agreement.specs.Orders.{Engine, Memory, Stepper, World, counted, play, recorded, reduces, steps, store_in}
use Rattle.agreement.specs.Together.{reducer_reads, stepper_reads}
use Rattle.agreement.proofs.Demand3Laws.{accepted-program, block_held, config-reached, first, held, held-words, list-stands, same-config}
use Rattle.agreement.proofs.Play.{StandsFrom}
use Rattle.counting.specs.CountingRan.{no_record}
use Rattle.forecast.specs.Figures.{figures}
use Rattle.forecast.specs.Forecast.{Forecast, forecast_call, forecast_rows}
use Rattle.forecast.specs.ForecastMeaning.{FiguresOf, config_length, term_length}
use Rattle.forecast.specs.Steady.{Steady}
use Rattle.forecast.proofs.ForecastLaws.{forecast-number}
use Rattle.forecast.proofs.ForecastMeaningLaws.{accepts, answer-is, answered, figures-of, reducer-at, stepped, unlimited}
use Rattle.forecast.proofs.ForetoldLaws.{steps-limited}
use Rattle.record.specs.declared.Header.{Header}
use Rattle.record.specs.Header.{encode_program, encode_term, ok_of}
use Rattle.record.specs.Holding.{ProgramIn}
use Rattle.record.proofs.HeldLaws.{good-buffer}
use Rattle.record.proofs.HoldingLaws.{term-words}
use Rattle.record.proofs.RowLaws.{none_at-zero}
use Rattle.rules.specs.Reduction.{reduce}
use Rattle.rules.specs.Rules.{at}
use Rattle.rules.specs.Run.{iterate, no_room}
use Rattle.rules.specs.Sound.{SoundConfig}
use Rattle.rules.specs.Step.{step}
use Rattle.rules.specs.Store.{no_limit}
use Rattle.rules.specs.Substitution.{state_of}
use Rattle.rules.specs.Syntax.{Block, Config, Term, empty, next, num, tuple}
use Rattle.rules.proofs.EvaluateLaws.{steps-unlimited}
use Rattle.rules.proofs.LockStep.{lock-steps}
use Rattle.rules.proofs.WalkLaws.{empty-halts, tuple-halts}
use Rattle.run.specs.RunAnswer.{room_for}
use Rattle.run.proofs.RanLaws.{fits-room}
use Rattle.stepping.specs.State.{config_bytes}
use Rattle.foretold.specs.Foretold.{Foretold, ReducerForetold, RoomFor, RunsForetold, StepperForetold}
use Rattle.foretold.proofs.OnTheWayLaws.{OnTheWay, has_room, on-the-way}
use Rattle.foretold.proofs.RoomLaws.{Stood, list-stood, longest-within}

-- ROOM for the foretold length is room for the next state

stepper-room : (h : Header) (e : Stepper) (m : Memory (steps e)) (Q : Block) (p : ℕ) → ((c : Config) → step (ok_of h) (at Q (store_in e m)) ≡ next c → config_length h c ≤ p)
    → RoomFor p e m → stepper_reads h e m Q ≡ no_room → ⊥
stepper-room h recorded m Q p short room =
    has_room (step (ok_of h)) (room_for (config_bytes h) (length m.buf)) (step (ok_of h) (at Q m.store))
    (λ c i. fits-room (step (ok_of h)) (config_bytes h) (length m.buf) c (omega (arith, short c i)))
stepper-room h counted m Q p short room =
    has_room (step (ok_of h)) (room_for no_record 0) (step (ok_of h) (at Q m.store)) (λ c i. fits-room (step (ok_of h)) no_record 0 c (omega arith))

reducer-room : (h : Header) (m : Memory reduces) (t : Term) (p : ℕ) → ((u : Term) → reduce (ok_of h) t ≡ next u → term_length h u ≤ p)
    → p ≤ length m.buf → reducer_reads h m t ≡ no_room → ⊥
reducer-room h m t p short room =
    has_room (reduce (ok_of h)) (room_for (encode_term h) (length m.buf)) (reduce (ok_of h) t)
    (λ u i. fits-room (reduce (ok_of h)) (encode_term h) (length m.buf) u (omega (arith, short u i)))

-- AN END has had room for the longest state on the way

stepper-needs : (h : Header) (P : Block) (μ : List ℕ) (f : Forecast) (e : Stepper) (w : World) → Stood h P μ (steps e) w → (w (steps e)).total ≡ f.steps
    → FiguresOf (ok_of h) h P μ f → RoomFor f.program_bytes e (w (steps e)).memory
stepper-needs h P μ f recorded w stood n g =
    let m = (w (steps recorded)).memory in
    longest-within (step (ok_of h)) (config_length h) (at P μ) f.steps f.program_bytes (length m.buf) g.program
    (λ i c l r. stood i c (omega arith) r)
stepper-needs h P μ f counted w stood n g = tt

reducer-needs : (h : Header) (P : Block) (μ : List ℕ) (f : Forecast) (w : World) → Stood h P μ reduces w → (w reduces).total ≡ f.steps
    → FiguresOf (ok_of h) h P μ f → f.term_bytes ≤ length (w reduces).memory.buf
reducer-needs h P μ f w stood n g =
    longest-within (reduce (ok_of h)) (term_length h) (state_of h.k (at P μ)) f.steps f.term_bytes (length (w reduces).memory.buf) g.term
    (λ i t l r. stood i t (omega arith) r)

-- FROM A SOUND CONFIGURATION of a program in which no command assigns a loop's bound
module _ (h : Header) (P : Block) (μ : List ℕ) (fixed : Steady P) (sound : SoundConfig (ok_of h) h.k (at P μ)) where
  -- the figures
  abbrev f : Forecast
  f = answered (figures h μ P)

  -- they are those of the run with no limit
  abbrev free : FiguresOf no_limit h P μ f
  free = unlimited h P μ fixed sound.variables

  -- a configuration that a stepper reaches
  module _ (n : ℕ) (c : Config) (reached : iterate (step (ok_of h)) n (at P μ) ≡ some c) where
    configuration-way : OnTheWay (step (ok_of h)) (config_length h) (at empty free.end) f.steps f.program_bytes n c
    configuration-way =
        on-the-way (step no_limit) (step (ok_of h)) (config_length h) (at P μ) (at empty free.end) f.steps f.program_bytes
        free.steps (empty-halts no_limit free.end) free.program (λ m a. steps-unlimited (ok_of h) m (at P μ) a) n c reached

    ended : c.block ≡ empty → iterate (step (ok_of h)) n (at P μ) ≡ some (at empty c.store)
    ended z = reached ∙ ap (λ (b : Block). some (at b c.store)) z

    configuration-finishes : (c.block ≡ empty) ↔ (n ≡ f.steps)
    configuration-finishes = ((λ z. steps-limited h P μ fixed (ok_of h) n c.store (ended z)), (λ e. ap (λ (d : Config). d.block) (configuration-way.at_end e)))

    configuration-figures : c.block ≡ empty → FiguresOf (ok_of h) h P μ f
    configuration-figures z = figures-of h P μ fixed sound.variables (ok_of h) n c.store (ended z)

  -- a term that the reducer reaches
  module _ (n : ℕ) (t : Term) (reached : iterate (reduce (ok_of h)) n (state_of h.k (at P μ)) ≡ some t) where
    abbrev start : Term
    start = state_of h.k (at P μ)

    -- so does the reducer with no limit
    follows : (m : ℕ) (u : Term) → iterate (reduce (ok_of h)) m start ≡ some u → iterate (reduce no_limit) m start ≡ some u
    follows m u e =
        let v = reducer-at h P μ sound.variables (ok_of h) m u e in
        lock-steps no_limit h.k m (at P μ) sound.variables ∙ ap (Option.map (state_of h.k)) (steps-unlimited (ok_of h) m (at P μ) v.0 v.1) ∙ ap some v.2

    term-way : OnTheWay (reduce (ok_of h)) (term_length h) (tuple (map num free.end)) f.steps f.term_bytes n t
    term-way =
        on-the-way (reduce no_limit) (reduce (ok_of h)) (term_length h) start (tuple (map num free.end)) f.steps f.term_bytes
        free.reductions (tuple-halts no_limit (map num free.end)) free.term follows n t reached

    -- the configuration whose term it is has ended where it is a tuple
    at-tuple : FinishedTerm t → (ν : List ℕ) × (iterate (step (ok_of h)) n (at P μ) ≡ some (at empty ν))
    at-tuple l = stepped h P μ sound.variables (ok_of h) n l.0 (reached ∙ ap some l.1)

    term-finishes : FinishedTerm t ↔ (n ≡ f.steps)
    term-finishes = (
      (λ l. let v = at-tuple l in steps-limited h P μ fixed (ok_of h) n v.0 v.1),
      (λ e. (map num free.end, term-way.at_end e)),
    )

    term-figures : FinishedTerm t → FiguresOf (ok_of h) h P μ f
    term-figures l = let v = at-tuple l in figures-of h P μ fixed sound.variables (ok_of h) n v.0 v.1

  -- IN ANY WORLD in which the engines stand as their totals say, all that they went through having stood in their buffers
  module _ {cb : List ℕ} {cu : ℕ} (given : ProgramIn h P cb cu) (w : World) (stand : (e : Engine) → StandsFrom h P μ given e w)
      (stood : (e : Engine) → Stood h P μ e w) where
    stepper-foretold : (e : Stepper) → StepperForetold h P μ f e w
    stepper-foretold e =
        let c = held h P μ given sound w stand e in
        let n = (w (steps e)).total in
        let reached : iterate (step (ok_of h)) n (at P μ) ≡ some c = config-reached h P μ given sound w stand e ∙ ap some (same-config h P μ given sound w stand e) in
        let way = configuration-way n c reached in
        record {
          Q = c.block;
          holds = block_held h P μ given sound w stand e;
          words = held-words h P μ given sound w stand e;
          on_the_way = reached;
          not_further = way.not_further;
          not_longer = way.not_longer;
          finishes = configuration-finishes n c reached;
          figures = configuration-figures n c reached;
          room = stepper-room h e (w (steps e)).memory c.block f.program_bytes way.next_not_longer;
          needs = λ z. stepper-needs h P μ f e w (stood (steps e)) ((configuration-finishes n c reached).0 z) (configuration-figures n c reached z);
        }

    reducer-foretold : ReducerForetold h P μ f w
    reducer-foretold =
        let t = (stand reduces).state in
        let n = (w reduces).total in
        let reached = (stand reduces).reached in
        let way = term-way n t reached in
        record {
          t = t;
          holds = (stand reduces).holds.term.bytes;
          words = term-words (stand reduces).holds.term;
          on_the_way = reached;
          not_further = way.not_further;
          not_longer = way.not_longer;
          finishes = term-finishes n t reached;
          figures = term-figures n t reached;
          room = reducer-room h (w reduces).memory t f.term_bytes way.next_not_longer;
          needs = λ z. reducer-needs h P μ f w (stood reduces) ((term-finishes n t reached).0 z) (term-figures n t reached z);
        }

    runs-foretold : RunsForetold h P μ f w
    runs-foretold = record { steppers = stepper-foretold; reducer = reducer-foretold }

-- an accepted forecast was made of the program's record
forecast-holds : (h : Header) (P : Block) (μ : List ℕ) {cb : List ℕ} {cu : ℕ} → ProgramIn h P cb cu → (buf : List ℕ) (used : ℕ) → take used buf ≡ encode_program h P
    → (forecast_call buf used μ).number ≡ 0 → ProgramIn h P buf used
forecast-holds h P μ given buf used bytes z = record {
  within = (good-buffer buf used (none_at-zero (forecast_rows buf used μ) refl (sym (forecast-number buf used μ) ∙ z)).0).within;
  header = given.header;
  bytes = bytes;
  is_program = given.is_program;
}

-- THE THEOREM

pub foretold : Foretold
unfolding Foretold
foretold h P μ s buf used bytes f is zero os allowed =
    let given = accepted-program h P μ s in
    let z : (forecast_call buf used μ).number ≡ 0 = ap (λ (g : Forecast). g.number) (sym is) ∙ zero in
    let holds = forecast-holds h P μ given buf used bytes z in
    let w = play (start_world h P μ s) os in
    subst (λ (g : Forecast). RunsForetold h P μ g w) (sym (is ∙ answer-is h P buf used μ holds z))
    (runs-foretold h P μ (accepts h P buf used μ holds z).steady (first h P μ s) given w (list-stands h P μ s os allowed) (list-stood h P μ s os allowed))
