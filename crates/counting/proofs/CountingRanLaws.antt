-- THE RUN OF THE COUNTING STEPPER, as a call: its number, a refusal, what its rows let through, and what an accepted run answers and
-- leaves.
use Prim.Native.Nat.{◌≤◌, suc, zero, ℕ}
use mathlib.Core.Path.{ap, refl, subst, sym, ◌∙◌, ◌≡◌}
use mathlib.Core.Logic.Iff
use mathlib.Core.Bool.{false, not, true}
use mathlib.Core.List.{◌++◌, List, []}
use mathlib.Core.Option.{some}
use borrow.Author.Tests.{le-ltb, ltb-false}
use lib.Dec.{lit<, ltb}
use lib.ListN.{length}
use native.Mathlib.Omega.{arith}
use Rattle.record.specs.declared.Header.{Header}
use Rattle.record.specs.Header.{header_in, ok_of}
use Rattle.record.specs.Holding.{ProgramIn}
use Rattle.record.specs.Program.{block_size}
use Rattle.record.specs.Rows.{NoRow, Row, bad_buffer, block_above, block_of, first_row, header_of, k_of, program_of}
use Rattle.record.proofs.HeaderLaws.{length-encode_program, ok-limit, ok-word}
use Rattle.record.proofs.HeldLaws.{good-store, good-values, store-good, values-good}
use Rattle.record.proofs.HoldingLaws.{five-passed, five-passes, program-as-read, program-below, program-block, program-header, program-is, program-size}
use Rattle.record.proofs.RowLaws.{first-none, holds-some, none_first}
use Rattle.rules.specs.Run.{Ran, no_room}
use Rattle.rules.specs.Sound.{SmallValues, SoundConfig}
use Rattle.rules.specs.Step.{step}
use Rattle.rules.specs.Syntax.{Block, Config}
use Rattle.rules.proofs.FinishedLaws.{step-finished}
use Rattle.rules.proofs.LiteralsLaws.{append-small, small-append}
use Rattle.rules.proofs.Tests.{true-false}
use Rattle.run.specs.RanFrom.{RanFrom}
use Rattle.run.specs.RunAnswer.{accepted, refusal, room_for, run_in}
use Rattle.run.proofs.RanLaws.{run-answers}
use Rattle.counting.specs.CountStep.{count_step}
use Rattle.counting.specs.Counting.{Counting, State, expand_config}
use Rattle.counting.specs.CountingCall.{bad_state, counted_to, counting_by, counting_rows, counts, no_bytes, or_start, run_counting, state_above, state_rows, too_deep}
use Rattle.counting.specs.CountingMeaning.{Passes}
use Rattle.counting.specs.CountingRan.{CountingRan, no_record}
use Rattle.counting.specs.Depth.{nesting}
use Rattle.counting.specs.ReadState.{Read, is_right, right, wrong}
use Rattle.counting.specs.SmallState.{SmallState, counts_in}
use Rattle.counting.specs.StateOf.{StateOf}
use Rattle.counting.specs.StateWords.{decode_state, encode_state}
use Rattle.counting.proofs.CountingCallLaws.{bad-state, right-state, state-above}
use Rattle.counting.proofs.CountingLaws.{counting-step}
use Rattle.counting.proofs.KeptLaws.{steps-size, steps-small}
use Rattle.counting.proofs.ReadInversion.{right-injective}
use Rattle.counting.proofs.SimulationLaws.{on_state, run-same}
use Rattle.counting.proofs.SmallStateLaws.{counts-small, small-counts}
use Rattle.counting.proofs.SoundStateLaws.{SmallCounting, SoundBlock, counting-sound}
use Rattle.counting.proofs.StateOfLaws.{steps_of}
use Rattle.counting.proofs.StateWordsLaws.{decode-encode, decode-of, length-encode}
use Rattle.counting.proofs.WordsPassLaws.{words-pass}

-- NUMBER AND REFUSAL

counting-by : (m : ℕ) (h : Header) (P : Block) (words store : List ℕ) (budget : ℕ) → (counting_by m h P words store budget).answer.number ≡ m
unfolding counting_by counted_to
counting-by zero h P words store budget = refl
counting-by (suc m) h P words store budget = refl

refused-by : (m : ℕ) (h : Header) (P : Block) (words store : List ℕ) (budget : ℕ) → (m ≡ 0 → ⊥)
    → counting_by m h P words store budget ≡ record { answer = refusal m; words = words; store = store }
unfolding counting_by
refused-by zero h P words store budget n = absurd (n refl)
refused-by (suc m) h P words store budget n = refl

module _ (buf : List ℕ) (used : ℕ) (words store : List ℕ) (budget : ℕ) where
  pub counting-number : (run_counting buf used words store budget).answer.number ≡ first_row (counting_rows buf used words store)
  unfolding run_counting
  counting-number = counting-by (first_row (counting_rows buf used words store)) (header_of buf used) (program_of buf used) words store budget

  pub counting-refused : (first_row (counting_rows buf used words store) ≡ 0 → ⊥)
      → run_counting buf used words store budget ≡ record { answer = refusal (first_row (counting_rows buf used words store)); words = words; store = store }
  unfolding run_counting
  counting-refused n = refused-by (first_row (counting_rows buf used words store)) (header_of buf used) (program_of buf used) words store budget n

  -- no row applies where it is accepted
  pub counting-rows : (run_counting buf used words store budget).answer.number ≡ 0 → NoRow (counting_rows buf used words store)
  counting-rows e = first-none (counting_rows buf used words store) refl (sym counting-number ∙ e)

-- WHAT ITS ROWS LET THROUGH, of a buffer that holds a program's record

pub not-wrong : (o : Read State) → not (is_right o) ≡ false → (s : State) × (o ≡ right s)
unfolding is_right
not-wrong (right s) e = (s, refl)
not-wrong (wrong w) e = true-false e

right-not : (o : Read State) (s : State) → o ≡ right s → not (is_right o) ≡ false
unfolding is_right
right-not o s e = rw e refl

-- rows 12, 6, 13 and 16 of the program P that is lent
module _ (buf : List ℕ) (used : ℕ) (P : Block) (block : block_of buf used ≡ some P) (words store : List ℕ) where
  pub deep_is : too_deep buf used ≡ ltb 32 (nesting P)
  unfolding too_deep
  deep_is = holds-some (λ (Q : Block). ltb 32 (nesting Q)) (block_of buf used) P block

  pub record StateTakes : Type 0 where
    pub deep : nesting P ≤ 32
    pub count : length store ≡ k_of buf used
    pub s : State
    pub state : decode_state P words ≡ right s
    pub values : SmallValues (ok_of (header_of buf used)) store
    pub small : SmallState (ok_of (header_of buf used)) s

  pub state-takes : (more : List Row) → NoRow (state_rows buf used words store more) → StateTakes × NoRow more
  state-takes more r =
      let ok = ok_of (header_of buf used) in
      let t = not-wrong (decode_state P words) (sym (bad-state buf used P words block) ∙ r.1.1.1.0) in
      let v = append-small ok store (counts_in t.0) (good-values buf used (store ++ counts_in t.0) (sym (state-above buf used P words store t.0 block t.1) ∙ r.1.1.1.1.0)) in (
        record {
          deep = ltb-false 32 (nesting P) (sym deep_is ∙ r.0);
          count = good-store buf used store r.1.1.0;
          s = t.0;
          state = t.1;
          values = v.0;
          small = counts-small ok t.0 v.1;
        },
        r.1.1.1.1.1,
      )

  pub state-passes : block_above buf used ≡ false → StateTakes → (more : List Row) → NoRow more → NoRow (state_rows buf used words store more)
  state-passes below t more r =
      let ok = ok_of (header_of buf used) in
      let thirteen : bad_state buf used words ≡ false = bad-state buf used P words block ∙ right-not (decode_state P words) t.s t.state in
      let sixteen : state_above buf used words store ≡ false =
      state-above buf used P words store t.s block t.state
      ∙ values-good buf used (store ++ counts_in t.s) (small-append ok store (counts_in t.s) t.values (small-counts ok t.s t.small)) in
      (deep_is ∙ le-ltb 32 (nesting P) t.deep, (below, (store-good buf used store t.count, (thirteen, (sixteen, r)))))

pub record CountingTakes (h : Header) (P : Block) (buf : List ℕ) (used n : ℕ) (words store : List ℕ) : Type 0 where
  pub low : length buf ≤ 16384
  -- the used length is the record's own
  pub same : n ≡ used
  pub deep : nesting P ≤ 32
  pub count : length store ≡ h.k
  pub s : State
  pub state : decode_state P words ≡ right s
  pub values : SmallValues (ok_of h) store
  pub small : SmallState (ok_of h) s

module _ {h : Header} {P : Block} {buf : List ℕ} {used : ℕ} (p : ProgramIn h P buf used) (n : ℕ) (words store : List ℕ) where
  pub counting-takes : NoRow (counting_rows buf n words store) → CountingTakes h P buf used n words store
  counting-takes r =
      let q = five-passed p n (bad_buffer buf n) (λ e. e) (state_rows buf n words store []) r in
      let t = (state-takes buf n P (ap (block_of buf) q.same ∙ program-block p q.low) words store [] q.behind).0 in
      let is : header_of buf n ≡ h = ap (header_of buf) q.same ∙ program-header p in
      record {
        low = q.low;
        same = q.same;
        deep = t.deep;
        count = t.count ∙ ap (λ (x : Header). x.k) is;
        s = t.s;
        state = t.state;
        values = subst (λ (x : Header). SmallValues (ok_of x) store) is t.values;
        small = subst (λ (x : Header). SmallState (ok_of x) t.s) is t.small;
      }

  -- so what they let through passes, with the state that the words hold
  pub takes-passes : CountingTakes h P buf used n words store → (s : State) → decode_state P words ≡ right s → Passes h P buf n words store s
  takes-passes t s e = record {
    program = subst (ProgramIn h P buf) (sym t.same) p;
    low = t.low;
    deep = t.deep;
    count = t.count;
    state = e;
    values = t.values;
    small = subst (SmallState (ok_of h)) (right-injective t.s s (sym t.state ∙ e)) t.small;
  }

-- AN ACCEPTED RUN is the run of the state that is lent

module _ {h : Header} {P : Block} {buf : List ℕ} {used : ℕ} {words store : List ℕ} {s : State} (a : Passes h P buf used words store s) where
  block : block_of buf used ≡ some P
  block = program-block a.program a.low

  pub passes_of : StateOf P 0 s
  passes_of = decode-of P s words a.state

  -- with the header as code reads it
  pub passes-as-read : (x : Header) → x ≡ header_in buf → Passes x P buf used words store s
  passes-as-read x e =
      subst (λ (y : Header). Passes y P buf used words store s) (sym (program-header a.program) ∙ program-header (program-as-read a.program x e)) a

  pub state-rows : (more : List Row) → NoRow more → NoRow (state_rows buf used words store more)
  state-rows more r =
      let is : h ≡ header_of buf used = sym (program-header a.program) in
      state-passes buf used P block words store (program-below a.program a.low) (record {
        deep = a.deep;
        count = a.count ∙ ap (λ (x : Header). x.k) is;
        s = s;
        state = a.state;
        values = subst (λ (x : Header). SmallValues (ok_of x) store) is a.values;
        small = subst (λ (x : Header). SmallState (ok_of x) s) is a.small;
      }) more r

  pub counting-passes : NoRow (counting_rows buf used words store)
  counting-passes = five-passes a.program a.low (state_rows buf used words store []) (state-rows [] tt)

  pub lent_is : or_start (decode_state (program_of buf used) words) ≡ s
  lent_is = ap (λ (Q : Block). or_start (decode_state Q words)) (program-is a.program a.low) ∙ right-state (decode_state P words) s a.state

  pub counting-is : (budget : ℕ) → run_counting buf used words store budget ≡ counted_to P budget (counts h budget (record { state = s; store = store }))
  unfolding run_counting counting_by
  counting-is budget =
      ap (λ (m : ℕ). counting_by m (header_of buf used) (program_of buf used) words store budget)
      (none_first (counting_rows buf used words store) counting-passes)
      ∙ rw (program-header a.program, program-is a.program a.low)
      (ap (λ (t : State). counted_to P budget (counts h budget (record { state = t; store = store }))) (right-state (decode_state P words) s a.state))

  sound-program : SoundBlock (ok_of h) (ok-limit h) h.k P
  sound-program = (a.program.is_program.variables, a.program.is_program.literals)

  pub passes-sound : SoundConfig (ok_of h) h.k (expand_config (record { state = s; store = store }))
  passes-sound = counting-sound (ok_of h) (ok-limit h) h.k P 0 (record { state = s; store = store }) sound-program passes_of a.small a.count a.values

-- WHAT IT ANSWERS AND LEAVES: what it leaves passes again

module _ {h : Header} {P : Block} {buf : List ℕ} {used : ℕ} {words store : List ℕ} {s : State} (a : Passes h P buf used words store s) where
  abbrev c₀ : Counting
  c₀ = record { state = s; store = store }

  module _ (budget : ℕ) where
    abbrev ran : Ran Counting
    ran = counts h budget c₀

    answers : RanFrom (count_step (ok_of h)) no_bytes c₀ 0 budget (accepted budget ran 0) ran.state
    answers = run-answers (count_step (ok_of h)) no_bytes 0 c₀ budget

    -- the run of the expansion, with room for every configuration
    same-run : run_in (step (ok_of h)) no_record 0 budget (expand_config c₀) ≡ on_state expand_config ran
    unfolding room_for
    same-run = run-same (count_step (ok_of h)) (step (ok_of h)) expand_config (counting-step (ok_of h)) (λ b. true) budget c₀

    expands-so : RanFrom (step (ok_of h)) no_record (expand_config c₀) 0 budget (accepted budget ran 0) (expand_config ran.state)
    unfolding on_state
    expands-so =
        subst (λ (r : Ran Config). RanFrom (step (ok_of h)) no_record (expand_config c₀) 0 budget (accepted budget r 0) r.state) same-run
        (run-answers (step (ok_of h)) no_record 0 (expand_config c₀) budget)

    left-of : StateOf P 0 ran.state.state
    left-of = steps_of (ok_of h) P 0 ran.count c₀ ran.state (passes_of a) answers.stepped

    left-small : SmallCounting (ok_of h) (ok-limit h) h.k ran.state
    left-small =
        steps-small (ok_of h) (ok-limit h) h.k P (sound-program a) ran.count c₀ ran.state (passes_of a) (a.small, a.values)
        answers.stepped

    left-count : length ran.state.store ≡ h.k
    left-count = steps-size (ok_of h) ran.count h.k c₀ ran.state a.count answers.stepped

    left-passes : Passes h P buf used (encode_state P ran.state.state) ran.state.store ran.state.state
    left-passes = record {
      program = a.program;
      low = a.low;
      deep = a.deep;
      count = left-count;
      state = decode-encode P ran.state.state left-of a.deep;
      values = left-small.1;
      small = left-small.0;
    }

    short : block_size P ≤ 16384
    short = omega (arith, program-size a.program, length-encode_program h P, a.program.within, a.low)

    never : (ran.outcome ≡ no_room) → ⊥
    never e = let b = answers.no_rooms.0 e in omega (arith, b.2)

    counted : CountingRan h P buf used c₀ budget (counted_to P budget ran)
    unfolding counted_to
    counted =
        let c = ran.state in
        record {
          c = c;
          ran = answers;
          has_room = never;
          of = left-of;
          words = refl;
          values = refl;
          size = length-encode P c.state left-of a.deep;
          fit = words-pass (ok_of h) 4294967296 16384 (ok-word h a.program.header) (lit< tt) P c.state left-of left-small.0 short;
          expands = expands-so;
          finishes = Iff.trans expands-so.finishes (unfold expand_config in (step-finished (ok_of h) (expand_config c)));
          sound = passes-sound left-passes;
          small = left-small.0;
          reads = left-passes.state;
          again = counting-passes left-passes;
        }

    pub counting-ran : CountingRan h P buf used c₀ budget (run_counting buf used words store budget)
    counting-ran = subst (CountingRan h P buf used c₀ budget) (sym (counting-is a budget)) counted
