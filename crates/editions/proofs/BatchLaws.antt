-- Batches in both editions, proved.
use Prim.Native.Nat.{◌*◌, ◌+◌, ◌<◌, ℕ, ◌≤◌}
use mathlib.Core.Path.{ap, ap₂, refl, subst, sym, ◌∙◌, ◌≡◌}
use mathlib.Core.Logic.{inl, inr}
use mathlib.Core.Bool.{Bool, false, true, ◌||◌}
use mathlib.Core.List.{◌++◌, List, [], flat_map, ◌∷◌}
use lib.ListN.{drop, get_or, length, length-drop, replicate, take}
use lib.Seq.{length-take-le}
use native.Mathlib.Nat.{suc-mul}
use native.Mathlib.Omega.{arith}
use Rattle.batch.specs.BatchMeaning.{Accepted, Lent, answer_at, batch_of, budget_at, store_at}
use Rattle.batch.specs.RunBatch.{BatchCall, Job, answer_of, answers_of, bad_batch, bad_values, batch_rows, end_values, jobs, longer_than_either, run_alone}
use Rattle.batch.proofs.BatchMeaningLaws.{call-is, lets, stands, store-size, store-small}
use Rattle.batch.proofs.JobLaws.{alone-from, alone-ran, filled-accepted}
use Rattle.batch.proofs.RunBatchLaws.{batch-number, batch-refused}
use Rattle.record.specs.Answers.{Stored, padded}
use Rattle.record.specs.declared.Conversion.TheVariants.{ToFirst, ToSecond}
use Rattle.record.specs.declared.Header.{Header}
use Rattle.record.specs.Header.{encode_term, ok_of}
use Rattle.record.specs.Holding.{TermIn}
use Rattle.record.specs.Rows.{NoRow, Row, bad_buffer, first_row, limited_program_rows, row, too_long, values_above}
use Rattle.record.proofs.ConvertedLaws.{converted-ok, longer-output, same-values}
use Rattle.record.proofs.EditionLaws.{k-converted}
use Rattle.record.proofs.HeaderLaws.{ok-limit}
use Rattle.record.proofs.HeldLaws.{not-long}
use Rattle.record.proofs.HoldingLaws.{padded-term, program-k, program-passes, term-size}
use Rattle.record.proofs.PaddedLaws.{length-padded}
use Rattle.record.proofs.RowLaws.{first-applies, first-behind, first-skips, or-intro}
use Rattle.conversion.proofs.ConversionMeaningLaws.{term-longer}
use Rattle.reducer.specs.RunReducer.{ReducerCall, run_reducer}
use Rattle.reducer.specs.ReducerRan.{ReducerRan}
use Rattle.rules.specs.FreeVariables.{all_vars, no_vars}
use Rattle.rules.specs.Run.{Outcome, is_finished, is_over, no_room, refused, spent}
use Rattle.rules.specs.Sound.{SmallValues, SoundTerm}
use Rattle.rules.specs.Substitution.{from_store, substitute}
use Rattle.rules.specs.Syntax.{Block, Term}
use Rattle.rules.specs.Translation.{translate}
use Rattle.rules.proofs.LiteralsLaws.{small-drop, small-take}
use Rattle.rules.proofs.SoundTermLaws.{sound-translate}
use Rattle.run.specs.RunAnswer.{outcome_number}
use Rattle.term.specs.Calls.{result_call, translated}
use Rattle.term.proofs.CallLaws.{translated-is}
use Rattle.editions.specs.SameBatch.{JobHasRoom, SameBatch, SameBatches, SameJobs, SameLent}
use Rattle.editions.specs.SameEnds.{new, old}
use Rattle.editions.proofs.MovedLaws.{Programs, SomeTermIn, Terms, program-records, programs-of, records-k, records-longer, records-moved, records-ok, term-records}
use Rattle.editions.proofs.ReducerLaws.{ReducerSame, reducer-same, shows_same}
use Rattle.editions.proofs.RoomLaws.{RoomFor, RoomIn, Roomy, room-for}
use Rattle.editions.proofs.OrderLaws.{by_number, counts, used-accepted}

-- A JOB ALONE, in both editions: its store has k values that pass, and both buffers have room for the term

-- the end values are those that result shows where it is finished, and else zeros
ends_same : (k : ℕ) (o : Outcome) (r r' : ReducerCall) → ((store : List ℕ) → result_call r'.buf r'.answer.used store ≡ result_call r.buf r.answer.used store)
    → end_values k o r' ≡ end_values k o r
unfolding end_values
ends_same k is_finished r r' shows = ap (λ (s : Stored). s.store) (shows (replicate k 0))
ends_same k is_over r r' shows = refl
ends_same k no_room r r' shows = refl
ends_same k spent r r' shows = refl
ends_same k refused r r' shows = refl

module _ (h : Header) (t : Term) (store : List ℕ) (first : TermIn all_vars (old h) t (padded 0 (encode_term (old h) t)) (length (encode_term (old h) t)))
    (second : TermIn all_vars (new h) t (padded 0 (encode_term (new h) t)) (length (encode_term (new h) t)))
    (size : length store ≡ (old h).k) (values : SmallValues (ok_of (old h)) store) (budget : ℕ) where
  abbrev job : Job
  job = record { store = store; budget = budget }

  abbrev filled : Term
  filled = substitute (from_store store) t

  size' : length store ≡ (new h).k
  size' = size ∙ k-converted ToFirst h ∙ sym (k-converted ToSecond h)

  values' : SmallValues (ok_of (new h)) store
  values' = subst (λ (ok : ℕ → Bool). SmallValues ok store) (converted-ok ToFirst ToSecond h h) values

  module _ (room other : ℕ) (fits : length (encode_term (old h) t) ≤ room) (low : room ≤ 16384) (fits' : length (encode_term (new h) t) ≤ other) (low' : other ≤ 16384) where
    abbrev alone : ReducerCall
    alone = run_alone (encode_term (old h) t) room job

    abbrev alone' : ReducerCall
    alone' = run_alone (encode_term (new h) t) other job

    abbrev here : List ℕ
    here = padded room (encode_term (old h) filled)

    abbrev there : List ℕ
    there = padded other (encode_term (new h) filled)

    is : alone ≡ run_reducer here (length (encode_term (old h) t)) budget
    is = alone-from first store size values room fits low budget

    is' : alone' ≡ run_reducer there (length (encode_term (new h) t)) budget
    is' = alone-from second store size' values' other fits' low' budget

    ran : ReducerRan (old h) filled room budget alone
    ran = alone-ran first store size values room fits low budget

    ran' : ReducerRan (new h) filled other budget alone'
    ran' = alone-ran second store size' values' other fits' low' budget

    terms : Terms h filled here (length (encode_term (old h) t)) there (length (encode_term (new h) t))
    terms =
        let a = filled-accepted first store size values room fits low here refl in
        let b = filled-accepted second store size' values' other fits' low' there refl in
        record { first = (no_vars, a.holds); second = (no_vars, b.holds); low = a.short; low_other = b.short }

    size-filled : length here ≡ room
    size-filled = length-padded room (encode_term (old h) filled) (omega (arith, fits, term-size terms.first.1))

    size-filled' : length there ≡ other
    size-filled' = length-padded other (encode_term (new h) filled) (omega (arith, fits', term-size terms.second.1))

    module _ (roomy : RoomFor room other alone.answer.outcome alone'.answer.outcome) where
      -- the same of two calls that have room
      abbrev Same : ReducerCall → ReducerCall → Type 0
      Same r r' = RoomIn here there r.answer r'.answer → ReducerSame h here (length (encode_term (old h) t)) there (length (encode_term (new h) t)) r r'

      runs_same : ReducerSame h here (length (encode_term (old h) t)) there (length (encode_term (new h) t)) alone alone'
      runs_same =
          subst (λ (r : ReducerCall). Same r alone') (sym is)
          (subst (λ (r : ReducerCall). Same (run_reducer here (length (encode_term (old h) t)) budget) r) (sym (is' ∙ ap (λ (n : ℕ). run_reducer there n budget) (term-longer h t)))
          (reducer-same terms (length (encode_term (old h) t)) budget))
          (room-for (length here) (length there) (λ e. omega (arith, size-filled, size-filled')) roomy)

      -- both were accepted, so the used lengths are their own
      left : Terms h runs_same.held alone.buf alone.answer.used alone'.buf alone'.answer.used
      left =
          counts SomeTermIn (sym (used-accepted alone.answer.number alone.answer.used (length (encode_term (old h) t)) ran.ran.number))
          (sym (used-accepted alone'.answer.number alone'.answer.used (length (encode_term (new h) t)) ran'.ran.number)) runs_same.both

      pub job-same : (k : ℕ) → answer_of k alone' ≡ answer_of k alone
      unfolding answer_of
      job-same k =
          ap₂ (λ (o : Outcome) (n : ℕ). outcome_number o ∷ n ∷ end_values k o alone') runs_same.run.outcome runs_same.run.steps
          ∙ ap (λ (vs : List ℕ). outcome_number alone.answer.outcome ∷ alone.answer.steps ∷ vs) (ends_same k alone.answer.outcome alone alone' (λ store. shows_same left store))

-- ALL JOBS, in a buffer 4 bytes longer

module _ (h : Header) (t : Term) (first : TermIn all_vars (old h) t (padded 0 (encode_term (old h) t)) (length (encode_term (old h) t)))
    (second : TermIn all_vars (new h) t (padded 0 (encode_term (new h) t)) (length (encode_term (new h) t)))
    (room other : ℕ) (fits : length (encode_term (old h) t) ≤ room) (longer : other ≡ 4 + room) (low' : other ≤ 16384) where
  abbrev k : ℕ
  k = (old h).k

  jobs-same : (budgets values : List ℕ) → length values ≡ length budgets * k → SmallValues (ok_of (old h)) values
      → answers_of k (encode_term (new h) t) other (jobs k budgets values) ≡ answers_of k (encode_term (old h) t) room (jobs k budgets values)
  unfolding answers_of flat_map jobs
  jobs-same [] values size small = refl
  jobs-same (b ∷ bs) values size small =
      let many : length values ≡ length bs * k + k = size ∙ suc-mul (length bs) k in
      ap₂ (λ (x y : List ℕ). x ++ y)
      (job-same h t (take k values) first second (length-take-le k values (omega (arith, many))) (small-take (ok_of (old h)) k values small) b
      room other fits (omega arith) (omega (arith, fits, term-longer h t)) low' (inl longer) k)
      (jobs-same bs (drop k values) (omega (arith, many, length-drop k values)) (small-drop (ok_of (old h)) k values small))

-- THE ROWS OF BOTH

behind-fourteen : (one four : Bool) (rows more : List Row) → one ≡ false → NoRow rows → first_row (row 1 one ∷ row 14 four ∷ (rows ++ more)) ≡ first_row (row 14 four ∷ more)
behind-fourteen one true rows more e r = first-skips 1 one (row 14 true ∷ (rows ++ more)) e ∙ first-applies 14 true (rows ++ more) refl ∙ sym (first-applies 14 true more refl)
behind-fourteen one false rows more e r = first-behind (row 1 one ∷ row 14 false ∷ rows) more (e, (refl, r)) ∙ sym (first-skips 14 false more refl)

module _ (b c : Lent) (h : Header) (P : Block) (p : Programs h P b.program b.used c.program c.used) where
  -- the program's term, in both editions
  abbrev T : Term
  T = translate (old h).k P

  sound : SoundTerm (ok_of (old h)) (old h).k all_vars T
  sound = sound-translate (ok_of (old h)) (ok-limit (old h)) (old h).k P p.first.is_program.variables p.first.is_program.literals

  k-same : (new h).k ≡ (old h).k
  k-same = k-converted ToSecond h ∙ sym (k-converted ToFirst h)

  first-term : (n : ℕ) → TermIn all_vars (old h) T (padded n (encode_term (old h) T)) (length (encode_term (old h) T))
  first-term n = padded-term all_vars (old h) T n p.first.header sound

  second-term : (n : ℕ) → TermIn all_vars (new h) T (padded n (encode_term (new h) T)) (length (encode_term (new h) T))
  second-term n =
      padded-term all_vars (new h) T n p.second.header
      (subst (λ (k : ℕ). SoundTerm (ok_of (new h)) k all_vars T) (sym k-same) (subst (λ (ok : ℕ → Bool). SoundTerm ok (old h).k all_vars T) (converted-ok ToFirst ToSecond h h) sound))

  translated-first : translated b.program b.used ≡ encode_term (old h) T
  translated-first = translated-is p.first p.low [] (omega arith)

  translated-second : translated c.program c.used ≡ encode_term (new h) T
  translated-second = translated-is p.second p.low_other [] (omega arith) ∙ ap (λ (k : ℕ). encode_term (new h) (translate k P)) k-same

  module _ (s : SameLent b c) where
    low-term : length b.term ≤ 16384
    low-term = omega (arith, s.term, s.low_term)

    low-work : length b.work ≤ 16384
    low-work = omega (arith, s.work, s.low_work)

    longer : length (translated c.program c.used) ≡ 4 + length (translated b.program b.used)
    longer = ap length translated-second ∙ term-longer h T ∙ ap (λ (l : List ℕ). 4 + length l) (sym translated-first)

    rows_of : (l : Lent) → List Row
    rows_of l = batch_rows l.program l.used l.term l.work l.budgets l.values l.answers

    -- rows 6, 16 and 10 say the same of both
    abbrev behind : Bool → Bool → Bool → Bool → List Row
    behind four six sixteen ten = row 14 four ∷ row 6 six ∷ row 16 sixteen ∷ row 10 ten ∷ []

    six-same : bad_values c.program c.used c.budgets c.values c.answers ≡ bad_values b.program b.used b.budgets b.values b.answers
    unfolding bad_values
    six-same = rw (s.budgets, s.values, s.answers, sym (records-k (program-records p))) refl

    sixteen-same : values_above c.program c.used c.values ≡ values_above b.program b.used b.values
    sixteen-same = ap (values_above c.program c.used) s.values ∙ same-values c.program c.used b.program b.used b.values (sym (records-ok (program-records p)))

    ten-same : longer_than_either c.term c.work (translated c.program c.used) ≡ longer_than_either b.term b.work (translated b.program b.used)
    unfolding longer_than_either
    ten-same =
        ap₂ (λ (x y : Bool). x || y) (sym (longer-output b.term c.term (translated b.program b.used) (translated c.program c.used) s.term longer))
        (sym (longer-output b.work c.work (translated b.program b.used) (translated c.program c.used) s.work longer))

    rows_same : first_row (batch_rows c.program c.used c.term c.work c.budgets c.values c.answers)
        ≡ first_row (batch_rows b.program b.used b.term b.work b.budgets b.values b.answers)
    rows_same =
        let r = program-passes p.first p.low [] tt in
        let r' = program-passes p.second p.low_other [] tt in
        let one : (bad_buffer b.program b.used || (too_long b.term || too_long b.work)) ≡ false = or-intro r.0 (or-intro (not-long b.term low-term) (not-long b.work low-work)) in
        let one' : (bad_buffer c.program c.used || (too_long c.term || too_long c.work)) ≡ false = or-intro r'.0 (or-intro (not-long c.term s.low_term) (not-long c.work s.low_work)) in
        behind-fourteen _ (bad_batch c.budgets) (limited_program_rows c.program c.used []) _ one' r'.1
        ∙ ap₂ (λ (four six : Bool). first_row (behind four six (values_above c.program c.used c.values) (longer_than_either c.term c.work (translated c.program c.used)))) (ap bad_batch s.budgets) six-same
        ∙ ap₂ (λ (sixteen ten : Bool). first_row (behind (bad_batch b.budgets) (bad_values b.program b.used b.budgets b.values b.answers) sixteen ten)) sixteen-same ten-same
        ∙ sym (behind-fourteen _ (bad_batch b.budgets) (limited_program_rows b.program b.used []) _ one r.1)

    number_same : (batch_of c).number ≡ (batch_of b).number
    number_same =
        batch-number c.program c.used c.term c.work c.budgets c.values c.answers ∙ rows_same
        ∙ sym (batch-number b.program b.used b.term b.work b.budgets b.values b.answers)

    -- accepted
    module _ (z : (batch_of b).number ≡ 0) where
      first-accepted : Accepted (old h) P b
      first-accepted = record { holds = p.first; none = z }

      second-accepted : Accepted (new h) P c
      second-accepted = record { holds = p.second; none = number_same ∙ z }

      bytes-second : encode_term (new h) (translate (new h).k P) ≡ encode_term (new h) T
      bytes-second = ap (λ (k : ℕ). encode_term (new h) (translate k P)) k-same

      second_is : batch_of c
          ≡ record {
            number = 0;
            used = length (encode_term (new h) T);
            term = padded (length c.term) (encode_term (new h) T);
            work = replicate (length c.work) 0;
            answers = answers_of (old h).k (encode_term (new h) T) (length c.work) (jobs (old h).k b.budgets b.values);
          }
      second_is = call-is second-accepted ∙ rw (bytes-second, k-same, s.budgets, s.values) refl

      accepted-answers : (batch_of c).answers ≡ (batch_of b).answers
      accepted-answers =
          ap (λ (x : BatchCall). x.answers) second_is
          ∙ jobs-same h T (first-term 0) (second-term 0) (length b.work) (length c.work) (lets first-accepted).fits_work s.work s.low_work b.budgets b.values (lets first-accepted).valued (lets first-accepted).small
          ∙ sym (ap (λ (x : BatchCall). x.answers) (call-is first-accepted))

      fits-second : length (encode_term (new h) T) ≤ length c.term
      fits-second = omega (arith, (lets first-accepted).fits_term, term-longer h T, s.term)

      terms-left : Terms h T (batch_of b).term (batch_of b).used (batch_of c).term (batch_of c).used
      terms-left =
          subst (λ (x : BatchCall). Terms h T x.term x.used (batch_of c).term (batch_of c).used) (sym (call-is first-accepted))
          (subst (λ (y : BatchCall). Terms h T (padded (length b.term) (encode_term (old h) T)) (length (encode_term (old h) T)) y.term y.used) (sym second_is)
          (record {
            first = (all_vars, first-term (length b.term));
            second = (all_vars, second-term (length c.term));
            low = omega (arith, length-padded (length b.term) (encode_term (old h) T) (lets first-accepted).fits_term, low-term);
            low_other = omega (arith, length-padded (length c.term) (encode_term (new h) T) fits-second, s.low_term);
          }))

    refused-answers : ((batch_of b).number ≡ 0 → ⊥) → (batch_of c).answers ≡ (batch_of b).answers
    refused-answers n =
        let x : first_row (batch_rows b.program b.used b.term b.work b.budgets b.values b.answers) ≡ 0 → ⊥ =
        λ z. n (batch-number b.program b.used b.term b.work b.budgets b.values b.answers ∙ z) in
        ap (λ (y : BatchCall). y.answers) (batch-refused c.program c.used c.term c.work c.budgets c.values c.answers (λ z. x (sym rows_same ∙ z)))
        ∙ s.answers
        ∙ sym (ap (λ (y : BatchCall). y.answers) (batch-refused b.program b.used b.term b.work b.budgets b.values b.answers x))

    same-batch : SameBatch b c
    same-batch = record {
      number = number_same;
      answers = by_number (batch_of b).number accepted-answers refused-answers;
      used = λ z. records-longer (term-records (terms-left z));
      left = λ z. records-moved (term-records (terms-left z));
    }

pub same-batches : SameBatches
unfolding SameBatches
same-batches b c s = let q = programs-of b.program b.used c.program c.used s.bytes s.program in same-batch b c q.0 q.1 q.2 s

-- ONE JOB OF EACH, in any two buffers

outcome-first : (k : ℕ) (r : ReducerCall) (answer : List ℕ) → answer ≡ answer_of k r → (get_or answer 0 0 ≡ outcome_number no_room → ⊥) → Roomy r.answer.outcome
unfolding answer_of
outcome-first k r answer e n o = n (ap (λ (l : List ℕ). get_or l 0 0) e ∙ ap outcome_number o)

module _ (b c : Lent) (h : Header) (P : Block) (p : Programs h P b.program b.used c.program c.used) (z : (batch_of b).number ≡ 0) (y : (batch_of c).number ≡ 0)
    (i j : ℕ) (here : i < length b.budgets) (there : j < length c.budgets) where
  a : Accepted (old h) P b
  a = record { holds = p.first; none = z }

  d : Accepted (new h) P c
  d = record { holds = p.second; none = y }

  -- the job of b, run with either edition's term
  abbrev runs : List ℕ → ℕ → ReducerCall
  runs term room = run_alone term room (record { store = store_at (old h).k b i; budget = budget_at b i })

  abbrev T₀ : Term
  T₀ = T b c h P p

  module _ (stores : store_at (old h).k c j ≡ store_at (old h).k b i) (budgets : budget_at c j ≡ budget_at b i) where
    stands-second : answer_at (old h).k c j ≡ answer_of (old h).k (runs (encode_term (new h) T₀) (length c.work))
    stands-second =
        subst (λ (k : ℕ). answer_at k c j ≡ answer_of k (run_alone (encode_term (new h) (translate k P)) (length c.work) (record { store = store_at k c j; budget = budget_at c j }))) (k-same b c h P p) (stands d j there)
        ∙ ap₂ (λ (s : List ℕ) (n : ℕ). answer_of (old h).k (run_alone (encode_term (new h) T₀) (length c.work) (record { store = s; budget = n }))) stores budgets

    fits-there : length (encode_term (new h) T₀) ≤ length c.work
    fits-there = subst (λ (k : ℕ). length (encode_term (new h) (translate k P)) ≤ length c.work) (k-same b c h P p) (lets d).fits_work

    both-same : JobHasRoom (old h).k b i → JobHasRoom (old h).k c j → answer_at (old h).k c j ≡ answer_at (old h).k b i
    both-same room room' =
        stands-second
        ∙ job-same h T₀ (store_at (old h).k b i) (first-term b c h P p 0) (second-term b c h P p 0) (store-size a i here) (store-small a i here) (budget_at b i)
        (length b.work) (length c.work) (lets a).fits_work (lets a).passed.low_work fits-there (lets d).passed.low_work
        (inr (outcome-first (old h).k (runs (encode_term (old h) T₀) (length b.work)) (answer_at (old h).k b i) (stands a i here) room, outcome-first (old h).k (runs (encode_term (new h) T₀) (length c.work)) (answer_at (old h).k c j) stands-second room'))
        (old h).k
        ∙ sym (stands a i here)

pub same-jobs : SameJobs
unfolding SameJobs
same-jobs b c hb moved z y k is-k i j here there stores budgets room room' =
    let q = programs-of b.program b.used c.program c.used hb moved in
    let h : Header = q.0 in
    let e : k ≡ (old h).k = is-k ∙ program-k q.2.first in
    subst (λ (n : ℕ). store_at n c j ≡ store_at n b i → JobHasRoom n b i → JobHasRoom n c j → answer_at n c j ≡ answer_at n b i) (sym e)
    (λ s r r'. both-same b c h q.1 q.2 z y i j here there s budgets r r') stores room room'
