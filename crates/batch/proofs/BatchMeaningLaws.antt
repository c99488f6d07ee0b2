-- What a batch answers, proved.
use Prim.Native.Nat.{◌*◌, ◌+◌, ◌<◌, suc, zero, ℕ, ◌≤◌}
use mathlib.Core.Path.{ap, ap₂, refl, subst, sym, ◌∙◌, ◌≡◌}
use mathlib.Core.Logic.{inl, inr, ◌↔◌, ◌⊎◌}
use mathlib.Core.Bool.{Bool, false, true, ◌||◌}
use mathlib.Core.List.{List}
use lib.Dec.{leb}
use lib.ListN.{drop, length, replicate, take}
use borrow.Author.Tests.{leb-false, leb-true}
use native.Mathlib.Omega.{arith}
use Rattle.buffer.specs.Slice.{part}
use Rattle.buffer.proofs.SliceLaws.{length_part}
use Rattle.record.specs.Answers.{padded}
use Rattle.record.specs.declared.Header.{Header}
use Rattle.record.specs.Header.{encode_term, ok_of}
use Rattle.record.specs.Holding.{TermIn}
use Rattle.record.specs.Rows.{bad_buffer, header_of, too_long}
use Rattle.record.proofs.HeaderLaws.{ok-limit}
use Rattle.record.proofs.HeldLaws.{long-is}
use Rattle.record.proofs.HoldingLaws.{padded-term}
use Rattle.record.proofs.PaddedLaws.{take-padded}
use Rattle.record.proofs.RowMeaningLaws.{ltb_iff, or-iff, rows-mean}
use Rattle.rules.specs.FreeVariables.{all_vars}
use Rattle.rules.specs.Scope.{Within}
use Rattle.rules.specs.Sound.{SmallValues, SoundTerm}
use Rattle.rules.specs.Syntax.{Block, Term}
use Rattle.rules.specs.Translation.{translate}
use Rattle.rules.proofs.LiteralsLaws.{small-drop, small-take}
use Rattle.rules.proofs.SoundTermLaws.{sound-translate}
use Rattle.reducer.specs.RunReducer.{ReducerCall}
use Rattle.term.specs.Calls.{substitute_call, translate_call}
use Rattle.term.proofs.CallLaws.{translate-fits}
use Rattle.batch.specs.BatchMeaning.{Accepted, Alone, AnswerOf, BatchMeans, Lent, answer_at, batch_of, budget_at, store_at}
use Rattle.batch.specs.RunBatch.{BatchCall, answer_of, answers_of, bad_batch, jobs, run_alone, run_from}
use Rattle.batch.proofs.AnswersLaws.{answer-at, job_at, length_whole, row_fits}
use Rattle.batch.proofs.JobLaws.{alone-answer, alone-from, answer-length, from_is, substitutes}
use Rattle.batch.proofs.RunBatchLaws.{Lets, batch-iff, batch-lets, batch-takes, lets-accepted, longer-iff, values-iff}

-- THE ROWS

long-iff : (buf : List ℕ) → (too_long buf ≡ true) ↔ (16384 < length buf)
long-iff buf = subst (λ (b : Bool). (b ≡ true) ↔ (16384 < length buf)) (long-is buf) (ltb_iff 16384 (length buf))

none-or-many : (n : ℕ) → (Within 64 n → ⊥) ↔ ((n ≡ 0) ⊎ (64 < n))
none-or-many n = (to n, back)
  where
    above : (m : ℕ) → 1 ≤ m → (Within 64 m → ⊥) → (b : Bool) → leb m 64 ≡ b → (m ≡ 0) ⊎ (64 < m)
    above m l h true e = absurd (h (l, leb-true m 64 e))
    above m l h false e = inr (leb-false m 64 e)

    to : (m : ℕ) → (Within 64 m → ⊥) → (m ≡ 0) ⊎ (64 < m)
    to zero h = inl refl
    to (suc m) h = above (suc m) (omega arith) h (leb (suc m) 64) refl

    back : (n ≡ 0) ⊎ (64 < n) → Within 64 n → ⊥
    back (inl e) w = omega (arith, w.0)
    back (inr e) w = omega (arith, w.1)

fourteen-iff : (budgets : List ℕ) → (bad_batch budgets ≡ true) ↔ ((length budgets ≡ 0) ⊎ (64 < length budgets))
fourteen-iff budgets =
    let a = batch-iff budgets in
    let b = none-or-many (length budgets) in
    ((λ e. b.0 (a.0 e)), (λ e. a.1 (b.1 e)))

-- AN ACCEPTED BATCH

module _ {h : Header} {P : Block} {b : Lent} (a : Accepted h P b) where
  abbrev k : ℕ
  k = h.k

  -- the translated term
  abbrev T : Term
  T = translate k P

  abbrev bytes : List ℕ
  bytes = encode_term h T

  abbrev room : ℕ
  room = length b.work

  pub lets : Lets h P b.program b.used b.term b.work b.budgets b.values b.answers
  lets = batch-lets b.program b.used b.term b.work b.budgets b.values b.answers a.holds a.none

  pub call-is : batch_of b
      ≡ record { number = 0; used = length bytes; term = padded (length b.term) bytes; work = replicate room 0; answers = answers_of k bytes room (jobs k b.budgets b.values) }
  call-is = lets-accepted b.program b.used b.term b.work b.budgets b.values b.answers lets

  sound : SoundTerm (ok_of h) k all_vars T
  sound = sound-translate (ok_of h) (ok-limit h) k P a.holds.is_program.variables a.holds.is_program.literals

  -- the term in any buffer that begins with it
  term_in : (buf : List ℕ) → length bytes ≤ length buf → take (length bytes) buf ≡ bytes → TermIn all_vars h T buf (length bytes)
  term_in buf fits e = record { within = fits; header = a.holds.header; bytes = e; sound = sound }

  holds : TermIn all_vars h T (padded room bytes) (length bytes)
  holds = padded-term all_vars h T room a.holds.header sound

  -- job i
  module _ (i : ℕ) (here : i < length b.budgets) where
    pub store-size : length (store_at k b i) ≡ k
    unfolding part
    store-size = length_part b.values (i * k) k (omega (arith, row_fits i (length b.budgets) k here, lets.valued))

    pub store-small : SmallValues (ok_of h) (store_at k b i)
    store-small = small-take (ok_of h) k (drop (i * k) b.values) (small-drop (ok_of h) (i * k) b.values lets.small)

    -- its run, and its answer
    abbrev ran : ReducerCall
    ran = run_alone bytes room (record { store = store_at k b i; budget = budget_at b i })

    answered : AnswerOf k ran (answer_of k ran)
    answered = alone-answer holds (store_at k b i) store-size store-small room lets.fits_work lets.passed.low_work (budget_at b i)

    -- the same run by the calls, in any buffer as long that begins with the term
    module _ (buf : List ℕ) (long : length buf ≡ room) (begins : take (length bytes) buf ≡ bytes) where
      there : TermIn all_vars h T buf (length bytes)
      there = term_in buf (omega (arith, lets.fits_work)) begins

      same-run : run_from (substitute_call buf (length bytes) (store_at k b i)) (budget_at b i) ≡ ran
      same-run =
          from_is holds (store_at k b i) store-size store-small room lets.fits_work lets.passed.low_work buf long there (budget_at b i)
          ∙ sym (alone-from holds (store_at k b i) store-size store-small room lets.fits_work lets.passed.low_work (budget_at b i))

      alone-runs : Alone k buf (length bytes) (store_at k b i) (budget_at b i) (answer_of k ran)
      alone-runs = record {
        substitutes = substitutes holds (store_at k b i) store-size store-small room lets.fits_work lets.passed.low_work buf long there (budget_at b i);
        runs = subst (λ (r : ReducerCall). AnswerOf k r (answer_of k ran)) (sym same-run) answered;
      }

  -- where its answer stands
  answers-long : (i : ℕ) → i < length b.budgets → length (answer_of k (run_alone bytes room (job_at k b.budgets b.values i))) ≡ k + 2
  answers-long i here = answer-length holds (store_at k b i) (store-size i here) (store-small i here) room lets.fits_work lets.passed.low_work (budget_at b i)

  pub stands : (i : ℕ) (here : i < length b.budgets) → answer_at k b i ≡ answer_of k (ran i here)
  unfolding part
  stands i here =
      ap (λ (c : BatchCall). take (k + 2) (drop (i * (k + 2)) c.answers)) call-is
      ∙ answer-at k bytes room b.budgets b.values answers-long i here

  -- AFTERWARDS

  translates : translate_call b.program b.used b.term ≡ record { number = 0; used = (batch_of b).used; written = (batch_of b).term }
  translates =
      translate-fits a.holds lets.passed.low b.term lets.passed.low_term lets.fits_term
      ∙ ap (λ (c : BatchCall). record { number = 0; used = c.used; written = c.term }) (sym call-is)

  answers-fill : length (batch_of b).answers ≡ length b.answers
  answers-fill =
      ap (λ (c : BatchCall). length c.answers) call-is ∙ length_whole k bytes room b.budgets b.values answers-long ∙ sym lets.placed

  -- EACH JOB ALONE

  each-alone : (i : ℕ) → i < length b.budgets → (buf : List ℕ) → length buf ≡ room → take (batch_of b).used buf ≡ take (batch_of b).used (batch_of b).term
      → Alone k buf (batch_of b).used (store_at k b i) (budget_at b i) (answer_at k b i)
  each-alone i here buf long e =
      let begins : take (length bytes) buf ≡ bytes =
      subst (λ (c : BatchCall). take c.used buf ≡ take c.used c.term) call-is e ∙ take-padded (length b.term) bytes in
      subst (λ (l : List ℕ). Alone k buf (batch_of b).used (store_at k b i) (budget_at b i) l) (sym (stands i here))
      (subst (λ (c : BatchCall). Alone k buf c.used (store_at k b i) (budget_at b i) (answer_of k (ran i here))) (sym call-is) (alone-runs i here buf long begins))

-- ONE CHANGES NONE OF THE OTHERS

same_answer : {h : Header} {P : Block} {b c : Lent} (a : Accepted h P b) (d : Accepted h P c) → length b.work ≡ length c.work
    → (i j : ℕ) → i < length b.budgets → j < length c.budgets
    → store_at h.k b i ≡ store_at h.k c j → budget_at b i ≡ budget_at c j → answer_at h.k b i ≡ answer_at h.k c j
same_answer {h} {P} {b} {c} a d rooms i j here there stores budgets =
    let T : List ℕ = encode_term h (translate h.k P) in
    stands a i here
    ∙ ap (λ (n : ℕ). answer_of h.k (run_alone T n (record { store = store_at h.k b i; budget = budget_at b i }))) rooms
    ∙ ap₂ (λ (s : List ℕ) (n : ℕ). answer_of h.k (run_alone T (length c.work) (record { store = s; budget = n }))) stores budgets
    ∙ sym (stands d j there)

-- ALL OF IT

pub batch-means : BatchMeans
batch-means = record {
  one = λ program used term work. or-iff (bad_buffer program used) (too_long term || too_long work) (rows-mean.one program used) (or-iff (too_long term) (too_long work) (long-iff term) (long-iff work));
  fourteen = fourteen-iff;
  six = values-iff;
  ten = longer-iff;
  takes = λ b bytes z.
      let p = batch-takes b.program b.used b.term b.work b.budgets b.values b.answers bytes z in
      (header_of b.program b.used, p.0, record { holds = p.1; none = z });
  small = λ h P b a. (batch-lets b.program b.used b.term b.work b.budgets b.values b.answers a.holds a.none).small;
  translates = λ h P b a. translates a;
  clears = λ h P b a. ap (λ (c : BatchCall). c.work) (call-is a);
  answers = λ h P b a. answers-fill a;
  alone = λ h P b a. each-alone a;
  others = λ h P b c a d. same_answer a d;
}
