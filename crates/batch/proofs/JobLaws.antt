-- A JOB ALONE: what substituting leaves is accepted, and the reducer's run of it is the rules' run of the term with the store filled in.
use Prim.Native.Nat.{◌+◌, ◌-◌, ℕ, ◌≤◌}
use mathlib.Core.Path.{ap, ap₂, refl, subst, sym, ◌∙◌, ◌≡◌}
use mathlib.Core.Bool.{Bool, false, true}
use mathlib.Core.List.{◌++◌, List, [], append-nil, map, ◌∷◌}
use lib.Dec.{eqb}
use lib.ListN.{drop, drop_of_length-le, length, length-drop, length-map, length-replicate, replicate, set, take}
use lib.Seq.{length-take-le, take_at}
use borrow.Rule.Slice.PartMut.{put_mid}
use borrow.Author.Tests.{eqb-false, eqb-true}
use native.Mathlib.Omega.{arith}
use Rattle.buffer.specs.Slice.{part, put, zeros}
use Rattle.buffer.proofs.SliceLaws.{length-zeros}
use Rattle.record.specs.Answers.{Stored, padded}
use Rattle.record.specs.declared.Header.{Header}
use Rattle.record.specs.Header.{encode_term, ok_of}
use Rattle.record.specs.Holding.{TermIn}
use Rattle.record.proofs.HeaderLaws.{ok-limit}
use Rattle.record.proofs.HoldingLaws.{padded-term, term-size}
use Rattle.record.proofs.PaddedLaws.{length-padded}
use Rattle.rules.specs.FreeVariables.{all_vars, closed, closed_in, no_vars}
use Rattle.rules.specs.Reduction.{value_of}
use Rattle.rules.specs.Replaced.{replaced}
use Rattle.rules.specs.Run.{Outcome, is_finished, is_over, no_room, refused, spent}
use Rattle.rules.specs.Sound.{SmallValues, SoundTerm}
use Rattle.rules.specs.Substitution.{from_store, substitute}
use Rattle.rules.specs.Syntax.{Term, num, tuple}
use Rattle.rules.proofs.FreeVariablesLaws.{closed-nums}
use Rattle.rules.proofs.SoundTermLaws.{sound-closed, sound-from_store}
use Rattle.run.specs.declared.Outcome as code
use Rattle.run.specs.declared.Outcome.TheVariants.{Finished, NoRoom, Over, Refused, Spent}
use Rattle.run.specs.Represents.{as_outcome}
use Rattle.run.specs.RunAnswer.{RunAnswer, outcome_number}
use Rattle.reducer.specs.declared.answer.Reduced.{Reduced}
use Rattle.reducer.specs.ReducerRan.{ReducerRan}
use Rattle.reducer.specs.RunReducer.{ReducerCall, run_reducer}
use Rattle.reducer.specs.Running.{Accepted, Gives, accepted_run}
use Rattle.reducer.proofs.RunReducerLaws.{reducer-is, reducer-ran}
use Rattle.term.specs.Calls.{Substituted, result_call, substitute_call}
use Rattle.term.proofs.CallLaws.{substitute-gives, substitute-size}
use Rattle.term.proofs.CallMeaningLaws.{result-gives}
use Rattle.batch.specs.BatchMeaning.{AnswerOf}
use Rattle.batch.specs.Represents.{as_reducer_call}
use Rattle.batch.specs.RunBatch.{Job, answer_of, end_values, run_alone, run_from}
use Rattle.batch.specs.Running.{Given, Values}

-- THE RUN, of a store of k values, in any buffer of `room` bytes that begins with the term's record

module _ {h : Header} {t : Term} {term : List ℕ} {used : ℕ} (holds : TermIn all_vars h t term used) (store : List ℕ) (size : length store ≡ h.k) (values : SmallValues (ok_of h) store) where
  -- the term with the store filled in
  abbrev filled : Term
  filled = substitute (from_store store) t

  filled-sound : SoundTerm (ok_of h) h.k no_vars filled
  filled-sound = sound-from_store (ok_of h) (ok-limit h) h.k store size values all_vars no_vars t holds.sound

  filled-size : length (encode_term h filled) ≡ used
  filled-size = substitute-size holds store

  module _ (room : ℕ) (fits : used ≤ room) (low : room ≤ 16384) where
    filled-room : length (padded room (encode_term h filled)) ≡ room
    filled-room = length-padded room (encode_term h filled) (omega (arith, filled-size))

    filled_in : TermIn no_vars h filled (padded room (encode_term h filled)) used
    filled_in =
        subst (λ (n : ℕ). TermIn no_vars h filled (padded room (encode_term h filled)) n) filled-size
        (padded-term no_vars h filled room holds.header filled-sound)

    pub filled-accepted : (buf : List ℕ) → buf ≡ padded room (encode_term h filled) → Accepted h filled buf used
    filled-accepted buf e = record { holds = subst (λ (b : List ℕ). TermIn no_vars h filled b used) (sym e) filled_in; short = omega (arith, ap length e, filled-room) }

    module _ (buf : List ℕ) (long : length buf ≡ room) (begins : TermIn all_vars h t buf used) (budget : ℕ) where
      left : substitute_call buf used store ≡ record { number = 0; used = used; replaced = replaced (from_store store) t; written = padded room (encode_term h filled) }
      left =
          substitute-gives begins (omega arith) store size values
          ∙ ap (λ (n : ℕ). record { number = 0; used = used; replaced = replaced (from_store store) t; written = padded n (encode_term h filled) }) long

      pub substitutes : (substitute_call buf used store).number ≡ 0
      substitutes = ap (λ (s : Substituted). s.number) left

      pub from_is : run_from (substitute_call buf used store) budget ≡ run_reducer (padded room (encode_term h filled)) used budget
      from_is = ap (λ (s : Substituted). run_from s budget) left

    module _ (budget : ℕ) where
      abbrev job : Job
      job = record { store = store; budget = budget }

      own : TermIn all_vars h t (padded room (encode_term h t)) (length (encode_term h t))
      own = padded-term all_vars h t room holds.header holds.sound

      own-used : length (encode_term h t) ≡ used
      own-used = sym (term-size holds)

      pub alone-from : run_alone (encode_term h t) room job ≡ run_reducer (padded room (encode_term h filled)) used budget
      unfolding run_alone
      alone-from =
          ap (λ (n : ℕ). run_from (substitute_call (padded room (encode_term h t)) n store) budget) own-used
          ∙ from_is (padded room (encode_term h t)) (length-padded room (encode_term h t) (omega (arith, own-used)))
          (subst (λ (n : ℕ). TermIn all_vars h t (padded room (encode_term h t)) n) own-used own) budget

      pub alone-is : run_alone (encode_term h t) room job ≡ accepted_run h filled room budget
      alone-is =
          alone-from ∙ reducer-is filled_in (omega (arith, filled-room)) budget
          ∙ ap (λ (n : ℕ). accepted_run h filled n budget) filled-room

      pub alone-ran : ReducerRan h filled room budget (run_alone (encode_term h t) room job)
      alone-ran =
          subst (ReducerRan h filled room budget) (sym alone-from)
          (subst (λ (n : ℕ). ReducerRan h filled n budget (run_reducer (padded room (encode_term h filled)) used budget)) filled-room
          (reducer-ran filled_in (omega (arith, filled-room)) budget))

      -- a finished run leaves the numerals of its values
      pub alone-values : (run_alone (encode_term h t) room job).answer.outcome ≡ is_finished
          → (vs : List ℕ) × Values h (run_alone (encode_term h t) room job).buf (run_alone (encode_term h t) room job).answer.used vs
      unfolding closed closed_in
      alone-values e =
          let r = alone-ran in
          let o = r.finishes.0 e in
          let all : closed (tuple o.0) ≡ true = ap closed (sym o.1) ∙ sound-closed (ok_of h) h.k r.t r.again.sound in (
            map value_of o.0,
            subst (λ (u : Term). TermIn no_vars h u (run_alone (encode_term h t) room job).buf (run_alone (encode_term h t) room job).answer.used) (o.1 ∙ ap tuple (closed-nums o.0 all)) r.again,
          )

-- THE COPY of the record to the front of the reducer's buffer

pub copied-in : {h : Header} {t : Term} {term : List ℕ} {used : ℕ} → TermIn all_vars h t term used → (work work₁ : List ℕ) → used ≤ length work₁
    → work₁ ≡ put work 0 (part term 0 used) → TermIn all_vars h t work₁ used
unfolding put part
copied-in {h} {t} {term} {used} holds work work₁ fits e = record {
  within = fits;
  header = holds.header;
  bytes = ap (take used) e ∙ take_at (take used term) _ used (length-take-le used term holds.within) ∙ holds.bytes;
  sound = holds.sound;
}

-- WHAT THE CODE MAKES of a job

-- copied, and the store substituted: the term with the store filled in is accepted
module _ {h : Header} {t : Term} {term : List ℕ} {used : ℕ} {work : List ℕ} (g : Given h t term used work) (store : List ℕ) (size : length store ≡ h.k)
    (values : SmallValues (ok_of h) store) (copied : List ℕ) (long : length copied ≡ length work) (copies : copied ≡ put work 0 (part term 0 used)) where
  pub job-copied : TermIn all_vars h t copied used
  job-copied = copied-in g.holds work copied (omega (arith, g.fits)) copies

  pub job-accepted : (buf : List ℕ) → buf ≡ padded (length copied) (encode_term h (substitute (from_store store) t)) → Accepted h (substitute (from_store store) t) buf used
  job-accepted buf e = filled-accepted g.holds store size values (length copied) (omega (arith, g.fits)) (omega (arith, g.low)) buf e

pub gives-call : (r : Reduced) (buf : List ℕ) (c : ReducerCall) → Gives r buf c → as_reducer_call r buf ≡ c
gives-call r buf c g =
    ap (λ (a : RunAnswer). record { answer = a; replaced = r.replaced; buf = buf }) g.0
    ∙ ap (λ (n : ℕ). record { answer = c.answer; replaced = n; buf = buf }) g.1
    ∙ ap (λ (b : List ℕ). record { answer = c.answer; replaced = c.replaced; buf = b }) g.2

-- The values are to be had where the run is finished.
abbrev pub Finishes : Header → ReducerCall → Type 0
Finishes h r = r.answer.outcome ≡ is_finished → (vs : List ℕ) × Values h r.buf r.answer.used vs

module _ {h : Header} {t : Term} {term : List ℕ} {used : ℕ} {work : List ℕ} (g : Given h t term used work) (store : List ℕ) (size : length store ≡ h.k)
    (values : SmallValues (ok_of h) store) (budget : ℕ) (r : Reduced) (left-buf : List ℕ)
    (ran : Gives r left-buf (accepted_run h (substitute (from_store store) t) (length work) budget)) where
  made : as_reducer_call r left-buf ≡ run_alone (encode_term h t) (length work) (record { store = store; budget = budget })
  made = gives-call r left-buf _ ran ∙ sym (alone-is g.holds store size values (length work) g.fits g.low budget)

  pub job-finishes : Finishes h (as_reducer_call r left-buf)
  job-finishes = subst (Finishes h) (sym made) (alone-values g.holds store size values (length work) g.fits g.low budget)

  pub job-answers : (answer : List ℕ) → answer ≡ answer_of h.k (as_reducer_call r left-buf)
      → answer ≡ answer_of h.k (run_alone (take used term) (length work) (record { store = store; budget = budget }))
  job-answers answer e =
      e ∙ ap (answer_of h.k) made
      ∙ ap (λ (b : List ℕ). answer_of h.k (run_alone b (length work) (record { store = store; budget = budget }))) (sym g.holds.bytes)

-- THE ANSWER, by the outcome

finished-number : (o : Outcome) → outcome_number o ≡ 1 → o ≡ is_finished
unfolding outcome_number
finished-number is_finished e = refl
finished-number is_over e = absurd (omega arith)
finished-number no_room e = absurd (omega arith)
finished-number spent e = absurd (omega arith)
finished-number refused e = absurd (omega arith)

end-finished : (h : Header) (r : ReducerCall) → length r.buf ≤ 16384 → (o : Outcome) → o ≡ is_finished → (vs : List ℕ) → Values h r.buf r.answer.used vs
    → end_values h.k o r ≡ vs
unfolding end_values
end-finished h r low o e vs holds =
    ap (λ (q : Outcome). end_values h.k q r) e ∙ ap (λ (s : Stored). s.store) (result-gives holds low (replicate h.k 0) (length-replicate h.k 0))

end-zeros : (k : ℕ) (r : ReducerCall) (o : Outcome) → (outcome_number o ≡ 1 → ⊥) → end_values k o r ≡ zeros k
unfolding end_values outcome_number zeros
end-zeros k r is_finished n = absurd (n refl)
end-zeros k r is_over n = refl
end-zeros k r no_room n = refl
end-zeros k r spent n = refl
end-zeros k r refused n = refl

-- the values: those that result gives where the run is finished, and else zeros
pub values-finished : (h : Header) (r : ReducerCall) → length r.buf ≤ 16384 → r.answer.outcome ≡ is_finished → Finishes h r
    → (after : List ℕ) → ((vs : List ℕ) → Values h r.buf r.answer.used vs → after ≡ vs) → after ≡ end_values h.k r.answer.outcome r
values-finished h r low e f after q = let v = f e in q v.0 v.1 ∙ sym (end-finished h r low r.answer.outcome e v.0 v.1)

pub values-zeros : (k : ℕ) (r : ReducerCall) (o : code.Outcome) → (o ≡ Finished → ⊥) → end_values k (as_outcome o) r ≡ replicate k 0
unfolding end_values
values-zeros k r Finished n = absurd (n refl)
values-zeros k r Over n = refl
values-zeros k r NoRoom n = refl
values-zeros k r Spent n = refl
values-zeros k r Refused n = refl

-- outcome and count are written first, and then the values
pub front-put : (l : List ℕ) (o s : ℕ) → 2 ≤ length l → set (set l 0 o) 1 s ≡ o ∷ s ∷ drop 2 l
front-put [] o s h = absurd (omega arith)
front-put (x ∷ []) o s h = absurd (omega arith)
front-put (x ∷ y ∷ l) o s h = refl

pub answer-put : (k : ℕ) (r : ReducerCall) (l : List ℕ) (o s : ℕ) → 2 ≤ length l → o ≡ outcome_number r.answer.outcome → s ≡ r.answer.steps
    → (vs : List ℕ) → vs ≡ end_values k r.answer.outcome r
    → put_mid 2 (length (set (set l 0 o) 1 s) - 2) (set (set l 0 o) 1 s) vs ≡ answer_of k r
unfolding answer_of
answer-put k r l o s h eo es vs ev =
    let m : List ℕ = set (set l 0 o) 1 s in
    let none : drop (length m - 2) (drop 2 m) ≡ [] = drop_of_length-le (drop 2 m) {i = length m - 2} (omega (arith, length-drop 2 m)) in
    ap₂ (λ (a b : List ℕ). a ++ (vs ++ b)) (ap (take 2) (front-put l o s h)) none ∙ ap (λ (m : List ℕ). o ∷ s ∷ m) (append-nil vs) ∙ cc (eo, es, ev)

-- all of a list put over with zeros
pub cleared : (l after : List ℕ) (n : ℕ) → n ≡ length l → after ≡ put l 0 (zeros n) → after ≡ zeros (length l)
unfolding put
cleared l after n e f =
    f ∙ ap (λ (m : List ℕ). zeros n ++ m) (drop_of_length-le l {i = 0 + length (zeros n)} (omega (arith, length-zeros n))) ∙ append-nil (zeros n)
    ∙ ap zeros e

-- WHAT A JOB ALONE IS ANSWERED

module _ {h : Header} {t : Term} {term : List ℕ} {used : ℕ} (holds : TermIn all_vars h t term used) (store : List ℕ) (size : length store ≡ h.k) (values : SmallValues (ok_of h) store)
    (room : ℕ) (fits : used ≤ room) (low : room ≤ 16384) (budget : ℕ) where
  abbrev call : ReducerCall
  call = run_alone (encode_term h t) room (record { store = store; budget = budget })

  call-ran : ReducerRan h (substitute (from_store store) t) room budget call
  call-ran = alone-ran holds store size values room fits low budget

  call-low : length call.buf ≤ 16384
  call-low = omega (arith, call-ran.same_room)

  module _ (e : call.answer.outcome ≡ is_finished) where
    -- the values that result gives
    v : (vs : List ℕ) × Values h call.buf call.answer.used vs
    v = alone-values holds store size values room fits low budget e

    are : end_values h.k call.answer.outcome call ≡ v.0
    are = end-finished h call call-low call.answer.outcome e v.0 v.1

    results : (other : List ℕ) → length other ≡ h.k
        → result_call call.buf call.answer.used other ≡ record { number = 0; store = end_values h.k call.answer.outcome call }
    results other l = result-gives v.1 call-low other l ∙ ap (λ (s : List ℕ). record { number = 0; store = s }) (sym are)

    finished-size : length (end_values h.k call.answer.outcome call) ≡ h.k
    finished-size = ap length are ∙ sym (length-map v.0 num) ∙ v.1.sound.0

  others-zero : (call.answer.outcome ≡ is_finished → ⊥) → end_values h.k call.answer.outcome call ≡ replicate h.k 0
  unfolding zeros
  others-zero n = end-zeros h.k call call.answer.outcome (λ e. n (finished-number call.answer.outcome e))

  ends-size : length (end_values h.k call.answer.outcome call) ≡ h.k
  ends-size = go (eqb (outcome_number call.answer.outcome) 1) refl
    where
      go : (b : Bool) → eqb (outcome_number call.answer.outcome) 1 ≡ b → length (end_values h.k call.answer.outcome call) ≡ h.k
      go true e = finished-size (finished-number call.answer.outcome (eqb-true (outcome_number call.answer.outcome) 1 e))
      go false e =
          ap length (end-zeros h.k call call.answer.outcome (eqb-false (outcome_number call.answer.outcome) 1 e)) ∙ length-zeros h.k

  pub alone-answer : AnswerOf h.k call (answer_of h.k call)
  unfolding answer_of
  alone-answer = record {
    accepted = call-ran.ran.number;
    not_refused = call-ran.ran.not_refused;
    values = end_values h.k call.answer.outcome call;
    is = refl;
    size = ends-size;
    finished = results;
    unfinished = others-zero;
  }

  pub answer-length : length (answer_of h.k call) ≡ h.k + 2
  unfolding answer_of
  answer-length = omega (arith, ends-size)
