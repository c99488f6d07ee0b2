-- Laws of the reducer's run: its number, a refusal, what its rows let through, and what an accepted run leaves.
use Prim.Native.Nat.{◌<◌, suc, zero, ℕ, ◌≤◌}
use mathlib.Core.Path.{ap, refl, subst, sym, ◌∙◌, ◌≡◌}
use mathlib.Core.Logic.Iff
use mathlib.Core.List.{List, [], ◌∷◌}
use mathlib.Core.Option.{some}
use lib.ListN.{length}
use native.Mathlib.Omega.{arith}
use Rattle.record.specs.declared.Header.{Header}
use Rattle.record.specs.Header.{encode_term, ok_of}
use Rattle.record.specs.Holding.{TermIn}
use Rattle.record.specs.Rows.{bad_buffer, first_row, open_term, row}
use Rattle.rules.specs.FreeVariables.{Vars, no_vars}
use Rattle.rules.specs.Reduction.{reduce}
use Rattle.rules.specs.Replaced.{replaced_next}
use Rattle.rules.specs.Run.{Ran, iterate}
use Rattle.rules.specs.Sound.{SoundTerm}
use Rattle.rules.specs.Syntax.{Term}
use Rattle.run.specs.RunAnswer.{refusal, room_for}
use Rattle.record.proofs.PaddedLaws.{length-padded}
use Rattle.record.proofs.HoldingLaws.{padded-term, term-header, term_is, term-open, term-passed, term-passes, term-size}
use Rattle.record.proofs.RowLaws.{first-none, none_first, not-intro}
use Rattle.rules.proofs.FinishedLaws.{reduce-finished}
use Rattle.rules.proofs.ReplacedLaws.{reductions-replacing, replacing-most}
use Rattle.rules.proofs.RunLaws.{run-reached}
use Rattle.rules.proofs.SoundTermLaws.{sound-closed, sound-reductions}
use Rattle.record.proofs.HeaderLaws.{length-encode_term, ok-limit}
use Rattle.record.proofs.SizeLaws.{replaced_next-most}
use Rattle.run.proofs.RanLaws.{run-answers, run-stays, run-way}
use Rattle.reducer.specs.ReducerRan.{ReducerRan}
use Rattle.reducer.specs.RunReducer.{reduced_to, reducer_by, reducer_rows, reductions, run_reducer}

-- NUMBER AND REFUSAL

reducer-by : (m : ℕ) (buf : List ℕ) (used budget : ℕ) → (reducer_by m buf used budget).answer.number ≡ m
unfolding reducer_by reduced_to
reducer-by zero buf used budget = refl
reducer-by (suc m) buf used budget = refl

pub reducer-number : (buf : List ℕ) (used budget : ℕ) → (run_reducer buf used budget).answer.number ≡ first_row (reducer_rows buf used)
unfolding run_reducer
reducer-number buf used budget = reducer-by (first_row (reducer_rows buf used)) buf used budget

refused-by : (m : ℕ) (buf : List ℕ) (used budget : ℕ) → (m ≡ 0 → ⊥) → reducer_by m buf used budget ≡ record { answer = refusal m; replaced = 0; buf = buf }
unfolding reducer_by
refused-by zero buf used budget h = absurd (h refl)
refused-by (suc m) buf used budget h = refl

pub reducer-refused : (buf : List ℕ) (used budget : ℕ) → (first_row (reducer_rows buf used) ≡ 0 → ⊥)
    → run_reducer buf used budget ≡ record { answer = refusal (first_row (reducer_rows buf used)); replaced = 0; buf = buf }
unfolding run_reducer
reducer-refused buf used budget h = refused-by (first_row (reducer_rows buf used)) buf used budget h

-- WHAT ITS ROWS LET THROUGH, of a buffer that holds a term's record

pub record ReducerTakes (buf : List ℕ) (used n : ℕ) : Type 0 where
  pub low : length buf ≤ 16384
  -- the used length is the record's own
  pub same : n ≡ used

pub reducer-takes : {S : Vars} {hd : Header} {t : Term} {buf : List ℕ} {used : ℕ} → TermIn S hd t buf used → (n : ℕ) → first_row (reducer_rows buf n) ≡ 0 → ReducerTakes buf used n
reducer-takes {S} {hd} {t} {buf} {used} h n e =
    let p = term-passed h n (bad_buffer buf n) (λ q. q) (row 7 (open_term buf n) ∷ []) (first-none (reducer_rows buf n) refl e) in
    record { low = p.low; same = p.same }

pub reducer-passes : {hd : Header} {t : Term} {buf : List ℕ} {used : ℕ} → TermIn no_vars hd t buf used → length buf ≤ 16384 → first_row (reducer_rows buf used) ≡ 0
reducer-passes {hd} {t} {buf} {used} h l =
    none_first (reducer_rows buf used)
    (term-passes h l (row 7 (open_term buf used) ∷ []) (term-open h l ∙ not-intro (sound-closed (ok_of hd) hd.k t h.sound), tt))

-- AN ACCEPTED RUN is the rules' run of the term that is lent

module _ {hd : Header} {t : Term} {buf : List ℕ} {used : ℕ} (h : TermIn no_vars hd t buf used) (l : length buf ≤ 16384) (budget : ℕ) where
  abbrev ran : Ran Term
  ran = reductions hd (length buf) budget t

  pub reducer-is : run_reducer buf used budget ≡ reduced_to hd (length buf) budget t ran
  unfolding run_reducer reducer_by
  reducer-is = ap (λ (m : ℕ). reducer_by m buf used budget) (reducer-passes h l) ∙ rw (term_is h l, term-header h) refl

  sound-left : SoundTerm (ok_of hd) hd.k no_vars ran.state
  sound-left =
      sound-reductions (ok_of hd) (ok-limit hd) hd.k ran.count t ran.state h.sound
      (run-reached (reduce (ok_of hd)) (room_for (encode_term hd) (length buf)) budget t)

  roomy : length (encode_term hd ran.state) ≤ length buf
  roomy = run-stays (reduce (ok_of hd)) (encode_term hd) (length buf) t budget (omega (arith, term-size h, h.within))

  -- a term on the way fits the buffer, and its reduction replaces at most a variable for every 8 bytes
  few : (i : ℕ) (u : Term) → i < ran.count → iterate (reduce (ok_of hd)) i t ≡ some u → replaced_next u ≤ 2048
  few i u b e =
      let fits = run-way (reduce (ok_of hd)) (encode_term hd) (length buf) t budget (omega (arith, term-size h, h.within)) i u (omega arith) e in
      omega (arith, replaced_next-most u, length-encode_term hd u, l)

  reduced : ReducerRan hd t (length buf) budget (reduced_to hd (length buf) budget t ran)
  unfolding reduced_to
  reduced =
      let answers = run-answers (reduce (ok_of hd)) (encode_term hd) (length buf) t budget in
      let counted = reductions-replacing (ok_of hd) (ok-limit hd) hd.k ran.count t ran.state h.sound answers.stepped in
      record {
        t = ran.state;
        ran = answers;
        replaces = counted;
        most = replacing-most (ok_of hd) 2048 counted few;
        bytes = refl;
        finishes = Iff.trans answers.finishes (reduce-finished (ok_of hd) ran.state);
        again = padded-term no_vars hd ran.state (length buf) h.header sound-left;
        same_room = length-padded (length buf) (encode_term hd ran.state) roomy;
      }

  pub reducer-ran : ReducerRan hd t (length buf) budget (run_reducer buf used budget)
  reducer-ran = subst (ReducerRan hd t (length buf) budget) (sym reducer-is) reduced
