-- One order to the reducer in both editions: refused in both, or the same run; and what result shows of both.
use Prim.Native.Nat.{◌+◌, ℕ, ◌≤◌}
use mathlib.Core.Path.{ap, ap₂, refl, subst, sym, ◌∙◌, ◌≡◌}
use mathlib.Core.Bool.{Bool, false, not, true}
use mathlib.Core.List.{List, [], ◌∷◌}
use lib.ListN.{length}
use Rattle.record.specs.Answers.{stored_by}
use Rattle.record.specs.declared.Header.{Header}
use Rattle.record.specs.Header.{encode_term, ok_of}
use Rattle.record.specs.Holding.{TermIn}
use Rattle.record.specs.Rows.{Row, bad_buffer, bad_k, bad_store, bad_term, first_row, open_term, row, term_above, term_outside, unfinished}
use Rattle.record.proofs.CheckedRowLaws.{closed-term}
use Rattle.record.proofs.ConvertedLaws.{same_store}
use Rattle.record.proofs.HoldingLaws.{term-first, term_is, term-open, term-unfinished}
use Rattle.record.proofs.RowLaws.{first-none}
use Rattle.conversion.proofs.ConversionMeaningLaws.{term-longer}
use Rattle.rules.specs.FreeVariables.{Vars, closed, no_vars}
use Rattle.rules.specs.Reduction.{reduce}
use Rattle.rules.specs.Replaced.{replaced_sum}
use Rattle.rules.specs.Syntax.{Term}
use Rattle.rules.proofs.Tests.{true-false}
use Rattle.reducer.specs.RunReducer.{ReducerCall, reduced_to, reducer_rows, run_reducer}
use Rattle.reducer.proofs.RunReducerLaws.{reducer-is, reducer-ran, reducer-refused, reducer-takes}
use Rattle.term.specs.Calls.{numerals, result_call, result_rows}
use Rattle.editions.proofs.MovedLaws.{SomeTermIn, Terms, records-k, records-longer, same_first, term-records}
use Rattle.editions.proofs.OrderLaws.{Done, Ended, OrderSame, ended_same, order_same}
use Rattle.editions.proofs.RoomLaws.{RoomIn}

-- What the call leaves: the count of variables replaced besides.
abbrev pub reducer_done : ReducerCall → Done ℕ
reducer_done r = record { answer = r.answer; buf = r.buf; besides = r.replaced }

abbrev pub ReducerSame : Header → List ℕ → ℕ → List ℕ → ℕ → ReducerCall → ReducerCall → Type 0
ReducerSame h buf used other n r r' = OrderSame SomeTermIn h buf used other n (reducer_done r) (reducer_done r')

-- That count is over the reductions made from the term t.
abbrev leaving : Term → (ℕ → Bool) → ℕ → Term → ℕ
leaving t ok i u = replaced_sum ok i t

-- an accepted run, in either edition
reducer-ended : {h : Header} {t : Term} {buf : List ℕ} {used : ℕ} → TermIn no_vars h t buf used → length buf ≤ 16384 → (budget : ℕ)
    → Ended SomeTermIn (λ u. u) reduce encode_term (leaving t) t budget h (length buf) (reducer_done (run_reducer buf used budget))
unfolding reduced_to
reducer-ended {h} {t} {buf} {used} p low budget =
    let ran = reducer-ran p low budget in
    let is = reducer-is p low budget in
    record {
      state = ran.t;
      long = _;
      is = ap (λ (x : ReducerCall). x.answer) is;
      stepped = ran.ran.stepped;
      again = (no_vars, ran.again);
      same_room = ran.same_room;
      leaves = subst (λ (x : ReducerCall). x.replaced ≡ replaced_sum (ok_of h) x.answer.steps t) (sym is) refl;
    }

not-open : (b : Bool) → not b ≡ false → b ≡ true
not-open true e = refl
not-open false e = true-false e

-- row 7 says whether the term is closed
own_row : {S : Vars} {h : Header} {t : Term} {buf : List ℕ} {used : ℕ} → TermIn S h t buf used → length buf ≤ 16384 → first_row (reducer_rows buf used) ≡ first_row (row 7 (not (closed t)) ∷ [])
own_row {S} {h} {t} {buf} {used} p low = term-first p low (bad_buffer buf used) refl (row 7 (open_term buf used) ∷ []) ∙ ap (λ (b : Bool). first_row (row 7 b ∷ [])) (term-open p low)

module _ {t : Term} {buf : List ℕ} {used : ℕ} {other : List ℕ} {n : ℕ} {h : Header} (p : Terms h t buf used other n) (m : ℕ) (budget : ℕ) where
  own-rows : first_row (reducer_rows buf used) ≡ first_row (reducer_rows other n)
  own-rows = own_row p.first.1 p.low ∙ sym (own_row p.second.1 p.low_other)

  -- what stands behind row 2
  abbrev rest : List ℕ → ℕ → List Row
  rest b u = row 3 (bad_k b u) ∷ row 4 (bad_term b u) ∷ row 5 (term_outside b u) ∷ row 15 (term_above b u) ∷ row 7 (open_term b u) ∷ []

  pub reducer-rows : bad_buffer buf m ≡ bad_buffer other (4 + m) → first_row (reducer_rows buf m) ≡ first_row (reducer_rows other (4 + m))
  reducer-rows one = same_first (term-records p) rest own-rows m one

  abbrev runs : List ℕ → ℕ → ReducerCall
  runs b u = run_reducer b u budget

  -- any order that has room
  pub reducer-same : RoomIn buf other (runs buf m).answer (runs other (4 + m)).answer → ReducerSame h buf used other n (runs buf m) (runs other (4 + m))
  reducer-same =
      order_same SomeTermIn reducer_rows (λ b u. reducer_done (runs b u)) 0 (λ b u z. ap reducer_done (reducer-refused b u budget z)) p (records-longer (term-records p)) own-rows
      (λ i z. (reducer-takes p.first.1 i z).same) (λ j z. (reducer-takes p.second.1 j z).same) accepts m
    where
      accepts : first_row (reducer_rows buf used) ≡ 0 → first_row (reducer_rows other n) ≡ 0
          → RoomIn buf other (runs buf used).answer (runs other n).answer → ReducerSame h buf used other n (runs buf used) (runs other n)
      accepts z z' room =
          let is-closed = not-open (closed t) (first-none (row 7 (not (closed t)) ∷ []) refl (sym (own_row p.first.1 p.low) ∙ z)).0 in
          ended_same SomeTermIn (λ u. u) reduce encode_term (leaving t) t budget h (λ u. term-longer h u) buf other
          (reducer-ended (closed-term p.first.1 is-closed) p.low budget) (reducer-ended (closed-term p.second.1 is-closed) p.low_other budget) room
          used n p.low p.low_other

-- WHAT RESULT SHOWS of both is the same

pub shows_same : {t : Term} {buf : List ℕ} {used : ℕ} {other : List ℕ} {n : ℕ} {h : Header} → Terms h t buf used other n → (store : List ℕ)
    → result_call other n store ≡ result_call buf used store
unfolding result_call
shows_same {t} {buf} {used} {other} {n} {h} p store =
    let behind : List ℕ → ℕ → List Row = λ (b : List ℕ) (u : ℕ). row 6 (bad_store b u store) ∷ row 7 (open_term b u) ∷ row 8 (unfinished b u) ∷ [] in
    let six : bad_store other n store ≡ bad_store buf used store = same_store other n buf used store (sym (records-k (term-records p))) in
    let seven : open_term other n ≡ open_term buf used = term-open p.second.1 p.low_other ∙ sym (term-open p.first.1 p.low) in
    let eight : unfinished other n ≡ unfinished buf used = term-unfinished p.second.1 p.low_other ∙ sym (term-unfinished p.first.1 p.low) in
    let rows : first_row (result_rows other n store) ≡ first_row (result_rows buf used store) =
    term-first p.second.1 p.low_other (bad_buffer other n) refl (behind other n)
    ∙ ap (λ (x : Bool). first_row (row 6 x ∷ row 7 (open_term other n) ∷ row 8 (unfinished other n) ∷ [])) six
    ∙ ap₂ (λ (x y : Bool). first_row (row 6 (bad_store buf used store) ∷ row 7 x ∷ row 8 y ∷ [])) seven eight
    ∙ sym (term-first p.first.1 p.low (bad_buffer buf used) refl (behind buf used)) in
    ap₂ (λ (i : ℕ) (u : Term). stored_by i (numerals u) store) rows (term_is p.second.1 p.low_other ∙ sym (term_is p.first.1 p.low))
