-- One law for each way out of the call's code: a row that the checker gives, row 7, and the run of what is accepted.
use Prim.Native.Nat.{ℕ, ◌≤◌}
use mathlib.Core.Path.{ap, refl, subst, sym, ◌∙◌, ◌≡◌}
use mathlib.Core.Bool.{Bool, false, not, true}
use mathlib.Core.List.{List, [], ◌∷◌}
use lib.ListN.{length}
use native.Mathlib.Omega.{arith}
use Rattle.buffer.specs.LittleEndian.{Bytes}
use Rattle.record.specs.Answers.{check_term}
use Rattle.record.specs.declared.Header.{Header}
use Rattle.record.specs.Header.{header_in}
use Rattle.record.specs.Holding.{TermIn}
use Rattle.record.specs.Rows.{bad_buffer, first_row, open_term, row}
use Rattle.record.proofs.CheckedRowLaws.{closed-term, term-accepted, term-accepts, term-refuses}
use Rattle.record.proofs.HoldingLaws.{term-as-read, term-open}
use Rattle.record.proofs.RowLaws.{first-applies}
use Rattle.rules.specs.FreeVariables.{all_vars, closed}
use Rattle.rules.specs.Syntax.{Term}
use Rattle.reducer.specs.declared.answer.Reduced.{Reduced}
use Rattle.run.specs.RunAnswer.{refusal}
use Rattle.reducer.specs.RunReducer.{ReducerCall, reducer_rows, run_reducer}
use Rattle.reducer.specs.Running.{Accepted, Gives, accepted_run}
use Rattle.reducer.proofs.RunReducerLaws.{reducer-is, reducer-refused}
use borrow.Author.Tests.{not-false}

-- A REFUSAL is by the first row that applies, and nothing has changed

-- The answer is the refusal n of the call, nothing is replaced, and the buffer is as it came.
abbrev Refuses : List ℕ → ℕ → ℕ → ℕ → Type 0
Refuses buf used budget n =
    (refusal n ≡ (run_reducer buf used budget).answer) × (0 ≡ (run_reducer buf used budget).replaced) × (buf ≡ (run_reducer buf used budget).buf)

refuses : (buf : List ℕ) (used budget n : ℕ) → first_row (reducer_rows buf used) ≡ n → (n ≡ 0 → ⊥) → Refuses buf used budget n
refuses buf used budget n e h =
    let is : run_reducer buf used budget ≡ record { answer = refusal n; replaced = 0; buf = buf } =
    reducer-refused buf used budget (λ z. h (sym e ∙ z)) ∙ ap (λ (m : ℕ). record { answer = refusal m; replaced = 0; buf = buf }) e in
    (ap (λ (c : ReducerCall). c.answer) (sym is), ap (λ (c : ReducerCall). c.replaced) (sym is), ap (λ (c : ReducerCall). c.buf) (sym is))

module _ (buf : List ℕ) (used budget n k : ℕ) (checked : check_term buf used ≡ record { number = n; k = k }) where
  -- rows 1 to 5 and 15
  pub refuses-record : (n ≡ 0 → ⊥) → Refuses buf used budget n
  refuses-record h = refuses buf used budget n (term-refuses buf used n k checked h (bad_buffer buf used) refl (row 7 (open_term buf used) ∷ [])) h

  -- the term that they let through
  pub takes : n ≡ 0 → Bytes buf → (hd : Header) → hd ≡ header_in buf → (length buf ≤ 16384) × ((t : Term) × TermIn all_vars hd t buf used)
  takes z bytes hd e =
      let a = term-accepted buf used n k checked z bytes in
      (a.0, (a.1.1, term-as-read a.1.3 hd e))

  -- row 7, by the test that no variable is free
  module _ (z : n ≡ 0) (bytes : Bytes buf) (hd : Header) (is : hd ≡ header_in buf) (b : Bool) (test : (t : Term) → TermIn all_vars hd t buf used → b ≡ closed t) where
    abbrev t : Term
    t = (takes z bytes hd is).1.0

    is-closed : b ≡ closed t
    is-closed = test t (takes z bytes hd is).1.1

    pub refuses-open : not b ≡ true → Refuses buf used budget 7
    refuses-open e =
        let a = takes z bytes hd is in
        let seven = first-applies 7 (open_term buf used) [] (term-open a.1.1 a.0 ∙ ap not (sym is-closed) ∙ e) in
        refuses buf used budget 7 (term-accepts buf used n k checked z (bad_buffer buf used) refl (row 7 (open_term buf used) ∷ []) ∙ seven) (λ q. omega arith)

    -- none
    pub accepts : not b ≡ false → (u : Term) × Accepted hd u buf used
    accepts e = (t, record { holds = closed-term (takes z bytes hd is).1.1 (sym is-closed ∙ not-false b e); short = (takes z bytes hd is).0 })

pub accepted-gives : {hd : Header} {t : Term} {buf : List ℕ} {used : ℕ} → Accepted hd t buf used → (budget : ℕ) (r : Reduced) (buf₁ : List ℕ)
    → Gives r buf₁ (accepted_run hd t (length buf) budget) → Gives r buf₁ (run_reducer buf used budget)
accepted-gives h budget r buf₁ = subst (Gives r buf₁) (sym (reducer-is h.holds h.short budget))
