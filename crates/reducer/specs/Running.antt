-- The reducer's run as it is made: what the rows let through, and the run of it.
use Rattle.std.specs.Prelude.{ℕ, ◌≤◌, ◌≡◌, List, Result, length}
use Rattle.record.specs.declared.Header.{Header}
use Rattle.record.specs.Holding.{TermIn}
use Rattle.rules.specs.FreeVariables.{no_vars}
use Rattle.rules.specs.Syntax.{Term}
use Rattle.run.specs.Represents.{as_run_answer}
use Rattle.record.specs.declared.refusal.Refusal.{Refusal}
use Rattle.reducer.specs.Represents.{answer_of, replaced_of}
use Rattle.reducer.specs.declared.answer.Reduced.{Reduced}
use Rattle.reducer.specs.RunReducer.{ReducerCall, reduced_to, reductions}

-- What rows 1 to 5, 15 and 7 let through: the record of the closed term t in the buffer.
pub record Accepted (h : Header) (t : Term) (buf : List ℕ) (used : ℕ) : Type 0 where
  pub holds : TermIn no_vars h t buf used
  pub short : length buf ≤ 16384

-- The run of what is accepted.
abbrev pub accepted_run : Header → Term → ℕ → ℕ → ReducerCall
accepted_run h t room budget = reduced_to h room budget t (reductions h room budget t)

-- The code's answer and buffer are those of a call.
abbrev pub Gives : Reduced → List ℕ → ReducerCall → Type 0
Gives r buf call = (as_run_answer r.end ≡ call.answer) × (r.replaced ≡ call.replaced) × (buf ≡ call.buf)

-- The same of a call that may be refused.
abbrev pub Answers : Result Reduced Refusal → List ℕ → ReducerCall → Type 0
Answers r buf call = (answer_of r ≡ call.answer) × (replaced_of r ≡ call.replaced) × (buf ≡ call.buf)
