-- The batch as it is run: what the rows let through, and what each job is given.
use Rattle.std.specs.Prelude.{ℕ, ◌≤◌, List, map, length}
use Rattle.record.specs.declared.Header.{Header}
use Rattle.record.specs.Holding.{ProgramIn, TermIn}
use Rattle.rules.specs.FreeVariables.{all_vars, no_vars}
use Rattle.rules.specs.Scope.{Within}
use Rattle.rules.specs.Syntax.{Block, Term, num, tuple}

-- What rows 1, 14, 2 to 5 and 15 let through: the record of the program P in a buffer, two buffers that are not too long, and 1 to 64 budgets.
pub record Passed (h : Header) (P : Block) (program : List ℕ) (used : ℕ) (term work budgets : List ℕ) : Type 0 where
  pub holds : ProgramIn h P program used
  pub low : length program ≤ 16384
  pub low_term : length term ≤ 16384
  pub low_work : length work ≤ 16384
  pub many : Within 64 (length budgets)

-- What each job is given: the record of the term t, and a buffer that has room for it.
pub record Given (h : Header) (t : Term) (term : List ℕ) (used : ℕ) (work : List ℕ) : Type 0 where
  pub holds : TermIn all_vars h t term used
  pub fits : used ≤ length work
  pub low : length work ≤ 16384

-- The record in the buffer is that of the tuple of these values.
abbrev pub Values : Header → List ℕ → ℕ → List ℕ → Type 0
Values h buf used vs = TermIn no_vars h (tuple (map num vs)) buf used
