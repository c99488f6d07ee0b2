-- A closed term in a buffer, as it stands between two reductions of the run.
use Rattle.std.specs.Prelude.{ℕ, ◌≤◌, ◌≡◌, List, length}
use Rattle.record.specs.Answers.{padded}
use Rattle.record.specs.declared.Header.{Header}
use Rattle.record.specs.Header.{encode_term}
use Rattle.record.specs.Holding.{TermIn}
use Rattle.rules.specs.FreeVariables.{no_vars}
use Rattle.rules.specs.Syntax.{Term}

-- The record of the term is the first `used` bytes of the buffer, and zeros are behind it.
pub record Stands (h : Header) (t : Term) (buf : List ℕ) (used : ℕ) : Type 0 where
  pub holds : TermIn no_vars h t buf used
  pub short : length buf ≤ 16384
  pub clear : buf ≡ padded (length buf) (encode_term h t)
