-- WHAT AN ACCEPTED RUN OF THE REDUCER ANSWERS AND LEAVES (demand 2).
use Rattle.std.specs.Prelude.{◌*◌, ℕ, ◌≤◌, ◌≡◌, ◌↔◌, List, length}
use Rattle.record.specs.Answers.{padded}
use Rattle.record.specs.declared.Header.{Header}
use Rattle.record.specs.Header.{encode_term, ok_of}
use Rattle.record.specs.Holding.{TermIn}
use Rattle.rules.specs.FreeVariables.{no_vars}
use Rattle.rules.specs.Reduction.{reduce}
use Rattle.rules.specs.Replaced.{ReductionsReplacing}
use Rattle.rules.specs.Run.{is_finished}
use Rattle.rules.specs.Syntax.{Atom, Term, tuple}
use Rattle.run.specs.RanFrom.{RanFrom}
use Rattle.reducer.specs.RunReducer.{ReducerCall}

-- From the term t₀ with this header, in a buffer of `room` bytes.
pub record ReducerRan (h : Header) (t₀ : Term) (room budget : ℕ) (r : ReducerCall) : Type 0 where
  -- the term left
  pub t : Term
  pub ran : RanFrom (reduce (ok_of h)) (encode_term h) t₀ room budget r.answer t
  -- the variables replaced are those counted from the rules, over the reductions made
  pub replaces : ReductionsReplacing (ok_of h) t₀ r.answer.steps r.replaced t
  -- at most 2,048 for each of them, so below 2^43 where a budget has 32 bits
  pub most : r.replaced ≤ r.answer.steps * 2048
  -- it stands in the buffer with zeros behind it
  pub bytes : r.buf ≡ padded room (encode_term h t)
  -- finished: a tuple
  pub finishes : (r.answer.outcome ≡ is_finished) ↔ ((l : List Atom) × (t ≡ tuple l))
  -- it passes the checks again, closed, in a buffer of the same length
  pub again : TermIn no_vars h t r.buf r.answer.used
  pub same_room : length r.buf ≡ room
