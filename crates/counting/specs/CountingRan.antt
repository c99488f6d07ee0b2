-- WHAT AN ACCEPTED RUN OF THE COUNTING STEPPER ANSWERS AND LEAVES, and what the writing out leaves (demand 2; 02 C-14).
use Rattle.std.specs.Prelude.{◌<◌, ◌≤◌, ℕ, ◌≡◌, ◌↔◌, List, [], length}
use Rattle.record.specs.Answers.{Wrote, padded}
use Rattle.record.specs.declared.Header.{Header}
use Rattle.record.specs.Header.{encode_program, ok_of}
use Rattle.record.specs.Holding.{ProgramIn}
use Rattle.record.specs.Rows.{NoRow}
use Rattle.rules.specs.Play.{Each}
use Rattle.rules.specs.Run.{is_finished, no_room}
use Rattle.rules.specs.Sound.{SoundConfig}
use Rattle.rules.specs.Step.{step}
use Rattle.rules.specs.Syntax.{Block, Config, empty}
use Rattle.run.specs.RanFrom.{RanFrom}
use Rattle.counting.specs.CountStep.{count_step}
use Rattle.counting.specs.Counting.{Counting, State, expand, expand_config}
use Rattle.counting.specs.CountingCall.{CountingCall, counting_rows, no_bytes}
use Rattle.counting.specs.ReadState.{right}
use Rattle.counting.specs.SmallState.{SmallState}
use Rattle.counting.specs.StateOf.{StateOf}
use Rattle.counting.specs.StateWords.{decode_state, encode_state}

-- Each of a list is below 4,294,967,296.
abbrev pub Words : List ℕ → Type 0
Words ws = Each (λ (w : ℕ). w < 4294967296) ws

-- A configuration with room for it, whatever its length.
abbrev pub no_record : Config → List ℕ
no_record c = []

-- From the state and store c₀ of the program P, lent in `buf`, under a budget.
pub record CountingRan (h : Header) (P : Block) (buf : List ℕ) (used : ℕ) (c₀ : Counting) (budget : ℕ) (r : CountingCall) : Type 0 where
  -- the state left, with its store
  pub c : Counting
  pub ran : RanFrom (count_step (ok_of h)) no_bytes c₀ 0 budget r.answer c
  -- it never answers no room
  pub has_room : r.answer.outcome ≡ no_room → ⊥
  -- the state is one of the program, and stands in the words; its store in the store
  pub of : StateOf P 0 c.state
  pub words : r.words ≡ encode_state P c.state
  pub values : r.store ≡ c.store
  pub size : length r.words ≡ 189
  pub fit : Words r.words
  -- THE SAME OF THE EXPANSION, by 01's steps, with room for every configuration; finished: its outermost block is empty
  pub expands : RanFrom (step (ok_of h)) no_record (expand_config c₀) 0 budget r.answer (expand_config c)
  pub finishes : (r.answer.outcome ≡ is_finished) ↔ (expand c.state ≡ empty)
  pub sound : SoundConfig (ok_of h) h.k (expand_config c)
  -- it passes the checks again, lent with the same program
  pub small : SmallState (ok_of h) c.state
  pub reads : decode_state P r.words ≡ right c.state
  pub again : NoRow (counting_rows buf used r.words r.store)

-- Of the program P and its state s, in an output buffer `out`.
pub record WroteExpansion (h : Header) (s : State) (out : List ℕ) (r : Wrote) : Type 0 where
  pub number : r.number ≡ 0
  -- the record of the expansion, with zeros behind it
  pub used : r.used ≡ length (encode_program h (expand s))
  pub written : r.written ≡ padded (length out) (encode_program h (expand s))
  -- 01's calls take it
  pub program : ProgramIn h (expand s) r.written r.used
  pub room : length r.written ≡ length out
  pub low : length out ≤ 16384
