-- "THE THREE FIGURES ARE THOSE OF A RUN WITH NO LARGEST VALUE, no ceiling and no limit on buffers, and so of the real run wherever it
-- finishes" (02 C-19). The first half is `ForecastMeaning`; here is the second, of every start and every list of orders, refused ones
-- included, of either stepper and of the reducer.
use Rattle.std.specs.Prelude.{ℕ, ◌≤◌, ◌≡◌, ◌↔◌, List, length, take}
use Rattle.std.proofs.Math.Option.{some}
use Rattle.agreement.specs.Demand3.{Finished, FinishedTerm, HoldsBlock, Start, start_world}
use Rattle.agreement.specs.Orders.{AllAllowed, Memory, Order, Stepper, World, counted, play, recorded, reduces, steps, store_in}
use Rattle.agreement.specs.Together.{reducer_reads, stepper_reads}
use Rattle.forecast.specs.Forecast.{Forecast, forecast_call}
use Rattle.forecast.specs.ForecastMeaning.{FiguresOf, term_length}
use Rattle.record.specs.declared.Header.{Header}
use Rattle.record.specs.Header.{encode_program, encode_term, ok_of}
use Rattle.record.specs.Program.{BlockWords}
use Rattle.record.specs.Term.{TermWords}
use Rattle.rules.specs.Reduction.{reduce}
use Rattle.rules.specs.Rules.{at}
use Rattle.rules.specs.Run.{iterate, no_room}
use Rattle.rules.specs.Step.{step}
use Rattle.rules.specs.Substitution.{state_of}
use Rattle.rules.specs.Syntax.{Block, Term}

-- The stepper that holds m has room for a configuration of n bytes; the counting stepper has it for every one.
abbrev pub RoomFor : ℕ → (e : Stepper) → Memory (steps e) → Type 0
RoomFor n recorded m = n ≤ length m.buf
RoomFor n counted m = Unit {0}

-- A stepper in the world w, after a forecast f of the program P on the store μ.
pub record StepperForetold (h : Header) (P : Block) (μ : List ℕ) (f : Forecast) (e : Stepper) (w : World) : Type 0 where
  -- the block that it holds, whose numbers take 4 bytes, so that its bytes are no other's
  pub Q : Block
  pub holds : HoldsBlock h P e (w (steps e)).memory Q
  pub words : BlockWords Q
  -- what it holds is on the way: as many steps from the start as its total says
  pub on_the_way : iterate (step (ok_of h)) (w (steps e)).total (at P μ) ≡ some (at Q (store_in e (w (steps e)).memory))
  -- no further and no longer than foretold, and finished exactly at the foretold steps
  pub not_further : (w (steps e)).total ≤ f.steps
  pub not_longer : length (encode_program h Q) ≤ f.program_bytes
  pub finishes : Finished Q ↔ ((w (steps e)).total ≡ f.steps)
  -- WHEREVER IT FINISHES, the three figures are those of this run, under the header's ceiling
  pub figures : Finished Q → FiguresOf (ok_of h) h P μ f
  -- with room for the foretold length it never stands before a configuration that does not fit
  pub room : RoomFor f.program_bytes e (w (steps e)).memory → stepper_reads h e (w (steps e)).memory Q ≡ no_room → ⊥
  -- and where it is finished its buffer holds the foretold length: no less would have done
  pub needs : Finished Q → RoomFor f.program_bytes e (w (steps e)).memory

-- The reducer in the world w.
pub record ReducerForetold (h : Header) (P : Block) (μ : List ℕ) (f : Forecast) (w : World) : Type 0 where
  -- the term that it holds, whose numbers take 4 bytes
  pub t : Term
  pub holds : take (w reduces).memory.used (w reduces).memory.buf ≡ encode_term h t
  pub words : TermWords h.k t
  -- what it holds is on the way: as many reductions from the start as its total says
  pub on_the_way : iterate (reduce (ok_of h)) (w reduces).total (state_of h.k (at P μ)) ≡ some t
  -- no further and no longer than foretold, and finished exactly at the foretold steps
  pub not_further : (w reduces).total ≤ f.steps
  pub not_longer : term_length h t ≤ f.term_bytes
  pub finishes : FinishedTerm t ↔ ((w reduces).total ≡ f.steps)
  -- WHEREVER IT FINISHES, the three figures are those of this run
  pub figures : FinishedTerm t → FiguresOf (ok_of h) h P μ f
  -- with room for the foretold length it never stands before a term that does not fit
  pub room : f.term_bytes ≤ length (w reduces).memory.buf → reducer_reads h (w reduces).memory t ≡ no_room → ⊥
  -- and where it is finished its buffer holds the foretold length: no less would have done
  pub needs : FinishedTerm t → f.term_bytes ≤ length (w reduces).memory.buf

-- Every engine.
pub record RunsForetold (h : Header) (P : Block) (μ : List ℕ) (f : Forecast) (w : World) : Type 0 where
  pub steppers : (e : Stepper) → StepperForetold h P μ f e w
  pub reducer : ReducerForetold h P μ f w

-- For every start, every forecast of its program and store that is accepted, made in any buffer, and after every list of orders.
unfoldable pub Foretold : Type 0
Foretold = (h : Header) (P : Block) (μ : List ℕ) (s : Start h P μ)
    → (buf : List ℕ) (used : ℕ) → take used buf ≡ encode_program h P → (f : Forecast) → f ≡ forecast_call buf used μ → f.number ≡ 0
    → (os : List Order) → AllAllowed h (encode_program h P) os → RunsForetold h P μ f (play (start_world h P μ s) os)
