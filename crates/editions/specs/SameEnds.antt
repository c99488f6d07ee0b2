-- "THE SAME COUNTS AND END VALUES" (02 C-18) HOWEVER THE ORDERS ARE SPREAD: a program and a start store, and the same program moved with
-- that store, each at a start of demand 3, after any two lists of orders that need have nothing in common, in any buffers.
use Rattle.std.specs.Prelude.{ℕ, ◌≡◌, ◌⊎◌, List, take}
use Rattle.agreement.specs.Demand3.{Finished, FinishedTerm, HoldsBlock, Over, OverTerm, Start, start_world}
use Rattle.agreement.specs.Orders.{AllAllowed, Order, Stepper, World, play, reduces, steps, store_in}
use Rattle.record.specs.declared.Conversion.TheVariants.{ToFirst, ToSecond}
use Rattle.record.specs.declared.Header.{Header}
use Rattle.record.specs.Header.{converted_header, encode_program, encode_term}
use Rattle.record.specs.Program.{BlockWords}
use Rattle.record.specs.Term.{TermWords}
use Rattle.rules.specs.Syntax.{Block, Term}

-- A header of edition 1.
abbrev pub old : Header → Header
old h = converted_header ToFirst h

-- The same moved to edition 2.
abbrev pub new : Header → Header
new h = converted_header ToSecond h

-- A stepper in both worlds: what it holds in each, that equal totals leave it the same, and that both ends, finished or over, are at one total.
pub record StepperEnds (h : Header) (P : Block) (e : Stepper) (w v : World) : Type 0 where
  -- its block in the one and in the other; their numbers take 4 bytes, so that the bytes are no others'
  pub Q : Block
  pub R : Block
  pub holds : HoldsBlock (old h) P e (w (steps e)).memory Q
  pub holds_moved : HoldsBlock (new h) P e (v (steps e)).memory R
  pub words : BlockWords Q
  pub words_moved : BlockWords R
  -- at equal totals the same block and the same store
  pub at_total : (v (steps e)).total ≡ (w (steps e)).total → (R ≡ Q) × (store_in e (v (steps e)).memory ≡ store_in e (w (steps e)).memory)
  -- at an end both have the same total, and so the same store
  pub at_end : Finished Q ⊎ Over (old h) Q (store_in e (w (steps e)).memory) → Finished R ⊎ Over (new h) R (store_in e (v (steps e)).memory)
      → (v (steps e)).total ≡ (w (steps e)).total

-- The same of the reducer.
pub record ReducerEnds (h : Header) (w v : World) : Type 0 where
  pub t : Term
  pub u : Term
  pub holds : take (w reduces).memory.used (w reduces).memory.buf ≡ encode_term (old h) t
  pub holds_moved : take (v reduces).memory.used (v reduces).memory.buf ≡ encode_term (new h) u
  pub words : TermWords h.k t
  pub words_moved : TermWords h.k u
  -- at equal totals the same term, and as many variables replaced
  pub at_total : (v reduces).total ≡ (w reduces).total → (u ≡ t) × ((v reduces).memory.replaced ≡ (w reduces).memory.replaced)
  -- at an end both have the same total, and so the same numerals
  pub at_end : FinishedTerm t ⊎ OverTerm (old h) t → FinishedTerm u ⊎ OverTerm (new h) u → (v reduces).total ≡ (w reduces).total

-- For every such two starts and every two lists, w and v being the worlds after them.
unfoldable pub SameEnds : Type 0
SameEnds = (h : Header) (P : Block) (μ : List ℕ) (s : Start (old h) P μ) (r : Start (new h) P μ)
    → (os ps : List Order) → AllAllowed (old h) (encode_program (old h) P) os → AllAllowed (new h) (encode_program (new h) P) ps
    → (w v : World) → w ≡ play (start_world (old h) P μ s) os → v ≡ play (start_world (new h) P μ r) ps
    → ((e : Stepper) → StepperEnds h P e w v) × ReducerEnds h w v
