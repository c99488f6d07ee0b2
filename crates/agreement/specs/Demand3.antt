-- DEMAND 3, WHOLE: no list of run orders, in any mixture, with any budgets, refused ones included, can part the engines. One
-- statement about an entire list. It is said of either stepper (02 C-14): of 01's, and of the one that carries loops as counts.
use Rattle.std.specs.Prelude.{◌<◌, ℕ, ◌≤◌, ◌≡◌, ◌↔◌, List, map, length, replicate, take}
use Rattle.buffer.specs.LittleEndian.{Bytes}
use Rattle.counting.specs.Counting.{State, expand}
use Rattle.counting.specs.CountingCall.{run_counting}
use Rattle.counting.specs.Depth.{nesting}
use Rattle.counting.specs.ReadState.{right}
use Rattle.counting.specs.StateWords.{decode_state}
use Rattle.record.specs.Answers.{Wrote, check_program}
use Rattle.record.specs.declared.Header.{Header}
use Rattle.record.specs.Header.{encode_program, encode_term, largest_of, ok_of}
use Rattle.record.specs.Program.{BlockWords}
use Rattle.record.specs.Rows.{header_of, program_of}
use Rattle.record.specs.Term.{TermWords}
use Rattle.reducer.specs.RunReducer.{run_reducer}
use Rattle.rules.specs.Literals.{Among}
use Rattle.rules.specs.Reduction.{reduce}
use Rattle.rules.specs.Step.{step}
use Rattle.rules.specs.Substitution.{from_store, substitute}
use Rattle.rules.specs.Syntax.{Atom, Block, Term, empty, num, over, tuple}
use Rattle.rules.specs.Translation.{translate}
use Rattle.stepper.specs.RunStepper.{run_stepper}
use Rattle.term.specs.Calls.{Substituted, substitute_call, translate_call}
use Rattle.agreement.specs.Orders.{AllAllowed, Memory, Order, RecordedMemory, ReducerMemory, Stepper, World, counted, play, recorded, reduces, steps, store_in}

-- THE START: the header, the program P, the store μ; the buffers that they are accepted in, and the stepper's and the reducer's buffers.
pub record Start (h : Header) (P : Block) (μ : List ℕ) : Type 0 where
  -- the program is accepted: it stands in some buffer, and the checker returns 0 and k. Its numbers and the ceiling take 4 bytes, so
  -- that its bytes are no other program's and no other header's
  pub check_buf : List ℕ
  pub check_used : ℕ
  pub checked : check_program check_buf check_used ≡ record { number = 0; k = h.k }
  pub program : take check_used check_buf ≡ encode_program h P
  pub program_words : BlockWords P
  pub ceiling_word : largest_of h < 4294967296
  -- the start store is accepted: substituting it in the program's term, which stands in some buffer, returns 0
  pub term_buf : List ℕ
  pub term_used : ℕ
  pub term : take term_used term_buf ≡ encode_term h (translate h.k P)
  pub substituted : (substitute_call term_buf term_used μ).number ≡ 0
  -- the stepper's buffer: any buffer, of any length, that begins with the program's record
  pub stepper_buf : List ℕ
  pub stepper_begins : take check_used stepper_buf ≡ encode_program h P
  -- the reducer's buffer: any that begins with the record of the program's term with the store substituted
  pub reducer_buf : List ℕ
  pub reducer_used : ℕ
  pub reducer_fits : reducer_used ≤ length reducer_buf
  pub reducer_begins : take reducer_used reducer_buf ≡ encode_term h (substitute (from_store μ) (translate h.k P))

-- Before the first order the totals are 0; 01's stepper holds m, the reducer n, and the counting stepper the same store and words that
-- are all 0.
unfoldable pub begun : RecordedMemory → ReducerMemory → World
begun m n (steps recorded) = record { memory = m; total = 0 }
begun m n (steps counted) = record { memory = record { words = replicate 189 0; store = m.store }; total = 0 }
begun m n reduces = record { memory = n; total = 0 }

-- At a start the used lengths are the records' own; what substituting the start store replaced is in no total.
abbrev pub start_world : (h : Header) (P : Block) (μ : List ℕ) → Start h P μ → World
start_world h P μ s =
    begun (record { buf = s.stepper_buf; used = s.check_used; store = μ }) (record { buf = s.reducer_buf; used = s.reducer_used; replaced = 0 })

-- READ FROM THE TWO STATES, whatever outcome was returned

-- Finished: the outermost block is empty; the term is a tuple.
abbrev pub Finished : Block → Type 0
Finished Q = Q ≡ empty

-- The same of the reducer's term.
abbrev pub FinishedTerm : Term → Type 0
FinishedTerm t = (l : List Atom) × (t ≡ tuple l)

-- Over: the next step would give a value too large, which is one above the ceiling (02 C-17).
abbrev pub Over : Header → Block → List ℕ → Type 0
Over h Q μ = step (ok_of h) (record { block = Q; store = μ }) ≡ over

-- The same of the reducer's term.
abbrev pub OverTerm : Header → Term → Type 0
OverTerm h t = reduce (ok_of h) t ≡ over

-- The block that a stepper holds: that of the record in its buffer; the expansion of the state of P that is in its words.
abbrev pub HoldsBlock : Header → Block → (e : Stepper) → Memory (steps e) → Block → Type 0
HoldsBlock h P recorded m Q = take m.used m.buf ≡ encode_program h Q
HoldsBlock h P counted m Q = (s : State) × (decode_state P m.words ≡ right s) × (Q ≡ expand s)

-- The stepper that holds m and the reducer that holds n agree: in their states, in being finished, in being over, and in the values that
-- they show (01 "Run orders").
pub record Agree (h : Header) (P : Block) (e : Stepper) (m : Memory (steps e)) (n : Memory reduces) : Type 0 where
  -- the stepper's block and the reducer's term; their numbers take 4 bytes, so that the bytes are no others'
  pub Q : Block
  pub t : Term
  pub stepper_holds : HoldsBlock h P e m Q
  pub reducer_holds : take n.used n.buf ≡ encode_term h t
  pub program_words : BlockWords Q
  pub term_words : TermWords h.k t
  -- (a) the reducer's record is, byte for byte, that of Q's translation with the store substituted
  pub states : take n.used n.buf ≡ encode_term h (substitute (from_store (store_in e m)) (translate h.k Q))
  -- (b), (c) both finished or neither, both over or neither
  pub finished_both : Finished Q ↔ FinishedTerm t
  pub over_both : Over h Q (store_in e m) ↔ OverTerm h t
  -- (d) finished, the stepper's store is the numerals of the reducer's tuple, in order from variable 1
  pub same_values : Finished Q → t ≡ tuple (map num (store_in e m))

-- In the world w: where the stepper's total is the reducer's, they agree.
abbrev pub Agreed : Header → Block → Stepper → World → Type 0
Agreed h P e w = (w (steps e)).total ≡ (w reduces).total → Agree h P e (w (steps e)).memory (w reduces).memory

-- For every start and after every list of orders.
unfoldable pub Agreement : Stepper → Type 0
Agreement e = (h : Header) (P : Block) (μ : List ℕ) (s : Start h P μ) (os : List Order) → AllAllowed h (encode_program h P) os
    → Agreed h P e (play (start_world h P μ s) os)

-- 01's demand: of its stepper and the reducer, whatever else is ordered between.
unfoldable pub Demand3 : Type 0
Demand3 = Agreement recorded

-- "The agreement with the reducer holds for either stepper" (02 C-14).
unfoldable pub Demand3Either : Type 0
Demand3Either = (e : Stepper) → Agreement e

-- BESIDE IT: what is refused in such a list, and that nothing else is

-- The orders that are refused in the world w, and those that are accepted (01 "Run orders"); those to the counting stepper being lent a
-- buffer that begins with the record of the program P.
pub record Refuses (h : Header) (P : Block) (w : World) : Type 0 where
  -- another used length than the stepper's last accepted order gave, whatever store is lent
  pub stepper_used : (used : ℕ) (xs : List ℕ) (budget : ℕ) → (used ≡ (w (steps recorded)).memory.used → ⊥)
      → (run_stepper (w (steps recorded)).memory.buf used xs budget).answer.number ≡ 0 → ⊥
  -- other than k values
  pub stepper_store : (used : ℕ) (xs : List ℕ) (budget : ℕ) → (length xs ≡ h.k → ⊥)
      → (run_stepper (w (steps recorded)).memory.buf used xs budget).answer.number ≡ 0 → ⊥
  -- a value above the ceiling (02 C-17)
  pub stepper_values : (used : ℕ) (xs : List ℕ) (budget : ℕ) → (n : ℕ) → Among n xs → largest_of h < n
      → (run_stepper (w (steps recorded)).memory.buf used xs budget).answer.number ≡ 0 → ⊥
  -- another used length than the record's own, whatever store is lent
  pub counting_used : (buf : List ℕ) (used : ℕ) (xs : List ℕ) (budget : ℕ) → take (length (encode_program h P)) buf ≡ encode_program h P
      → (used ≡ length (encode_program h P) → ⊥) → (run_counting buf used (w (steps counted)).memory.words xs budget).answer.number ≡ 0 → ⊥
  -- other than k values
  pub counting_store : (buf : List ℕ) (used : ℕ) (xs : List ℕ) (budget : ℕ) → take (length (encode_program h P)) buf ≡ encode_program h P
      → (length xs ≡ h.k → ⊥) → (run_counting buf used (w (steps counted)).memory.words xs budget).answer.number ≡ 0 → ⊥
  -- a value above the ceiling
  pub counting_values : (buf : List ℕ) (used : ℕ) (xs : List ℕ) (budget : ℕ) → take (length (encode_program h P)) buf ≡ encode_program h P
      → (n : ℕ) → Among n xs → largest_of h < n → (run_counting buf used (w (steps counted)).memory.words xs budget).answer.number ≡ 0 → ⊥
  -- another used length than the reducer's last accepted order gave
  pub reducer_used : (used budget : ℕ) → (used ≡ (w reduces).memory.used → ⊥) → (run_reducer (w reduces).memory.buf used budget).answer.number ≡ 0 → ⊥
  -- and no other order is, but where the buffer is above 16,384 bytes, and to the counting stepper where P is nested over 32 deep
  pub stepper_takes : (budget : ℕ) → length (w (steps recorded)).memory.buf ≤ 16384
      → (run_stepper (w (steps recorded)).memory.buf (w (steps recorded)).memory.used (w (steps recorded)).memory.store budget).answer.number ≡ 0
  pub counting_takes : (buf : List ℕ) (budget : ℕ) → take (length (encode_program h P)) buf ≡ encode_program h P → length buf ≤ 16384 → nesting P ≤ 32
      → (run_counting buf (length (encode_program h P)) (w (steps counted)).memory.words (w (steps counted)).memory.store budget).answer.number ≡ 0
  pub reducer_takes : (budget : ℕ) → length (w reduces).memory.buf ≤ 16384
      → (run_reducer (w reduces).memory.buf (w reduces).memory.used budget).answer.number ≡ 0

-- So it is for every start and after every list of orders.
unfoldable pub Demand3Refusals : Type 0
Demand3Refusals = (h : Header) (P : Block) (μ : List ℕ) (s : Start h P μ) (os : List Order) → AllAllowed h (encode_program h P) os
    → Refuses h P (play (start_world h P μ s) os)

-- FROM THE REAL CALLS: check a program, translate it, substitute a store; then any buffers that begin with the records that
-- they left, any list of orders, w the world after it, and either stepper.
unfoldable pub Demand3Calls : Type 0
Demand3Calls = (k : ℕ) (cb : List ℕ) (cu : ℕ) → Bytes cb → check_program cb cu ≡ record { number = 0; k = k }
    → (out : List ℕ) (t : Wrote) → t ≡ translate_call cb cu out → t.number ≡ 0
    → (μ : List ℕ) (s : Substituted) → s ≡ substitute_call t.written t.used μ → s.number ≡ 0
    → (sb : List ℕ) → take cu sb ≡ take cu cb
    → (rb : List ℕ) → s.used ≤ length rb → take s.used rb ≡ take s.used s.written
    → (os : List Order) → AllAllowed (header_of cb cu) (take cu cb) os
    → (w : World) → w ≡ play (begun (record { buf = sb; used = cu; store = μ }) (record { buf = rb; used = s.used; replaced = 0 })) os
    → (e : Stepper) → Agreed (header_of cb cu) (program_of cb cu) e w
