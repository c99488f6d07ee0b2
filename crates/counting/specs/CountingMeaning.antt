-- WHAT THE COUNTING STEPPER'S ROWS, STEPS AND CALLS MEAN, in plain facts (02 C-14, C-17).
use Rattle.std.specs.Prelude.{◌+◌, ◌-◌, ◌<◌, ◌≤◌, suc, ℕ, ◌≡◌, ◌↔◌, ◌⊎◌, true, List, [], ◌∷◌, get_or, length, replicate}
use Rattle.std.proofs.Math.Option.{some}
use Rattle.buffer.specs.LittleEndian.{Bytes}
use Rattle.record.specs.declared.Header.{Header}
use Rattle.record.specs.Header.{encode_program, largest_of, ok_of}
use Rattle.record.specs.Holding.{IsProgram, ProgramIn}
use Rattle.record.specs.Rows.{block_of, header_of}
use Rattle.rules.specs.Literals.{Among}
use Rattle.rules.specs.Reduction.{on_next}
use Rattle.rules.specs.Sound.{SmallValues}
use Rattle.rules.specs.Step.{step}
use Rattle.rules.specs.Syntax.{Block, assign, empty, loop, nest}
use Rattle.counting.specs.CountStep.{count_step}
use Rattle.counting.specs.Counting.{Counting, State, expand, expand_config, start}
use Rattle.counting.specs.CountingCall.{bad_state, expand_call, run_counting, state_above, too_deep}
use Rattle.counting.specs.CountingRan.{CountingRan, WroteExpansion}
use Rattle.counting.specs.Depth.{nesting}
use Rattle.counting.specs.Fault.{Fault, HasBody, InBody, OpensAs}
use Rattle.counting.specs.Held.{Held, Opening, at_place, block, canonical, loop_in_play, none, nothing, numbers, opening_of, phase_of, progress_of, runs}
use Rattle.counting.specs.ReadState.{right}
use Rattle.counting.specs.SmallState.{SmallState, counts_in, counts_of}
use Rattle.counting.specs.StateOf.{StateOf}
use Rattle.counting.specs.StateWords.{decode_state, held_at, held_from, packed, unpacked}

-- One of 02's conditions of refusal 13 holds of the words: of whether a sum waits, the entries and the place in the outermost block.
abbrev pub Refused13 : Block → List ℕ → Type 0
Refused13 P words = Fault (get_or words 1 0) (held_from words 3 31) P 0 (get_or words 0 0)

-- The words hold the state s of the program: their numbers, 0 for what a state does not hold, are those of s.
pub record HeldIn (P : Block) (words : List ℕ) (s : State) : Type 0 where
  pub of : StateOf P 0 s
  pub same : numbers s P 0 ≡ canonical (unpacked words)

-- What rows 1 to 5, 12, 15, 6, 13 and 16 let through: the program P in the buffer, k values, and words that hold its state s; no value
-- of the store, no top count and no waiting sum is above the ceiling.
pub record Passes (h : Header) (P : Block) (buf : List ℕ) (used : ℕ) (words store : List ℕ) (s : State) : Type 0 where
  pub program : ProgramIn h P buf used
  pub low : length buf ≤ 16384
  pub deep : nesting P ≤ 32
  pub count : length store ≡ h.k
  pub state : decode_state P words ≡ right s
  pub values : SmallValues (ok_of h) store
  pub small : SmallState (ok_of h) s

-- What stands first in what is left of a block, as something that may be held open.
abbrev pub opened_by : Block → Opening
opened_by empty = nothing
opened_by (assign x e r) = nothing
opened_by (loop x n q r) = loop_in_play
opened_by (nest q r) = block

-- THE CONDITIONS OF 13 BY WHAT THE NUMBERS STAND FOR: of an entry that is held, of one that runs or does not, of its body's progress
pub record NumbersMean : Type 0 where
  -- the list of entries ends before the first that holds nothing open
  pub ends : (ws : List ℕ) (i n : ℕ) → opening_of (get_or ws i 0) ≡ nothing → held_from ws i (suc n) ≡ []
  pub goes_on : (ws : List ℕ) (i n : ℕ) → (opening_of (get_or ws i 0) ≡ nothing → ⊥) → held_from ws i (suc n) ≡ held_at ws i ∷ held_from ws (i + 6) n
  -- what is held open is what stands there
  pub opens : (what : ℕ) (r : Block) → (opening_of what ≡ nothing → ⊥) → OpensAs what r ↔ (opening_of what ≡ opened_by r)
  -- there is body progress where the loop runs, and not at 0; none is held; a place in the body is held
  pub has_body : (h : Held) → HasBody h ↔ ((phase_of h.running ≡ runs) × (1 ≤ h.reached))
  pub no_progress : (h : Held) → (h.progress ≡ 0) ↔ (progress_of h.progress ≡ none)
  pub in_body : (h : Held) → InBody h ↔ (HasBody h × ((p : ℕ) × (progress_of h.progress ≡ at_place p)))
  pub place : (h : Held) (p : ℕ) → progress_of h.progress ≡ at_place p → h.progress - 2 ≡ p

pub record CountingMeans : Type 0 where
  -- what the numbers stand for
  pub numbers : NumbersMean
  -- 12: blocks and loops nested over 32 deep, of the program that the record holds
  pub twelve : (buf : List ℕ) (used : ℕ) (P : Block) → block_of buf used ≡ some P → (too_deep buf used ≡ true) ↔ (32 < nesting P)
  -- 13: one of 02's conditions, and no other; where none of them holds, the words hold a state of the program, and one only
  pub thirteen : (buf : List ℕ) (used : ℕ) (P : Block) (words : List ℕ) → block_of buf used ≡ some P → (bad_state buf used words ≡ true) ↔ Refused13 P words
  pub no_state : (P : Block) (words : List ℕ) → Refused13 P words ↔ ((s : State) → HeldIn P words s → ⊥)
  pub reads : (P : Block) (words : List ℕ) (s : State) → (decode_state P words ≡ right s) ↔ HeldIn P words s
  -- 16: a value above the ceiling in the store, or a top count or waiting sum above it, of the state that the words hold; these are
  -- the words' own, of the entries held open as a loop, and of a sum where one waits
  pub sixteen : (buf : List ℕ) (used : ℕ) (P : Block) (words store : List ℕ) (s : State) → block_of buf used ≡ some P → HeldIn P words s
      → (state_above buf used words store ≡ true) ↔ ((n : ℕ) × (Among n store ⊎ Among n (counts_in s)) × (largest_of (header_of buf used) < n))
  pub counts : (P : Block) (words : List ℕ) (s : State) → HeldIn P words s → counts_in s ≡ counts_of (unpacked words)
  -- all zeros is the start, which stands for the program itself
  pub start_reads : (P : Block) → decode_state P (replicate 189 0) ≡ right (start P)
  pub start_expands : (P : Block) → expand (start P) ≡ P
  -- one step of a state is one step of its expansion
  pub steps : (h : Header) (c : Counting) → step (ok_of h) (expand_config c) ≡ on_next expand_config (count_step (ok_of h) c)
  -- every state that passes the checks expands to a configuration of 01
  pub expands : (h : Header) (P : Block) (buf : List ℕ) (used : ℕ) (words store : List ℕ) (s : State) → Passes h P buf used words store s → IsProgram h (expand s)
  -- THE RUN: what is accepted, of bytes, and what it answers and leaves
  pub takes : (buf : List ℕ) (used : ℕ) (words store : List ℕ) (budget : ℕ) → Bytes buf
      → ((run_counting buf used words store budget).answer.number ≡ 0) ↔ ((P : Block) × (s : State) × Passes (header_of buf used) P buf used words store s)
  pub runs : (h : Header) (P : Block) (buf : List ℕ) (used : ℕ) (words store : List ℕ) (s : State) (budget : ℕ) → Passes h P buf used words store s
      → CountingRan h P buf used (record { state = s; store = store }) budget (run_counting buf used words store budget)
  -- words handed out are 0 where a state holds nothing, and 1 where they are only not 0; an order of no steps makes those lent so
  pub hands_out : (h : Header) (P : Block) (buf : List ℕ) (used : ℕ) (words store : List ℕ) (s : State) (budget : ℕ) → Passes h P buf used words store s
      → let r = run_counting buf used words store budget in r.words ≡ packed (canonical (unpacked r.words))
  pub no_steps : (h : Header) (P : Block) (buf : List ℕ) (used : ℕ) (words store : List ℕ) (s : State) → Passes h P buf used words store s
      → let r = run_counting buf used words store 0 in (r.words ≡ packed (canonical (unpacked words))) × (r.store ≡ store)
  -- THE WRITING OUT: accepted exactly where it fits
  pub writes : (h : Header) (P : Block) (buf : List ℕ) (used : ℕ) (words store : List ℕ) (s : State) (out : List ℕ) → Passes h P buf used words store s
      → length out ≤ 16384 → length (encode_program h (expand s)) ≤ length out → WroteExpansion h s out (expand_call buf used words store out)
  pub ten : (h : Header) (P : Block) (buf : List ℕ) (used : ℕ) (words store : List ℕ) (s : State) (out : List ℕ) → Passes h P buf used words store s
      → length out ≤ 16384 → ((expand_call buf used words store out).number ≡ 10) ↔ (length out < length (encode_program h (expand s)))
