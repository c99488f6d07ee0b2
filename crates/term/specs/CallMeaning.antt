-- WHAT THE FOUR CALLS ANSWER (demand 2), and what rows 9 and 10 say in plain facts.
use Rattle.std.specs.Prelude.{◌+◌, ◌<◌, ℕ, ◌≤◌, ◌≡◌, ◌↔◌, ◌⊎◌, true, List, map, length, take}
use Rattle.buffer.specs.LittleEndian.{Bytes}
use Rattle.record.specs.Answers.{Wrote, check_program, padded, too_short}
use Rattle.record.specs.declared.Header.{Header}
use Rattle.record.specs.Header.{encode_program, encode_term, ok_of}
use Rattle.record.specs.Holding.{IsProgram, ProgramIn, TermIn}
use Rattle.record.specs.Rows.{header_of}
use Rattle.rules.specs.FreeVariables.{Free, all_vars, no_vars}
use Rattle.rules.specs.Replaced.{references, replaced}
use Rattle.rules.specs.Sound.{SmallValues}
use Rattle.rules.specs.Substitution.{from_store, substitute}
use Rattle.rules.specs.Syntax.{Atom, Block, Term, num, tuple}
use Rattle.rules.specs.Translation.{translate}
use Rattle.term.specs.Calls.{no_source, read_back_call, result_call, substitute_call, translate_call}

-- What read-back answers and leaves where it gives the program P (01 "Translation and read-back"): P's record with zeros behind
-- it, which the checker accepts.
pub record GivesBack (h : Header) (P : Block) (out : List ℕ) (w : Wrote) : Type 0 where
  pub answers : w ≡ record { number = 0; used = length (encode_program h P); written = padded (length out) (encode_program h P) }
  pub holds : ProgramIn h P w.written w.used
  pub checked : check_program w.written w.used ≡ record { number = 0; k = h.k }

-- What rows 9 and 10 say, and what each call answers where rows 1 to 5 and 15 do not apply.
pub record CallsMean : Type 0 where
  -- ROW 9: no program translates to the term that the record holds
  pub nine : (h : Header) (t : Term) (src : List ℕ) (used : ℕ) → TermIn all_vars h t src used → length src ≤ 16384
      → (no_source src used ≡ true) ↔ ((P : Block) → IsProgram h P → translate h.k P ≡ t → ⊥)
  -- ROW 10: the answer is longer than the output buffer
  pub ten : (out answer : List ℕ) → (too_short out answer ≡ true) ↔ (length out < length answer)
  -- TRANSLATE: the record of the translation, or 10 where it does not fit
  pub translates : (h : Header) (P : Block) (src : List ℕ) (used : ℕ) (out : List ℕ) → ProgramIn h P src used → length src ≤ 16384 → length out ≤ 16384
      → length (encode_term h (translate h.k P)) ≤ length out
      → translate_call src used out ≡ record { number = 0; used = length (encode_term h (translate h.k P)); written = padded (length out) (encode_term h (translate h.k P)) }
  pub translates_not : (h : Header) (P : Block) (src : List ℕ) (used : ℕ) (out : List ℕ) → ProgramIn h P src used → length src ≤ 16384 → length out ≤ 16384
      → length out < length (encode_term h (translate h.k P)) → (translate_call src used out).number ≡ 10
  -- READ BACK: 0 or 10 exactly where some program translates to the term, and 9 exactly where none does
  pub reads_back : (h : Header) (t : Term) (src : List ℕ) (used : ℕ) (out : List ℕ) → TermIn all_vars h t src used → length src ≤ 16384 → length out ≤ 16384
      → (((read_back_call src used out).number ≡ 0) ⊎ ((read_back_call src used out).number ≡ 10)) ↔ ((P : Block) × IsProgram h P × (translate h.k P ≡ t))
  pub reads_back_not : (h : Header) (t : Term) (src : List ℕ) (used : ℕ) (out : List ℕ) → TermIn all_vars h t src used → length src ≤ 16384 → length out ≤ 16384
      → ((read_back_call src used out).number ≡ 9) ↔ ((P : Block) → IsProgram h P → translate h.k P ≡ t → ⊥)
  -- with a buffer as long as the term's own record, which is always enough, 0 exactly where some program translates to it
  pub reads_back_roomy : (h : Header) (t : Term) (src : List ℕ) (used : ℕ) (out : List ℕ) → TermIn all_vars h t src used → length src ≤ 16384 → length out ≤ 16384 → used ≤ length out
      → ((read_back_call src used out).number ≡ 0) ↔ ((P : Block) × IsProgram h P × (translate h.k P ≡ t))
  -- with room enough it gives that program, and else 10
  pub gives_back : (h : Header) (P : Block) (src : List ℕ) (used : ℕ) (out : List ℕ) → TermIn all_vars h (translate h.k P) src used → length src ≤ 16384 → length out ≤ 16384
      → length (encode_program h P) ≤ length out → GivesBack h P out (read_back_call src used out)
  pub gives_back_not : (h : Header) (P : Block) (src : List ℕ) (used : ℕ) (out : List ℕ) → TermIn all_vars h (translate h.k P) src used → length src ≤ 16384 → length out ≤ 16384
      → length out < length (encode_program h P) → (read_back_call src used out).number ≡ 10
  -- the program is never longer than its term
  pub no_longer : (h : Header) (P : Block) (src : List ℕ) (used : ℕ) → TermIn all_vars h (translate h.k P) src used → length (encode_program h P) ≤ used
  -- translated and read back: the same bytes; and read back and translated
  pub round_trip : (h : Header) (P : Block) (src : List ℕ) (used : ℕ) (out back : List ℕ) → ProgramIn h P src used → length src ≤ 16384 → length out ≤ 16384
      → length back ≤ 16384 → used ≤ length back → (translate_call src used out).number ≡ 0
      → read_back_call (translate_call src used out).written (translate_call src used out).used back ≡ record { number = 0; used = used; written = padded (length back) (take used src) }
  pub round_trip_back : (h : Header) (t : Term) (src : List ℕ) (used : ℕ) (out back : List ℕ) → TermIn all_vars h t src used → length src ≤ 16384 → length out ≤ 16384
      → length back ≤ 16384 → used ≤ length back → (read_back_call src used out).number ≡ 0
      → translate_call (read_back_call src used out).written (read_back_call src used out).used back ≡ record { number = 0; used = used; written = padded (length back) (take used src) }
  -- THE HEADER TRAVELS (02 C-17, "the ceiling travels through translation and read-back"): what is written has the k, the edition and the
  -- ceiling of what was lent
  pub travels : (src : List ℕ) (used : ℕ) (out : List ℕ) → Bytes src → (translate_call src used out).number ≡ 0
      → header_of (translate_call src used out).written (translate_call src used out).used ≡ header_of src used
  pub travels_back : (src : List ℕ) (used : ℕ) (out : List ℕ) → Bytes src → (read_back_call src used out).number ≡ 0
      → header_of (read_back_call src used out).written (read_back_call src used out).used ≡ header_of src used
  -- SUBSTITUTE: the term with the store substituted, whose values are not above the ceiling; no length changes
  pub substitutes : (h : Header) (t : Term) (buf : List ℕ) (used : ℕ) (store : List ℕ) → TermIn all_vars h t buf used → length buf ≤ 16384 → length store ≡ h.k
      → SmallValues (ok_of h) store
      → substitute_call buf used store
      ≡ record { number = 0; used = used; replaced = replaced (from_store store) t; written = padded (length buf) (encode_term h (substitute (from_store store) t)) }
  -- and its count in plain facts: the variable records of the term are those that it turned into numerals and those that are left
  pub replaces : (h : Header) (t : Term) (buf : List ℕ) (used : ℕ) (store : List ℕ) → TermIn all_vars h t buf used → length buf ≤ 16384 → length store ≡ h.k
      → SmallValues (ok_of h) store
      → references t ≡ (substitute_call buf used store).replaced + references (substitute (from_store store) t)
  -- RESULT: the numerals of a finished closed term; 7 of a term with a free variable, 8 of a closed one that is not finished
  pub results : (h : Header) (values buf : List ℕ) (used : ℕ) (store : List ℕ) → TermIn no_vars h (tuple (map num values)) buf used → length buf ≤ 16384 → length store ≡ h.k
      → result_call buf used store ≡ record { number = 0; store = values }
  pub results_open : (h : Header) (t : Term) (buf : List ℕ) (used : ℕ) (store : List ℕ) → TermIn all_vars h t buf used → length buf ≤ 16384 → length store ≡ h.k
      → ((x : ℕ) × Free x t) → (result_call buf used store).number ≡ 7
  pub results_unfinished : (h : Header) (t : Term) (buf : List ℕ) (used : ℕ) (store : List ℕ) → TermIn no_vars h t buf used → length buf ≤ 16384 → length store ≡ h.k
      → (((l : List Atom) × (t ≡ tuple l)) → ⊥) → (result_call buf used store).number ≡ 8
