-- THE WRITING OUT, as a call: its number, a refusal, what it writes, and row 10.
use Prim.Native.Nat.{◌<◌, ◌≤◌, ℕ}
use mathlib.Core.Path.{ap, ap₂, refl, subst, sym, ◌∙◌, ◌≡◌}
use mathlib.Core.Logic.Iff
use mathlib.Core.Logic.{◌↔◌}
use mathlib.Core.Bool.{Bool, false, true, ◌||◌}
use mathlib.Core.List.{List, [], ◌∷◌}
use lib.ListN.{length}
use native.Mathlib.Omega.{arith}
use Rattle.record.specs.Answers.{padded, too_short}
use Rattle.record.specs.declared.Header.{Header}
use Rattle.record.specs.Header.{encode_program}
use Rattle.record.specs.Holding.{IsProgram, ProgramIn}
use Rattle.record.specs.Rows.{bad_buffer, first_row, program_rows, row, too_long}
use Rattle.record.proofs.AnswerLaws.{fits_out, out-fits, ten-iff, wrote-accepted, wrote-number, wrote-refused}
use Rattle.record.proofs.HeldLaws.{not-long, short-buffer}
use Rattle.record.proofs.HoldingLaws.{five-first, padded-program, program-header}
use Rattle.record.proofs.PaddedLaws.{length-padded}
use Rattle.record.proofs.RowLaws.{first-applies, first-behind, first-none, first-skips, none_first, none-split, or-false, or_right}
use Rattle.rules.specs.Syntax.{Block}
use Rattle.rules.proofs.Tests.{true-false}
use Rattle.counting.specs.Counting.{State, expand, expand_config}
use Rattle.counting.specs.CountingCall.{expand_call, expand_rows, expanded, state_rows}
use Rattle.counting.specs.CountingMeaning.{Passes}
use Rattle.counting.specs.CountingRan.{WroteExpansion}
use Rattle.counting.proofs.CountingRanLaws.{CountingTakes, counting-takes, lent_is, passes-sound, state-rows}

-- NUMBER AND REFUSAL

module _ (buf : List ℕ) (used : ℕ) (words store out : List ℕ) where
  pub expand-number : (expand_call buf used words store out).number ≡ first_row (expand_rows buf used words store out)
  unfolding expand_call
  expand-number = wrote-number (first_row (expand_rows buf used words store out)) (expanded buf used words) out

  pub expand-refused : (first_row (expand_rows buf used words store out) ≡ 0 → ⊥)
      → expand_call buf used words store out ≡ record { number = first_row (expand_rows buf used words store out); used = 0; written = out }
  unfolding expand_call
  expand-refused n = wrote-refused (first_row (expand_rows buf used words store out)) (expanded buf used words) out n

same_number : (n : ℕ) (b : Bool) → n ≡ first_row (row 10 b ∷ []) → (n ≡ 10) ↔ (b ≡ true)
same_number n true e = ((λ z. refl), (λ z. e ∙ first-applies 10 true [] refl))
same_number n false e = ((λ z. absurd (omega (arith, first-skips 10 false [] refl, none_first [] tt))), (λ z. true-false (sym z)))

-- WHAT IT WRITES, of what no other row refuses

module _ {h : Header} {P : Block} {buf : List ℕ} {used : ℕ} {words store : List ℕ} {s : State} (a : Passes h P buf used words store s) where
  expanded-is : expanded buf used words ≡ encode_program h (expand s)
  expanded-is = ap₂ (λ (x : Header) (t : State). encode_program x (expand t)) (program-header a.program) (lent_is a)

  module _ (out : List ℕ) (lo : length out ≤ 16384) where
    -- the first row that applies is row 10, if it does
    expand-first : first_row (expand_rows buf used words store out) ≡ first_row (row 10 (too_short out (expanded buf used words)) ∷ [])
    expand-first =
        five-first a.program a.low (bad_buffer buf used || too_long out) (or_right (bad_buffer buf used) (too_long out) (not-long out lo))
        (state_rows buf used words store (row 10 (too_short out (expanded buf used words)) ∷ []))
        ∙ first-behind (state_rows buf used words store []) (row 10 (too_short out (expanded buf used words)) ∷ []) (state-rows a [] tt)

    pub expand-ten : ((expand_call buf used words store out).number ≡ 10) ↔ (length out < length (encode_program h (expand s)))
    expand-ten =
        Iff.trans (same_number (expand_call buf used words store out).number (too_short out (encode_program h (expand s)))
        (expand-number buf used words store out ∙ expand-first ∙ ap (λ (l : List ℕ). first_row (row 10 (too_short out l) ∷ [])) expanded-is)) (ten-iff out (encode_program h (expand s)))

    pub expand-is : length (encode_program h (expand s)) ≤ length out
        → expand_call buf used words store out ≡ record { number = 0; used = length (encode_program h (expand s)); written = padded (length out) (encode_program h (expand s)) }
    unfolding expand_call
    expand-is f =
        wrote-accepted (first_row (expand_rows buf used words store out)) (expanded buf used words) out
        (expand-first ∙ none_first (row 10 (too_short out (expanded buf used words)) ∷ []) (ap (too_short out) expanded-is ∙ fits_out out (encode_program h (expand s)) f, tt))
        ∙ ap (λ (b : List ℕ). record { number = 0; used = length b; written = padded (length out) b }) expanded-is

  -- the expansion is a program under the same header
  pub expand-program : IsProgram h (expand s)
  unfolding expand_config
  expand-program = let c = passes-sound a in record { variables = c.variables.block; literals = c.literals }

  pub expand-writes : (out : List ℕ) → length out ≤ 16384 → length (encode_program h (expand s)) ≤ length out → WroteExpansion h s out (expand_call buf used words store out)
  expand-writes out lo f = subst (WroteExpansion h s out) (sym (expand-is out lo f)) (record {
    number = refl;
    used = refl;
    written = refl;
    program = padded-program h (expand s) (length out) a.program.header expand-program;
    room = length-padded (length out) (encode_program h (expand s)) f;
    low = lo;
  })

  -- and where it is accepted it fits
  pub expand-wrote : (out : List ℕ) → (expand_call buf used words store out).number ≡ 0 → WroteExpansion h s out (expand_call buf used words store out)
  expand-wrote out z =
      let r = first-none (expand_rows buf used words store out) refl (sym (expand-number buf used words store out) ∙ z) in
      let lo = short-buffer out (or-false (bad_buffer buf used) (too_long out) r.0).1 in
      let ten = (none-split (program_rows buf used (state_rows buf used words store [])) (row 10 (too_short out (expanded buf used words)) ∷ []) r.1).1 in
      expand-writes out lo (out-fits out (encode_program h (expand s)) (sym (ap (too_short out) expanded-is) ∙ ten.0))

-- WHAT ITS ROWS LET THROUGH, of a buffer that holds a program's record: what the run's do, and an output buffer that is not too long
pub expand-takes : {h : Header} {P : Block} {buf : List ℕ} {used : ℕ} → ProgramIn h P buf used → (n : ℕ) (words store out : List ℕ)
    → (expand_call buf n words store out).number ≡ 0 → CountingTakes h P buf used n words store × (length out ≤ 16384)
expand-takes {h} {P} {buf} {used} p n words store out z =
    let r = first-none (expand_rows buf n words store out) refl (sym (expand-number buf n words store out) ∙ z) in
    let one = or-false (bad_buffer buf n) (too_long out) r.0 in
    let q = none-split (program_rows buf n (state_rows buf n words store [])) (row 10 (too_short out (expanded buf n words)) ∷ []) r.1 in
    (counting-takes p n words store (one.0, q.0), short-buffer out one.1)
