-- EXAMPLES OF A FORECAST (02 C-19): "ADD on P1's store gives 18, 156 and 384", its refusals, and the last number of steps that 64 bits hold:
-- one list. `ForetoldExamplesLaws` has the one theorem, that the call answers what is expected of it.
use Rattle.std.specs.Prelude.{ℕ, List, [], ◌∷◌, length}
use Rattle.agreement.specs.Examples.{add, of_variables, with_ceiling}
use Rattle.forecast.specs.Forecast.{Forecast, forecast_call}
use Rattle.record.specs.declared.Header.{Header}
use Rattle.record.specs.Header.{encode_program}
use Rattle.rules.specs.Syntax.{Block, assign, empty, inc, loop, nest, upto, upto_var}

-- What is shown of a program: the length of its record, and what the call answers.
pub record Shown : Type 0 where
  pub used : ℕ
  pub answer : Forecast

-- A program and a store, and what is expected.
pub record Example : Type 0 where
  pub header : Header
  pub program : Block
  pub store : List ℕ
  pub expected : Shown

-- What is shown, the buffer being just the record.
unfoldable pub shown : Example → Shown
shown e =
    let r = encode_program e.header e.program in
    record { used = length r; answer = forecast_call r (length r) e.store }

-- An entry: header, program, store, used length, number, steps, and the bytes of the longest configuration and of the longest term.
abbrev pub foretells : Header → Block → List ℕ → ℕ → ℕ → ℕ → ℕ → ℕ → Example
foretells h P s u n c p t = record {
  header = h;
  program = P;
  store = s;
  expected = record { used = u; answer = record { number = n; steps = c; program_bytes = p; term_bytes = t } };
}

-- {for x1 := 1 to 3163932871 {for x1 := 1 to 1943440312 {}}; x1 := x1 + 1}: 18,446,744,073,709,551,615 steps.
abbrev pub last_number : Block
last_number = loop 1 (upto 3163932871) (loop 1 (upto 1943440312) empty empty) (assign 1 (inc 1) empty)

-- The list.
unfoldable pub examples : List Example
examples =
    foretells (of_variables 4) add (7 ∷ 3 ∷ 0 ∷ 0 ∷ []) 64 0 18 156 384
    -- under a ceiling of 10 each record is 4 bytes longer; under one of 9, where the run is over, the figures are still those of no ceiling
    ∷ foretells (with_ceiling 4 10) add (7 ∷ 3 ∷ 0 ∷ 0 ∷ []) 68 0 18 160 388
    ∷ foretells (with_ceiling 4 9) add (7 ∷ 3 ∷ 0 ∷ 0 ∷ []) 68 0 18 160 388
    -- P8, whose body assigns its bound; and a loop whose index is its bound
    ∷ foretells (of_variables 2) (loop 2 (upto_var 1) (assign 1 (inc 1) empty) empty) (2 ∷ 0 ∷ []) 48 18 0 0 0
    ∷ foretells (of_variables 1) (loop 1 (upto_var 1) empty empty) (9 ∷ []) 32 18 0 0 0
    -- the last number of steps that 64 bits hold; and one step more
    ∷ foretells (of_variables 1) last_number (0 ∷ []) 68 0 18446744073709551615 165426121092 302648988204
    ∷ foretells (of_variables 1) (nest empty last_number) (0 ∷ []) 72 19 0 0 0
    ∷ []
