-- THE PROVED EXAMPLES P1 to P9 (01 "Bench loads"), with what 01 says of each, and two of edition 2 (02 C-17): one list. `ExamplesLaws`
-- has the one theorem, that what an example shows is what is expected of it, on the rules themselves and over bytes through the calls.
use Rattle.std.specs.Prelude.{ℕ, cond, List, [], ◌∷◌, eqb, length, replicate, take}
use Rattle.record.specs.Answers.{Checked, Stored, Wrote, check_program, padded}
use Rattle.record.specs.declared.Edition.TheVariants.{First, Second}
use Rattle.record.specs.declared.Header.{Header}
use Rattle.record.specs.Header.{encode_program, encode_term, ok_of}
use Rattle.reducer.specs.RunReducer.{ReducerCall, run_reducer}
use Rattle.rules.specs.Reduction.{reduce}
use Rattle.rules.specs.Run.{Outcome, Ran, is_finished, is_over, no_room, refused, spent}
use Rattle.rules.specs.Step.{step}
use Rattle.rules.specs.Substitution.{state_of}
use Rattle.rules.specs.Syntax.{Block, Config, Term, assign, dec, empty, inc, lit, loop, nest, upto, upto_var, var}
use Rattle.run.specs.RunAnswer.{run_in}
use Rattle.stepper.specs.RunStepper.{StepperCall, run_stepper}
use Rattle.stepping.specs.State.{config_bytes}
use Rattle.term.specs.Calls.{Substituted, numerals, result_call, substitute_call, translate_call}

-- What a run ends in: outcome, steps, and the values shown (the stepper's store; a finished term's numerals).
pub record Ending : Type 0 where
  pub outcome : Outcome
  pub steps : ℕ
  pub values : List ℕ

-- An example, and what 01 says of it. Where the lengths of the two buffers are given, they are 01's.
pub record Example : Type 0 where
  pub header : Header
  pub program : Block
  pub store : List ℕ
  pub stepper_room : ℕ
  pub reducer_room : ℕ
  -- the lengths of the two records, and their bytes where 01 prints them
  pub program_length : ℕ
  pub term_length : ℕ
  pub program_printed : List ℕ
  pub term_printed : List ℕ
  -- the ending of both engines; the values are the stepper's store
  pub ending : Ending

-- The values that a reducer that ends so shows: none where it is not finished.
unfoldable pub shown_by : Outcome → List ℕ → List ℕ
shown_by is_finished values = values
shown_by is_over values = []
shown_by no_room values = []
shown_by spent values = []
shown_by refused values = []

-- The budget of each of these runs (01 "Bench loads", last part).
unfoldable pub budget : ℕ
budget = 1000000

-- ON THE RULES THEMSELVES

-- What a run of the stepper's rules ends in.
unfoldable pub stepper_ending : Ran Config → Ending
stepper_ending r = record { outcome = r.outcome; steps = r.count; values = r.state.store }

-- The same of the reducer's.
unfoldable pub reducer_ending : Ran Term → Ending
reducer_ending r = record { outcome = r.outcome; steps = r.count; values = numerals r.state }

-- The configuration at the start: the program and the store.
unfoldable pub config_of : Example → Config
config_of l = record { block = l.program; store = l.store }

-- OVER BYTES: check, translate, substitute, run both, result

-- What the check answers, the two records' lengths, their bytes where 01 prints them, and what the four runs end in.
pub record Shown : Type 0 where
  pub checked : Checked
  pub program_length : ℕ
  pub term_length : ℕ
  pub program_printed : List ℕ
  pub term_printed : List ℕ
  pub rule_stepper : Ending
  pub rule_reducer : Ending
  pub byte_stepper : Ending
  pub byte_reducer : Ending

-- The program's record.
unfoldable pub program_bytes_of : Example → List ℕ
program_bytes_of l = encode_program l.header l.program

-- What translate answers, the reducer's buffer being its output buffer.
unfoldable pub translated_of : Example → Wrote
translated_of l = translate_call (program_bytes_of l) (length (program_bytes_of l)) (replicate l.reducer_room 0)

-- What substitute answers, of what translate wrote and of the store.
unfoldable pub substituted_of : Example → Wrote → Substituted
substituted_of l t = substitute_call t.written t.used l.store

-- What a call of the stepper ends in.
unfoldable pub ending_of_stepper : StepperCall → Ending
ending_of_stepper r = record { outcome = r.answer.outcome; steps = r.answer.steps; values = r.store }

-- The numerals that result copies, where it accepts.
unfoldable pub accepted_values : Stored → List ℕ
accepted_values s = shown_by (cond (eqb s.number 0) is_finished refused) s.store

-- The same of the reducer: its values are those that result copies of the term left.
unfoldable pub ending_of_reducer : List ℕ → ReducerCall → Ending
ending_of_reducer store r = record { outcome = r.answer.outcome; steps = r.answer.steps; values = accepted_values (result_call r.buf r.answer.used store) }

-- What is shown, by what translate and substitute answered.
unfoldable pub shown_from : Example → Wrote → Substituted → Shown
shown_from l t s = record {
  checked = check_program (program_bytes_of l) (length (program_bytes_of l));
  program_length = length (program_bytes_of l);
  term_length = t.used;
  program_printed = take (length l.program_printed) (program_bytes_of l);
  term_printed = take (length l.term_printed) t.written;
  rule_stepper = stepper_ending (run_in (step (ok_of l.header)) (config_bytes l.header) l.stepper_room budget (config_of l));
  rule_reducer = reducer_ending (run_in (reduce (ok_of l.header)) (encode_term l.header) l.reducer_room budget (state_of l.header.k (config_of l)));
  byte_stepper = ending_of_stepper (run_stepper (padded l.stepper_room (program_bytes_of l)) (length (program_bytes_of l)) l.store budget);
  byte_reducer = ending_of_reducer l.store (run_reducer s.written s.used budget);
}

-- What is shown, on the rules themselves and over bytes through the calls.
unfoldable pub shown : Example → Shown
shown l = shown_from l (translated_of l) (substituted_of l (translated_of l))

-- WHAT IS EXPECTED

-- The reducer's expected ending, from the stepper's: values only where it is finished.
unfoldable pub reducer_expected : Ending → Ending
reducer_expected e = record { outcome = e.outcome; steps = e.steps; values = shown_by e.outcome e.values }

-- What is expected: the check accepts, the two records are as said, and both engines end as said.
unfoldable pub expected : Example → Shown
expected l = record {
  checked = record { number = 0; k = l.header.k };
  program_length = l.program_length;
  term_length = l.term_length;
  program_printed = l.program_printed;
  term_printed = l.term_printed;
  rule_stepper = l.ending;
  rule_reducer = reducer_expected l.ending;
  byte_stepper = l.ending;
  byte_reducer = reducer_expected l.ending;
}

-- THE LIST

-- ADD: {x3 := x1; for x4 := 1 to x2 {x3 := x3 + 1}}, k = 4: 64 bytes, term 172 bytes.
abbrev pub add : Block
add = assign 3 (var 1) (loop 4 (upto_var 2) (assign 3 (inc 3) empty) empty)

-- The header of edition 1 of a record of k variables.
abbrev pub of_variables : ℕ → Header
of_variables k = record { k = k; edition = First }

-- The header of edition 2, with a ceiling (02 C-17).
abbrev pub with_ceiling : ℕ → ℕ → Header
with_ceiling k ceiling = record { k = k; edition = Second ceiling }

-- An entry whose bytes 01 does not print: header, program, store, the lengths of the two buffers and of the two records, outcome,
-- steps, values.
abbrev pub example_under : Header → Block → List ℕ → ℕ → ℕ → ℕ → ℕ → Outcome → ℕ → List ℕ → Example
example_under h p s a b n m o c v = record {
  header = h;
  program = p;
  store = s;
  stepper_room = a;
  reducer_room = b;
  program_length = n;
  term_length = m;
  program_printed = [];
  term_printed = [];
  ending = record { outcome = o; steps = c; values = v };
}

-- The same of edition 1, from k.
abbrev pub example : ℕ → Block → List ℕ → ℕ → ℕ → ℕ → ℕ → Outcome → ℕ → List ℕ → Example
example k = example_under (of_variables k)

-- P1 to P9, one more against the last of 01's mistakes that pass a quick trial, and two under a ceiling (02 C-17).
unfoldable pub examples : List Example
examples =
    -- P1, in the 156 and 384 bytes that it needs: finished, 18 steps; and with 155 and 383 both stop at 3 with no room
    example 4 add (7 ∷ 3 ∷ 0 ∷ 0 ∷ []) 156 384 64 172 is_finished 18 (7 ∷ 3 ∷ 10 ∷ 3 ∷ [])
    ∷ example 4 add (7 ∷ 3 ∷ 0 ∷ 0 ∷ []) 155 383 64 172 no_room 3 (7 ∷ 3 ∷ 7 ∷ 0 ∷ [])
    -- P2: finished, 3 steps
    ∷ example 4 add (7 ∷ 0 ∷ 0 ∷ 0 ∷ []) 400 400 64 172 is_finished 3 (7 ∷ 0 ∷ 7 ∷ 0 ∷ [])
    -- P3: over after 5
    ∷ example 4 add (4294967295 ∷ 1 ∷ 0 ∷ 0 ∷ []) 400 400 64 172 is_over 5 (4294967295 ∷ 1 ∷ 4294967295 ∷ 1 ∷ [])
    -- P4: {x1 := x1 − 1} on 0
    ∷ example 1 (assign 1 (dec 1) empty) (0 ∷ []) 400 400 28 40 is_finished 2 (0 ∷ [])
    -- P5: {x1 := x1 + 1} on 4294967294; on 4294967295
    ∷ example 1 (assign 1 (inc 1) empty) (4294967294 ∷ []) 400 400 28 40 is_finished 2 (4294967295 ∷ [])
    ∷ example 1 (assign 1 (inc 1) empty) (4294967295 ∷ []) 400 400 28 40 is_over 0 (4294967295 ∷ [])
    -- P6: {for x1 := 1 to 0 {}} on 9
    ∷ example 1 (loop 1 (upto 0) empty empty) (9 ∷ []) 400 400 32 64 is_finished 2 (9 ∷ [])
    -- P7: {for x1 := 1 to 3 {x1 := 0}} on 9
    ∷ example 1 (loop 1 (upto 3) (assign 1 (lit 0) empty) empty) (9 ∷ []) 400 400 48 80 is_finished 14 (0 ∷ [])
    -- P8: {for x2 := 1 to x1 {x1 := x1 + 1}} on 2, 0
    ∷ example 2 (loop 2 (upto_var 1) (assign 1 (inc 1) empty) empty) (2 ∷ 0 ∷ []) 400 400 48 108 is_finished 12 (4 ∷ 2 ∷ [])
    -- P9: {}, with the two byte strings
    ∷ record {
      header = of_variables 1;
      program = empty;
      store = 5 ∷ [];
      stepper_room = 12;
      reducer_room = 20;
      program_length = 12;
      term_length = 20;
      program_printed = 12 ∷ 0 ∷ 7 ∷ 0 ∷ 1 ∷ 0 ∷ 0 ∷ 0 ∷ 4 ∷ 0 ∷ 1 ∷ 0 ∷ [];
      term_printed = 20 ∷ 0 ∷ 40 ∷ 0 ∷ 1 ∷ 0 ∷ 0 ∷ 0 ∷ 12 ∷ 0 ∷ 36 ∷ 0 ∷ 8 ∷ 0 ∷ 33 ∷ 0 ∷ 1 ∷ 0 ∷ 0 ∷ 0 ∷ [];
      ending = record { outcome = is_finished; steps = 0; values = 5 ∷ [] };
    }
    -- a let-one that rebinds a variable which is substituted above it: {x1 := x2; x2 := x1; {x1 := x1 + 1}} on 1, 5
    ∷ example 2 (assign 1 (var 2) (assign 2 (var 1) (nest (assign 1 (inc 1) empty) empty))) (1 ∷ 5 ∷ []) 400 400 64 104 is_finished 5 (6 ∷ 5 ∷ [])
    -- ADD on P1's store under a ceiling of 10, which the sum comes to, each record and each buffer being 4 bytes longer than P1's
    ∷ example_under (with_ceiling 4 10) add (7 ∷ 3 ∷ 0 ∷ 0 ∷ []) 160 388 68 176 is_finished 18 (7 ∷ 3 ∷ 10 ∷ 3 ∷ [])
    -- and under a ceiling of 9: over after 15, when the third turn's plus one is next
    ∷ example_under (with_ceiling 4 9) add (7 ∷ 3 ∷ 0 ∷ 0 ∷ []) 160 388 68 176 is_over 15 (7 ∷ 3 ∷ 9 ∷ 3 ∷ [])
    ∷ []
