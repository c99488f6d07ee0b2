-- Laws of the stepper's run: its number, a refusal, what its rows let through, and what an accepted run leaves.
use Prim.Native.Nat.{suc, zero, ℕ, ◌≤◌}
use mathlib.Core.Path.{ap, refl, subst, sym, ◌∙◌, ◌≡◌}
use mathlib.Core.Logic.Iff
use mathlib.Core.List.{List, []}
use lib.ListN.{length}
use native.Mathlib.Omega.{arith}
use Rattle.record.specs.declared.Header.{Header}
use Rattle.record.specs.Header.{ok_of}
use Rattle.record.specs.Holding.{ProgramIn}
use Rattle.record.specs.Rows.{bad_buffer, first_row, header_of, k_of, store_rows}
use Rattle.rules.specs.Run.{Ran}
use Rattle.rules.specs.Sound.{SmallValues, SoundConfig}
use Rattle.rules.specs.Step.{step}
use Rattle.rules.specs.Syntax.{Block, Config}
use Rattle.run.specs.RunAnswer.{refusal, room_for}
use Rattle.record.proofs.HeaderLaws.{ok-limit}
use Rattle.record.proofs.PaddedLaws.{length-padded}
use Rattle.record.proofs.HeldLaws.{good-store, good-values, store-good, values-good}
use Rattle.record.proofs.HoldingLaws.{padded-program, program-header, program-is, program-k, program-passed, program-passes, program-size}
use Rattle.record.proofs.RowLaws.{first-none, none_first}
use Rattle.rules.proofs.FinishedLaws.{step-finished}
use Rattle.rules.proofs.RunLaws.{run-reached}
use Rattle.rules.proofs.SoundConfigLaws.{sound-steps}
use Rattle.run.proofs.RanLaws.{run-answers, run-stays}
use Rattle.stepping.specs.State.{config_bytes}
use Rattle.stepper.specs.RunStepper.{run_stepper, stepped_to, stepper_by, stepper_rows, steps}
use Rattle.stepper.specs.StepperRan.{StepperRan}

-- NUMBER AND REFUSAL

stepper-by : (m : ℕ) (buf : List ℕ) (used : ℕ) (store : List ℕ) (budget : ℕ) → (stepper_by m buf used store budget).answer.number ≡ m
unfolding stepper_by stepped_to
stepper-by zero buf used store budget = refl
stepper-by (suc m) buf used store budget = refl

pub stepper-number : (buf : List ℕ) (used : ℕ) (store : List ℕ) (budget : ℕ) → (run_stepper buf used store budget).answer.number ≡ first_row (stepper_rows buf used store)
unfolding run_stepper
stepper-number buf used store budget = stepper-by (first_row (stepper_rows buf used store)) buf used store budget

refused-by : (m : ℕ) (buf : List ℕ) (used : ℕ) (store : List ℕ) (budget : ℕ) → (m ≡ 0 → ⊥)
    → stepper_by m buf used store budget ≡ record { answer = refusal m; buf = buf; store = store }
unfolding stepper_by
refused-by zero buf used store budget h = absurd (h refl)
refused-by (suc m) buf used store budget h = refl

pub stepper-refused : (buf : List ℕ) (used : ℕ) (store : List ℕ) (budget : ℕ) → (first_row (stepper_rows buf used store) ≡ 0 → ⊥)
    → run_stepper buf used store budget ≡ record { answer = refusal (first_row (stepper_rows buf used store)); buf = buf; store = store }
unfolding run_stepper
stepper-refused buf used store budget h = refused-by (first_row (stepper_rows buf used store)) buf used store budget h

-- WHAT ITS ROWS LET THROUGH, of a buffer that holds a program's record

pub record StepperTakes (hd : Header) (buf : List ℕ) (used n : ℕ) (store : List ℕ) : Type 0 where
  pub low : length buf ≤ 16384
  -- the used length is the record's own
  pub same : n ≡ used
  pub count : length store ≡ hd.k
  pub values : SmallValues (ok_of hd) store

pub stepper-takes : {hd : Header} {P : Block} {buf : List ℕ} {used : ℕ} → ProgramIn hd P buf used → (n : ℕ) (store : List ℕ)
    → first_row (stepper_rows buf n store) ≡ 0 → StepperTakes hd buf used n store
stepper-takes {hd} {P} {buf} {used} h n store e =
    let p = program-passed h n (bad_buffer buf n) (λ q. q) (store_rows buf n store []) (first-none (stepper_rows buf n store) refl e) in
    record {
      low = p.low;
      same = p.same;
      count = good-store buf n store p.behind.0 ∙ ap (k_of buf) p.same ∙ program-k h;
      values = subst (λ (x : Header). SmallValues (ok_of x) store) (ap (header_of buf) p.same ∙ program-header h) (good-values buf n store p.behind.1.0);
    }

pub stepper-passes : {hd : Header} {P : Block} {buf : List ℕ} {used : ℕ} → ProgramIn hd P buf used → length buf ≤ 16384 → (store : List ℕ) → length store ≡ hd.k
    → SmallValues (ok_of hd) store → first_row (stepper_rows buf used store) ≡ 0
stepper-passes {hd} {P} {buf} {used} h l store e v =
    none_first (stepper_rows buf used store)
    (program-passes h l (store_rows buf used store []) (
      store-good buf used store (e ∙ sym (program-k h)),
      (values-good buf used store (subst (λ (x : Header). SmallValues (ok_of x) store) (sym (program-header h)) v), tt),
    ))

-- AN ACCEPTED RUN is the rules' run of the configuration that is lent

module _ {hd : Header} {P : Block} {buf : List ℕ} {used : ℕ} (h : ProgramIn hd P buf used) (l : length buf ≤ 16384)
    (store : List ℕ) (e : length store ≡ hd.k) (hs : SmallValues (ok_of hd) store) (budget : ℕ) where
  abbrev c₀ : Config
  c₀ = record { block = P; store = store }

  abbrev ran : Ran Config
  ran = steps hd (length buf) budget c₀

  pub stepper-is : run_stepper buf used store budget ≡ stepped_to hd (length buf) budget ran
  unfolding run_stepper stepper_by
  stepper-is =
      ap (λ (m : ℕ). stepper_by m buf used store budget) (stepper-passes h l store e hs)
      ∙ rw (program-header h, program-is h l) refl

  sound-left : SoundConfig (ok_of hd) hd.k ran.state
  sound-left =
      sound-steps (ok_of hd) (ok-limit hd) hd.k ran.count c₀ ran.state
      (record { variables = record { block = h.is_program.variables; size = e }; literals = h.is_program.literals; values = hs })
      (run-reached (step (ok_of hd)) (room_for (config_bytes hd) (length buf)) budget c₀)

  roomy : length (config_bytes hd ran.state) ≤ length buf
  roomy = run-stays (step (ok_of hd)) (config_bytes hd) (length buf) c₀ budget (omega (arith, program-size h, h.within))

  stepped : StepperRan hd c₀ (length buf) budget (stepped_to hd (length buf) budget ran)
  unfolding stepped_to
  stepped =
      let answers = run-answers (step (ok_of hd)) (config_bytes hd) (length buf) c₀ budget in
      record {
        c = ran.state;
        ran = answers;
        bytes = refl;
        values = refl;
        finishes = Iff.trans answers.finishes (step-finished (ok_of hd) ran.state);
        again = padded-program hd ran.state.block (length buf) h.header record { variables = sound-left.variables.block; literals = sound-left.literals };
        sound = sound-left;
        same_room = length-padded (length buf) (config_bytes hd ran.state) roomy;
      }

  pub stepper-ran : StepperRan hd c₀ (length buf) budget (run_stepper buf used store budget)
  stepper-ran = subst (StepperRan hd c₀ (length buf) budget) (sym stepper-is) stepped
