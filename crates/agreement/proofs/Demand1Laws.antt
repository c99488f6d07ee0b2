-- Demand 1, proved: one law of rows for every call, and one of refusals for every form of answer.
use Prim.Native.Nat.{ℕ}
use mathlib.Core.Path.{refl, ◌≡◌}
use mathlib.Core.Bool.{true}
use mathlib.Core.List.{List, map}
use Rattle.batch.specs.RunBatch.{batch_rows}
use Rattle.batch.proofs.RunBatchLaws.{batch-number, batch-refused}
use Rattle.conversion.specs.Convert.{convert_call, convert_rows}
use Rattle.conversion.proofs.ConvertLaws.{convert-number, convert-refused}
use Rattle.counting.specs.CountingCall.{counting_rows, expand_rows}
use Rattle.counting.proofs.CountingRanLaws.{counting-number, counting-refused}
use Rattle.counting.proofs.ExpandCallLaws.{expand-number, expand-refused}
use Rattle.record.specs.Answers.{check_program_rows, check_term_rows}
use Rattle.record.specs.declared.Conversion.{Conversion}
use Rattle.record.specs.declared.Conversion.TheVariants.{ToFirst, ToSecond}
use Rattle.record.specs.declared.Sort.{Sort}
use Rattle.record.specs.declared.Sort.TheVariants as sort
use Rattle.record.specs.Rows.{Row, first_row}
use Rattle.record.specs.Table.{Place, numbers_at}
use Rattle.reducer.specs.RunReducer.{reducer_rows}
use Rattle.stepper.specs.RunStepper.{stepper_rows}
use Rattle.term.specs.Calls.{read_back_rows, result_rows, substitute_rows, translate_rows}
use Rattle.weighing.specs.Weigh.{weigh_rows}
use Rattle.record.proofs.AnswerLaws.{check-program-number, check-program-refused, check-term-number, check-term-refused}
use Rattle.record.proofs.RowLaws.{first-first, first-listed, first-none, none_first, numbered}
use Rattle.reducer.proofs.RunReducerLaws.{reducer-number, reducer-refused}
use Rattle.stepper.proofs.RunStepperLaws.{stepper-number, stepper-refused}
use Rattle.term.proofs.CallLaws.{read_back-number, read_back-refused, result-number, result-refused, substitute-number, substitute-refused, translate-number, translate-refused}
use Rattle.weighing.proofs.WeighLaws.{weigh-number, weigh-refused}
use Rattle.agreement.specs.Demand1.{Demand1, Numbers, of_conversion}

-- a call's number is the first row's; that its rows are the table's is computed
numbers : {places : List Place} (rs : List Row) (n : ℕ) → map (λ (r : Row). r.number) rs ≡ numbers_at places → numbered rs ≡ true → n ≡ first_row rs → Numbers places rs n
numbers rs n o h e = rw e (record { ordered = o; listed = first-listed rs h; none = (first-none rs h, none_first rs); first = first-first rs })

convert-numbers : (s : Sort) (to : Conversion) (src : List ℕ) (used : ℕ) (out : List ℕ) → Numbers (of_conversion to) (convert_rows s to src used out) (convert_call s to src used out).number
convert-numbers sort.Program ToFirst src used out = numbers (convert_rows sort.Program ToFirst src used out) _ refl refl (convert-number sort.Program ToFirst src used out)
convert-numbers sort.Program ToSecond src used out = numbers (convert_rows sort.Program ToSecond src used out) _ refl refl (convert-number sort.Program ToSecond src used out)
convert-numbers sort.Term ToFirst src used out = numbers (convert_rows sort.Term ToFirst src used out) _ refl refl (convert-number sort.Term ToFirst src used out)
convert-numbers sort.Term ToSecond src used out = numbers (convert_rows sort.Term ToSecond src used out) _ refl refl (convert-number sort.Term ToSecond src used out)

pub demand1 : Demand1
demand1 = record {
  check_program_number = λ buf used. numbers (check_program_rows buf used) _ refl refl (check-program-number buf used);
  check_term_number = λ buf used. numbers (check_term_rows buf used) _ refl refl (check-term-number buf used);
  translate_number = λ src used out. numbers (translate_rows src used out) _ refl refl (translate-number src used out);
  read_back_number = λ src used out. numbers (read_back_rows src used out) _ refl refl (read_back-number src used out);
  substitute_number = λ buf used store. numbers (substitute_rows buf used store) _ refl refl (substitute-number buf used store);
  stepper_number = λ buf used store budget. numbers (stepper_rows buf used store) _ refl refl (stepper-number buf used store budget);
  reducer_number = λ buf used budget. numbers (reducer_rows buf used) _ refl refl (reducer-number buf used budget);
  result_number = λ buf used store. numbers (result_rows buf used store) _ refl refl (result-number buf used store);
  weigh_number = λ rule gross tare store. numbers (weigh_rows rule store) _ refl refl (weigh-number rule gross tare store);
  counting_number = λ buf used words store budget. numbers (counting_rows buf used words store) _ refl refl (counting-number buf used words store budget);
  expand_number = λ buf used words store out. numbers (expand_rows buf used words store out) _ refl refl (expand-number buf used words store out);
  batch_number = λ program used term work budgets values answers.
      numbers (batch_rows program used term work budgets values answers) _ refl refl (batch-number program used term work budgets values answers);
  convert_number = convert-numbers;
  check_program_refused = check-program-refused;
  check_term_refused = check-term-refused;
  translate_refused = translate-refused;
  read_back_refused = read_back-refused;
  substitute_refused = substitute-refused;
  stepper_refused = stepper-refused;
  reducer_refused = reducer-refused;
  result_refused = result-refused;
  weigh_refused = weigh-refused;
  counting_refused = counting-refused;
  expand_refused = expand-refused;
  batch_refused = batch-refused;
  convert_refused = convert-refused;
}
