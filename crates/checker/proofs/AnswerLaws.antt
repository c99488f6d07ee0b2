-- A check's answer, by the number of the row that decides.
use Rattle.std.proofs.Common.{◌≡◌, ℕ, Result, Err, Ok, refl, sym, ◌∙◌, rules}
use Rattle.std.specs.Result.{IsErr, IsErrAnd}
use Rattle.record.specs.Answers.{Checked, checked_by}
use Rattle.record.specs.declared.Header.{Header}
use Rattle.record.specs.declared.refusal.Refusal.{Refusal}
use Rattle.record.specs.Refusal.{answer_number, refusal_number}
use Rattle.record.proofs.AnswerLaws.{checked-accepted, checked_refused}
use Rattle.checker.specs.Answer.{checked_of}

-- No refusal has the number 0.
pub refusal-some : (r : Refusal) → refusal_number r ≡ 0 → ⊥
refusal-some r e = search rules

-- A refusal is the answer by its number, whatever k would have been.
pub refused-by : (r : Refusal) (n k : ℕ) → refusal_number r ≡ n → checked_of (Err r) ≡ checked_by n k
refused-by r n k e = rw (← e) (sym (checked_refused (refusal_number r) k (refusal-some r)))

-- Where no row applies the header's k is answered.
pub accepted-by : (h : Header) (n : ℕ) → 0 ≡ n → checked_of (Ok h) ≡ checked_by n h.k
accepted-by h n e = sym (checked-accepted n h.k (sym e))

-- An answer that a `?` hands on is the refusal that came.
pub raised : {T : Type 0} {r : Result T Refusal} {x : Refusal} → IsErr r × IsErrAnd r (λ e. e ≡ x) → r ≡ Err x
raised {r = Ok a} h = search rules
raised {r = Err e} h = search rules

-- A check's answer as a record has its number.
pub checked-as : (r : Result Header Refusal) → checked_of r ≡ record { number = answer_number r; k = (checked_of r).k }
checked-as (Ok h) = refl
checked-as (Err r) = refl

-- The same of the check itself, whose answer it is.
pub checked-is : {c : Checked} (r : Result Header Refusal) → checked_of r ≡ c → c ≡ record { number = answer_number r; k = (checked_of r).k }
checked-is r e = sym e ∙ checked-as r
