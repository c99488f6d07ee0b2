-- The answer as it crosses the C boundary, made of the code's answer, holds what that does.
use Rattle.std.specs.Prelude.{◌≡◌, Err, List, Ok, Result, ℕ}
use mathlib.Core.Path.{ap}
use Rattle.record.specs.Answers.{Wrote}
use Rattle.record.specs.declared.refusal.Refusal.{Refusal}
use Rattle.term.specs.Answer.{as_wrote, wrote_of}
use Rattle.term.specs.declared.Written.{Written}
use Rattle.batch.specs.Represents.{as_batch, batch_answer}

pub batch-written : (written : Written) (answer : Result ℕ Refusal) (term work answers : List ℕ) → as_wrote written term ≡ wrote_of answer term
    → as_batch written term work answers ≡ batch_answer answer term work answers
batch-written written (Ok used) term work answers same =
    ap (λ (w : Wrote). record { number = w.number; used = w.used; term = term; work = work; answers = answers }) same
batch-written written (Err r) term work answers same =
    ap (λ (w : Wrote). record { number = w.number; used = w.used; term = term; work = work; answers = answers }) same
