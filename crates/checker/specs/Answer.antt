-- A check's answer as the record that the rows give.
use Rattle.std.specs.Prelude.{Result, Ok, Err}
use Rattle.record.specs.Answers as answers
use Rattle.record.specs.declared.Header.{Header}
use Rattle.record.specs.declared.refusal.Refusal.{Refusal}
use Rattle.record.specs.Refusal.{refusal_number}
use Rattle.checker.specs.declared.Checked.{Checked}

-- The number and the k of the answer as it crosses the C boundary.
abbrev pub as_checked : Checked → answers.Checked
as_checked r = record { number = r.number; k = r.k }

-- The same of the code's answer: the header's k where nothing is refused, and 0 in its place at a refusal.
abbrev pub checked_of : Result Header Refusal → answers.Checked
checked_of (Ok h) = record { number = 0; k = h.k }
checked_of (Err r) = record { number = refusal_number r; k = 0 }
