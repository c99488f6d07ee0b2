-- The answer of a call that writes a buffer, beside the buffer afterwards, as the record that the rows give; and the same of substitute.
use Rattle.std.specs.Prelude.{ℕ, List, Result, Ok, Err}
use Rattle.record.specs.declared.refusal.Refusal.{Refusal}
use Rattle.record.specs.Answers.{Wrote}
use Rattle.record.specs.Refusal.{refusal_number}
use Rattle.term.specs.Calls as calls
use Rattle.term.specs.declared.Written.{Written}
use Rattle.term.specs.declared.substitute.Filled.{Filled}
use Rattle.term.specs.declared.substitute.Substituted.{Substituted}

-- The number and the used length of the answer as it crosses the C boundary, and the buffer afterwards.
abbrev pub as_wrote : Written → List ℕ → Wrote
as_wrote r after = record { number = r.number; used = r.used; written = after }

-- The same of the code's answer: the new used length, or a refusal, whose used length is 0.
abbrev pub wrote_of : Result ℕ Refusal → List ℕ → Wrote
wrote_of (Ok used) after = record { number = 0; used = used; written = after }
wrote_of (Err r) after = record { number = refusal_number r; used = 0; written = after }

-- The same of substitute, with the count of what was replaced.
abbrev pub as_substituted : Substituted → List ℕ → calls.Substituted
as_substituted r after = record { number = r.number; used = r.used; replaced = r.replaced; written = after }

-- The same of the code's answer: the used length and the count, both 0 at a refusal.
abbrev pub substituted_of : Result Filled Refusal → List ℕ → calls.Substituted
substituted_of (Ok f) after = record { number = 0; used = f.used; replaced = f.replaced; written = after }
substituted_of (Err r) after = record { number = refusal_number r; used = 0; replaced = 0; written = after }
