-- What the code hands over, beside the lent slices afterwards, as the definitions have it.
use Rattle.std.specs.Prelude.{ℕ, List, Result, Ok, Err}
use Rattle.record.specs.declared.refusal.Refusal.{Refusal}
use Rattle.record.specs.Refusal.{refusal_number}
use Rattle.reducer.specs.declared.answer.Reduced.{Reduced}
use Rattle.reducer.specs.RunReducer.{ReducerCall}
use Rattle.run.specs.Represents.{as_run_answer}
use Rattle.term.specs.declared.Written.{Written}
use Rattle.batch.specs.RunBatch.{BatchCall}

-- The answer of a batch as it crosses the C boundary: the number and the used length, and the two buffers and the answers afterwards.
abbrev pub as_batch : Written → List ℕ → List ℕ → List ℕ → BatchCall
as_batch r term work answers = record { number = r.number; used = r.used; term = term; work = work; answers = answers }

-- The same of the code's answer: the used length of the term, or a refusal, whose used length is 0.
abbrev pub batch_answer : Result ℕ Refusal → List ℕ → List ℕ → List ℕ → BatchCall
batch_answer (Ok used) term work answers = record { number = 0; used = used; term = term; work = work; answers = answers }
batch_answer (Err r) term work answers = record { number = refusal_number r; used = 0; term = term; work = work; answers = answers }

-- A run of the reducer: its answer, and the buffer afterwards.
abbrev pub as_reducer_call : Reduced → List ℕ → ReducerCall
as_reducer_call r buf = record { answer = as_run_answer r.end; replaced = r.replaced; buf = buf }
