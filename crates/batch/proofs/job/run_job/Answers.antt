-- The term is copied, the store filled in, and what is run is accepted: the run is that of the job alone.
use mathlib.Core.Path.{◌∙◌, subst}
use native.Mathlib.Omega.{arith}
use Prim.Native.Nat.{ℕ}
use Rattle.reducer.specs.Running.{Gives, accepted_run}
use Rattle.rules.specs.Substitution.{from_store, substitute}
use Rattle.batch.proofs.JobLaws.{job-accepted, job-answers, job-copied, job-finishes}
use Rattle.batch.proofs.job.run_job.Goals as goal

pub substitute_record-requires : goal.substitute_record-requires
substitute_record-requires c =
    let g = c.requires.0.1 in
    let small = c.requires.2 in
    let t = job-copied g c.args.store.now c.requires.1 small c.copy.new.dst c.copy.auto.dst c.copy.ensures in
    ((c.requires.0.0, t), omega (arith, c.copy.auto.dst, g.low), c.requires.1)

pub run_accepted-reduced-requires : goal.run_accepted-reduced-requires
run_accepted-reduced-requires c =
    let g = c.requires.0.1 in
    let small = c.requires.2 in
    let t = job-copied g c.args.store.now c.requires.1 small c.copy.new.dst c.copy.auto.dst c.copy.ensures in
    (substitute (from_store c.args.store.now) c.requires.0.0, job-accepted g c.args.store.now c.requires.1 small c.copy.new.dst c.copy.auto.dst c.copy.ensures c.substitute_record.new.buf (c.substitute_record.ensures c.requires.0.0 t).0)

pub put_answer-requires : goal.put_answer-requires
put_answer-requires c =
    let g = c.requires.0.1 in
    let small = c.requires.2 in
    let t = job-copied g c.args.store.now c.requires.1 small c.copy.new.dst c.copy.auto.dst c.copy.ensures in
    let a = job-accepted g c.args.store.now c.requires.1 small c.copy.new.dst c.copy.auto.dst c.copy.ensures c.substitute_record.new.buf (c.substitute_record.ensures c.requires.0.0 t).0 in
    let room = c.substitute_record.auto.buf ∙ c.copy.auto.dst in
    let ran = subst (λ (n : ℕ). Gives c.run_accepted-reduced.result c.run_accepted-reduced.new.buf (accepted_run c.args.h (substitute (from_store c.args.store.now) c.requires.0.0) n c.args.budget)) room (c.run_accepted-reduced.ensures (substitute (from_store c.args.store.now) c.requires.0.0) a) in
    (job-finishes g c.args.store.now c.requires.1 small c.args.budget c.run_accepted-reduced.result c.run_accepted-reduced.new.buf ran, omega (arith, c.run_accepted-reduced.auto.buf, room, g.low), c.requires.3)

pub returns : goal.returns
returns c =
    let g = c.requires.0.1 in
    let small = c.requires.2 in
    let t = job-copied g c.args.store.now c.requires.1 small c.copy.new.dst c.copy.auto.dst c.copy.ensures in
    let a = job-accepted g c.args.store.now c.requires.1 small c.copy.new.dst c.copy.auto.dst c.copy.ensures c.substitute_record.new.buf (c.substitute_record.ensures c.requires.0.0 t).0 in
    let room = c.substitute_record.auto.buf ∙ c.copy.auto.dst in
    let ran = subst (λ (n : ℕ). Gives c.run_accepted-reduced.result c.run_accepted-reduced.new.buf (accepted_run c.args.h (substitute (from_store c.args.store.now) c.requires.0.0) n c.args.budget)) room (c.run_accepted-reduced.ensures (substitute (from_store c.args.store.now) c.requires.0.0) a) in
    job-answers g c.args.store.now c.requires.1 small c.args.budget c.run_accepted-reduced.result c.run_accepted-reduced.new.buf ran c.put_answer.new.answer c.put_answer.ensures
