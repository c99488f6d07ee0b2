-- Rows 6 and 10, or the term written, the jobs run and the reducer's buffer cleared.
use mathlib.Core.Path.{◌∙◌, ap}
use mathlib.Core.Logic.{inl, inr}
use native.Mathlib.Omega.{arith}
use Prim.Native.Nat.{ℕ}
use lib.ListN.{length, replicate}
use Rattle.batch.proofs.AnswersLaws.{rows-small}
use Rattle.batch.proofs.RunBatchLaws.{batch-six, batch-sixteen, batch-ten, batch-zero, given-term, values-small}
use Rattle.buffer.specs.Slice.{zeros}
use Rattle.rules.specs.Translation.{translate}
use Rattle.batch.proofs.run_checked.Goals as goal

pub overflow_mul-count : goal.overflow_mul-count
overflow_mul-count c =
    let m = rows-small (length c.args.budgets.now) c.args.h.k c.requires.1.many.1 (omega (arith, c.requires.1.holds.header.k-high)) in
    omega (arith, m)

pub returns-then-values-count : goal.returns-then-values-count
returns-then-values-count c =
    (batch-six c.args.program.now c.args.used c.args.term.now c.args.work.now c.args.budgets.now c.args.values.now c.args.answers.now c.requires.1 (inl c.if-values-count.true))

pub returns-then-answers-count : goal.returns-then-answers-count
returns-then-answers-count c =
    (batch-six c.args.program.now c.args.used c.args.term.now c.args.work.now c.args.budgets.now c.args.values.now c.args.answers.now c.requires.1 (inr c.if-answers-count.true))

pub returns-then-some_above : goal.returns-then-some_above
returns-then-some_above c =
    let a = c.args in
    let p = c.requires in
    let largest = c.largest in
    let above = c.some_above in
    (batch-sixteen a.program.now a.used a.term.now a.work.now a.budgets.now a.values.now a.answers.now p.1 c.if-values-count.false c.if-answers-count.false largest.result largest.ensures above.result above.ensures c.if-some_above.true)

pub returns-then-term-n : goal.returns-then-term-n
returns-then-term-n c =
    let a = c.args in
    let p = c.requires in
    let largest = c.largest in
    let above = c.some_above in
    let small = values-small a.program.now a.used a.term.now a.work.now a.budgets.now a.values.now a.answers.now p.1 c.if-values-count.false c.if-answers-count.false largest.result largest.ensures above.result above.ensures c.if-some_above.false in
    let size = c.translation_size-n in
    let e = size.ensures p.0 p.1.holds in
    (batch-ten a.program.now a.used a.term.now a.work.now a.budgets.now a.values.now a.answers.now p.1 c.if-values-count.false c.if-answers-count.false small size.result e (inl c.if-term-n.true))

pub returns-then-work-n : goal.returns-then-work-n
returns-then-work-n c =
    let a = c.args in
    let p = c.requires in
    let largest = c.largest in
    let above = c.some_above in
    let small = values-small a.program.now a.used a.term.now a.work.now a.budgets.now a.values.now a.answers.now p.1 c.if-values-count.false c.if-answers-count.false largest.result largest.ensures above.result above.ensures c.if-some_above.false in
    let size = c.translation_size-n in
    let e = size.ensures p.0 p.1.holds in
    (batch-ten a.program.now a.used a.term.now a.work.now a.budgets.now a.values.now a.answers.now p.1 c.if-values-count.false c.if-answers-count.false small size.result e (inr c.if-work-n.true))

pub write_translation-requires : goal.write_translation-requires
write_translation-requires c =
    let p = c.requires in
    let e = c.translation_size-n.ensures p.0 p.1.holds in
    ((p.0, p.1.holds, omega (arith, e, c.if-term-n.false)), p.1.low)

pub run_jobs-requires : goal.run_jobs-requires
run_jobs-requires c =
    let a = c.args in
    let p = c.requires in
    let largest = c.largest in
    let above = c.some_above in
    let small = values-small a.program.now a.used a.term.now a.work.now a.budgets.now a.values.now a.answers.now p.1 c.if-values-count.false c.if-answers-count.false largest.result largest.ensures above.result above.ensures c.if-some_above.false in
    let size = c.translation_size-n in
    let e = size.ensures p.0 p.1.holds in
    let w = c.write_translation.ensures p.0 p.1.holds in
    ((translate a.h.k p.0, given-term a.program.now a.used a.term.now a.work.now a.budgets.now a.values.now a.answers.now p.1 size.result e c.if-work-n.false c.write_translation.new.out w), p.1.many.1, c.if-values-count.false, small, c.if-answers-count.false)

pub overflow_cast-result : goal.overflow_cast-result
overflow_cast-result c =
    omega (arith, c.if-term-n.false, c.requires.1.low_term)

pub returns : goal.returns
unfolding zeros
returns c =
    let a = c.args in
    let p = c.requires in
    let largest = c.largest in
    let above = c.some_above in
    let small = values-small a.program.now a.used a.term.now a.work.now a.budgets.now a.values.now a.answers.now p.1 c.if-values-count.false c.if-answers-count.false largest.result largest.ensures above.result above.ensures c.if-some_above.false in
    let size = c.translation_size-n in
    let e = size.ensures p.0 p.1.holds in
    let w = c.write_translation.ensures p.0 p.1.holds in
    (batch-zero a.program.now a.used a.term.now a.work.now a.budgets.now a.values.now a.answers.now p.1 c.if-values-count.false c.if-answers-count.false small size.result e c.if-term-n.false c.if-work-n.false c.write_translation.new.out w _ (c.fill.ensures.after (λ y e. e) ∙ ap (λ (n : ℕ). replicate n 0) c.run_jobs.auto.work) c.run_jobs.new.answers c.run_jobs.ensures)
