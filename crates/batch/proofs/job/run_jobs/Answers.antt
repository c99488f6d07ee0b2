-- After i jobs their answers stand in front; with those of the other jobs behind them they are all the answers.
use mathlib.Core.Path.{◌∙◌}
use native.Mathlib.Omega.{arith}
use Rattle.record.specs.Header.{ok_of}
use Rattle.rules.proofs.LiteralsLaws.{small-drop, small-take}
use Prim.Native.Nat.{◌*◌, ◌+◌, ◌-◌, ◌≤◌}
use lib.ListN.{drop, length, take}
use Rattle.batch.proofs.AnswersLaws.{done-start, done-turn, done-whole, row_fits, rows-small}
use Rattle.batch.proofs.job.run_jobs.Goals as goal

pub overflow_cast-k : goal.overflow_cast-k
overflow_cast-k c = omega (arith, c.requires.0.1.holds.header.k-high)

pub loop-i-init : goal.loop-i-init
loop-i-init c =
    done-start c.args.h.k (take c.args.used c.args.term.now) (length c.args.work.now) c.args.budgets.now c.args.values.now c.args.answers.now

pub overflow_mul-from : goal.overflow_mul-from
overflow_mul-from c =
    let m = rows-small c.loop-i.i c.args.h.k (omega (arith, c.requires.1)) (omega (arith, c.requires.0.1.holds.header.k-high)) in
    omega (arith, m, c.requires.0.1.holds.header.k-high)

pub overflow_add-at : goal.overflow_add-at
overflow_add-at c =
    omega (arith, c.requires.0.1.holds.header.k-high)

pub overflow_mul-at : goal.overflow_mul-at
overflow_mul-at c =
    let m = rows-small c.loop-i.i (c.args.h.k + 2) (omega (arith, c.requires.1)) (omega (arith, c.requires.0.1.holds.header.k-high)) in
    omega (arith, m, c.requires.0.1.holds.header.k-high)

pub overflow_add-from : goal.overflow_add-from
overflow_add-from c =
    let m = rows-small c.loop-i.i c.args.h.k (omega (arith, c.requires.1)) (omega (arith, c.requires.0.1.holds.header.k-high)) in
    omega (arith, m, c.requires.0.1.holds.header.k-high)

pub offset_bounds-values-from : goal.offset_bounds-values-from
offset_bounds-values-from c =
    let m = rows-small c.loop-i.i c.args.h.k (omega (arith, c.requires.1)) (omega (arith, c.requires.0.1.holds.header.k-high)) in
    omega (arith, m, c.requires.0.1.holds.header.k-high)

pub slice_bounds-run_job-count : goal.slice_bounds-run_job-count
slice_bounds-run_job-count c = omega arith

pub slice_bounds-run_job-start : goal.slice_bounds-run_job-start
slice_bounds-run_job-start c = omega arith

pub slice_bounds-run_job-end : goal.slice_bounds-run_job-end
slice_bounds-run_job-end c =
    omega (arith, row_fits c.loop-i.i (length c.args.budgets.now) c.args.h.k (omega arith), c.requires.2)

pub overflow_add-at-in-loop-i : goal.overflow_add-at-in-loop-i
overflow_add-at-in-loop-i c =
    let m = rows-small c.loop-i.i (c.args.h.k + 2) (omega (arith, c.requires.1)) (omega (arith, c.requires.0.1.holds.header.k-high)) in
    omega (arith, m, c.requires.0.1.holds.header.k-high)

pub overflow_add-at-in-loop-i-2 : goal.overflow_add-at-in-loop-i-2
overflow_add-at-in-loop-i-2 c =
    let m = rows-small c.loop-i.i (c.args.h.k + 2) (omega (arith, c.requires.1)) (omega (arith, c.requires.0.1.holds.header.k-high)) in
    omega (arith, m, c.requires.0.1.holds.header.k-high)

pub offset_bounds-answers-at : goal.offset_bounds-answers-at
offset_bounds-answers-at c =
    let m = rows-small c.loop-i.i (c.args.h.k + 2) (omega (arith, c.requires.1)) (omega (arith, c.requires.0.1.holds.header.k-high)) in
    omega (arith, m, c.requires.0.1.holds.header.k-high)

pub slice_bounds-run_job-count-in-loop-i : goal.slice_bounds-run_job-count-in-loop-i
slice_bounds-run_job-count-in-loop-i c = omega arith

pub slice_bounds-run_job-start-in-loop-i : goal.slice_bounds-run_job-start-in-loop-i
slice_bounds-run_job-start-in-loop-i c = omega arith

pub slice_bounds-run_job-end-in-loop-i : goal.slice_bounds-run_job-end-in-loop-i
slice_bounds-run_job-end-in-loop-i c =
    omega (arith, row_fits c.loop-i.i (length c.args.budgets.now) (c.args.h.k + 2) (omega arith), c.requires.4, c.loop-i.auto.answers)

pub run_job-requires : goal.run_job-requires
run_job-requires c =
    let g = c.requires.0.1 in
    let a = c.args in
    let from = c.loop-i.i * a.h.k in
    ((c.requires.0.0, record { holds = g.holds; fits = omega (arith, g.fits, c.loop-i.auto.work); low = omega (arith, g.low, c.loop-i.auto.work) }), omega arith, small-take (ok_of a.h) (from + a.h.k - from) (drop from a.values.now) (small-drop (ok_of a.h) from a.values.now c.requires.3), omega arith)

pub loop-i-preserved : goal.loop-i-preserved
loop-i-preserved c =
    let k = c.args.h.k in
    let fits : c.loop-i.i * (k + 2) ≤ length c.loop-i.answers = omega (arith, row_fits c.loop-i.i (length c.args.budgets.now) (k + 2) (omega arith), c.requires.4, c.loop-i.auto.answers) in
    done-turn k (take c.args.used c.args.term.now) (length c.args.work.now) c.args.budgets.now c.args.values.now c.loop-i.i (omega arith) c.loop-i.answers c.loop-i.invariant fits c.run_job.new.answer (omega (arith, c.answers-1.given.0, c.run_job-arg-in-loop-i-2-1.given.2)) (c.loop-i.i * k + k - c.loop-i.i * k) (omega arith) (length c.loop-i.work) c.loop-i.auto.work c.run_job.ensures _

pub returns : goal.returns
returns c =
    done-whole c.args.h.k (take c.args.used c.args.term.now) (length c.args.work.now) c.args.budgets.now c.args.values.now c.loop-i.i (omega arith) c.loop-i.answers (c.loop-i.auto.answers ∙ c.requires.4) c.loop-i.invariant
