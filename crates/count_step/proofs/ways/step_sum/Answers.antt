use Prim.Native.Nat.{ℕ}
use lib.ListN.{get_or}
use native.Mathlib.Omega.{arith}
use mathlib.Core.Path.{ap, ◌∙◌}
use Rattle.rules.specs.Store.{update}
use Rattle.count_step.proofs.CodeLaws.{sum-asks, sum-makes, sum-place}
use Rattle.count_step.proofs.ways.step_sum.Goals as goal

pub place-i-requires : goal.place-i-requires
place-i-requires c =
    sum-place c.args.program.start c.args.n c.args.program.bytes.now c.args.words.now c.args.store.now c.requires

pub variable_at-variable-requires : goal.variable_at-variable-requires
variable_at-variable-requires c =
    let a = sum-asks c.args.program.start c.args.n c.args.program.bytes.now c.args.words.now c.args.store.now c.requires c.place-i.result c.place-i.ensures in
    omega (arith, a.room)

pub store_and_pass-requires : goal.store_and_pass-requires
store_and_pass-requires c =
    let a = sum-asks c.args.program.start c.args.n c.args.program.bytes.now c.args.words.now c.args.store.now c.requires c.place-i.result c.place-i.ensures in
    (a.few, omega (arith, a.room, a.low), (omega (arith, a.variable.0, c.variable_at-variable.ensures), omega (arith, a.variable.1, c.variable_at-variable.ensures)))

pub returns : goal.returns
returns c =
    sum-makes c.args.program.start c.args.n c.args.program.bytes.now c.args.words.now c.args.store.now c.place-i.result c.place-i.ensures _ _ _ c.done_waiting.ensures c.store_and_pass.ensures.0
    (c.store_and_pass.ensures.1 ∙ ap (λ (x : ℕ). update c.args.store.now x (get_or c.args.words.now 2 0)) c.variable_at-variable.ensures)
