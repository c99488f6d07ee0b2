use Prim.Native.Nat.{◌-◌}
use native.Mathlib.Omega.{arith}
use mathlib.Core.Path.{ap}
use Rattle.state_words.specs.declared.EntryWords.{EntryWords}
use Rattle.count_step.proofs.CodeLaws.{read-end}
use Rattle.count_step.proofs.StandingLaws.{end-asks, inner-end-0, inner-end-last}
use Rattle.count_step.proofs.standing.inner_end.Goals as goal

pub overflow_sub-result : goal.overflow_sub-result
overflow_sub-result c = omega (arith, (end-asks c.requires.5).used_low)

pub returns-then-n-eq0 : goal.returns-then-n-eq0
returns-then-n-eq0 c = λ P es i r count h. inner-end-0 h c.if-n-eq0.true

pub entry-at-requires : goal.entry-at-requires
entry-at-requires c = omega (arith, (end-asks c.requires.5).few, c.if-n-eq0.false)

pub size_at-requires : goal.size_at-requires
size_at-requires c =
    let e = ap (λ (w : EntryWords). w.at) c.entry-at.ensures in
    omega (arith, (end-asks c.requires.5).room c.if-n-eq0.false)

pub returns : goal.returns
returns c =
    λ P es i r count h. inner-end-last h c.if-n-eq0.false _ (read-end c.args.program.start c.args.program.bytes.now c.args.words.now (c.args.n - 1) c.entry-at.result.at c.size_at.result (ap (λ (w : EntryWords). w.at) c.entry-at.ensures) c.size_at.ensures.0)
