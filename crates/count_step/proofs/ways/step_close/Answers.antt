use Prim.Native.Nat.{◌*◌, ◌+◌, ◌-◌}
use native.Mathlib.Omega.{arith}
use mathlib.Core.Path.{ap, sym, ◌∙◌}
use Rattle.state_words.specs.declared.EntryWords.{EntryWords}
use Rattle.count_step.proofs.CodeLaws.{end-asks, end-next, end-pop, read-end}
use Rattle.count_step.proofs.WordsLaws.{again-true}
use Rattle.count_step.proofs.ways.step_close.Goals as goal

pub overflow_sub-m : goal.overflow_sub-m
overflow_sub-m c =
    (end-asks c.args.program.start c.args.n c.args.program.bytes.now c.args.words.now c.requires.0 c.requires.1).0

pub turns_again-requires : goal.turns_again-requires
turns_again-requires c =
    (end-asks c.args.program.start c.args.n c.args.program.bytes.now c.args.words.now c.requires.0 c.requires.1).1.few

pub next_turn-requires : goal.next_turn-requires
next_turn-requires c =
    let a = end-asks c.args.program.start c.args.n c.args.program.bytes.now c.args.words.now c.requires.0 c.requires.1 in
    let t = again-true c.args.words.now (c.args.n - 1) (sym c.turns_again.ensures ∙ c.if-turns_again.true) in
    let b = a.1.below t.0 in
    let f = t.1 in
    let u = c.fits-words (3 + 6 * (c.args.n - 1) + 2) in
    (a.1.few, omega (arith, b, u))

pub returns-then-turns_again : goal.returns-then-turns_again
returns-then-turns_again c =
    end-next c.args.program.start c.args.n c.args.program.bytes.now c.args.words.now _ (end-asks c.args.program.start c.args.n c.args.program.bytes.now c.args.words.now c.requires.0 c.requires.1).0 (sym c.turns_again.ensures ∙ c.if-turns_again.true) c.next_turn.ensures

pub entry-at-requires : goal.entry-at-requires
entry-at-requires c =
    (end-asks c.args.program.start c.args.n c.args.program.bytes.now c.args.words.now c.requires.0 c.requires.1).1.few

pub size_at-requires : goal.size_at-requires
size_at-requires c =
    let a = end-asks c.args.program.start c.args.n c.args.program.bytes.now c.args.words.now c.requires.0 c.requires.1 in
    let e = ap (λ (w : EntryWords). w.at) c.entry-at.ensures in
    omega (arith, a.1.room)

pub pop-requires : goal.pop-requires
pop-requires c =
    let a = end-asks c.args.program.start c.args.n c.args.program.bytes.now c.args.words.now c.requires.0 c.requires.1 in
    let e = read-end c.args.program.start c.args.program.bytes.now c.args.words.now (c.args.n - 1) c.entry-at.result.at c.size_at.result (ap (λ (w : EntryWords). w.at) c.entry-at.ensures) c.size_at.ensures.0 in
    (a.1.few, omega (arith, a.1.end, e))

pub returns : goal.returns
returns c =
    end-pop c.args.program.start c.args.n c.args.program.bytes.now c.args.words.now _ (end-asks c.args.program.start c.args.n c.args.program.bytes.now c.args.words.now c.requires.0 c.requires.1).0 (c.entry-at.result.at + c.size_at.result) (sym c.turns_again.ensures ∙ c.if-turns_again.false)
    (read-end c.args.program.start c.args.program.bytes.now c.args.words.now (c.args.n - 1) c.entry-at.result.at c.size_at.result (ap (λ (w : EntryWords). w.at) c.entry-at.ensures) c.size_at.ensures.0) c.pop.ensures
