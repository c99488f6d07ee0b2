use Prim.Native.Nat.{ℕ, ◌+◌, ◌-◌}
use native.Mathlib.Omega.{arith}
use mathlib.Core.Path.{◌∙◌, ap, refl, sym}
use Rattle.rules.specs.Store.{update}
use Rattle.state_words.specs.declared.EntryWords.{EntryWords}
use Rattle.count_step.proofs.CodeLaws.{read-end, read-variable, shut-asks, shut-first, shut-index, shut-pop, shut-unroll}
use Rattle.count_step.proofs.ways.step_shut.Goals as goal

pub overflow_sub-m : goal.overflow_sub-m
overflow_sub-m c =
    (shut-asks c.args.program.start c.args.n c.args.program.bytes.now c.args.words.now c.args.store.now c.requires).0

pub entry-last-requires : goal.entry-last-requires
entry-last-requires c =
    (shut-asks c.args.program.start c.args.n c.args.program.bytes.now c.args.words.now c.args.store.now c.requires).1.few

pub unroll-requires : goal.unroll-requires
unroll-requires c =
    (shut-asks c.args.program.start c.args.n c.args.program.bytes.now c.args.words.now c.args.store.now c.requires).1.few

pub returns-then-last-eq0 : goal.returns-then-last-eq0
returns-then-last-eq0 c =
    shut-unroll c.args.program.start c.args.n c.args.program.bytes.now c.args.words.now c.args.store.now _ _ (sym (ap (λ (w : EntryWords). w.running) c.entry-last.ensures) ∙ c.if-last-eq0.true) c.unroll.ensures refl

pub enter_body-requires : goal.enter_body-requires
enter_body-requires c =
    let a = shut-asks c.args.program.start c.args.n c.args.program.bytes.now c.args.words.now c.args.store.now c.requires in
    let e = ap (λ (w : EntryWords). w.at) c.entry-last.ensures in
    (a.1.few, omega (arith, a.1.room, a.1.low))

pub variable_at-requires : goal.variable_at-requires
variable_at-requires c =
    let a = shut-asks c.args.program.start c.args.n c.args.program.bytes.now c.args.words.now c.args.store.now c.requires in
    let e = ap (λ (w : EntryWords). w.at) c.entry-last.ensures in
    omega (arith, a.1.room)

pub set_value-requires : goal.set_value-requires
set_value-requires c =
    let a = shut-asks c.args.program.start c.args.n c.args.program.bytes.now c.args.words.now c.args.store.now c.requires in
    let e = read-variable c.args.program.start c.args.program.bytes.now c.args.words.now (c.args.n - 1) c.entry-last.result.at c.variable_at.result (ap (λ (w : EntryWords). w.at) c.entry-last.ensures) c.variable_at.ensures in
    (omega (arith, a.1.variable.0, e), omega (arith, a.1.variable.1, e))

pub returns-then-last-ne0 : goal.returns-then-last-ne0
returns-then-last-ne0 c =
    let e = c.entry-last.ensures in
    let at = ap (λ (w : EntryWords). w.at) e in
    shut-index c.args.program.start c.args.n c.args.program.bytes.now c.args.words.now c.args.store.now _ _ (λ z. c.if-last-eq0.false (ap (λ (w : EntryWords). w.running) e ∙ z)) (c.entry-last.result.at + 20) c.variable_at.result
    (λ z. c.if-last-ne0.true (ap (λ (w : EntryWords). w.progress) e ∙ z)) (ap (λ (x : ℕ). x + 20) at) c.enter_body.ensures
    (read-variable c.args.program.start c.args.program.bytes.now c.args.words.now (c.args.n - 1) c.entry-last.result.at c.variable_at.result at c.variable_at.ensures)
    (c.set_value.ensures ∙ ap (update c.args.store.now c.variable_at.result) (ap (λ (w : EntryWords). w.reached) e))

pub size_at-requires : goal.size_at-requires
size_at-requires c =
    let a = shut-asks c.args.program.start c.args.n c.args.program.bytes.now c.args.words.now c.args.store.now c.requires in
    let e = ap (λ (w : EntryWords). w.at) c.entry-last.ensures in
    omega (arith, a.1.room)

pub pop-requires : goal.pop-requires
pop-requires c =
    let a = shut-asks c.args.program.start c.args.n c.args.program.bytes.now c.args.words.now c.args.store.now c.requires in
    let e = read-end c.args.program.start c.args.program.bytes.now c.args.words.now (c.args.n - 1) c.entry-last.result.at c.size_at.result (ap (λ (w : EntryWords). w.at) c.entry-last.ensures) c.size_at.ensures.0 in
    (a.1.few, omega (arith, a.1.end, e))

pub returns-then-last-eq0-2 : goal.returns-then-last-eq0-2
returns-then-last-eq0-2 c =
    let e = c.entry-last.ensures in
    shut-pop c.args.program.start c.args.n c.args.program.bytes.now c.args.words.now c.args.store.now _ _ (λ z. c.if-last-eq0.false (ap (λ (w : EntryWords). w.running) e ∙ z)) (c.entry-last.result.at + c.size_at.result)
    (sym (ap (λ (w : EntryWords). w.progress) e) ∙ c.if-last-ne0.false) (sym (ap (λ (w : EntryWords). w.top) e) ∙ c.if-last-eq0-2.true)
    (read-end c.args.program.start c.args.program.bytes.now c.args.words.now (c.args.n - 1) c.entry-last.result.at c.size_at.result (ap (λ (w : EntryWords). w.at) e) c.size_at.ensures.0) c.pop.ensures refl

pub first_turn-requires : goal.first_turn-requires
first_turn-requires c =
    (shut-asks c.args.program.start c.args.n c.args.program.bytes.now c.args.words.now c.args.store.now c.requires).1.few

pub returns : goal.returns
returns c =
    let e = c.entry-last.ensures in
    shut-first c.args.program.start c.args.n c.args.program.bytes.now c.args.words.now c.args.store.now _ _ (λ z. c.if-last-eq0.false (ap (λ (w : EntryWords). w.running) e ∙ z))
    (sym (ap (λ (w : EntryWords). w.progress) e) ∙ c.if-last-ne0.false) (λ z. c.if-last-eq0-2.false (ap (λ (w : EntryWords). w.top) e ∙ z)) c.first_turn.ensures refl
