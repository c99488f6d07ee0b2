use mathlib.Core.Path.{ap, ◌∙◌}
use Rattle.record.specs.declared.kind.Kind.TheVariants.{Assignment, Block}
use Rattle.record.proofs.KindLaws.{named-number, not-number}
use Rattle.canonical.specs.Canonical.{held_of}
use Rattle.state_check.specs.Class.{loop_class}
use Rattle.state_check.proofs.EntryLaws.{at_room, class-above, class-assign, class-block, class-elsewhere, class-end, class-loop, class-no-loop}
use Rattle.state_check.proofs.entry_class.Goals.{then-at-via-then-at, then-at-via-else-at+then-entry-at, then-entry-ne2-via-then-entry-ne2, then-entry-ne2-via-else-entry-ne2+then-entry}
use Rattle.state_check.proofs.entry_class.Goals as goal

pub returns-then-at : goal.returns-then-at
returns-then-at c = elim c.then-at.branch [
  | then-at-via-then-at w ↦ λ r b s. class-end c.args.program.start c.args.at.p c.args.at.end b s _ c.args.last _ w.if-at.true
  | then-at-via-else-at+then-entry-at w ↦ λ r b s. class-elsewhere _ c.args.last _ c.args.at.p r w.if-entry-at.true
]

pub record_at-requires : goal.record_at-requires
record_at-requires c =
    let q = c.requires in
    at_room c.args.program.start c.args.at.p c.args.at.end q.1.0 q.1.1 c.if-at.false

pub returns-in-Assignment : goal.returns-in-Assignment
returns-in-Assignment c =
    λ r b s. class-assign c.args.program.start c.args.at.p c.args.at.end b s _ c.args.last _ c.if-at.false (named-number c.in-Assignment.ensures)

pub returns-in-Block : goal.returns-in-Block
returns-in-Block c =
    λ r b s. class-block c.args.program.start c.args.at.p c.args.at.end b s _ c.args.last _ c.if-at.false (named-number c.in-Block.ensures) c.if-entry-at.false c.then_some.result c.then_some.ensures

pub returns-then-entry-ne2 : goal.returns-then-entry-ne2
returns-then-entry-ne2 c = elim c.then-entry-ne2.branch [
  | then-entry-ne2-via-then-entry-ne2 w ↦ λ r b s. class-no-loop c.args.program.start c.args.at.p c.args.at.end b s _ c.args.last _ c.if-at.false (not-number Block tt c.record_at.ensures c.in_default.not-Block) (not-number Assignment tt c.record_at.ensures c.in_default.not-Assignment) w.if-entry-ne2.true
  | then-entry-ne2-via-else-entry-ne2+then-entry w ↦ λ r b s. class-above c.args.program.start c.args.at.p c.args.at.end b s c.args.waits c.args.last (held_of c.args.entry) c.if-at.false (not-number Block tt c.record_at.ensures c.in_default.not-Block) (not-number Assignment tt c.record_at.ensures c.in_default.not-Assignment)
      w.if-entry-ne2.false c.if-entry-at.false w.if-entry.true
]

pub returns-else-entry : goal.returns-else-entry
returns-else-entry c =
    λ r b s. class-loop c.args.program.start c.args.at.p c.args.at.end b s c.args.waits c.args.last (held_of c.args.entry) c.if-at.false (not-number Block tt c.record_at.ensures c.in_default.not-Block) (not-number Assignment tt c.record_at.ensures c.in_default.not-Assignment)
    c.if-entry-ne2.false c.if-entry-at.false c.if-entry.false c.loop_class.result (c.loop_class.ensures ∙ ap (loop_class _ _ _) c.shut_class.ensures)
