use native.Mathlib.Omega.{arith}
use mathlib.Core.Path.{sym, ◌∙◌}
use Rattle.reader.proofs.HeadLaws.{record-tells}
use Rattle.reader.proofs.SplitLaws.{only-kind, only-none, only-shorter}
use Rattle.record.specs.Kind.{kind_number}
use Rattle.reader.proofs.only_at.Goals as goal

pub overflow_sub-bytes : goal.overflow_sub-bytes
overflow_sub-bytes c =
    let w = record-tells _ _ _ _ (sym c.in-Record.ensures) in
    omega (arith, w.inside)

pub returns-then-length-bytes : goal.returns-then-length-bytes
returns-then-length-bytes c =
    rw c.number.ensures (only-kind _ _ (kind_number c.args.kind) _ _ (sym c.in-Record.ensures) c.if-length-bytes.true)

pub returns-else-length-bytes : goal.returns-else-length-bytes
returns-else-length-bytes c =
    let h = only-shorter c.args.bytes.now c.args.at (kind_number c.args.kind) _ _ (sym c.in-Record.ensures) c.if-length-bytes.false in
    grind (arith, h)

pub returns-in_default : goal.returns-in_default
returns-in_default c = sym (only-none _ _ _ (λ n k e. c.in_default.not-Record n k (c.head_at.ensures ∙ e)))
