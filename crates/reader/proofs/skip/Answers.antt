use native.Mathlib.Omega.{arith}
use mathlib.Core.Path.{sym, ◌∙◌}
use Rattle.reader.proofs.HeadLaws.{next-none, next-record, record-tells}
use Rattle.reader.proofs.skip.Goals as goal

pub overflow_add-result : goal.overflow_add-result
overflow_add-result c =
    let whole = record-tells _ _ _ _ (sym c.in-Record.ensures) in
    record { fits = omega (arith, whole.inside) }

pub returns-in-Record : goal.returns-in-Record
returns-in-Record c =
    sym (next-record _ _ _ _ (sym c.in-Record.ensures))

pub returns-in_default : goal.returns-in_default
returns-in_default c = sym (next-none _ _ (λ n k e. c.in_default.not-Record n k (c.read_head.ensures ∙ e)))
