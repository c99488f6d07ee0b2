use native.Mathlib.Omega.{arith}
use mathlib.Core.Path.{sym, ◌∙◌}
use Rattle.record.proofs.HeaderReadLaws.{header-cut}
use Rattle.record.proofs.HeldLaws.{good-buffer}
use Rattle.reader.proofs.HeadLaws.{record-tells}
use Rattle.checker.proofs.HeaderLaws.{row-kind, row-length, row-no_record, row-none, row-three}
use Rattle.checker.proofs.check_header.Goals as goal

pub returns-in_default : goal.returns-in_default
returns-in_default c =
    record { row = sym (row-no_record _ _ _ c.requires (λ n k e. c.in_default.not-Record n k (c.head_at.ensures ∙ e))); header = tt }

pub start_of-requires : goal.start_of-requires
start_of-requires c =
    let w = record-tells c.args.buf.now 0 _ _ (sym c.in-Record.ensures) in
    omega (arith, w.least, w.inside)

pub returns-then-used-start_of-clause-row : goal.returns-then-used-start_of-clause-row
returns-then-used-start_of-clause-row c = sym (header-cut _ _ _ (omega (arith, c.start_of.ensures, c.if-used-start_of.true)))

pub read_header-h-requires : goal.read_header-h-requires
read_header-h-requires c =
    omega (arith, (good-buffer c.args.buf.now c.args.used c.requires).within, c.start_of.ensures, c.if-used-start_of.false)

pub returns-then-found-number-clause-row : goal.returns-then-found-number-clause-row
returns-then-found-number-clause-row c =
    sym (row-kind _ _ _ _ _ (sym c.in-Record.ensures) (omega (arith, c.start_of.ensures, c.if-used-start_of.false)) _ c.read_header-h.ensures (λ e. c.if-found-number.true (e ∙ sym (c.number.ensures ∙ c.kind_of.ensures))))

pub returns-then-length-used-clause-row : goal.returns-then-length-used-clause-row
returns-then-length-used-clause-row c =
    sym (row-length _ _ _ _ _ (sym c.in-Record.ensures) c.if-length-used.true)

pub returns-then-h-lt1-clause-row : goal.returns-then-h-lt1-clause-row
returns-then-h-lt1-clause-row c =
    sym (row-three _ _ _ _ _ (sym c.in-Record.ensures) (omega (arith, c.start_of.ensures, c.if-used-start_of.false)) _ c.read_header-h.ensures (c.if-found-number.false ∙ c.number.ensures ∙ c.kind_of.ensures) c.if-length-used.false (λ w. omega (arith, w.0, w.1)))

pub returns-then-h-gt-VARIABLES-clause-row : goal.returns-then-h-gt-VARIABLES-clause-row
returns-then-h-gt-VARIABLES-clause-row c =
    sym (row-three _ _ _ _ _ (sym c.in-Record.ensures) (omega (arith, c.start_of.ensures, c.if-used-start_of.false)) _ c.read_header-h.ensures (c.if-found-number.false ∙ c.number.ensures ∙ c.kind_of.ensures) c.if-length-used.false (λ w. omega (arith, w.0, w.1)))

pub returns-clause-row : goal.returns-clause-row
returns-clause-row c =
    sym (row-none _ _ _ _ _ (sym c.in-Record.ensures) (omega (arith, c.start_of.ensures, c.if-used-start_of.false)) _ c.read_header-h.ensures (c.if-found-number.false ∙ c.number.ensures ∙ c.kind_of.ensures) c.if-length-used.false c.if-h-lt1.false c.if-h-gt-VARIABLES.false)
