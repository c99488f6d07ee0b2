use mathlib.Core.Path.{ap, sym}
use Rattle.record.specs.declared.Conversion.{Conversion}
use Rattle.record.specs.Header.{converted_header}
use Rattle.record.proofs.Header.converted.Goals as goal

pub returns-in-ToFirst : goal.returns-in-ToFirst
unfolding converted_header
returns-in-ToFirst c = ap (λ (to : Conversion). converted_header to c.args.self) (sym c.in-ToFirst.is)

pub returns-in-ToSecond : goal.returns-in-ToSecond
unfolding converted_header
returns-in-ToSecond c =
    ap (λ (to : Conversion). converted_header to c.args.self) (sym c.in-ToSecond.is)
