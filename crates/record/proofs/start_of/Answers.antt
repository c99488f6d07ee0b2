use mathlib.Core.Path.{sym}
use Rattle.record.specs.Header.{header_in}
use Rattle.record.proofs.HeaderLaws.{as_first, as-second, first-start, second-start}
use Rattle.record.proofs.start_of.Goals as goal

pub returns-then-is_second : goal.returns-then-is_second
returns-then-is_second c =
    let buf = c.args.buf.now in
    sym (second-start (header_in buf) _ (as-second buf c.get_u16.result c.is_second.result c.get_u16.ensures.0 c.is_second.ensures c.if-is_second.true))

pub returns : goal.returns
returns c =
    let buf = c.args.buf.now in
    sym (first-start (header_in buf) (as_first buf c.get_u16.result c.is_second.result c.get_u16.ensures.0 c.is_second.ensures c.if-is_second.false))
