-- No kind is used, or the kind beside the one asked for.
use mathlib.Core.Path.{sym, ◌∙◌}
use Rattle.record.proofs.HeldLaws.{kind_at}
use Rattle.conversion.proofs.AnsweredLaws.{already-kind, already-short}
use Rattle.conversion.proofs.is_already.Goals as goal

pub returns-then-used-lt4 : goal.returns-then-used-lt4
returns-then-used-lt4 c =
    already-short c.args.sort c.args.to c.args.src.now c.args.used c.if-used-lt4.true

pub returns : goal.returns
returns c =
    already-kind c.args.sort c.args.to c.args.src.now c.args.used c.if-used-lt4.false _ _ (c.get_u16.ensures.0 ∙ sym (kind_at c.args.src.now c.args.used c.if-used-lt4.false)) (c.number.ensures ∙ c.converted_kind.ensures _)
