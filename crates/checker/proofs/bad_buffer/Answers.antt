use mathlib.Core.Path.{sym, ◌∙◌}
use Rattle.record.proofs.HeldLaws.{long-bad, long-is, short-bad}
use Rattle.checker.proofs.bad_buffer.Goals as goal

pub returns-then-too_long : goal.returns-then-too_long
returns-then-too_long c = sym (long-bad _ _ (sym (long-is _) ∙ sym c.too_long.ensures ∙ c.if-too_long.true))

pub returns : goal.returns
returns c = sym (short-bad _ _ (sym (long-is _) ∙ sym c.too_long.ensures ∙ c.if-too_long.false))
