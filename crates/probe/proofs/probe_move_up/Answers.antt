use mathlib.Core.Path.{sym, ◌∙◌}
use native.Mathlib.Omega.{arith}
use Rattle.probe.proofs.ProbeLaws.{le-inside, moved-up, not-up, up-out}
use Rattle.probe.proofs.probe_move_up.Goals as goal

pub returns-then-to-from : goal.returns-then-to-from
returns-then-to-from c = not-up _ _ _ _ c.if-to-from.true

pub move_up-requires : goal.move_up-requires
move_up-requires c =
    let order = c.if-to-from.false in
    let room = le-inside _ _ _ (sym c.within.ensures ∙ c.if-within.true) in
    (omega (arith, order, room), omega (arith, order, room))

pub returns-then-within : goal.returns-then-within
returns-then-within c =
    c.move_up.ensures ∙ moved-up _ _ _ _ c.if-to-from.false (sym c.within.ensures ∙ c.if-within.true)

pub returns-else-within : goal.returns-else-within
returns-else-within c = up-out _ _ _ _ (sym c.within.ensures ∙ c.if-within.false)
