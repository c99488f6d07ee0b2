use mathlib.Core.Path.{sym, ◌∙◌}
use native.Mathlib.Omega.{arith}
use Rattle.probe.proofs.ProbeLaws.{le-inside, moved-down, not-down, down_out}
use Rattle.probe.proofs.probe_move_down.Goals as goal

pub returns-then-from-to : goal.returns-then-from-to
returns-then-from-to c = not-down _ _ _ _ c.if-from-to.true

pub move_down-requires : goal.move_down-requires
move_down-requires c =
    let order = c.if-from-to.false in
    let room = le-inside _ _ _ (sym c.within.ensures ∙ c.if-within.true) in
    (omega (arith, order, room), omega (arith, order, room))

pub returns-then-within : goal.returns-then-within
returns-then-within c =
    c.move_down.ensures ∙ moved-down _ _ _ _ c.if-from-to.false (sym c.within.ensures ∙ c.if-within.true)

pub returns-else-within : goal.returns-else-within
returns-else-within c = down_out _ _ _ _ (sym c.within.ensures ∙ c.if-within.false)
