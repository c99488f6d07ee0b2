use mathlib.Core.Path.{◌∙◌}
use Rattle.std.proofs.Common.{arith}
use Rattle.record.proofs.KindLaws.{named-number, not-number}
use Rattle.redex.proofs.LookLaws.{let-atom, let-pred, let-succ, one-room}
use Rattle.rules.specs.Store.{up_to}
use Rattle.redex.proofs.look_let_one.Goals as goal

pub get_u32-variable-requires : goal.get_u32-variable-requires
get_u32-variable-requires c = omega (arith, one-room c.requires.0.1.1 c.requires.1)

pub read-requires : goal.read-requires
read-requires c = omega (arith, one-room c.requires.0.1.1 c.requires.1)

pub get_u32-requires : goal.get_u32-requires
get_u32-requires c = omega (arith, one-room c.requires.0.1.1 c.requires.1)

pub returns-in-Numeral : goal.returns-in-Numeral
returns-in-Numeral c =
    λ k t h s.
    c.bind.ensures
    ∙ let-atom h c.requires.1 s (up_to c.args.largest) c.args.place.levels c.get_u32-variable.result c.get_u32-variable.ensures (named-number c.in-Numeral.ensures) c.get_u32.result c.get_u32.ensures

pub get_u32-value-requires : goal.get_u32-value-requires
get_u32-value-requires c = omega (arith, one-room c.requires.0.1.1 c.requires.1)

pub returns-in-Pred : goal.returns-in-Pred
returns-in-Pred c =
    λ k t h s.
    c.evaluate.ensures
    ∙ let-pred h c.requires.1 s (up_to c.args.largest) c.args.place.levels c.get_u32-variable.result c.get_u32-variable.ensures (named-number c.in-Pred.ensures) c.get_u32-value.result c.minus_one.result c.get_u32-value.ensures c.minus_one.ensures

pub get_u32-requires-in_default : goal.get_u32-requires-in_default
get_u32-requires-in_default c = omega (arith, one-room c.requires.0.1.1 c.requires.1)

pub returns-in_default : goal.returns-in_default
returns-in_default c =
    λ k t h s.
    c.raise.ensures
    ∙ let-succ h c.requires.1 s (up_to c.args.largest) c.args.place.levels c.get_u32-variable.result c.get_u32-variable.ensures (not-number _ tt c.read.ensures c.in_default.not-Numeral) (not-number _ tt c.read.ensures c.in_default.not-Pred) c.get_u32-in_default.result c.get_u32-in_default.ensures
