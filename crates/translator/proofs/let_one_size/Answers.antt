-- The size by the kind read.
use mathlib.Core.Path.{refl, sym}
use Rattle.translator.proofs.TranslationHeadsLaws.{kind-high, kind-low, let_one_size-high, let_one_size-low}
use Rattle.translator.proofs.let_one_size.Goals as goal

pub returns-in-Literal : goal.returns-in-Literal
returns-in-Literal c =
    sym (let_one_size-low c.args.src.now c.args.at 0 _ refl (kind-low c.read_expression.ensures c.in-Literal.is))

pub returns-in_default : goal.returns-in_default
returns-in_default c =
    sym (let_one_size-high c.args.src.now c.args.at 0 _ refl (kind-high c.read_expression.ensures c.in_default.not-Literal c.in_default.not-Variable c.requires.1))
