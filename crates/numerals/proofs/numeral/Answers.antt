-- Each atom of the row takes 8 bytes, its number the last four.
use mathlib.Core.Path.{◌∙◌}
use native.Mathlib.Omega.{arith}
use Rattle.place.proofs.NumeralsLaws.{nth-numeral}
use Rattle.numerals.proofs.numeral.Goals as goal

pub overflow_mul-i : goal.overflow_mul-i
overflow_mul-i c =
    let n = nth-numeral c.requires.0 c.requires.1.0 c.args.i c.requires.1.1 in omega (arith, n.0)

pub overflow_add-at : goal.overflow_add-at
overflow_add-at c =
    let n = nth-numeral c.requires.0 c.requires.1.0 c.args.i c.requires.1.1 in omega (arith, n.0)

pub overflow_add-at-2 : goal.overflow_add-at-2
overflow_add-at-2 c =
    let n = nth-numeral c.requires.0 c.requires.1.0 c.args.i c.requires.1.1 in omega (arith, n.0)

pub get_u32-requires : goal.get_u32-requires
get_u32-requires c =
    let n = nth-numeral c.requires.0 c.requires.1.0 c.args.i c.requires.1.1 in omega (arith, n.0)

pub returns : goal.returns
returns c = λ vs h b. c.get_u32.ensures ∙ (nth-numeral vs h c.args.i b).1
