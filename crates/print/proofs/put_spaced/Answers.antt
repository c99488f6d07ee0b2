-- The space and the digits are two neighbouring stores.
use native.Mathlib.Omega.{arith}
use mathlib.Core.Path.{◌∙◌}
use lib.ListN.{length-set}
use Rattle.print.proofs.PrintLaws.{length-spaced, spaced-put}
use Rattle.print.proofs.put_spaced.Goals as goal

pub put_decimal-requires : goal.put_decimal-requires
put_decimal-requires c = simp length-set (omega arith)

pub shape_of-out : goal.shape_of-out
shape_of-out c = c.put_decimal.auto.out ∙ simp length-set

pub returns : goal.returns
returns c =
    let n = length-spaced c.args.n in
    (c.put_decimal.ensures.0 ∙ spaced-put c.args.out.now c.args.at c.args.n (omega arith), omega arith, omega arith)
