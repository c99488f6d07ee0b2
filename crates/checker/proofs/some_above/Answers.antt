use Rattle.std.proofs.Common.{◌∙◌, nat_lt, rules, tests}
use Rattle.std.proofs.lemmas.Iterator.{YieldsList-from_slice}
use Rattle.std.proofs.lemmas.Iterator.Search.{any_from_yields_List}
use Rattle.checker.proofs.AboveLaws.{any_above}
use Rattle.checker.proofs.some_above.Goals as goal

pub returns : goal.returns
returns c =
    any_from_yields_List (nat_lt c.args.largest) _ _ c.any.result c.any.ensures.ran (YieldsList-from_slice c.args.values.now cc) (λ x b q k. search (rules, tests))
    ∙ any_above c.args.largest c.args.values.now
