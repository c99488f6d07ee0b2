use Rattle.std.proofs.Common.{rules, ◌+◌, ℕ, Option, get_or, ◌*◌, ap, refl, ◌∙◌}
use borrow.Author.Tests.{tests}
use lib.Dec.{eqb}
use Rattle.std.specs.Option.{unwrap_or}
use Rattle.std.proofs.lemmas.Iterator.{YieldsList-from_range}
use Rattle.std.proofs.lemmas.Iterator.Search.{position_from_yields_List}
use Rattle.canonical.proofs.HeldLaws.{held-found}
use Rattle.canonical.proofs.open_count.Goals as goal

pub returns : goal.returns
returns c =
    let p = position_from_yields_List (λ (j : ℕ). eqb (get_or c.args.words.now (3 + 6 * j) 0) 0) _ _ c.position.result c.position.ensures.ran (YieldsList-from_range 0 31 31 refl refl) (λ x b q k. search (rules, tests)) in
    c.unwrap_or.ensures ∙ ap (λ (r : Option ℕ). unwrap_or r 31) p ∙ held-found c.args.words.now
