-- From each entry on, the test of what is left is that of all.
use Rattle.std.proofs.Common.{ap, Bool, arith, refl, rules, sym, ◌∙◌, ◌||◌, ◌<◌}
use borrow.Author.Tests.{tests}
use Rattle.std.proofs.lemmas.Iterator.{YieldsList-from_range, serves_from_Range}
use Rattle.std.proofs.lemmas.Iterator.Search.{any_from_yields_List}
use Rattle.rules.specs.Store.{up_to}
use Rattle.canonical.proofs.HeldLaws.{from-few}
use Rattle.state_check.proofs.CountsLaws.{counts-any, counts-some, top-above}
use Rattle.state_check.proofs.counts.counts_above.Goals as goal

pub any-requires-clause-callable : goal.any-requires-clause-callable
any-requires-clause-callable c =
    serves_from_Range (λ x q k. search rules) (λ x l m. let h : x < 31 = omega (arith, c.open_count.ensures, from-few c.args.words.now 3 31) in search rules)

pub returns-then-any : goal.returns-then-any
returns-then-any c =
    let r = any_from_yields_List (top-above (up_to c.args.largest) c.args.words.now) _ _ c.any.result c.any.ensures.ran (YieldsList-from_range 0 _ _ refl (omega arith)) (λ x b q k. search (rules, tests)) in
    counts-some c.args.words.now (up_to c.args.largest) _ c.open_count.ensures _ r c.if-any.true

pub returns-else-any : goal.returns-else-any
returns-else-any c =
    let r = any_from_yields_List (top-above (up_to c.args.largest) c.args.words.now) _ _ c.any.result c.any.ensures.ran (YieldsList-from_range 0 _ _ refl (omega arith)) (λ x b q k. search (rules, tests)) in
    ap (λ (b : Bool). b || c.sum_above.result) (sym c.if-any.false) ∙ counts-any c.args.words.now (up_to c.args.largest) _ c.open_count.ensures _ _ r c.sum_above.ensures
