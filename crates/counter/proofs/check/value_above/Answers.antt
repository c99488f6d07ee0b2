-- The store's values first, and then the state's.
use mathlib.Core.Path.{ap, sym, ◌∙◌}
use mathlib.Core.Bool.{not}
use Rattle.rules.specs.Store.{up_to}
use Rattle.counting.specs.SmallState.{counts_of}
use Rattle.counting.specs.StateWords.{unpacked}
use Rattle.rules.proofs.LiteralsLaws.{first_above, second-decides}
use Rattle.counter.proofs.check.value_above.Goals as goal

pub returns-then-some_above : goal.returns-then-some_above
returns-then-some_above c =
    first_above (up_to c.args.largest) c.args.store.now (counts_of (unpacked c.args.state.now)) c.some_above.result c.some_above.ensures c.if-some_above.true

pub returns : goal.returns
returns c =
    c.counts_above.ensures ∙ ap not (sym (second-decides (up_to c.args.largest) c.args.store.now (counts_of (unpacked c.args.state.now)) c.some_above.result c.some_above.ensures c.if-some_above.false))
