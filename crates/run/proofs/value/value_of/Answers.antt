use Rattle.rules.proofs.StoreLaws.{lookup-index}
use Rattle.run.proofs.value.value_of.Goals as goal

pub returns : goal.returns
returns c = lookup-index c.args.store.now c.args.variable c.requires.0
