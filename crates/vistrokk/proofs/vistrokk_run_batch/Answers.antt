use mathlib.Core.Path.{◌∙◌}
use Rattle.batch.proofs.WrittenLaws.{batch-written}
use Rattle.vistrokk.proofs.vistrokk_run_batch.Goals as goal

pub returns : goal.returns
returns c = batch-written c.into.result c.run_batch.result c.run_batch.new.term c.run_batch.new.work c.run_batch.new.answers (c.into.ensures c.run_batch.new.term) ∙ c.run_batch.ensures
