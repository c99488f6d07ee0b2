-- The word and the number are two neighbouring stores.
use native.Mathlib.Omega.{arith}
use lib.ListN.{length-append}
use Rattle.buffer.proofs.StoresLaws.{stores-2}
use Rattle.print.specs.Words.{outcome_word, spaced}
use Rattle.run.specs.Represents.{as_outcome}
use Rattle.print.proofs.put_run.Goals as goal

pub returns : goal.returns
returns c =
    let n = length-append (outcome_word (as_outcome c.args.o)) (spaced c.args.n) in
    (stores-2 c.args.out.now c.put_outcome-word.new.out c.put_spaced.new.out (outcome_word (as_outcome c.args.o)) (spaced c.args.n) c.args.at c.put_outcome-word.result c.put_outcome-word.ensures.0 c.put_spaced.ensures.0 (omega arith) (omega arith), omega arith, omega arith)
