-- The end of line stands behind the word and the number.
use native.Mathlib.Omega.{arith}
use Rattle.print.proofs.PrintLaws.{refused-put}
use Rattle.print.proofs.put_refused.Goals as goal

pub returns : goal.returns
returns c =
    (refused-put c.args.out.now c.put_run-end.new.out c.put_run-end.result c.args.number c.put_run-end.ensures.0 c.put_run-end.ensures.1 (omega arith), omega arith)
