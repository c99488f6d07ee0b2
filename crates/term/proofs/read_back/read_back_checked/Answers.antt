-- Rows 9 and 10, or the program written.
use native.Mathlib.Omega.{arith}
use Rattle.rules.specs.ReadBack.{read_back}
use Rattle.term.proofs.AnsweredLaws.{read_back-nine, read_back-ten, read_back-zero, source-found}
use Rattle.term.proofs.read_back.read_back_checked.Goals as goal

pub returns-then-not-is_translation : goal.returns-then-not-is_translation
returns-then-not-is_translation c =
    (read_back-nine c.requires.0.1 c.requires.1 c.args.out.now c.requires.2 c.is_translation.result (c.is_translation.ensures c.requires.0.0 c.requires.0.1) c.if-not-is_translation.true)

pub returns-then-out-n : goal.returns-then-out-n
returns-then-out-n c =
    let p = source-found (read_back c.args.h.k c.requires.0.0) c.is_translation.result (c.is_translation.ensures c.requires.0.0 c.requires.0.1) c.if-not-is_translation.false in
    (read_back-ten c.requires.0.1 c.requires.1 c.args.out.now c.requires.2 p.0 p.1 c.source_size-n.result (c.source_size-n.ensures c.requires.0.0 p.0 c.requires.0.1 p.1) c.if-out-n.true)

pub write_source-requires : goal.write_source-requires
write_source-requires c =
    let p = source-found (read_back c.args.h.k c.requires.0.0) c.is_translation.result (c.is_translation.ensures c.requires.0.0 c.requires.0.1) c.if-not-is_translation.false in
    let n = c.source_size-n.ensures c.requires.0.0 p.0 c.requires.0.1 p.1 in
    ((c.requires.0.0, p.0, c.requires.0.1, p.1, omega (arith, n, c.if-out-n.false)), c.requires.1)

pub overflow_cast-result : goal.overflow_cast-result
overflow_cast-result c =
    omega (arith, c.requires.2, c.if-out-n.false)

pub returns : goal.returns
returns c =
    let p = source-found (read_back c.args.h.k c.requires.0.0) c.is_translation.result (c.is_translation.ensures c.requires.0.0 c.requires.0.1) c.if-not-is_translation.false in
    (read_back-zero c.requires.0.1 c.requires.1 c.args.out.now c.requires.2 p.0 p.1 c.source_size-n.result (c.source_size-n.ensures c.requires.0.0 p.0 c.requires.0.1 p.1) c.if-out-n.false
    c.write_source.new.out (c.write_source.ensures c.requires.0.0 p.0 c.requires.0.1 p.1))
