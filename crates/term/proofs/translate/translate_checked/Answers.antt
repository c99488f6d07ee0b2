-- Row 10, or the translation written.
use native.Mathlib.Omega.{arith}
use Rattle.term.proofs.AnsweredLaws.{translate-ten, translate-zero}
use Rattle.term.proofs.translate.translate_checked.Goals as goal

pub returns-then-out-n : goal.returns-then-out-n
returns-then-out-n c =
    (translate-ten c.requires.0.1 c.requires.1 c.args.out.now c.requires.2 c.translation_size-n.result (c.translation_size-n.ensures c.requires.0.0 c.requires.0.1) c.if-out-n.true)

pub write_translation-requires : goal.write_translation-requires
write_translation-requires c =
    let e = c.translation_size-n.ensures c.requires.0.0 c.requires.0.1 in
    ((c.requires.0.0, c.requires.0.1, omega (arith, e, c.if-out-n.false)), c.requires.1)

pub overflow_cast-result : goal.overflow_cast-result
overflow_cast-result c =
    omega (arith, c.requires.2, c.if-out-n.false)

pub returns : goal.returns
returns c =
    (translate-zero c.requires.0.1 c.requires.1 c.args.out.now c.requires.2 c.translation_size-n.result (c.translation_size-n.ensures c.requires.0.0 c.requires.0.1) c.if-out-n.false
    c.write_translation.new.out (c.write_translation.ensures c.requires.0.0 c.requires.0.1))
