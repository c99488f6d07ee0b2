-- Both places by the kind read; the row has room for the heads.
use native.Mathlib.Omega.{arith}
use mathlib.Core.Path.{refl}
use Rattle.record.proofs.KindLaws.{stands-not, stands-number}
use Rattle.translator.proofs.TaskLaws.{head-room, loop-room, past-loop, past-nest}
use Rattle.translator.proofs.past_heads.Goals as goal

pub stands_at-requires : goal.stands_at-requires
stands_at-requires c = omega (arith, (head-room c.requires.0 c.requires.1).0)

pub overflow_add-result-then-stands_at : goal.overflow_add-result-then-stands_at
overflow_add-result-then-stands_at c = omega (arith, (loop-room c.requires.0 c.requires.1 (stands-number c.stands_at.ensures c.if-stands_at.true)).1)

pub overflow_add-result-then-stands_at-2 : goal.overflow_add-result-then-stands_at-2
overflow_add-result-then-stands_at-2 c = omega (arith, (loop-room c.requires.0 c.requires.1 (stands-number c.stands_at.ensures c.if-stands_at.true)).1, c.tuple_size.ensures)

pub returns-then-stands_at : goal.returns-then-stands_at
returns-then-stands_at c =
    past-loop c.args.k c.args.src.now c.args.whole _ _ _ refl (stands-number c.stands_at.ensures c.if-stands_at.true) refl (omega (arith, c.tuple_size.ensures))

pub overflow_add-result-else-stands_at-2 : goal.overflow_add-result-else-stands_at-2
overflow_add-result-else-stands_at-2 c = omega (arith, (head-room c.requires.0 c.requires.1).1)

pub returns-else-stands_at : goal.returns-else-stands_at
returns-else-stands_at c =
    past-nest c.args.k c.args.src.now c.args.whole _ _ _ refl (stands-not c.stands_at.ensures c.if-stands_at.false) refl refl
