-- The row that was measured tells where the other begins.
use native.Mathlib.Omega.{arith}
use Rattle.translator.proofs.TaskLaws.{head-room, inner-row, parts-inner, parts-rest, rest-row, rows-order, rows-size}
use Rattle.translator.proofs.rows_of.Goals as goal

pub past_heads-inner-requires : goal.past_heads-inner-requires
past_heads-inner-requires c = (c.requires.0, c.requires.1)

pub get_u16-requires : goal.get_u16-requires
get_u16-requires c = omega (arith, (head-room c.requires.0 c.requires.1).0)

pub overflow_add-next : goal.overflow_add-next
overflow_add-next c =
    omega (arith, (rows-order c.requires.0 c.requires.1 c.requires.2 _ _ c.past_heads-inner.ensures c.get_u16.ensures.0).1)

pub overflow_sub-next : goal.overflow_sub-next
overflow_sub-next c =
    (rows-order c.requires.0 c.requires.1 c.requires.2 _ _ c.past_heads-inner.ensures c.get_u16.ensures.0).0

pub overflow_sub-whole : goal.overflow_sub-whole
overflow_sub-whole c =
    (rows-order c.requires.0 c.requires.1 c.requires.2 _ _ c.past_heads-inner.ensures c.get_u16.ensures.0).1

pub row_size-size-requires : goal.row_size-size-requires
row_size-size-requires c =
    (inner-row c.requires.0 c.requires.1 c.requires.2 _ _ c.past_heads-inner.ensures c.get_u16.ensures.0, c.requires.0.few)

pub overflow_add-inner : goal.overflow_add-inner
overflow_add-inner c =
    let p = c.requires in
    let past = c.past_heads-inner.ensures in
    let read = c.get_u16.ensures.0 in
    omega (arith, rows-size p.0 p.1 p.2 _ _ past read, c.row_size-size.ensures (inner-row p.0 p.1 p.2 _ _ past read))

pub returns-then-next-inner : goal.returns-then-next-inner
returns-then-next-inner c =
    λ h. parts-inner h c.requires.1 c.requires.2 _ _ c.past_heads-inner.ensures c.get_u16.ensures.0 _ _ c.row_size-size.ensures c.cut.ensures

pub row_size-size-requires-2 : goal.row_size-size-requires-2
row_size-size-requires-2 c =
    (rest-row c.requires.0 c.requires.1 c.requires.2 _ _ c.past_heads-inner.ensures c.get_u16.ensures.0, c.requires.0.few)

pub overflow_sub-whole-2 : goal.overflow_sub-whole-2
overflow_sub-whole-2 c =
    let p = c.requires in
    let past = c.past_heads-inner.ensures in
    let read = c.get_u16.ensures.0 in
    omega (arith, rows-size p.0 p.1 p.2 _ _ past read, c.row_size-size-2.ensures (rest-row p.0 p.1 p.2 _ _ past read))

pub returns : goal.returns
returns c =
    λ h. parts-rest h c.requires.1 c.requires.2 _ _ c.past_heads-inner.ensures c.get_u16.ensures.0 _ _ c.row_size-size-2.ensures c.cut-2.ensures
