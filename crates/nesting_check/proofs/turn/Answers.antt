use Rattle.std.proofs.Common.{ℕ, ◌+◌, arith, ap, refl, rules, sym, ◌∙◌}
use Rattle.nesting_check.proofs.RowsLaws.{row_of, row_room, turn-assign, turn-block, turn_end, turn-loop, turn-over, row-end}
use Rattle.record.specs.declared.kind.Kind.TheVariants.{Assignment, Block}
use Rattle.record.proofs.KindLaws.{named-number, not-number}
use Rattle.nesting_check.proofs.turn.Goals as goal

pub returns-then-q-end : goal.returns-then-q-end
returns-then-q-end c = λ used deep s l. turn_end (row_of _ _ _ _ _ _ l s) (c.if-q-end.true ∙ c.end.ensures)

pub read-kind-requires : goal.read-kind-requires
read-kind-requires c =
    let s = c.requires.0.2 in
    omega (arith, row_room (row_of _ _ _ _ _ _ s.1 s.0) (λ z. c.if-q-end.false (z ∙ sym c.end.ensures)))

pub returns-in-Assignment : goal.returns-in-Assignment
returns-in-Assignment c =
    λ used deep s l. turn-assign (row_of _ _ _ _ _ _ l s) (λ z. c.if-q-end.false (z ∙ sym c.end.ensures)) _ refl (named-number c.in-Assignment.ensures)

pub get_u16-requires : goal.get_u16-requires
get_u16-requires c =
    let s = c.requires.0.2 in
    omega (arith, row_room (row_of _ _ _ _ _ _ s.1 s.0) (λ z. c.if-q-end.false (z ∙ sym c.end.ensures)))

pub overflow_cast-q : goal.overflow_cast-q
overflow_cast-q c =
    let s = c.requires.0.2 in
    omega (arith, row-end (row_of _ _ _ _ _ _ s.1 s.0) (λ z. c.if-q-end.false (z ∙ sym c.end.ensures)) c.get_u16.result c.get_u16.ensures.0, s.2, c.requires.1)

pub returns-in_err-push : goal.returns-in_err-push
returns-in_err-push c =
    rw c.from_residual.ensures (λ used deep s l. turn-over (row_of _ _ _ _ _ _ l s) (λ z. c.if-q-end.false (z ∙ sym c.end.ensures)) _ refl (not-number Assignment tt c.read-kind.ensures c.in_default.not-Assignment) c.in_err-push.ensures)

pub returns-in-Block : goal.returns-in-Block
returns-in-Block c =
    λ used deep s l. let k = c.in_ok-push.ensures in
    turn-block (row_of _ _ _ _ _ _ l s) k.0 (search rules) _ _ k.1 _ k.2 (λ z. c.if-q-end.false (z ∙ sym c.end.ensures)) _ refl (ap (λ (z : ℕ). c.args.q + z) c.get_u16.ensures.0) (named-number c.in-Block.ensures)

pub returns-in_default-kind : goal.returns-in_default-kind
returns-in_default-kind c =
    λ used deep s l. let k = c.in_ok-push.ensures in
    turn-loop (row_of _ _ _ _ _ _ l s) k.0 (search rules) _ _ k.1 _ k.2 (λ z. c.if-q-end.false (z ∙ sym c.end.ensures)) _ refl (ap (λ (z : ℕ). c.args.q + z) c.get_u16.ensures.0) (not-number Block tt c.read-kind.ensures c.in_default-kind.not-Block) (not-number Assignment tt c.read-kind.ensures c.in_default.not-Assignment)
