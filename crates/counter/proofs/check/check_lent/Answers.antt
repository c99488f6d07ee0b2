-- Row 6, or by rows 13 and 16.
use mathlib.Core.Path.{ap}
use Prim.Native.Nat.{◌+◌, ℕ}
use native.Mathlib.Omega.{arith}
use Rattle.counter.proofs.CheckLaws.{gives-state, gives-store, lent-ends, lent-stands}
use Rattle.counter.proofs.check.check_lent.Goals as goal

pub returns-then-store-h : goal.returns-then-store-h
returns-then-store-h c =
    gives-store c.requires.0.1 c.requires.1 c.args.state.now c.args.store.now c.if-store-h.true

pub overflow_add-counted : goal.overflow_add-counted
overflow_add-counted c =
    omega (arith, lent-ends c.requires.0.1 c.requires.1 (c.contents_at.result + 4) (ap (λ (m : ℕ). m + 4) c.contents_at.ensures), c.requires.0.1.within, c.requires.1)

pub check_state-right-requires : goal.check_state-right-requires
check_state-right-requires c =
    let start = c.contents_at.result + 4 in
    let at = ap (λ (m : ℕ). m + 4) c.contents_at.ensures in
    ((c.requires.0.0, (lent-stands c.requires.0.1 c.requires.1 start at, lent-ends c.requires.0.1 c.requires.1 start at)), c.requires.1, c.requires.0.1.within)

pub returns : goal.returns
returns c =
    let start = c.contents_at.result + 4 in
    let at = ap (λ (m : ℕ). m + 4) c.contents_at.ensures in
    let reads = c.check_state-right.ensures c.requires.0.0 (lent-stands c.requires.0.1 c.requires.1 start at) (lent-ends c.requires.0.1 c.requires.1 start at) in
    gives-state c.requires.0.1 c.requires.1 c.args.state.now c.args.store.now c.if-store-h.false c.check_state-right.result reads c.largest.result c.largest.ensures c.value_above-above.result c.value_above-above.ensures _ c.state_row.ensures
