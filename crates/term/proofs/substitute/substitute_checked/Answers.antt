-- Row 6, row 16, or the store substituted.
use native.Mathlib.Omega.{arith}
use Rattle.term.proofs.AnsweredLaws.{substitute-few, substitute-six, substitute-sixteen, substitute-zero, values-small}
use Rattle.term.proofs.substitute.substitute_checked.Goals as goal

pub returns-then-store-h : goal.returns-then-store-h
returns-then-store-h c =
    (substitute-six c.requires.0.1 c.requires.1 c.args.store.now c.if-store-h.true)

pub returns-then-some_above : goal.returns-then-some_above
returns-then-some_above c =
    let held = c.requires.0.1 in
    let low = c.requires.1 in
    let store = c.args.store.now in
    let largest = c.largest in
    let above = c.some_above in
    (substitute-sixteen held low store c.if-store-h.false largest.result largest.ensures above.result above.ensures c.if-some_above.true)

pub overflow_cast-result-2 : goal.overflow_cast-result-2
overflow_cast-result-2 c =
    omega (arith, substitute-few c.requires.0.1 c.requires.1 c.args.store.now _ (c.substitute_record-replaced.ensures c.requires.0.0 c.requires.0.1).1)

pub returns : goal.returns
returns c =
    let held = c.requires.0.1 in
    let low = c.requires.1 in
    let store = c.args.store.now in
    let largest = c.largest in
    let above = c.some_above in
    let small = values-small held low store c.if-store-h.false largest.result largest.ensures above.result above.ensures c.if-some_above.false in
    substitute-zero held low store c.if-store-h.false small c.substitute_record-replaced.new.buf _ (c.substitute_record-replaced.ensures c.requires.0.0 held)
