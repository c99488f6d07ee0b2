-- After i turns the first i places have their values.
use Rattle.std.proofs.Common.{◌≡◌, ◌<◌, Some, get_or, length, arith}
use Rattle.std.proofs.lemmas.List.{map_more, take_more_set}
use Rattle.numerals.proofs.values.fill.Goals as goal

pub loop-i-preserved : goal.loop-i-preserved
loop-i-preserved g c = λ vs h e.
    let b : c.loop-i.i < length vs = omega arith in
    let n : c.value.result ≡ get_or vs c.loop-i.i 0 = e _ _ b c.value.ensures in
    let k = c.loop-i.invariant vs h e in
    let p = take_more_set c.loop-i.slots c.loop-i.i c.set.result (omega arith) in
    let q = map_more Some vs c.loop-i.i 0 b in
    cc
