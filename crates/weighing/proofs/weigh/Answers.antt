-- One law for each way out: row 6 of no value and of more than 16, row 11, filled.
use native.Mathlib.Omega.{arith}
use Rattle.std.proofs.lemmas.Bool.Decides.{nat_tests}
use Rattle.weighing.proofs.WeighLaws.{rule-numbered, weigh-eleven, weigh-filled, weigh-six}
use Rattle.weighing.proofs.weigh.Goals as goal

pub returns-then-is_empty : goal.returns-then-is_empty
returns-then-is_empty c =
    let a = c.args in
    weigh-six a.rule a.gross a.tare a.store.now (λ w. grind (arith, nat_tests))

pub returns-in_default : goal.returns-in_default
returns-in_default c =
    let a = c.args in
    weigh-eleven a.rule a.gross a.tare a.store.now (grind (arith, nat_tests), omega arith) (λ w. omega (arith, c.in_default.ensures))

pub returns : goal.returns
returns c =
    let a = c.args in
    let e = c.in-Ok.ensures in
    let w = rule-numbered c.in-Ok.field-0 in
    weigh-filled a.rule a.gross a.tare c.net_load.result c.count_of.result c.tare_larger.result a.store.now c.fill.new.store
    (grind (arith, nat_tests), omega arith) (omega (arith, e, w.0), omega (arith, e, w.1)) c.net_load.ensures c.count_of.ensures c.tare_larger.ensures c.fill.ensures
