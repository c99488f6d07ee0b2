-- Row 17, row 10, or the record written.
use Prim.Native.Nat.{◌+◌, ◌-◌, ◌≤◌}
use native.Mathlib.Omega.{arith}
use mathlib.Core.Path.{◌≡◌}
use lib.ListN.{length}
use Rattle.record.specs.Header.{contents_at, largest_of}
use Rattle.record.proofs.HeaderLaws.{contents_at-high}
use Rattle.conversion.proofs.AnsweredLaws.{convert-seventeen, convert-ten, convert-zero}
use Rattle.conversion.proofs.WritingLaws.{headed-size}
use Rattle.conversion.proofs.convert_checked.Goals as goal

pub returns-then-largest : goal.returns-then-largest
returns-then-largest c =
    (convert-seventeen c.requires.0 c.converted-g.result c.converted-g.ensures c.args.out.now c.requires.1 (omega (arith, c.largest.ensures, c.largest-2.ensures, c.if-largest.true)))

pub overflow_sub-n : goal.overflow_sub-n
overflow_sub-n c =
    omega (arith, c.contents_at.ensures, headed-size c.requires.0.holds)

pub overflow_add-n : goal.overflow_add-n
overflow_add-n c =
    omega (arith, c.contents_at-2.ensures, contents_at-high c.converted-g.result, c.requires.0.holds.within, c.requires.0.low)

pub returns-then-out-n : goal.returns-then-out-n
returns-then-out-n c =
    let a = c.args in
    let p = c.requires.0 in
    let high : largest_of c.converted-g.result ≤ largest_of a.h = omega (arith, c.largest.ensures, c.largest-2.ensures, c.if-largest.false) in
    let n = a.used - c.contents_at.result + c.contents_at-2.result in
    let size : n ≡ contents_at c.converted-g.result + length p.contents = omega (arith, c.contents_at.ensures, c.contents_at-2.ensures, headed-size p.holds) in
    (convert-ten p c.converted-g.result c.converted-g.ensures a.out.now c.requires.1 high n size c.if-out-n.true)

pub overflow_cast-result : goal.overflow_cast-result
overflow_cast-result c = omega (arith, c.requires.1, c.if-out-n.false)

pub write_record-requires : goal.write_record-requires
write_record-requires c =
    let p = c.requires.0 in
    ((p.contents, p.holds, omega (arith, c.contents_at.ensures, c.contents_at-2.ensures, headed-size p.holds)), c.if-out-n.false)

pub returns : goal.returns
returns c =
    let a = c.args in
    let p = c.requires.0 in
    let high : largest_of c.converted-g.result ≤ largest_of a.h = omega (arith, c.largest.ensures, c.largest-2.ensures, c.if-largest.false) in
    let n = a.used - c.contents_at.result + c.contents_at-2.result in
    let size : n ≡ contents_at c.converted-g.result + length p.contents = omega (arith, c.contents_at.ensures, c.contents_at-2.ensures, headed-size p.holds) in
    (convert-zero p c.converted-g.result c.converted-g.ensures a.out.now c.requires.1 high n size c.if-out-n.false _ (c.write_record.ensures p.contents p.holds))
