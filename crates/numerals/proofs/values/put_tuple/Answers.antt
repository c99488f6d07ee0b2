-- The closure gives the tuple's numerals.
use Rattle.std.proofs.Common.{rules, arith, ◌+◌, ◌<◌, length}
use borrow.Rule.Slice.PartMut.{mid_len}
use Rattle.place.proofs.NumeralsLaws.{numerals-row}
use Rattle.place.proofs.TermViewLaws.{term-room}
use Rattle.numerals.proofs.ValuesLaws.{values-store}
use Rattle.numerals.proofs.values.put_tuple.Goals as goal

pub overflow_add-row : goal.overflow_add-row
overflow_add-row c = let r = term-room c.requires.numerals.0.1 in omega arith

pub fill-requires : goal.fill-requires
fill-requires c = λ i b.
    let r = numerals-row c.requires.numerals.0.0 c.requires.numerals.0.1 in
    let m = mid_len 1 (c.args.k + 1) c.args.values.now (omega arith) in
    let d : i < length c.requires.numerals.0.0 = omega (arith, m) in
    search (rules, r.0, d)

pub returns : goal.returns
returns c = λ vs h.
    let r = numerals-row vs h in
    let m = mid_len 1 (c.args.k + 1) c.args.values.now (omega arith) in
    let q = c.fill.ensures vs (omega (arith, m)) (λ i v b e. search (rules, r.0)) in
    values-store vs c.args.values.now c.fill.new.slots _ (omega arith) (omega arith) q c.requires.blank
