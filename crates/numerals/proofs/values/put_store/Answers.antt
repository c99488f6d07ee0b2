-- The closure gives the store's values.
use Rattle.std.proofs.Common.{◌+◌, length, rules, arith}
use borrow.Rule.Slice.PartMut.{mid_len}
use Rattle.numerals.proofs.ValuesLaws.{values-store}
use Rattle.numerals.proofs.values.put_store.Goals as goal

pub returns : goal.returns
returns c =
    let m = mid_len 1 (length c.args.store.now + 1) c.args.values.now (omega arith) in
    let q = c.fill.ensures c.args.store.now (omega (arith, m)) (λ i v b e. search rules) in
    values-store c.args.store.now c.args.values.now c.fill.new.slots _ (omega arith) (omega arith) q c.requires.blank
