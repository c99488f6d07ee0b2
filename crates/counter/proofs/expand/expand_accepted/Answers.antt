use mathlib.Core.Path.{ap}
use Prim.Native.Nat.{◌+◌, ℕ}
use native.Mathlib.Omega.{arith}
use Rattle.counter.proofs.ExpandLaws.{given, gives-record, gives-ten, roomy, start-low, total-is}
use Rattle.counter.proofs.expand.expand_accepted.Goals as goal

pub overflow_add-start : goal.overflow_add-start
overflow_add-start c = omega (arith, start-low c.requires.0.3, c.contents_at-start.ensures)

pub expansion_size-size-requires : goal.expansion_size-size-requires
expansion_size-size-requires c =
    ((c.requires.0.1, c.requires.0.2, given c.requires.0.3 (c.contents_at-start.result + 4) (ap (λ (m : ℕ). m + 4) c.contents_at-start.ensures)), c.requires.0.3.low)

pub overflow_add-total : goal.overflow_add-total
overflow_add-total c =
    let start_is = ap (λ (m : ℕ). m + 4) c.contents_at-start.ensures in
    let size_is = c.expansion_size-size.ensures.0 c.requires.0.1 c.requires.0.2 (given c.requires.0.3 (c.contents_at-start.result + 4) start_is) in
    omega (arith, roomy c.requires.0.3 c.args.out.now c.requires.1 (c.contents_at-start.result + 4) c.expansion_size-size.result start_is size_is c.fits.result c.fits.ensures c.if-fits.true, c.requires.1)

pub write_record-requires : goal.write_record-requires
write_record-requires c =
    let start_is = ap (λ (m : ℕ). m + 4) c.contents_at-start.ensures in
    let size_is = c.expansion_size-size.ensures.0 c.requires.0.1 c.requires.0.2 (given c.requires.0.3 (c.contents_at-start.result + 4) start_is) in
    ((c.requires.0.0, c.requires.0.1, c.requires.0.2, c.requires.0.3, total-is c.requires.0.3 (c.contents_at-start.result + 4) c.expansion_size-size.result start_is size_is), roomy c.requires.0.3 c.args.out.now c.requires.1 (c.contents_at-start.result + 4) c.expansion_size-size.result start_is size_is c.fits.result c.fits.ensures c.if-fits.true, c.requires.1)

pub overflow_cast-result : goal.overflow_cast-result
overflow_cast-result c =
    let start_is = ap (λ (m : ℕ). m + 4) c.contents_at-start.ensures in
    let size_is = c.expansion_size-size.ensures.0 c.requires.0.1 c.requires.0.2 (given c.requires.0.3 (c.contents_at-start.result + 4) start_is) in
    omega (arith, roomy c.requires.0.3 c.args.out.now c.requires.1 (c.contents_at-start.result + 4) c.expansion_size-size.result start_is size_is c.fits.result c.fits.ensures c.if-fits.true, c.requires.1)

pub returns-then-fits : goal.returns-then-fits
returns-then-fits c =
    λ store P s a.
    let start_is = ap (λ (m : ℕ). m + 4) c.contents_at-start.ensures in
    let size_is = c.expansion_size-size.ensures.0 P s (given a (c.contents_at-start.result + 4) start_is) in
    (gives-record a c.args.out.now c.requires.1 (c.contents_at-start.result + 4) c.expansion_size-size.result start_is size_is c.fits.result c.fits.ensures c.if-fits.true _ (c.write_record.ensures store P s a (total-is a (c.contents_at-start.result + 4) c.expansion_size-size.result start_is size_is)))

pub returns : goal.returns
returns c =
    λ store P s a.
    let start_is = ap (λ (m : ℕ). m + 4) c.contents_at-start.ensures in
    let size_is = c.expansion_size-size.ensures.0 P s (given a (c.contents_at-start.result + 4) start_is) in
    (gives-ten a c.args.out.now c.requires.1 (c.contents_at-start.result + 4) c.expansion_size-size.result start_is size_is c.fits.result c.fits.ensures c.if-fits.false)
