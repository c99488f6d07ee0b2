-- One law for each way out: one of rows 1 to 5, row 12, and row 15 or none.
use mathlib.Core.Path.{ap}
use Prim.Native.Nat.{◌+◌, ℕ}
use native.Mathlib.Omega.{arith}
use Rattle.buffer.proofs.LittleEndianLaws.{bytes_of}
use Rattle.counter.proofs.CheckLaws.{commands, gives-deep, gives-early, gives-number, header-whole}
use Rattle.checker.proofs.AnswerLaws.{checked-is}
use Rattle.counter.proofs.check.check_record.Goals as goal

pub returns-then-is_early-clause-rows : goal.returns-then-is_early-clause-rows
returns-then-is_early-clause-rows c =
    gives-early c.args.program.now c.args.used _ _ (checked-is c.check_program-checked.result c.check_program-checked.ensures.checks) (c.is_early.ensures.0 c.if-is_early.true)

pub read_header-h-requires : goal.read_header-h-requires
read_header-h-requires c =
    let bytes = bytes_of c.args.program.now (λ i _. omega (arith, c.shared_slice_known-1.given i)) in
    header-whole c.args.program.now c.args.used _ _ (checked-is c.check_program-checked.result c.check_program-checked.ensures.checks) (c.is_early.ensures.1 c.if-is_early.false) bytes

pub overflow_add-contents_at : goal.overflow_add-contents_at
overflow_add-contents_at c =
    let bytes = bytes_of c.args.program.now (λ i _. omega (arith, c.shared_slice_known-1.given i)) in
    let m = commands c.args.program.now c.args.used _ _ (checked-is c.check_program-checked.result c.check_program-checked.ensures.checks) (c.is_early.ensures.1 c.if-is_early.false) bytes c.read_header-h.result c.read_header-h.ensures (c.contents_at.result + 4) (ap (λ (m : ℕ). m + 4) c.contents_at.ensures) in
    omega (arith, m.ends, m.within, m.low)

pub too_deep-requires : goal.too_deep-requires
too_deep-requires c =
    let bytes = bytes_of c.args.program.now (λ i _. omega (arith, c.shared_slice_known-1.given i)) in
    let m = commands c.args.program.now c.args.used _ _ (checked-is c.check_program-checked.result c.check_program-checked.ensures.checks) (c.is_early.ensures.1 c.if-is_early.false) bytes c.read_header-h.result c.read_header-h.ensures (c.contents_at.result + 4) (ap (λ (m : ℕ). m + 4) c.contents_at.ensures) in
    ((m.P, (m.stands, m.ends)), m.low, m.within)

pub returns-then-too_deep-clause-rows : goal.returns-then-too_deep-clause-rows
returns-then-too_deep-clause-rows c =
    let bytes = bytes_of c.args.program.now (λ i _. omega (arith, c.shared_slice_known-1.given i)) in
    gives-deep c.args.program.now c.args.used _ _ (checked-is c.check_program-checked.result c.check_program-checked.ensures.checks) (c.is_early.ensures.1 c.if-is_early.false) bytes c.read_header-h.result c.read_header-h.ensures (c.contents_at.result + 4) (ap (λ (m : ℕ). m + 4) c.contents_at.ensures) c.too_deep.result c.too_deep.ensures c.if-too_deep.true

pub returns-clause-rows : goal.returns-clause-rows
returns-clause-rows c =
    let bytes = bytes_of c.args.program.now (λ i _. omega (arith, c.shared_slice_known-1.given i)) in
    gives-number c.args.program.now c.args.used _ _ (checked-is c.check_program-checked.result c.check_program-checked.ensures.checks) (c.is_early.ensures.1 c.if-is_early.false) bytes c.read_header-h.result c.read_header-h.ensures (c.contents_at.result + 4) (ap (λ (m : ℕ). m + 4) c.contents_at.ensures) c.too_deep.result c.too_deep.ensures c.if-too_deep.false
