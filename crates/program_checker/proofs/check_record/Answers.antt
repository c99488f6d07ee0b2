-- The header decides, or what the record holds.
use mathlib.Core.Path.{ap, sym, ◌∙◌}
use Prim.Native.Nat.{ℕ}
use mathlib.Core.List.{List}
use lib.Seq.{length-take-le}
use Rattle.rules.specs.Literals.{literals_in, small_values}
use Rattle.rules.specs.Scope.{block_in_range}
use Rattle.rules.specs.Store.{up_to}
use Rattle.record.specs.Answers.{checked_by}
use Rattle.record.specs.Header.{block_in, program}
use Rattle.record.proofs.BetweenLaws.{between, drop-take}
use Rattle.record.proofs.HeaderReadLaws.{check-program-contents, check-program-header}
use Rattle.record.proofs.HeldLaws.{good-buffer}
use Rattle.checker.specs.Verdict.{number_of}
use Rattle.checker.proofs.VerdictLaws.{number-verdict}
use Rattle.program_checker.specs.BlockVerdict.{block_verdict}
use Rattle.checker.proofs.AnswerLaws.{accepted-by, raised, refusal-some, refused-by}
use Rattle.std.proofs.Common.{false, ◌≡◌, drop, take}
use Rattle.record.specs.declared.Header.{Header}
use Rattle.record.specs.Answers.{check_program}
use Rattle.record.specs.Header.{contents_at, header_in, largest_of}
use Rattle.record.specs.HeaderRows.{contents_row, header_row}
use Rattle.record.specs.Rows.{bad_buffer}
use Rattle.checker.specs.declared.Verdict.{Verdict}
use Rattle.program_checker.proofs.check_record.Goals as goal

pub check_header-requires : goal.check_header-requires
check_header-requires c = c.requires

pub slice_bounds-check_contents-end : goal.slice_bounds-check_contents-end
slice_bounds-check_contents-end c =
    sym (length-take-le c.args.used c.args.buf.now (good-buffer _ _ c.requires).within)

pub returns-in_err-h-clause-checks : goal.returns-in_err-h-clause-checks
returns-in_err-h-clause-checks c =
    let refusal = c.in_err-h.field-0.0 in
    let row = c.in_err-h.ensures.row in
    rw (raised c.from_residual.ensures) (refused-by refusal _ 0 row ∙ sym (check-program-header c.args.buf.now c.args.used c.requires (λ e. refusal-some refusal (row ∙ e))))

-- Behind the header what the record holds decides, by the verdict v on it.
decided : (buf : List ℕ) (used : ℕ) (h : Header) (start k largest : ℕ) (v : Verdict) → bad_buffer buf used ≡ false → 0 ≡ header_row program buf used → h ≡ header_in buf
    → start ≡ contents_at h → (k ≡ h.k) × (largest ≡ largest_of h) → v ≡ block_verdict k largest (block_in (drop start (take used buf)))
    → checked_by (number_of v) h.k ≡ check_program buf used
decided buf used h start k largest v fine row is starts limits e =
    ap (λ (n : ℕ). checked_by n h.k) (ap number_of (e ∙ ap (block_verdict k largest) (ap block_in (drop-take start used buf))) ∙ number-verdict (block_in_range k) (λ t. small_values (up_to largest) (literals_in t)) (block_in (between buf start used))
    ∙ ap (λ (n : ℕ). contents_row (block_in_range n) (λ t. small_values (up_to largest) (literals_in t)) (block_in (between buf start used))) limits.0)
    ∙ sym (check-program-contents buf used fine (sym row) h is start starts largest limits.1)

pub returns-in_err-row-clause-checks : goal.returns-in_err-row-clause-checks
returns-in_err-row-clause-checks c =
    let h = c.in_ok-h in
    rw (raised c.from_residual-in_err-row.ensures) (refused-by c.in_err-row.field-0.0 _ h.h.k c.in_err-row.ensures
    ∙ decided c.args.buf.now c.args.used h.h _ _ _ c.check_contents.result c.requires h.ensures.row h.ensures.header c.contents_at.ensures c.from.ensures c.check_contents.ensures)

pub returns-clause-checks : goal.returns-clause-checks
returns-clause-checks c =
    let h = c.in_ok-h in
    accepted-by h.h _ c.in_ok-row.ensures
    ∙ decided c.args.buf.now c.args.used h.h _ _ _ c.check_contents.result c.requires h.ensures.row h.ensures.header c.contents_at.ensures c.from.ensures c.check_contents.ensures
