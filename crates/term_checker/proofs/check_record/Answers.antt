-- The header decides, or what the record holds.
use mathlib.Core.Path.{ap, sym, ◌∙◌}
use Prim.Native.Nat.{ℕ}
use Rattle.rules.specs.Literals.{numerals_in, small_values}
use Rattle.rules.specs.Scope.{term_in_range}
use Rattle.rules.specs.Store.{up_to}
use Rattle.record.specs.Answers.{checked_by}
use Rattle.record.specs.Header.{term_in, contents_at, term}
use Rattle.record.proofs.BetweenLaws.{between}
use Rattle.record.proofs.HeaderReadLaws.{check-term-contents, check-term-header}
use Rattle.checker.specs.Verdict.{number_of}
use Rattle.checker.proofs.VerdictLaws.{number-verdict}
use Rattle.term_checker.specs.TermVerdict.{term_verdict}
use Rattle.std.proofs.Common.{List, false, ◌≡◌}
use Rattle.record.specs.declared.Header.{Header}
use Rattle.record.specs.Answers.{check_term}
use Rattle.record.specs.Header.{header_in, largest_of}
use Rattle.record.specs.HeaderRows.{header_row}
use Rattle.record.specs.Rows.{bad_buffer}
use Rattle.checker.proofs.AnswerLaws.{accepted-by, raised, refusal-some, refused-by}
use Rattle.checker.specs.declared.Verdict.{Verdict}
use Rattle.term_checker.proofs.check_record.Goals as goal

pub returns-in_err-h-clause-checks : goal.returns-in_err-h-clause-checks
returns-in_err-h-clause-checks c =
    let refusal = c.in_err-h.field-0.0 in
    let row = c.in_err-h.ensures.row in
    rw (raised c.from_residual.ensures) (refused-by refusal _ 0 row ∙ sym (check-term-header _ _ c.requires (λ e. refusal-some refusal (row ∙ e))))

-- Behind the header what the record holds decides, by the verdict v on it.
decided : (buf : List ℕ) (used : ℕ) (h : Header) (start k largest : ℕ) (v : Verdict) → bad_buffer buf used ≡ false → 0 ≡ header_row term buf used → h ≡ header_in buf
    → start ≡ contents_at h → (k ≡ h.k) × (largest ≡ largest_of h) → v ≡ term_verdict k largest (term_in k (between buf start used))
    → checked_by (number_of v) h.k ≡ check_term buf used
unfolding term_verdict
decided buf used h start k largest v fine row is starts limits e =
    ap (λ (n : ℕ). checked_by n h.k) (ap number_of (e ∙ ap (λ (n : ℕ). term_verdict n largest (term_in n (between buf start used))) limits.0)
    ∙ number-verdict (term_in_range h.k) (λ t. small_values (up_to largest) (numerals_in t)) (term_in h.k (between buf start used)))
    ∙ sym (check-term-contents buf used fine (sym row) h is start starts largest limits.1)

pub returns-in_err-row-clause-checks : goal.returns-in_err-row-clause-checks
returns-in_err-row-clause-checks c =
    let h = c.in_ok-h.ensures in
    rw (raised c.from_residual-in_err-row.ensures) (refused-by c.in_err-row.field-0.0 _ _ c.in_err-row.ensures
    ∙ decided _ _ c.in_ok-h.h _ _ _ _ c.requires h.row h.header c.contents_at-start.ensures c.from.ensures c.check_term_contents.ensures)

pub returns-clause-checks : goal.returns-clause-checks
returns-clause-checks c =
    let h = c.in_ok-h.ensures in
    accepted-by c.in_ok-h.h _ c.in_ok-row.ensures
    ∙ decided _ _ c.in_ok-h.h _ _ _ _ c.requires h.row h.header c.contents_at-start.ensures c.from.ensures c.check_term_contents.ensures
