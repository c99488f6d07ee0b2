-- Laws of the forms of the answers: accepted, refused.
use Prim.Native.Nat.{◌<◌, suc, zero, ℕ, ◌≤◌}
use mathlib.Core.Path.{ap, refl, ◌≡◌}
use mathlib.Core.Logic.{◌↔◌}
use mathlib.Core.Bool.{false, true}
use mathlib.Core.List.{List}
use borrow.Author.Tests.{le-ltb, lt-ltb, ltb-false, ltb-true}
use lib.Dec.{ltb}
use lib.ListN.{length}
use Rattle.record.specs.Answers.{check_program, check_program_rows, check_term, check_term_rows, checked_by, padded, stored_by, too_short, wrote_by}
use Rattle.record.specs.Rows.{first_row, k_of}

-- THE CHECKER

pub checked-number : (m k : ℕ) → (checked_by m k).number ≡ m
unfolding checked_by
checked-number zero k = refl
checked-number (suc m) k = refl

pub checked-accepted : (m k : ℕ) → m ≡ 0 → checked_by m k ≡ record { number = 0; k = k }
unfolding checked_by
checked-accepted m k e = rw e refl

pub checked_refused : (m k : ℕ) → (m ≡ 0 → ⊥) → checked_by m k ≡ record { number = m; k = 0 }
unfolding checked_by
checked_refused zero k h = absurd (h refl)
checked_refused (suc m) k h = refl

-- A CALL THAT WRITES A BUFFER

pub wrote-number : (m : ℕ) (bytes buf : List ℕ) → (wrote_by m bytes buf).number ≡ m
unfolding wrote_by
wrote-number zero bytes buf = refl
wrote-number (suc m) bytes buf = refl

pub wrote-accepted : (m : ℕ) (bytes buf : List ℕ) → m ≡ 0 → wrote_by m bytes buf ≡ record { number = 0; used = length bytes; written = padded (length buf) bytes }
unfolding wrote_by
wrote-accepted m bytes buf e = rw e refl

pub wrote-refused : (m : ℕ) (bytes buf : List ℕ) → (m ≡ 0 → ⊥) → wrote_by m bytes buf ≡ record { number = m; used = 0; written = buf }
unfolding wrote_by
wrote-refused zero bytes buf h = absurd (h refl)
wrote-refused (suc m) bytes buf h = refl

-- row 10

pub fits_out : (out answer : List ℕ) → length answer ≤ length out → too_short out answer ≡ false
unfolding too_short
fits_out out answer h = le-ltb (length out) (length answer) h

pub out-fits : (out answer : List ℕ) → too_short out answer ≡ false → length answer ≤ length out
unfolding too_short
out-fits out answer e = ltb-false (length out) (length answer) e

pub short-same : (out other answer : List ℕ) → length out ≡ length other → too_short out answer ≡ too_short other answer
unfolding too_short
short-same out other answer e = ap (λ (n : ℕ). ltb n (length answer)) e

pub short-out : (out answer : List ℕ) → length out < length answer → too_short out answer ≡ true
unfolding too_short
short-out out answer h = lt-ltb (length out) (length answer) h

pub ten-iff : (out answer : List ℕ) → (too_short out answer ≡ true) ↔ (length out < length answer)
unfolding too_short
ten-iff out answer = ((λ e. ltb-true (length out) (length answer) e), (λ h. lt-ltb (length out) (length answer) h))

-- A CALL THAT WRITES A STORE

pub stored-number : (m : ℕ) (values store : List ℕ) → (stored_by m values store).number ≡ m
unfolding stored_by
stored-number zero values store = refl
stored-number (suc m) values store = refl

pub stored-accepted : (m : ℕ) (values store : List ℕ) → m ≡ 0 → stored_by m values store ≡ record { number = 0; store = values }
unfolding stored_by
stored-accepted m values store e = rw e refl

pub stored_refused : (m : ℕ) (values store : List ℕ) → (m ≡ 0 → ⊥) → stored_by m values store ≡ record { number = m; store = store }
unfolding stored_by
stored_refused zero values store h = absurd (h refl)
stored_refused (suc m) values store h = refl

-- THE CHECKER'S NUMBERS AND REFUSALS

pub check-program-number : (buf : List ℕ) (used : ℕ) → (check_program buf used).number ≡ first_row (check_program_rows buf used)
unfolding check_program
check-program-number buf used = checked-number (first_row (check_program_rows buf used)) (k_of buf used)

pub check-program-refused : (buf : List ℕ) (used : ℕ) → (first_row (check_program_rows buf used) ≡ 0 → ⊥)
    → check_program buf used ≡ record { number = first_row (check_program_rows buf used); k = 0 }
unfolding check_program
check-program-refused buf used h = checked_refused (first_row (check_program_rows buf used)) (k_of buf used) h

pub check-term-number : (buf : List ℕ) (used : ℕ) → (check_term buf used).number ≡ first_row (check_term_rows buf used)
unfolding check_term
check-term-number buf used = checked-number (first_row (check_term_rows buf used)) (k_of buf used)

pub check-term-refused : (buf : List ℕ) (used : ℕ) → (first_row (check_term_rows buf used) ≡ 0 → ⊥)
    → check_term buf used ≡ record { number = first_row (check_term_rows buf used); k = 0 }
unfolding check_term
check-term-refused buf used h = checked_refused (first_row (check_term_rows buf used)) (k_of buf used) h
