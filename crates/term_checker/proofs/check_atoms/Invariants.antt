use Prim.Native.Nat.{◌*◌, ◌+◌, ◌-◌, ℕ}
use mathlib.Core.Path.{◌≡◌}
use Rattle.term_checker.specs.TermVerdict.{atoms_rating}
use Rattle.buffer.specs.Slice.{part}
use Rattle.record.specs.Term.{decode_atoms}
use Rattle.checker.specs.Verdict.{verdict, worse}
use Rattle.term_checker.proofs.check_atoms.Given as goal

abbrev pub invariant-loop-place : goal.invariant-loop-place
invariant-loop-place l =
    (n : ℕ) × (l.place + 8 * n ≡ l.end) × (verdict (atoms_rating l.limits.k l.limits.largest) (decode_atoms l.limits.k (part l.s l.at (l.end - l.at))) ≡ worse l.found (verdict (atoms_rating l.limits.k l.limits.largest) (decode_atoms n (part l.s l.place (8 * n)))))

abbrev pub decreases-loop-place : goal.decreases-loop-place
decreases-loop-place l = l.end - l.place
