use Prim.Native.Nat.{◌≤◌}
use mathlib.Core.Path.{◌≡◌}
use lib.ListN.{length}
use Rattle.record.specs.Header.{term_in}
use Rattle.checker.specs.Verdict.{worse}
use Rattle.term_checker.specs.TermVerdict.{term_verdict}
use Rattle.term_checker.proofs.+check_term_contents.Given as goal

abbrev pub decreases-check_term_contents : goal.decreases-check_term_contents
decreases-check_term_contents l = length l.s.now

abbrev pub invariant-loop-verdict : goal.invariant-loop-verdict
invariant-loop-verdict l =
    (term_verdict l.limits.k l.limits.largest (term_in l.limits.k l.s) ≡ worse l.found (term_verdict l.limits.k l.limits.largest (term_in l.limits.k l.left))) × (length l.left ≤ length l.s)

abbrev pub decreases-loop-verdict : goal.decreases-loop-verdict
decreases-loop-verdict l = length l.left
