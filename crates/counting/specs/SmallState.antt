-- The values that a state holds: the sum that waits, and the top count of each loop in play (02 C-14, C-17).
use Rattle.std.specs.Prelude.{◌+◌, suc, zero, ℕ, ◌≡◌, Bool, true, ◌++◌, List, [], ◌∷◌}
use Rattle.counting.specs.Counting.{State, at_zero, here, in_block, in_body, storing, summed, unrolling}
use Rattle.counting.specs.Held.{Held, Numbers}

-- They, from the outermost inwards. A block has no top count, and there is a sum only where one waits.
unfoldable pub counts_in : State → List ℕ
counts_in (here r) = []
counts_in (summed x e v r) = v ∷ []
counts_in (in_block q s r) = counts_in s
counts_in (unrolling x c d q r) = (c + d) ∷ []
counts_in (at_zero x d q r) = d ∷ []
counts_in (storing x c d q r) = (c + d) ∷ []
counts_in (in_body x c d q s r) = (c + d) ∷ counts_in s

-- Each of them passes a test.
abbrev pub SmallState : (ℕ → Bool) → State → Type 0
SmallState ok (here r) = Unit {0}
SmallState ok (summed x e v r) = ok v ≡ true
SmallState ok (in_block q s r) = SmallState ok s
SmallState ok (unrolling x c d q r) = ok (c + d) ≡ true
SmallState ok (at_zero x d q r) = ok d ≡ true
SmallState ok (storing x c d q r) = ok (c + d) ≡ true
SmallState ok (in_body x c d q s r) = (ok (c + d) ≡ true) × SmallState ok s

-- THE SAME OF NUMBERS: what stands where a state has no count or sum is not looked at

-- A top count, by what its entry is held open as, and then more.
unfoldable pub top_as : ℕ → ℕ → List ℕ → List ℕ
top_as zero top more = more
top_as (suc zero) top more = more
top_as (suc (suc zero)) top more = top ∷ more
top_as (suc (suc (suc n))) top more = more

-- Those of entries, outermost first.
unfoldable pub tops_of : List Held → List ℕ
tops_of [] = []
tops_of (h ∷ hs) = top_as h.what h.top (tops_of hs)

-- The sum, where one waits.
unfoldable pub sum_of : ℕ → ℕ → List ℕ
sum_of zero sum = []
sum_of (suc waits) sum = sum ∷ []

unfoldable pub counts_of : Numbers → List ℕ
counts_of w = tops_of w.held ++ sum_of w.waits w.sum
