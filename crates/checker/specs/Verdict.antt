-- What the contents of a record are found to be: of the grammar with every variable number in range and no number above the largest
-- value, with a number above it, with a variable number out of range, or not of the grammar.
use Rattle.std.specs.Prelude.{ℕ, Bool, false, true}
use Rattle.std.proofs.Math.Option.{Option, none, some}
use Rattle.checker.specs.declared.Verdict.{Verdict}
use Rattle.checker.specs.declared.Verdict.TheVariants.{Above, Good, Malformed, Outside}

-- The number of each verdict (01 "Where an order stops", 02 C-17): 0 no refusal, 15 a literal or numeral above the ceiling, 5 a variable
-- number not 1 to k, 4 bytes outside the grammar.
abbrev pub number_of : Verdict → ℕ
number_of Good = 0
number_of Above = 15
number_of Outside = 5
number_of Malformed = 4

-- The verdict on two parts together: the worse of the two.
abbrev pub worse : Verdict → Verdict → Verdict
worse Good v = v
worse Malformed v = Malformed
worse Above Good = Above
worse Above Above = Above
worse Above Outside = Outside
worse Above Malformed = Malformed
worse Outside Good = Outside
worse Outside Above = Outside
worse Outside Outside = Outside
worse Outside Malformed = Malformed

-- The verdict on variable numbers, by the test that they are in range.
abbrev pub rated : Bool → Verdict
rated true = Good
rated false = Outside

-- The verdict on literals or numerals, by the test that none is above the largest value.
abbrev pub valued : Bool → Verdict
valued true = Good
valued false = Above

-- The verdict on something that has both, by the two tests.
abbrev pub rating : {A : Type 0} → (A → Bool) → (A → Bool) → A → Verdict
rating in_range small a = worse (rated (in_range a)) (valued (small a))

-- The verdict on what bytes decode to.
abbrev pub verdict : {A : Type 0} → (A → Verdict) → Option A → Verdict
verdict rate none = Malformed
verdict rate (some a) = rate a
