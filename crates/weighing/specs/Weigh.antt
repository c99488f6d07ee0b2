-- Weighing (01 "Result and weighing", 02 C-11 and C-15): gross and tare in kilograms, each a value, and the number of a rule of rounding
-- give a start store.
use Rattle.std.specs.Prelude.{◌+◌, ◌-◌, ◌/◌, suc, zero, ℕ, Bool, cond, not, List, [], ◌∷◌, ltb, length, replicate}
use Rattle.record.specs.Answers.{Stored, stored_by}
use Rattle.record.specs.Rows.{Row, first_row, row}
use Rattle.rules.specs.Scope.{in_range}

-- How far two numbers are apart: of the two differences of ℕ one is 0.
abbrev pub apart : ℕ → ℕ → ℕ
apart a b = (a - b) + (b - a)

-- The net load: the difference of gross and tare, whichever is larger (02 C-15).
unfoldable pub net_load : ℕ → ℕ → ℕ
net_load gross tare = apart gross tare

-- 1 when tare is larger, and otherwise 0 (02 C-15).
unfoldable pub tare_larger : ℕ → ℕ → ℕ
tare_larger gross tare = cond (ltb gross tare) 1 0

-- The count of a net load by the rule of this number (02 C-11). Rule 1 divides by 20 and rounds down. Rule 2 rounds to the nearest
-- 20, and 10 over goes up. Every other number is refused (row 11), and 0 stands in.
unfoldable pub count_of : ℕ → ℕ → ℕ
count_of zero net = 0
count_of (suc zero) net = net / 20
count_of (suc (suc zero)) net = (net + 10) / 20
count_of (suc (suc (suc other))) net = 0

-- A store of n values: variable 1 gets the count, variable 2 whether tare is larger, every other variable 0. A store of one value
-- takes only the count (02 C-15). One of no value is refused (row 6).
unfoldable pub weighed : ℕ → ℕ → ℕ → List ℕ
weighed zero count larger = []
weighed (suc zero) count larger = count ∷ []
weighed (suc (suc n)) count larger = count ∷ larger ∷ replicate n 0

-- Row 6, of weighing: not 1 to 16 values.
unfoldable pub bad_size : List ℕ → Bool
bad_size store = not (in_range 16 (length store))

-- Row 11: a rule number other than 1 or 2.
unfoldable pub bad_rule : ℕ → Bool
bad_rule rule = not (in_range 2 rule)

-- The rows of the call, in the order of the table: 11 comes after 6 (02 C-11).
abbrev pub weigh_rows : ℕ → List ℕ → List Row
weigh_rows rule store = row 6 (bad_size store) ∷ row 11 (bad_rule rule) ∷ []

-- THE CALL: rule, gross, tare, store.
unfoldable pub weigh_call : ℕ → ℕ → ℕ → List ℕ → Stored
weigh_call rule gross tare store =
    stored_by (first_row (weigh_rows rule store)) (weighed (length store) (count_of rule (net_load gross tare)) (tare_larger gross tare)) store
