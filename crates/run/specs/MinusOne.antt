-- MINUS ONE WITH NO TEST FOR ZERO (02 C-12).
use Rattle.std.specs.Prelude.{◌+◌, ◌-◌, ◌/◌, ◌<◌, ℕ, ◌≤◌, ◌≡◌}
use Rattle.rules.specs.Store.{minus_one}

-- For every value, 0 included, the value less ((value + 4,294,967,295) divided by 4,294,967,296, rounded down) is 01's minus one. A
-- difference of ℕ is 0 where more is taken off than there is: so it is said first that the quotient is no more than the value.
abbrev pub MinusOneByQuotient : Type 0
MinusOneByQuotient = (value : ℕ) → value < 4294967296
    → ((value + 4294967295) / 4294967296 ≤ value) × (value - (value + 4294967295) / 4294967296 ≡ minus_one value)
