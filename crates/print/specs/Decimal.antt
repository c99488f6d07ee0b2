-- Numbers in decimal, as ASCII bytes.
use Rattle.std.specs.Prelude.{◌%◌, ◌*◌, ◌+◌, ◌-◌, ◌/◌, suc, zero, ℕ, Bool, false, true, ◌++◌, List, [], ◌∷◌, ltb}

-- The digit d.
unfoldable pub digit : ℕ → ℕ
digit d = 48 + d

-- The last digit of n behind the digits of what is left of it, of which there are none where n is below 10.
unfoldable pub decimal_by : (ℕ → List ℕ) → Bool → ℕ → List ℕ
decimal_by more true n = digit n ∷ []
decimal_by more false n = more (n / 10) ++ (digit (n % 10) ∷ [])

-- The last digits of n, at most so many as the first number says.
unfoldable pub decimal_within : ℕ → ℕ → List ℕ
decimal_within zero n = []
decimal_within (suc fuel) n = decimal_by (λ m. decimal_within fuel m) (ltb n 10) n

-- n in decimal, the highest digit first, with no leading zero (`DecimalLaws`). It has at most n + 1 digits.
unfoldable pub decimal : ℕ → List ℕ
decimal n = decimal_within (suc n) n

-- The number that a list of digits stands for.
unfoldable pub decimal_value : ℕ → List ℕ → ℕ
decimal_value v [] = v
decimal_value v (c ∷ cs) = decimal_value (10 * v + (c - 48)) cs
