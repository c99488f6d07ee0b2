-- Values and stores (01 "Records"; 003, section 3).
use Rattle.std.specs.Prelude.{pred, suc, zero, ℕ, ◌≡◌, Bool, true, List, leb, get_or, set}

-- The test for a value that is not too large: it passes up to a largest one. `step` and `reduce` take such a test; which value
-- is the largest, a record's header says (01 "Records": values run from 0 to 4,294,967,295).
unfoldable pub up_to : ℕ → ℕ → Bool
up_to largest n = leb n largest

-- The test that every value passes: with it the rules are the paper's own.
abbrev pub no_limit : ℕ → Bool
no_limit n = true

-- Such a test is a limit: 0 passes, and so does all that is below what passes.
pub record Limit (ok : ℕ → Bool) : Type 0 where
  pub zero_passes : ok 0 ≡ true
  pub below_passes : (n : ℕ) → ok (suc n) ≡ true → ok n ≡ true

-- Minus one, of all engines: 0 minus one is 0 (01 "Stepper", "Reducer"; 003, rule 2).
unfoldable pub minus_one : ℕ → ℕ
minus_one n = pred n

-- μ(x): the value of variable x. The store's first value is variable 1's.
unfoldable pub lookup : List ℕ → ℕ → ℕ
lookup s zero = 0
lookup s (suc i) = get_or s i 0

-- μ[x ← v]: the store with v for variable x.
unfoldable pub update : List ℕ → ℕ → ℕ → List ℕ
update s zero v = s
update s (suc i) v = set s i v
