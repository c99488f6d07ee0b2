-- The rules of rounding by their numbers (02 C-11).
use Rattle.std.specs.Prelude.{◌≡◌, ℕ, Result, MatchResult}
use Rattle.weighing.specs.declared.NoSuchRule.{NoSuchRule}
use Rattle.weighing.specs.declared.Rule.{Rule}
use Rattle.weighing.specs.declared.Rule.TheVariants.{Down, Nearest}

-- The number of a rule.
abbrev pub rule_number : Rule → ℕ
rule_number Down = 1
rule_number Nearest = 2

-- The rule that has this number, or an error where none has.
abbrev pub HasNumber : ℕ → Result Rule NoSuchRule → Type 0
HasNumber number r = MatchResult r (λ rule. rule_number rule ≡ number) (λ e. (number ≡ 1 → ⊥) × (number ≡ 2 → ⊥))
