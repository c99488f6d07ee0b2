-- WHAT WEIGHING ANSWERS (demand 2; 02 C-11 and C-15), in plain facts.
use Rattle.std.specs.Prelude.{◌*◌, ◌+◌, ◌-◌, ◌<◌, ℕ, ◌≤◌, ◌≡◌, ◌↔◌, ◌⊎◌, Bool, true, List, [], ◌∷◌, length, replicate}
use Rattle.rules.specs.Scope.{Within}
use Rattle.rules.specs.Sound.{SmallValues}
use Rattle.rules.specs.Store.{Limit, lookup}
use Rattle.weighing.specs.Weigh.{apart, bad_size, bad_rule, count_of, net_load, tare_larger, weigh_call}

-- The rules by number: 1 and 2 (02 C-11).
abbrev pub IsRule : ℕ → Type 0
IsRule rule = (rule ≡ 1) ⊎ (rule ≡ 2)

-- What each variable gets, what rows 6 and 11 ask, and what the call answers of every rule, gross, tare and store.
pub record WeighMeans : Type 0 where
  -- THE NET LOAD is the difference whichever is larger (02 C-15): what with the smaller of the two makes up the larger
  pub net : (gross tare : ℕ) → tare ≤ gross → net_load gross tare + tare ≡ gross
  pub net_larger : (gross tare : ℕ) → gross ≤ tare → net_load gross tare + gross ≡ tare
  -- WHETHER TARE IS LARGER: 1 when it is, and otherwise 0
  pub larger : (gross tare : ℕ) → gross < tare → tare_larger gross tare ≡ 1
  pub not_larger : (gross tare : ℕ) → tare ≤ gross → tare_larger gross tare ≡ 0
  -- RULE 1 rounds down: the twenties in the net load
  pub down : (n : ℕ) → (20 * count_of 1 n ≤ n) × (n < 20 * count_of 1 n + 20)
  -- RULE 2 rounds to the nearest 20: no other twenties are nearer, and 10 over goes up
  pub nearest : (n m : ℕ) → apart n (20 * count_of 2 n) ≤ apart n (20 * m)
  pub ten_over : (q : ℕ) → count_of 2 (20 * q + 10) ≡ q + 1
  -- ROW 6, of weighing: not 1 to 16 values. ROW 11: a rule number other than 1 or 2
  pub six : (store : List ℕ) → (bad_size store ≡ true) ↔ (Within 16 (length store) → ⊥)
  pub eleven : (rule : ℕ) → (bad_rule rule ≡ true) ↔ (IsRule rule → ⊥)
  -- one value and one of the two rules: it gets the net load's count by that rule, and nothing else is set
  pub weighs_one : (rule gross tare : ℕ) (store : List ℕ) → length store ≡ 1 → IsRule rule
      → weigh_call rule gross tare store ≡ record { number = 0; store = count_of rule (net_load gross tare) ∷ [] }
  -- 2 to 16 values: variable 1 gets that count, variable 2 whether tare is larger, every other variable 0
  pub weighs : (rule gross tare : ℕ) (store : List ℕ) → 2 ≤ length store → length store ≤ 16 → IsRule rule
      → weigh_call rule gross tare store
      ≡ record { number = 0; store = count_of rule (net_load gross tare) ∷ tare_larger gross tare ∷ replicate (length store - 2) 0 }
  -- EQUAL WEIGHTS give 0 and 0: every value of an accepted store is 0
  pub equal : (rule weight : ℕ) (store : List ℕ) → (weigh_call rule weight weight store).number ≡ 0
      → (weigh_call rule weight weight store).store ≡ replicate (length store) 0
  -- where tare is not larger, what 01 and 02 C-11 gave before: the count of gross less tare, every other variable 0
  pub as_before : (rule gross tare : ℕ) (store : List ℕ) → tare ≤ gross → (weigh_call rule gross tare store).number ≡ 0
      → (weigh_call rule gross tare store).store ≡ count_of rule (gross - tare) ∷ replicate (length store - 1) 0
  -- other than 1 to 16 values: 6, whatever the rule; else no such rule: 11
  pub weighs_not : (rule gross tare : ℕ) (store : List ℕ) → (Within 16 (length store) → ⊥) → weigh_call rule gross tare store ≡ record { number = 6; store = store }
  pub weighs_no_rule : (rule gross tare : ℕ) (store : List ℕ) → Within 16 (length store) → (IsRule rule → ⊥)
      → weigh_call rule gross tare store ≡ record { number = 11; store = store }
  -- ONCE OVER BOTH RULES (02 C-11, of C-15's net load): of every accepted weighing, the count times 20 is less than 20 kg from the net load
  pub close : (rule gross tare : ℕ) (store : List ℕ) → (weigh_call rule gross tare store).number ≡ 0
      → (20 * lookup (weigh_call rule gross tare store).store 1 < net_load gross tare + 20)
      × (net_load gross tare < 20 * lookup (weigh_call rule gross tare store).store 1 + 20)
  -- the store has as many values as before, and after an accepted weighing they pass where gross and tare do
  pub same_length : (rule gross tare : ℕ) (store : List ℕ) → length (weigh_call rule gross tare store).store ≡ length store
  pub values : (ok : ℕ → Bool) → Limit ok → (rule gross tare : ℕ) (store : List ℕ) → ok gross ≡ true → ok tare ≡ true
      → (weigh_call rule gross tare store).number ≡ 0 → SmallValues ok (weigh_call rule gross tare store).store
