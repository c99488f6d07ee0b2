-- Decimal printing says the number: read back it is the number, every byte is a digit, and there is no leading zero.
use Prim.Native.Nat.{◌%◌, ◌*◌, ◌+◌, ◌-◌, ◌/◌, ◌<◌, ◌^◌, suc, zero, ℕ, ◌≤◌}
use mathlib.Core.Path.{ap, refl, ◌∙◌, ◌≡◌}
use mathlib.Core.Bool.{Bool, false, true}
use mathlib.Core.List.{◌++◌, List, [], ◌∷◌}
use borrow.Author.Tests.{le-ltb, lt-ltb, ltb-false, ltb-true}
use lib.Dec.{ltb}
use lib.ListN.{length, length-append}
use native.Mathlib.Nat.{pow-succ'}
use native.Mathlib.Omega.{arith}
use Rattle.print.specs.Decimal.{decimal, decimal_by, decimal_value, decimal_within, digit}

decimal-enough : (f g n : ℕ) → n < f → n < g → decimal_within f n ≡ decimal_within g n
unfolding decimal_within
decimal-enough zero g n h k = absurd (omega arith)
decimal-enough (suc f) zero n h k = absurd (omega arith)
decimal-enough (suc f) (suc g) n h k = go (λ m a b. decimal-enough f g m a b) (ltb n 10) refl
  where
    go : ((m : ℕ) → m < f → m < g → decimal_within f m ≡ decimal_within g m) → (b : Bool) → ltb n 10 ≡ b
        → decimal_by (λ m. decimal_within f m) b n ≡ decimal_by (λ m. decimal_within g m) b n
    go more true e = unfold decimal_by in refl
    go more false e =
        unfold decimal_by in (let t = ltb-false n 10 e in ap (λ (l : List ℕ). l ++ (digit (n % 10) ∷ [])) (more (n / 10) (omega arith) (omega arith)))

-- the two cases, with no fuel in sight
pub decimal-small : (n : ℕ) → n < 10 → decimal n ≡ digit n ∷ []
unfolding decimal decimal_within decimal_by
decimal-small n h = rw (lt-ltb n 10 h) refl

pub decimal-large : (n : ℕ) → 10 ≤ n → decimal n ≡ decimal (n / 10) ++ (digit (n % 10) ∷ [])
unfolding decimal decimal_within decimal_by
decimal-large n h = rw (le-ltb n 10 h) (ap (λ (l : List ℕ). l ++ (digit (n % 10) ∷ [])) (decimal-enough n (suc (n / 10)) (n / 10) (omega arith) (omega arith)))

value-append : (v : ℕ) (a b : List ℕ) → decimal_value v (a ++ b) ≡ decimal_value (decimal_value v a) b
unfolding decimal_value
value-append v [] b = refl
value-append v (c ∷ a) b = value-append (10 * v + (c - 48)) a b

value-digit : (v d : ℕ) → d < 10 → decimal_value v (digit d ∷ []) ≡ 10 * v + d
unfolding decimal_value digit
value-digit v d h = omega arith

-- read back it is the number: by the number of digits
value-within : (f n : ℕ) → n < f → decimal_value 0 (decimal n) ≡ n
value-within zero n h = absurd (omega arith)
value-within (suc f) n h = go (λ m k. value-within f m k) (ltb n 10) refl
  where
    go : ((m : ℕ) → m < f → decimal_value 0 (decimal m) ≡ m) → (b : Bool) → ltb n 10 ≡ b → decimal_value 0 (decimal n) ≡ n
    go more true e = let t = ltb-true n 10 e in ap (decimal_value 0) (decimal-small n t) ∙ value-digit 0 n t ∙ omega arith
    go more false e =
        let t = ltb-false n 10 e in
        ap (decimal_value 0) (decimal-large n t) ∙ value-append 0 (decimal (n / 10)) (digit (n % 10) ∷ [])
        ∙ ap (λ v. decimal_value v (digit (n % 10) ∷ [])) (more (n / 10) (omega arith)) ∙ value-digit (n / 10) (n % 10) (omega arith) ∙ omega arith

pub decimal-value : (n : ℕ) → decimal_value 0 (decimal n) ≡ n
decimal-value n = value-within (suc n) n (omega arith)

-- How many digits
pub digits-small : (n : ℕ) → n < 10 → length (decimal n) ≡ 1
digits-small n h = ap (length {A = ℕ}) (decimal-small n h)

pub digits-large : (n : ℕ) → 10 ≤ n → length (decimal n) ≡ length (decimal (n / 10)) + 1
digits-large n h = ap (length {A = ℕ}) (decimal-large n h) ∙ length-append (decimal (n / 10)) (digit (n % 10) ∷ [])

pub digits-some : (n : ℕ) → 1 ≤ length (decimal n)
digits-some n = go (ltb n 10) refl
  where
    go : (b : Bool) → ltb n 10 ≡ b → 1 ≤ length (decimal n)
    go true e = omega (arith, digits-small n (ltb-true n 10 e))
    go false e = omega (arith, digits-large n (ltb-false n 10 e))

pub digits_one : (n : ℕ) → length (decimal n) ≤ 1 → n < 10
digits_one n h = go (ltb n 10) refl
  where
    go : (b : Bool) → ltb n 10 ≡ b → n < 10
    go true t = ltb-true n 10 t
    go false t = absurd (omega (arith, digits-large n (ltb-false n 10 t), digits-some (n / 10)))

pub digits_more : (n : ℕ) → 1 < length (decimal n) → 10 ≤ n
digits_more n h = go (ltb n 10) refl
  where
    go : (b : Bool) → ltb n 10 ≡ b → 10 ≤ n
    go true t = absurd (omega (arith, digits-small n (ltb-true n 10 t)))
    go false t = ltb-false n 10 t

ten-pos : (k : ℕ) → 1 ≤ 10 ^ k
ten-pos zero = omega arith
ten-pos (suc k) = omega (arith, ten-pos k, pow-succ' 10 k)

-- as many as the power of 10 says that n has reached; 0 has one
pub digits_exact : (k n : ℕ) → 10 ^ k ≤ n → n < 10 * 10 ^ k → length (decimal n) ≡ k + 1
digits_exact zero n h j = digits-small n (omega arith)
digits_exact (suc k) n h j =
    let p = pow-succ' 10 k in
    let m : length (decimal (n / 10)) ≡ k + 1 = digits_exact k (n / 10) (omega arith) (omega arith) in
    let some = ten-pos k in
    omega (arith, digits-large n (omega arith))

pub digits_none : (n : ℕ) → n ≡ 0 → length (decimal n) ≡ 1
digits_none n e = digits-small n (omega arith)
