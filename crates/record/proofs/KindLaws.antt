-- A number and the kind that it names say the same.
use Rattle.std.proofs.Common.{◌+◌, ◌-◌, ◌≤◌, ◌≡◌, ℕ, suc, zero, Bool, false, true, List, [], ◌∷◌, eqb, refl, sym, ap, ◌∙◌, arith, rules}
use borrow.Author.Tests.{eqb-false, eqb-true}
use Rattle.record.specs.declared.kind.Kind.{Kind}
use Rattle.record.specs.declared.kind.Kind.TheVariants.{Literal, MinusOne, Other, PlusOne, Variable}
use Rattle.record.specs.Program.{bound_kind, bound_number, expr_kind, expr_number}
use Rattle.rules.specs.Syntax.{dec, inc, lit, upto, upto_var, var}
use Rattle.record.specs.Kind.{kind_among, kind_if, kind_in_program, kind_in_term, kind_named, kind_number, kinds}

-- The number of one kind or the other, where the test says that it is the first's.
number-if : (b : Bool) (k l : Kind) (n : ℕ) → b ≡ eqb n (kind_number k) → kind_number l ≡ n → kind_number (kind_if b k l) ≡ n
number-if true k l n e h = grind arith
number-if false k l n e h = h

number-among : (ks : List Kind) (n : ℕ) → kind_number (kind_among ks n) ≡ n
number-among [] n = refl
number-among (k ∷ ks) n = number-if (eqb n (kind_number k)) k (kind_among ks n) n refl (number-among ks n)

-- The kind that a number names has that number.
pub number-named : (n : ℕ) → kind_number (kind_named n) ≡ n
unfolding kind_named
number-named n = number-among kinds n

-- So a number that names a kind is that kind's.
pub named-number : {n : ℕ} {k : Kind} → k ≡ kind_named n → n ≡ kind_number k
named-number {n} {k} e = rw e (sym (number-named n))

-- The kind has a name.
abbrev pub Known : Kind → Type 0
Known (Other n) = ⊥
Known _ = Unit {0}

-- The number of a kind that has a name names it.
pub known-named : (k : Kind) → Known k → k ≡ kind_named (kind_number k)
unfolding kind_named
known-named k h = search rules

-- A number that names another kind is not this one's.
pub not-number : {n : ℕ} {r : Kind} (k : Kind) → Known k → r ≡ kind_named n → (r ≡ k → ⊥) → n ≡ kind_number k → ⊥
not-number {n} {r} k h e f g = f (e ∙ ap kind_named g ∙ sym (known-named k h))

-- What holds of four numbers in a row holds of each between the first and the last.
of_four : (P : ℕ → Type 0) (a n : ℕ) → a ≤ n → n ≤ a + 3 → P a → P (a + 1) → P (a + 2) → P (a + 3) → P n
of_four P a n low high p₀ p₁ p₂ p₃ = go (n - a) (omega arith)
  where
    go : (m : ℕ) → n ≡ a + m → P n
    go zero e = let d : n ≡ a = omega arith in rw d p₀
    go (suc zero) e = let d : n ≡ a + 1 = omega arith in rw d p₁
    go (suc (suc zero)) e = let d : n ≡ a + 2 = omega arith in rw d p₂
    go (suc (suc (suc zero))) e = let d : n ≡ a + 3 = omega arith in rw d p₃
    go (suc (suc (suc (suc m)))) e = absurd (omega arith)

-- The numbers of an expression's kinds are 16 higher in a term.
pub in_term-number : {n : ℕ} {k : Kind} → k ≡ kind_named n → 16 ≤ n → n ≤ 19 → kind_number (kind_in_term k) ≡ n + 16
unfolding kind_named
in_term-number {n} e low high = rw e (of_four (λ (m : ℕ). kind_number (kind_in_term (kind_named m)) ≡ m + 16) 16 n low high refl refl refl refl)

pub in_program-number : {n : ℕ} {k : Kind} → k ≡ kind_named n → 32 ≤ n → n ≤ 35 → kind_number (kind_in_program k) ≡ n - 16
unfolding kind_named
in_program-number {n} e low high = rw e (of_four (λ (m : ℕ). kind_number (kind_in_program (kind_named m)) ≡ m - 16) 32 n low high refl refl refl refl)

-- The kind and the number of an expression of each form, and of a bound.
pub lit-leaf : (n : ℕ) → (kind_named (expr_kind (lit n)) ≡ Literal) × (expr_number (lit n) ≡ n)
unfolding kind_named expr_kind expr_number
lit-leaf n = (refl, refl)

pub var-leaf : (n : ℕ) → (kind_named (expr_kind (var n)) ≡ Variable) × (expr_number (var n) ≡ n)
unfolding kind_named expr_kind expr_number
var-leaf n = (refl, refl)

pub inc-leaf : (n : ℕ) → (kind_named (expr_kind (inc n)) ≡ PlusOne) × (expr_number (inc n) ≡ n)
unfolding kind_named expr_kind expr_number
inc-leaf n = (refl, refl)

pub dec-leaf : (n : ℕ) → (kind_named (expr_kind (dec n)) ≡ MinusOne) × (expr_number (dec n) ≡ n)
unfolding kind_named expr_kind expr_number
dec-leaf n = (refl, refl)

pub upto-leaf : (n : ℕ) → (kind_named (bound_kind (upto n)) ≡ Literal) × (bound_number (upto n) ≡ n)
unfolding kind_named bound_kind bound_number
upto-leaf n = (refl, refl)

pub upto_var-leaf : (n : ℕ) → (kind_named (bound_kind (upto_var n)) ≡ Variable) × (bound_number (upto_var n) ≡ n)
unfolding kind_named bound_kind bound_number
upto_var-leaf n = (refl, refl)

-- What a test of the number says.
pub stands-number : {b : Bool} {n m : ℕ} → b ≡ eqb n m → b ≡ true → n ≡ m
stands-number {n = n} {m = m} e t = eqb-true n m (sym e ∙ t)

pub stands-not : {b : Bool} {n m : ℕ} → b ≡ eqb n m → b ≡ false → n ≡ m → ⊥
stands-not {n = n} {m = m} e t = eqb-false n m (sym e ∙ t)
