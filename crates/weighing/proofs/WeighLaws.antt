-- Laws of weighing.
use Prim.Native.Nat.{◌*◌, ◌+◌, ◌-◌, ◌/◌, ◌<◌, suc, zero, ℕ, ◌≤◌}
use mathlib.Core.Path.{ap, refl, subst, sym, ◌∙◌, ◌≡◌}
use mathlib.Core.Logic.{inl, inr, ◌↔◌}
use mathlib.Core.Bool.{Bool, cond, false, true}
use mathlib.Core.List.{List, [], ◌∷◌}
use borrow.Author.Tests.{le-ltb, leb-false, leb-true, lt-ltb, not-false}
use lib.Dec.{leb}
use lib.ListN.{length, length-replicate, replicate}
use native.Mathlib.Omega.{arith}
use Rattle.record.specs.Answers.{Stored}
use Rattle.record.specs.Rows.{first_row, row}
use Rattle.rules.specs.Scope.{Within, in_range}
use Rattle.rules.specs.Sound.{SmallValues}
use Rattle.rules.specs.Store.{Limit, lookup}
use Rattle.record.proofs.AnswerLaws.{stored-accepted, stored-number, stored_refused}
use Rattle.record.proofs.RowLaws.{first-applies, first-none, first-skips, none_first, not-intro}
use Rattle.record.proofs.RowMeaningLaws.{not_iff}
use Rattle.rules.proofs.ScopeLaws.{in_range-within, within-in_range}
use Rattle.weighing.specs.declared.Rule.{Rule}
use Rattle.weighing.specs.declared.Rule.TheVariants.{Down, Nearest}
use Rattle.weighing.specs.RuleNumber.{rule_number}
use Rattle.weighing.specs.Weigh.{apart, bad_size, bad_rule, count_of, net_load, tare_larger, weigh_call, weigh_rows, weighed}
use Rattle.weighing.specs.WeighMeaning.{IsRule, WeighMeans}

-- what an accepted weighing gives
abbrev given : ℕ → ℕ → ℕ → List ℕ → List ℕ
given rule gross tare store = weighed (length store) (count_of rule (net_load gross tare)) (tare_larger gross tare)

-- NUMBER AND REFUSAL

pub weigh-number : (rule gross tare : ℕ) (store : List ℕ) → (weigh_call rule gross tare store).number ≡ first_row (weigh_rows rule store)
unfolding weigh_call
weigh-number rule gross tare store = stored-number (first_row (weigh_rows rule store)) (given rule gross tare store) store

pub weigh-refused : (rule gross tare : ℕ) (store : List ℕ) → (first_row (weigh_rows rule store) ≡ 0 → ⊥)
    → weigh_call rule gross tare store ≡ record { number = first_row (weigh_rows rule store); store = store }
unfolding weigh_call
weigh-refused rule gross tare store h = stored_refused (first_row (weigh_rows rule store)) (given rule gross tare store) store h

-- THE NET LOAD, AND WHETHER TARE IS LARGER

pub net-load : (gross tare : ℕ) → tare ≤ gross → net_load gross tare + tare ≡ gross
unfolding net_load
net-load gross tare h = omega arith

pub net-larger : (gross tare : ℕ) → gross ≤ tare → net_load gross tare + gross ≡ tare
unfolding net_load
net-larger gross tare h = omega arith

pub tare-larger : (gross tare : ℕ) → gross < tare → tare_larger gross tare ≡ 1
unfolding tare_larger
tare-larger gross tare h = ap (λ (b : Bool). cond b 1 0) (lt-ltb gross tare h)

pub not-larger : (gross tare : ℕ) → tare ≤ gross → tare_larger gross tare ≡ 0
unfolding tare_larger
not-larger gross tare h = ap (λ (b : Bool). cond b 1 0) (le-ltb gross tare h)

-- THE RULES

down : (n : ℕ) → (20 * count_of 1 n ≤ n) × (n < 20 * count_of 1 n + 20)
unfolding count_of
down n = (omega arith, omega arith)

ten-over : (q : ℕ) → count_of 2 (20 * q + 10) ≡ q + 1
unfolding count_of
ten-over q = omega arith

nearest : (n m : ℕ) → apart n (20 * count_of 2 n) ≤ apart n (20 * m)
unfolding count_of
nearest n m = omega arith

pub rule-numbered : (rule : Rule) → Within 2 (rule_number rule)
rule-numbered Down = (omega arith, omega arith)
rule-numbered Nearest = (omega arith, omega arith)

rule-is : (rule : ℕ) → Within 2 rule → IsRule rule
rule-is zero w = absurd (omega (arith, w.0))
rule-is (suc zero) w = inl refl
rule-is (suc (suc zero)) w = inr refl
rule-is (suc (suc (suc other))) w = absurd (omega (arith, w.1))

rule-within : (rule : ℕ) → IsRule rule → Within 2 rule
rule-within rule (inl e) = (omega arith, omega arith)
rule-within rule (inr e) = (omega arith, omega arith)

pub count_down : (rule net : ℕ) → rule ≡ 1 → count_of rule net ≡ net / 20
unfolding count_of
count_down rule net e = rw e refl

pub count-nearest : (rule net : ℕ) → rule ≡ 2 → count_of rule net ≡ (net + 10) / 20
unfolding count_of
count-nearest rule net e = rw e refl

-- by either rule the count times 20 is less than 20 from the net load, and the count is no more than the net load
count-close : (rule net : ℕ) → IsRule rule → (20 * count_of rule net < net + 20) × (net < 20 * count_of rule net + 20)
count-close rule net (inl e) = let c = count_down rule net e in (omega arith, omega arith)
count-close rule net (inr e) = let c = count-nearest rule net e in (omega arith, omega arith)

count_low : (rule net : ℕ) → IsRule rule → count_of rule net ≤ net
count_low rule net (inl e) = omega (arith, count_down rule net e)
count_low rule net (inr e) = omega (arith, count-nearest rule net e)

-- THE ROWS

size-bad : (store : List ℕ) → (bad_size store ≡ true) ↔ (Within 16 (length store) → ⊥)
unfolding bad_size
size-bad store = not_iff (in_range 16 (length store)) (in_range-within 16 (length store), within-in_range 16 (length store))

rule-bad : (rule : ℕ) → (bad_rule rule ≡ true) ↔ (IsRule rule → ⊥)
unfolding bad_rule
rule-bad rule = not_iff (in_range 2 rule) ((λ e. rule-is rule (in_range-within 2 rule e)), (λ r. within-in_range 2 rule (rule-within rule r)))

size-good : (store : List ℕ) → Within 16 (length store) → bad_size store ≡ false
unfolding bad_size
size-good store w = not-intro (within-in_range 16 (length store) w)

rule-good : (rule : ℕ) → IsRule rule → bad_rule rule ≡ false
unfolding bad_rule
rule-good rule r = not-intro (within-in_range 2 rule (rule-within rule r))

-- WHAT THE CALL ANSWERS

-- a refusal, by the row that gives it
weigh-row : (n : ℕ) (rule gross tare : ℕ) (store : List ℕ) → first_row (weigh_rows rule store) ≡ suc n → weigh_call rule gross tare store ≡ record { number = suc n; store = store }
weigh-row n rule gross tare store e =
    weigh-refused rule gross tare store (λ z. omega (arith, sym e ∙ z))
    ∙ ap (λ (m : ℕ). record { number = m; store = store }) e

weigh-not : (rule gross tare : ℕ) (store : List ℕ) → (Within 16 (length store) → ⊥) → weigh_call rule gross tare store ≡ record { number = 6; store = store }
weigh-not rule gross tare store n = weigh-row 5 rule gross tare store (first-applies 6 (bad_size store) (row 11 (bad_rule rule) ∷ []) ((size-bad store).1 n))

weigh-no-rule : (rule gross tare : ℕ) (store : List ℕ) → Within 16 (length store) → (IsRule rule → ⊥) → weigh_call rule gross tare store ≡ record { number = 11; store = store }
weigh-no-rule rule gross tare store w n =
    weigh-row 10 rule gross tare store
    (first-skips 6 (bad_size store) (row 11 (bad_rule rule) ∷ []) (size-good store w) ∙ first-applies 11 (bad_rule rule) [] ((rule-bad rule).1 n))

-- no row applies exactly where there are 1 to 16 values and such a rule
weigh-passes : (rule : ℕ) (store : List ℕ) → Within 16 (length store) → IsRule rule → first_row (weigh_rows rule store) ≡ 0
weigh-passes rule store w r = none_first (weigh_rows rule store) (size-good store w, (rule-good rule r, tt))

weigh-passed : (rule : ℕ) (store : List ℕ) → first_row (weigh_rows rule store) ≡ 0 → Within 16 (length store) × IsRule rule
unfolding bad_size bad_rule
weigh-passed rule store e =
    let n = first-none (weigh_rows rule store) refl e in (
      in_range-within 16 (length store) (not-false (in_range 16 (length store)) n.0),
      rule-is rule (in_range-within 2 rule (not-false (in_range 2 rule) n.1.0)),
    )

weigh-gives : (rule gross tare : ℕ) (store : List ℕ) → first_row (weigh_rows rule store) ≡ 0
    → weigh_call rule gross tare store ≡ record { number = 0; store = given rule gross tare store }
unfolding weigh_call
weigh-gives rule gross tare store e =
    stored-accepted (first_row (weigh_rows rule store)) (given rule gross tare store) store e

-- ONE LAW FOR EACH WAY OUT of the call's code

answers : (rule gross tare : ℕ) (store : List ℕ) (s : Stored) → weigh_call rule gross tare store ≡ s
    → (s.number ≡ (weigh_call rule gross tare store).number) × (s.store ≡ (weigh_call rule gross tare store).store)
answers rule gross tare store s e = (ap (λ (x : Stored). x.number) (sym e), ap (λ (x : Stored). x.store) (sym e))

-- other than 1 to 16 values: row 6, and the store as it came
pub weigh-six : (rule gross tare : ℕ) (store : List ℕ) → (Within 16 (length store) → ⊥)
    → (6 ≡ (weigh_call rule gross tare store).number) × (store ≡ (weigh_call rule gross tare store).store)
weigh-six rule gross tare store n = answers rule gross tare store (record { number = 6; store = store }) (weigh-not rule gross tare store n)

-- no such rule: row 11, and the store as it came
pub weigh-eleven : (rule gross tare : ℕ) (store : List ℕ) → Within 16 (length store) → (Within 2 rule → ⊥)
    → (11 ≡ (weigh_call rule gross tare store).number) × (store ≡ (weigh_call rule gross tare store).store)
weigh-eleven rule gross tare store w n =
    answers rule gross tare store (record { number = 11; store = store }) (weigh-no-rule rule gross tare store w (λ r. n (rule-within rule r)))

-- else the store filled with the count and whether tare is larger
pub weigh-filled : (rule gross tare net count larger : ℕ) (store after : List ℕ) → Within 16 (length store) → Within 2 rule
    → net ≡ net_load gross tare → count ≡ count_of rule net → larger ≡ tare_larger gross tare → after ≡ weighed (length store) count larger
    → (0 ≡ (weigh_call rule gross tare store).number) × (after ≡ (weigh_call rule gross tare store).store)
weigh-filled rule gross tare net count larger store after w r n c t f =
    let a = answers rule gross tare store (record { number = 0; store = given rule gross tare store }) (weigh-gives rule gross tare store (weigh-passes rule store w (rule-is rule r))) in (
      a.0,
      f ∙ ap (λ (m : ℕ). weighed (length store) m larger) (c ∙ ap (count_of rule) n)
          ∙ ap (weighed (length store) (count_of rule (net_load gross tare))) t ∙ a.1,
    )

-- A WEIGHED STORE

pub weighed-more : (n count larger : ℕ) → 2 ≤ n → weighed n count larger ≡ count ∷ larger ∷ replicate (n - 2) 0
unfolding weighed
weighed-more zero count larger h = absurd (omega (arith, h))
weighed-more (suc zero) count larger h = absurd (omega (arith, h))
weighed-more (suc (suc n)) count larger h = ap (λ (m : ℕ). count ∷ larger ∷ replicate m 0) {x = n} {y = suc (suc n) - 2} (omega arith)

weighed-length : (n count larger : ℕ) → length (weighed n count larger) ≡ n
unfolding weighed
weighed-length zero count larger = refl
weighed-length (suc zero) count larger = refl
weighed-length (suc (suc n)) count larger = ap (λ (m : ℕ). suc (suc m)) (length-replicate {A = ℕ} n 0)

weighed-first : (n count larger : ℕ) → 1 ≤ n → lookup (weighed n count larger) 1 ≡ count
unfolding weighed lookup
weighed-first zero count larger h = absurd (omega (arith, h))
weighed-first (suc zero) count larger h = refl
weighed-first (suc (suc n)) count larger h = refl

-- where variable 2 gets 0 too, every variable but the first does
weighed-plain : (n count : ℕ) → 1 ≤ n → weighed n count 0 ≡ count ∷ replicate (n - 1) 0
unfolding weighed
weighed-plain zero count h = absurd (omega (arith, h))
weighed-plain (suc zero) count h = refl
weighed-plain (suc (suc n)) count h = ap (λ (m : ℕ). count ∷ replicate m 0) {x = suc n} {y = suc (suc n) - 1} (omega arith)

-- what is below a value that passes, and zeros
module _ (ok : ℕ → Bool) (l : Limit ok) where
  below-passes : (d n m : ℕ) → d + n ≡ m → ok m ≡ true → ok n ≡ true
  below-passes zero n m e h = let q : n ≡ m = omega arith in ap ok q ∙ h
  below-passes (suc d) n m e h = let q : suc (d + n) ≡ m = omega arith in below-passes d n (d + n) refl (l.below_passes (d + n) (ap ok q ∙ h))

  zeros-small : (n : ℕ) → SmallValues ok (replicate n 0)
  zeros-small zero = tt
  zeros-small (suc n) = (l.zero_passes, zeros-small n)

  weighed-small : (n count larger : ℕ) → ok count ≡ true → ok larger ≡ true → SmallValues ok (weighed n count larger)
  unfolding weighed
  weighed-small zero count larger c t = tt
  weighed-small (suc zero) count larger c t = (c, tt)
  weighed-small (suc (suc n)) count larger c t = (c, (t, zeros-small n))

  -- what is no more than the net load is no more than gross or no more than tare; and a tare that is larger is 1 at least
  module _ (gross tare count : ℕ) (low : count ≤ net_load gross tare) (g : ok gross ≡ true) (t : ok tare ≡ true) where
    weights-pass : (ok count ≡ true) × (ok (tare_larger gross tare) ≡ true)
    weights-pass = by-test (leb tare gross) refl
      where
        by-test : (b : Bool) → leb tare gross ≡ b → (ok count ≡ true) × (ok (tare_larger gross tare) ≡ true)
        by-test true e =
            let h = leb-true tare gross e in
            (below-passes (gross - count) count gross (omega (arith, low, net-load gross tare h)) g, ap ok (not-larger gross tare h) ∙ l.zero_passes)
        by-test false e =
            let h = leb-false tare gross e in (
              below-passes (tare - count) count tare (omega (arith, low, net-larger gross tare (omega arith))) t,
              ap ok (tare-larger gross tare h) ∙ below-passes (tare - 1) 1 tare (omega arith) t,
            )

-- AN ACCEPTED WEIGHING: what it asks, all that is said of what it gives, and its variable 1; and the number of values of any

weigh-taken : (rule gross tare : ℕ) (store : List ℕ) → (weigh_call rule gross tare store).number ≡ 0 → Within 16 (length store) × IsRule rule
weigh-taken rule gross tare store z = weigh-passed rule store (sym (weigh-number rule gross tare store) ∙ z)

weigh-accepted : (P : Stored → Type 0) (rule gross tare : ℕ) (store : List ℕ) → (weigh_call rule gross tare store).number ≡ 0
    → P (record { number = 0; store = given rule gross tare store }) → P (weigh_call rule gross tare store)
weigh-accepted P rule gross tare store z p = subst P (sym (weigh-gives rule gross tare store (sym (weigh-number rule gross tare store) ∙ z))) p

weigh-first : (rule gross tare : ℕ) (store : List ℕ) → (weigh_call rule gross tare store).number ≡ 0
    → lookup (weigh_call rule gross tare store).store 1 ≡ count_of rule (net_load gross tare)
weigh-first rule gross tare store z =
    weigh-accepted (λ s. lookup s.store 1 ≡ count_of rule (net_load gross tare)) rule gross tare store z
    (weighed-first (length store) (count_of rule (net_load gross tare)) (tare_larger gross tare) (weigh-taken rule gross tare store z).0.0)

weigh-length : (rule gross tare : ℕ) (store : List ℕ) → length (weigh_call rule gross tare store).store ≡ length store
weigh-length rule gross tare store = go (first_row (weigh_rows rule store)) refl
  where
    go : (n : ℕ) → first_row (weigh_rows rule store) ≡ n → length (weigh_call rule gross tare store).store ≡ length store
    go zero e =
        ap (λ (s : Stored). length s.store) (weigh-gives rule gross tare store e)
        ∙ weighed-length (length store) (count_of rule (net_load gross tare)) (tare_larger gross tare)
    go (suc n) e = ap (λ (s : Stored). length s.store) (weigh-row n rule gross tare store e)

-- one value: the count alone
weigh-one : (rule gross tare : ℕ) (store : List ℕ) → length store ≡ 1 → IsRule rule
    → weigh_call rule gross tare store ≡ record { number = 0; store = count_of rule (net_load gross tare) ∷ [] }
unfolding weighed
weigh-one rule gross tare store one r =
    weigh-gives rule gross tare store (weigh-passes rule store (omega arith, omega arith) r)
    ∙ ap (λ (n : ℕ). record { number = 0; store = weighed n (count_of rule (net_load gross tare)) (tare_larger gross tare) }) one

-- more: variable 2 too
weigh-more : (rule gross tare : ℕ) (store : List ℕ) → 2 ≤ length store → length store ≤ 16 → IsRule rule
    → weigh_call rule gross tare store
    ≡ record { number = 0; store = count_of rule (net_load gross tare) ∷ tare_larger gross tare ∷ replicate (length store - 2) 0 }
weigh-more rule gross tare store more low r =
    weigh-gives rule gross tare store (weigh-passes rule store (omega arith, low) r)
    ∙ ap (λ (l : List ℕ). record { number = 0; store = l }) (weighed-more (length store) (count_of rule (net_load gross tare)) (tare_larger gross tare) more)

-- tare not larger: variable 1 alone can be other than 0
weigh-before : (rule gross tare : ℕ) (store : List ℕ) → tare ≤ gross → (weigh_call rule gross tare store).number ≡ 0
    → (weigh_call rule gross tare store).store ≡ count_of rule (gross - tare) ∷ replicate (length store - 1) 0
weigh-before rule gross tare store h z =
    let net : net_load gross tare ≡ gross - tare = omega (arith, net-load gross tare h) in
    weigh-accepted (λ s. s.store ≡ count_of rule (gross - tare) ∷ replicate (length store - 1) 0) rule gross tare store z
    (ap (weighed (length store) (count_of rule (net_load gross tare))) (not-larger gross tare h)
    ∙ weighed-plain (length store) (count_of rule (net_load gross tare)) (weigh-taken rule gross tare store z).0.0
    ∙ ap (λ (m : ℕ). count_of rule m ∷ replicate (length store - 1) 0) net)

-- equal weights: variable 1 is 0 too
weigh-equal : (rule weight : ℕ) (store : List ℕ) → (weigh_call rule weight weight store).number ≡ 0
    → (weigh_call rule weight weight store).store ≡ replicate (length store) 0
weigh-equal rule weight store z =
    let taken = weigh-taken rule weight weight store z in
    let none : count_of rule (weight - weight) ≡ 0 = omega (arith, count_low rule (weight - weight) taken.1) in
    let size : suc (length store - 1) ≡ length store = omega (arith, taken.0.0) in
    weigh-before rule weight weight store (omega arith) z
    ∙ ap (λ (m : ℕ). m ∷ replicate (length store - 1) 0) none ∙ ap (λ (n : ℕ). replicate n 0) size

pub weigh-means : WeighMeans
weigh-means = record {
  net = net-load;
  net_larger = net-larger;
  larger = λ gross tare h. tare-larger gross tare (omega arith);
  not_larger = not-larger;
  down = down;
  nearest = nearest;
  ten_over = ten-over;
  six = size-bad;
  eleven = rule-bad;
  weighs_one = weigh-one;
  weighs = weigh-more;
  equal = weigh-equal;
  as_before = weigh-before;
  weighs_not = weigh-not;
  weighs_no_rule = weigh-no-rule;
  close = λ rule gross tare store z. let first = weigh-first rule gross tare store z in
      let c = count-close rule (net_load gross tare) (weigh-taken rule gross tare store z).1 in (omega arith, omega arith);
  same_length = weigh-length;
  values = λ ok l rule gross tare store g t z. let count : ℕ = count_of rule (net_load gross tare) in
      let p = weights-pass ok l gross tare count (count_low rule (net_load gross tare) (weigh-taken rule gross tare store z).1) g t in
      weigh-accepted (λ s. SmallValues ok s.store) rule gross tare store z (weighed-small ok l (length store) count (tare_larger gross tare) p.0 p.1);
}
