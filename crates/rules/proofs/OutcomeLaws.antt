-- The outcome of a run as 01 says it, each case exactly: finished, over, no room, or spent, read from the state left.
use Prim.Native.Nat.{◌<◌, ℕ, ◌≤◌}
use mathlib.Core.Path.{◌≡◌, ap, refl, subst, sym, ◌∙◌}
use mathlib.Core.Logic.{◌↔◌}
use mathlib.Core.Bool.{Bool, cond, false, true}
use mathlib.Core.List.{List}
use borrow.Author.Tests.{ltb-false, ltb-true}
use lib.Dec.{ltb}
use native.Mathlib.Omega.{arith}
use Rattle.rules.specs.Run.{Further, Outcome, is_finished, is_over, no_room, outcome_of, refused, run, spent}
use Rattle.rules.specs.Syntax.{Answer, finished, next, over}
use Rattle.rules.proofs.RunLaws.{run-le, run-makes, run-outcome, run-reached}
use Rattle.rules.proofs.Tests.{true-false}

answer_number : {A : Type 0} → Answer A → ℕ
answer_number (finished vs) = 0
answer_number over = 1
answer_number (next a) = 2

outcome_order : Outcome → ℕ
outcome_order refused = 0
outcome_order is_finished = 1
outcome_order is_over = 2
outcome_order no_room = 3
outcome_order spent = 4

-- x is what a step of the state left would come to
pub record Reads {A : Type 0} (fits : A → Bool) (x : Answer A) (o : Outcome) : Type 0 where
  pub finishes : (o ≡ is_finished) ↔ ((vs : List ℕ) × (x ≡ finished vs))
  pub overs : (o ≡ is_over) ↔ (x ≡ over)
  pub no_rooms : (o ≡ no_room) ↔ ((b : A) × (x ≡ next b) × (fits b ≡ false))
  pub furthers : (o ≡ spent) ↔ ((b : A) × (x ≡ next b) × (fits b ≡ true))
  pub accepted : o ≡ refused → ⊥

apart : {P : Type 0} (a b : Outcome) → (outcome_order a ≡ outcome_order b → ⊥) → a ≡ b → P
apart a b h e = absurd (h (ap outcome_order e))

split : {A P : Type 0} (x y : Answer A) → (answer_number x ≡ answer_number y → ⊥) → x ≡ y → P
split x y h e = absurd (h (ap answer_number e))

not-lt : (m n : ℕ) → (m < n → ⊥) → n ≤ m
not-lt m n h = go (ltb m n) refl
  where
    go : (b : Bool) → ltb m n ≡ b → n ≤ m
    go true e = absurd (h (ltb-true m n e))
    go false e = ltb-false m n e

module _ {A : Type 0} (f : A → Answer A) (fits : A → Bool) where
  next-inj : (a b : A) → ◌≡◌ {A = Answer A} (next a) (next b) → a ≡ b
  next-inj a b e = cc

  reads-next : (b : A) (t : Bool) → fits b ≡ t → Reads fits (next b) (cond t spent no_room)
  unfolding outcome_order answer_number
  reads-next b true e = record {
    finishes = (apart spent is_finished (λ q. omega arith), (λ v. split (next b) (finished v.0) (λ q. omega arith) v.1));
    overs = (apart spent is_over (λ q. omega arith), split (next b) over (λ q. omega arith));
    no_rooms = (apart spent no_room (λ q. omega arith), (λ v. true-false (sym e ∙ (ap fits (next-inj b v.0 v.1) ∙ v.2))));
    furthers = ((λ q. (b, refl, e)), (λ v. refl));
    accepted = apart spent refused (λ q. omega arith);
  }
  reads-next b false e = record {
    finishes = (apart no_room is_finished (λ q. omega arith), (λ v. split (next b) (finished v.0) (λ q. omega arith) v.1));
    overs = (apart no_room is_over (λ q. omega arith), split (next b) over (λ q. omega arith));
    no_rooms = ((λ q. (b, refl, e)), (λ v. refl));
    furthers = (apart no_room spent (λ q. omega arith), (λ v. true-false (sym (ap fits (next-inj b v.0 v.1) ∙ v.2) ∙ e)));
    accepted = apart no_room refused (λ q. omega arith);
  }

  reads_of : (x : Answer A) → Reads fits x (outcome_of f fits x)
  unfolding outcome_of outcome_order answer_number
  reads_of (finished vs) = record {
    finishes = ((λ q. (vs, refl)), (λ v. refl));
    overs = (apart is_finished is_over (λ q. omega arith), split (finished vs) over (λ q. omega arith));
    no_rooms = (apart is_finished no_room (λ q. omega arith), (λ v. split (finished vs) (next v.0) (λ q. omega arith) v.1));
    furthers = (apart is_finished spent (λ q. omega arith), (λ v. split (finished vs) (next v.0) (λ q. omega arith) v.1));
    accepted = apart is_finished refused (λ q. omega arith);
  }
  reads_of over = record {
    finishes = (apart is_over is_finished (λ q. omega arith), (λ v. split over (finished v.0) (λ q. omega arith) v.1));
    overs = ((λ q. refl), (λ v. refl));
    no_rooms = (apart is_over no_room (λ q. omega arith), (λ v. split over (next v.0) (λ q. omega arith) v.1));
    furthers = (apart is_over spent (λ q. omega arith), (λ v. split over (next v.0) (λ q. omega arith) v.1));
    accepted = apart is_over refused (λ q. omega arith);
  }
  reads_of (next b) = reads-next b (fits b) refl

  -- the outcome of a run is read from the state that it leaves
  pub run-reads : (n : ℕ) (a : A) → Reads fits (f (run f fits n a).state) (run f fits n a).outcome
  run-reads n a = subst (Reads fits (f (run f fits n a).state)) (sym (run-outcome f fits n a)) (reads_of (f (run f fits n a).state))

  -- spent: the budget is used up
  run-used : (n : ℕ) (a : A) → (run f fits n a).outcome ≡ spent → (run f fits n a).count ≡ n
  run-used n a e =
      let r = run f fits n a in
      let most = run-le f fits n a in
      let further = (run-reads n a).furthers.0 e in
      let all_made : (r.count < n) → ⊥ = λ l. omega (arith, (run-makes f fits n a r.count (omega arith)).1 (l, (r.state, run-reached f fits n a, further))) in
      omega (arith, not-lt r.count n all_made)

  -- spent, then and only then with count = budget and a further step possible
  pub run-spent : (n : ℕ) (a : A) → ((run f fits n a).outcome ≡ spent) ↔ (((run f fits n a).count ≡ n) × Further f fits (run f fits n a).state)
  run-spent n a = ((λ e. (run-used n a e, (run-reads n a).furthers.0 e)), (λ v. (run-reads n a).furthers.1 v.1))
