-- Laws of a run: the state left is `count` steps on, the outcome is read from it, a further step is made exactly where
-- there is budget, a next state and room for it, and budgets split freely.
use Prim.Native.Nat.{◌+◌, ◌<◌, suc, zero, ℕ, ◌≤◌}
use mathlib.Core.Path.{◌≡◌, ap, refl, subst, sym, ◌∙◌}
use mathlib.Core.Logic.{◌↔◌}
use mathlib.Core.Bool.{Bool, false, true}
use mathlib.Core.List.{List}
use mathlib.Core.Option.{some-injective, some}
use native.Mathlib.Nat.{suc-add, zero-add}
use native.Mathlib.Omega.{arith}
use Rattle.rules.specs.Run.{Further, Ran, go_on, iterate, one_more, or_stop, outcome_of, run, run_on, stop}
use Rattle.rules.specs.Syntax.{Answer, finished, next, over}
use Rattle.rules.proofs.IterateLaws.{iterate-first}
use Rattle.rules.proofs.Tests.{true-false}

-- the counts added, the rest as the second run says
unfoldable pub joined : {A : Type 0} → Ran A → Ran A → Ran A
joined r q = record { count = r.count + q.count; outcome = q.outcome; state = q.state }

module _ {A : Type 0} (f : A → Answer A) (fits : A → Bool) where
  -- THE STATE LEFT IS THAT MANY STEPS ON

  abbrev Reached : A → Ran A → Type 0
  Reached a r = iterate f r.count a ≡ some r.state

  reached-on : (a : A) (more : A → Ran A) → ((b : A) → Reached b (more b)) → (o : Answer A) → f a ≡ o → Reached a (run_on f fits a more o)
  unfolding run_on stop iterate go_on one_more or_stop
  reached-on a more ih (finished vs) e = refl
  reached-on a more ih over e = refl
  reached-on a more ih (next b) e = test (fits b)
    where
      test : (t : Bool) → Reached a (go_on f fits a t more b)
      test false = refl
      test true = iterate-first f (more b).count a b (more b).state e (ih b)

  pub run-reached : (n : ℕ) (a : A) → iterate f (run f fits n a).count a ≡ some (run f fits n a).state
  unfolding run stop iterate
  run-reached zero a = refl
  run-reached (suc n) a = reached-on a (run f fits n) (run-reached n) (f a) refl

  -- THE OUTCOME IS READ FROM THE STATE LEFT

  abbrev Told : Ran A → Type 0
  Told r = r.outcome ≡ outcome_of f fits (f r.state)

  told-on : (a : A) (more : A → Ran A) → ((b : A) → Told (more b)) → (o : Answer A) → Told (run_on f fits a more o)
  unfolding run_on stop go_on one_more
  told-on a more ih (finished vs) = refl
  told-on a more ih over = refl
  told-on a more ih (next b) = test (fits b)
    where
      test : (t : Bool) → Told (go_on f fits a t more b)
      test false = refl
      test true = ih b

  pub run-outcome : (n : ℕ) (a : A) → (run f fits n a).outcome ≡ outcome_of f fits (f (run f fits n a).state)
  unfolding run stop
  run-outcome zero a = refl
  run-outcome (suc n) a = told-on a (run f fits n) (run-outcome n) (f a)

  -- THE COUNT IS AT MOST THE BUDGET

  le_on : (n : ℕ) (a : A) (more : A → Ran A) → ((b : A) → (more b).count ≤ n) → (o : Answer A) → (run_on f fits a more o).count ≤ suc n
  unfolding run_on stop go_on one_more
  le_on n a more ih (finished vs) = omega arith
  le_on n a more ih over = omega arith
  le_on n a more ih (next b) = test (fits b)
    where
      test : (t : Bool) → (go_on f fits a t more b).count ≤ suc n
      test false = omega arith
      test true = omega (arith, ih b)

  pub run-le : (n : ℕ) (a : A) → (run f fits n a).count ≤ n
  unfolding run stop
  run-le zero a = omega arith
  run-le (suc n) a = le_on n a (run f fits n) (run-le n) (f a)

  -- A RUN STAYS IN ITS ROOM

  room-on : (n : ℕ) (a : A) → fits a ≡ true → ((b : A) → fits b ≡ true → fits (run f fits n b).state ≡ true) → (o : Answer A)
      → fits (run_on f fits a (run f fits n) o).state ≡ true
  unfolding run_on stop go_on one_more
  room-on n a h ih (finished vs) = h
  room-on n a h ih over = h
  room-on n a h ih (next b) = test (fits b) refl
    where
      test : (t : Bool) → fits b ≡ t → fits (go_on f fits a t (run f fits n) b).state ≡ true
      test false e = h
      test true e = ih b e

  pub run_room : (n : ℕ) (a : A) → fits a ≡ true → fits (run f fits n a).state ≡ true
  unfolding run stop
  run_room zero a h = h
  run_room (suc n) a h = room-on n a h (run_room n) (f a)

  -- WHERE NO FURTHER STEP IS POSSIBLE

  further-next : (a b : A) → f a ≡ next b → fits b ≡ true → Further f fits a
  further-next a b e h = (b, e, h)

  stopped-on : (a : A) (more : A → Ran A) → (Further f fits a → ⊥) → (o : Answer A) → f a ≡ o → run_on f fits a more o ≡ stop f fits a
  unfolding run_on go_on
  stopped-on a more no-further (finished vs) e = refl
  stopped-on a more no-further over e = refl
  stopped-on a more no-further (next b) e = test (fits b) refl
    where
      test : (t : Bool) → fits b ≡ t → go_on f fits a t more b ≡ stop f fits a
      test false h = refl
      test true h = absurd (no-further (further-next a b e h))

  -- a run of any budget stays where it is
  pub run-stopped : (n : ℕ) (a : A) → (Further f fits a → ⊥) → run f fits n a ≡ stop f fits a
  unfolding run
  run-stopped zero a h = refl
  run-stopped (suc n) a h = stopped-on a (run f fits n) h (f a) refl

  finished-not : (a : A) (vs : List ℕ) → f a ≡ finished vs → Further f fits a → ⊥
  finished-not a vs e h = let q = h.1 in let z : ◌≡◌ {A = ℕ} 0 1 = cc in omega arith

  over-not : (a : A) → f a ≡ over → Further f fits a → ⊥
  over-not a e h = let q = h.1 in let z : ◌≡◌ {A = ℕ} 0 1 = cc in omega arith

  room-not : (a b : A) → f a ≡ next b → fits b ≡ false → Further f fits a → ⊥
  room-not a b e r h =
      let q = h.1 in
      let same : h.0 ≡ b = cc in
      true-false (sym (ap fits (sym same) ∙ h.2) ∙ r)

  -- A FURTHER STEP IS MADE EXACTLY WHERE there is budget left and one is possible: of every step of a run, from the first

  -- budget is left after i steps, and the state after them has a further step
  abbrev pub Makes : ℕ → A → ℕ → Type 0
  Makes n a i = (i < n) × ((b : A) × (iterate f i a ≡ some b) × Further f fits b)

  makes-stop : (n : ℕ) (a : A) → (Further f fits a → ⊥) → (i : ℕ) → i ≤ 0 → (i < 0) ↔ Makes n a i
  unfolding iterate
  makes-stop n a h zero l = ((λ z. absurd (omega arith)), (λ v. absurd (h (subst (Further f fits) (sym (some-injective a v.1.0 v.1.1)) v.1.2))))
  makes-stop n a h (suc i) l = absurd (omega arith)

  makes-more : (n : ℕ) (a b : A) → f a ≡ next b → fits b ≡ true → (r : Ran A) → ((i : ℕ) → i ≤ r.count → (i < r.count) ↔ Makes n b i)
      → (i : ℕ) → i ≤ suc r.count → (i < suc r.count) ↔ Makes (suc n) a i
  unfolding iterate or_stop
  makes-more n a b e h r ih zero l = ((λ z. (omega arith, (a, refl, further-next a b e h))), (λ v. omega arith))
  makes-more n a b e h r ih (suc i) l =
      let on : iterate f (suc i) a ≡ iterate f i b = ap (λ (o : Answer A). or_stop o (λ (c : A). iterate f i c)) e in
      let step = ih i (omega arith) in (
        (λ z. let v = step.0 (omega arith) in (omega (arith, v.0), (v.1.0, on ∙ v.1.1, v.1.2))),
        (λ v. let z = step.1 (omega (arith, v.0), (v.1.0, sym on ∙ v.1.1, v.1.2)) in omega arith),
      )

  makes-on : (n : ℕ) (a : A) (more : A → Ran A) → ((b : A) (i : ℕ) → i ≤ (more b).count → (i < (more b).count) ↔ Makes n b i)
      → (o : Answer A) → f a ≡ o → (i : ℕ) → i ≤ (run_on f fits a more o).count → (i < (run_on f fits a more o).count) ↔ Makes (suc n) a i
  unfolding run_on go_on one_more stop
  makes-on n a more ih (finished vs) e = makes-stop (suc n) a (finished-not a vs e)
  makes-on n a more ih over e = makes-stop (suc n) a (over-not a e)
  makes-on n a more ih (next b) e = test (fits b) refl
    where
      test : (t : Bool) → fits b ≡ t → (i : ℕ) → i ≤ (go_on f fits a t more b).count → (i < (go_on f fits a t more b).count) ↔ Makes (suc n) a i
      test false h i l = makes-stop (suc n) a (room-not a b e h) i l
      test true h i l = makes-more n a b e h (more b) (ih b) i l

  pub run-makes : (n : ℕ) (a : A) (i : ℕ) → i ≤ (run f fits n a).count → (i < (run f fits n a).count) ↔ Makes n a i
  unfolding run stop
  run-makes zero a i l = ((λ z. absurd (omega arith)), (λ v. absurd (omega (arith, v.0))))
  run-makes (suc n) a i l = makes-on n a (run f fits n) (run-makes n) (f a) refl i l

  -- BUDGETS SPLIT FREELY

  join-stop : (a : A) (q : Ran A) → joined (stop f fits a) q ≡ q
  unfolding joined stop
  join-stop a q = ap (λ n. record { count = n; outcome = q.outcome; state = q.state }) (zero-add q.count)

  join_more : (r q : Ran A) → joined (one_more f fits r) q ≡ one_more f fits (joined r q)
  unfolding joined one_more
  join_more r q = ap (λ n. record { count = n; outcome = q.outcome; state = q.state }) (suc-add r.count q.count)

  abbrev Again : ℕ → Ran A → Ran A
  Again n r = joined r (run f fits n r.state)

  -- where it stopped, it stays
  again-stop : (n : ℕ) (a : A) → (Further f fits a → ⊥) → stop f fits a ≡ Again n (stop f fits a)
  unfolding stop
  again-stop n a h = sym (join-stop a (run f fits n a) ∙ run-stopped n a h)

  add-on : (m n : ℕ) (a : A) → ((b : A) → run f fits (m + n) b ≡ Again n (run f fits m b))
      → (o : Answer A) → f a ≡ o → run_on f fits a (run f fits (m + n)) o ≡ Again n (run_on f fits a (run f fits m) o)
  unfolding run_on go_on one_more
  add-on m n a ih (finished vs) e = again-stop n a (finished-not a vs e)
  add-on m n a ih over e = again-stop n a (over-not a e)
  add-on m n a ih (next b) e = test (fits b) refl
    where
      test : (t : Bool) → fits b ≡ t → go_on f fits a t (run f fits (m + n)) b ≡ Again n (go_on f fits a t (run f fits m) b)
      test false h = again-stop n a (room-not a b e h)
      test true h = ap (one_more f fits) (ih b) ∙ sym (join_more (run f fits m b) (run f fits n (run f fits m b).state))

  -- a run of m, then a run of n from where it stopped, is a run of m + n
  pub run-add : (m n : ℕ) (a : A) → run f fits (m + n) a ≡ joined (run f fits m a) (run f fits n (run f fits m a).state)
  unfolding run
  run-add zero n a = ap (λ j. run f fits j a) (zero-add n) ∙ sym (unfold stop in join-stop a (run f fits n a))
  run-add (suc m) n a = ap (λ j. run f fits j a) (suc-add m n) ∙ add-on m n a (run-add m n) (f a) refl
