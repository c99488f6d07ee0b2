-- Laws of the whole step: by the shape that the words tell, what each way asks, and that its step is the state's.
use Prim.Native.Nat.{ℕ}
use mathlib.Core.Path.{subst, sym, ◌∙◌, ◌≡◌}
use mathlib.Core.Bool.{false, true}
use mathlib.Core.List.{List}
use lib.ListN.{get_or, length}
use native.Mathlib.Omega.{arith}
use Rattle.rules.specs.Syntax.{Block, assign, empty, loop, nest}
use Rattle.rules.proofs.Tests.{true-false}
use Rattle.counting.specs.Counting.{State, here, summed}
use Rattle.counting.specs.Entries.{Entry, within}
use Rattle.count_step.specs.declared.standing.Standing.{Standing}
use Rattle.count_step.specs.declared.standing.Standing.TheVariants as standing
use Rattle.count_step.specs.Makes.{Goes, IsFlat, IsShut, IsSummed, Makes, MakesAs, StandsOn, flat_assign, flat_end, flat_loop, is_shut, is_summed}
use Rattle.count_step.specs.Standing.{MakesStep, Opened, SomeGoing, kind_of}
use Rattle.count_step.specs.Words.{shut_words}
use Rattle.count_step.proofs.AroundLaws.{here-read}
use Rattle.count_step.proofs.InnerLaws.{View, view, view_here, view_shut, view_sum}
use Rattle.count_step.proofs.ShapeLaws.{here-open, not-shut, sum-open}

goes_same : (s t : State) (store : List ℕ) → s ≡ t → Goes s store → Goes t store
goes_same s t store e g = subst (λ (z : State). Goes z store) e g

makes-same : (P : Block) (s t : State) (store ws after : List ℕ) (m : ℕ) → s ≡ t → Makes P t store ws after m → Makes P s store ws after m
makes-same P s t store ws after m e k = subst (λ (z : State). Makes P z store ws after m) (sym e) k

module _ (start used n : ℕ) (buf words store : List ℕ) where
  -- A SHUT LOOP

  pub is-shut : shut_words words n ≡ true → SomeGoing start used n buf words store → StandsOn start n IsShut buf words store
  is-shut t (P, s, h, g) = by-view (view h)
    where
      by-view : View start used n P s buf words (length store) → StandsOn start n IsShut buf words store
      by-view (view_here es i r e a) = absurd (true-false (sym t ∙ here-open a))
      by-view (view_sum es i x y v r e q a) = absurd (true-false (sym t ∙ sum-open a))
      by-view (view_shut es i x m q r u e o a) = (used, P, es, i, loop x m q r, u, is_shut x m q r u o, a, goes_same s (within es u) store e g)

  pub makes-shut : shut_words words n ≡ true → (ws after : List ℕ) (m : ℕ) → MakesAs start n IsShut buf words store ws after m → MakesStep start used n buf words store ws after m
  makes-shut t ws after m k P s h = by-view (view h)
    where
      by-view : View start used n P s buf words (length store) → Makes P s store ws after m
      by-view (view_here es i r e a) = absurd (true-false (sym t ∙ here-open a))
      by-view (view_sum es i x y v r e q a) = absurd (true-false (sym t ∙ sum-open a))
      by-view (view_shut es i x y q r u e o a) = makes-same P s (within es u) store ws after m e (k used P es i (loop x y q r) u (is_shut x y q r u o) a)

  -- A SUM THAT WAITS

  pub is_sum : shut_words words n ≡ false → get_or words 1 0 ≡ 1 → SomeGoing start used n buf words store → StandsOn start n IsSummed buf words store
  is_sum t w (P, s, h, g) = by-view (view h)
    where
      by-view : View start used n P s buf words (length store) → StandsOn start n IsSummed buf words store
      by-view (view_here es i r e a) = absurd (omega (arith, (here-read a).waits, w))
      by-view (view_sum es i x y v r e q a) =
          (used, P, es, i, assign x y r, summed x y v r, is_summed x y v r, a, goes_same s (within es (summed x y v r)) store e g)
      by-view (view_shut es i x m q r u e o a) = absurd (not-shut o a t)

  pub makes-sum : shut_words words n ≡ false → get_or words 1 0 ≡ 1 → (ws after : List ℕ) (m : ℕ) → MakesAs start n IsSummed buf words store ws after m
      → MakesStep start used n buf words store ws after m
  makes-sum t w ws after m k P s h = by-view (view h)
    where
      by-view : View start used n P s buf words (length store) → Makes P s store ws after m
      by-view (view_here es i r e a) = absurd (omega (arith, (here-read a).waits, w))
      by-view (view_sum es i x y v r e q a) =
          makes-same P s (within es (summed x y v r)) store ws after m e (k used P es i (assign x y r) (summed x y v r) (is_summed x y v r) a)
      by-view (view_shut es i x y q r u e o a) = absurd (not-shut o a t)

-- WHERE THE BLOCKS ARE OPENED

flat : (k : Standing) (r : Block) → k ≡ kind_of r → (k ≡ standing.Block → ⊥) → IsFlat k r (here r)
unfolding kind_of
flat k empty e n = flat_end e
flat k (assign x y r) e n = flat_assign x y r e
flat k (loop x m q r) e n = flat_loop x m q r e
flat k (nest q r) e n = absurd (n e)

-- the state s, at whose place nothing was open, of which `many` are open now; k is what stands first of what is left
module _ {start used many : ℕ} {P : Block} {es : List Entry} {r : Block} {buf words : List ℕ} (store : List ℕ) (s : State) (is : s ≡ within es (here r))
    (o : Opened start used many P es r buf words (length store)) (k : Standing) (e : k ≡ kind_of o.left) (n : k ≡ standing.Block → ⊥) where
  pub opened-stands : Goes s store → StandsOn start many (IsFlat k) buf words store
  opened-stands g =
      let h : Goes (within es (here r)) store = goes_same s (within es (here r)) store is g in
      (used, P, o.around, o.place, o.left, here o.left, flat k o.left e n, o.inner, (h.0, h.1, h.2, o.steps _ store ∙ h.3))

  pub opened-makes : (ws after : List ℕ) (m : ℕ) → MakesAs start many (IsFlat k) buf words store ws after m → Makes P s store ws after m
  opened-makes ws after m t =
      makes-same P s (within es (here r)) store ws after m is
      (λ ok c f. t used P o.around o.place o.left (here o.left) (flat k o.left e n) o.inner ok c (o.steps ok store ∙ f))
