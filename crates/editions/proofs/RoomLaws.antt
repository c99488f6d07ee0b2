-- Two runs of one machine in two buffers: they are the same where the second buffer and every record in it are 4 bytes longer, and where
-- neither run stops for want of room.
use Prim.Native.Nat.{◌+◌, suc, zero, ℕ}
use mathlib.Core.Path.{ap, fun_ext, refl, sym, ◌∙◌, ◌≡◌}
use mathlib.Core.Logic.{inl, inr, ◌⊎◌}
use mathlib.Core.Bool.{Bool, cond, false, true}
use mathlib.Core.List.{List}
use borrow.Author.Tests.{le-leb, leb-false, leb-true, lt-leb}
use lib.Dec.{leb}
use lib.ListN.{length}
use native.Mathlib.Omega.{arith}
use Rattle.rules.specs.Run.{Outcome, Ran, go_on, no_room, one_more, outcome_of, run, run_on, spent, stop}
use Rattle.rules.specs.Syntax.{Answer, finished, next, over}
use Rattle.run.specs.RunAnswer.{RunAnswer, room_for, run_in}

-- It is not room that stopped it.
abbrev pub Roomy : Outcome → Type 0
Roomy o = o ≡ no_room → ⊥

-- Two outcomes in two buffers: the second is 4 bytes longer, or room stopped neither.
abbrev pub RoomFor : ℕ → ℕ → Outcome → Outcome → Type 0
RoomFor room other o o' = (other ≡ 4 + room) ⊎ (Roomy o × Roomy o')

-- it is enough that something else makes it 4 bytes longer
pub room-for : {L : Type 0} (room other : ℕ) {o o' : Outcome} → (L → other ≡ 4 + room) → L ⊎ (Roomy o × Roomy o') → RoomFor room other o o'
room-for room other longer (inl l) = inl (longer l)
room-for room other longer (inr r) = inr r

-- The same of two answers in two buffers.
abbrev pub RoomIn : List ℕ → List ℕ → RunAnswer → RunAnswer → Type 0
RoomIn buf other a b = RoomFor (length buf) (length other) a.outcome b.outcome

-- NEITHER STOPS FOR WANT OF ROOM

fits-same : (x y : Bool) → Roomy (cond x spent no_room) → Roomy (cond y spent no_room) → cond y spent no_room ≡ cond x spent no_room
fits-same true true h g = refl
fits-same true false h g = absurd (g refl)
fits-same false y h g = absurd (h refl)

module _ {A : Type 0} (f : A → Answer A) (fits other : A → Bool) where
  outcome-same : (r : Answer A) → Roomy (outcome_of f fits r) → Roomy (outcome_of f other r) → outcome_of f other r ≡ outcome_of f fits r
  unfolding outcome_of
  outcome-same (finished vs) h g = refl
  outcome-same over h g = refl
  outcome-same (next b) h g = fits-same (fits b) (other b) h g

  stop-same : (a : A) → Roomy (stop f fits a).outcome → Roomy (stop f other a).outcome → stop f other a ≡ stop f fits a
  unfolding stop
  stop-same a h g = ap (λ (o : Outcome). record { count = 0; outcome = o; state = a }) (outcome-same (f a) h g)

  -- a next state that does not fit stops it for want of room
  stops : (room : A → Bool) (a b : A) → f a ≡ next b → room b ≡ false → (stop f room a).outcome ≡ no_room
  unfolding stop outcome_of
  stops room a b e n = ap (outcome_of f room) e ∙ ap (λ (x : Bool). cond x spent no_room) n

  on_same : (a : A) (more more' : A → Ran A) → ((b : A) → Roomy (more b).outcome → Roomy (more' b).outcome → more' b ≡ more b) → (r : Answer A) → f a ≡ r
      → Roomy (run_on f fits a more r).outcome → Roomy (run_on f other a more' r).outcome → run_on f other a more' r ≡ run_on f fits a more r
  unfolding run_on
  on_same a more more' ih (finished vs) e h g = stop-same a h g
  on_same a more more' ih over e h g = stop-same a h g
  on_same a more more' ih (next b) e h g = go (fits b) (other b) refl refl h g
    where
      go : (x y : Bool) → fits b ≡ x → other b ≡ y → Roomy (go_on f fits a x more b).outcome → Roomy (go_on f other a y more' b).outcome → go_on f other a y more' b ≡ go_on f fits a x more b
      go true true p q h g = unfold go_on one_more in (ap (one_more f fits) (ih b h g))
      go true false p q h g = unfold go_on in (absurd (g (stops other a b e q)))
      go false y p q h g = unfold go_on in (absurd (h (stops fits a b e p)))

  roomy-runs : (n : ℕ) (a : A) → Roomy (run f fits n a).outcome → Roomy (run f other n a).outcome → run f other n a ≡ run f fits n a
  unfolding run
  roomy-runs zero a h g = stop-same a h g
  roomy-runs (suc n) a h g = on_same a (λ b. run f fits n b) (λ b. run f other n b) (λ b. roomy-runs n b) (f a) refl h g

-- ALL 4 BYTES LONGER

longer-leb : (a b : ℕ) → leb (4 + a) (4 + b) ≡ leb a b
longer-leb a b = go (leb a b) refl
  where
    go : (x : Bool) → leb a b ≡ x → leb (4 + a) (4 + b) ≡ leb a b
    go true e = le-leb (4 + a) (4 + b) (omega (arith, leb-true a b e)) ∙ sym e
    go false e = lt-leb (4 + a) (4 + b) (omega (arith, leb-false a b e)) ∙ sym e

module _ {A : Type 0} (f : A → Answer A) (bytes other : A → List ℕ) (longer : (a : A) → length (other a) ≡ 4 + length (bytes a)) where
  longer-room : (room : ℕ) (a : A) → room_for other (4 + room) a ≡ room_for bytes room a
  unfolding room_for
  longer-room room a = ap (λ (n : ℕ). leb n (4 + room)) (longer a) ∙ longer-leb (length (bytes a)) room

  -- either way the run is the same
  pub same-ran : (room room' budget : ℕ) (a : A) → RoomFor room room' (run_in f bytes room budget a).outcome (run_in f other room' budget a).outcome
      → run_in f other room' budget a ≡ run_in f bytes room budget a
  same-ran room room' budget a (inl e) =
      ap (λ (n : ℕ). run_in f other n budget a) e ∙ ap (λ (fits : A → Bool). run f fits budget a) (fun_ext (λ b. longer-room room b))
  same-ran room room' budget a (inr h) = roomy-runs f (room_for bytes room) (room_for other room') budget a h.0 h.1
