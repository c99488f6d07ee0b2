-- A run in a buffer answers as demand 2 says, and stays in its buffer.
use Prim.Native.Nat.{◌<◌, suc, zero, ℕ, ◌≤◌}
use mathlib.Core.Path.{ap, refl, subst, sym, ◌∙◌, ◌≡◌}
use mathlib.Core.Logic.Iff
use mathlib.Core.Logic.{◌↔◌}
use mathlib.Core.Bool.{false, true}
use mathlib.Core.List.{List}
use mathlib.Core.Option.{some-injective, some}
use borrow.Author.Tests.{le-leb, leb-true}
use lib.Dec.{leb}
use lib.ListN.{length}
use native.Mathlib.Omega.{arith}
use Rattle.rules.specs.Run.{Further, Outcome, is_finished, is_over, iterate, no_room, refused, spent}
use Rattle.rules.specs.Syntax.{Answer, next}
use Rattle.rules.proofs.IterateLaws.{iterate-last}
use Rattle.rules.proofs.OutcomeLaws.{run-reads, run-spent}
use Rattle.rules.proofs.RunLaws.{Makes, run-le, run-makes, run-reached, run_room}
use Rattle.rules.proofs.Tests.{iff-beside, iff-under, leb-iff, leb-not}
use Rattle.run.specs.RanFrom.{FurtherIn, RanFrom}
use Rattle.run.specs.RunAnswer.{accepted, outcome_number, refusal, room_for, run_in}

-- A REFUSED RUN gives its number, the outcome refused, and 0 for everything else
pub refusal-gives : (n : ℕ) → ((refusal n).number ≡ n) × ((refusal n).outcome ≡ refused) × ((refusal n).steps ≡ 0) × ((refusal n).left ≡ 0) × ((refusal n).used ≡ 0)
refusal-gives n = (refl, refl, refl, refl, refl)

-- THE NUMBERS OF THE OUTCOMES tell them apart
outcome_from : ℕ → Outcome
outcome_from zero = refused
outcome_from (suc zero) = is_finished
outcome_from (suc (suc zero)) = is_over
outcome_from (suc (suc (suc zero))) = no_room
outcome_from (suc (suc (suc (suc n)))) = spent

from-number : (o : Outcome) → outcome_from (outcome_number o) ≡ o
unfolding outcome_from outcome_number
from-number is_finished = refl
from-number is_over = refl
from-number no_room = refl
from-number spent = refl
from-number refused = refl

pub outcome_number-injective : (a b : Outcome) → outcome_number a ≡ outcome_number b → a ≡ b
outcome_number-injective a b e = sym (from-number a) ∙ ap outcome_from e ∙ from-number b

-- A RUN IN A BUFFER

module _ {A : Type 0} (f : A → Answer A) (bytes : A → List ℕ) (room : ℕ) where
  pub room_fits : (a : A) → room_for bytes room a ≡ true → length (bytes a) ≤ room
  unfolding room_for
  room_fits a e = leb-true (length (bytes a)) room e

  pub fits-room : (a : A) → length (bytes a) ≤ room → room_for bytes room a ≡ true
  unfolding room_for
  fits-room a h = le-leb (length (bytes a)) room h

  -- a further step, said by the test and by the lengths
  further-iff : (a : A) → Further f (room_for bytes room) a ↔ FurtherIn f bytes room a
  unfolding room_for
  further-iff a = iff-under (λ b. leb (length (bytes b)) room ≡ true) _ (λ b. leb-iff (length (bytes b)) room)

  makes-iff : (n : ℕ) (a : A) (i : ℕ) → Makes f (room_for bytes room) n a i ↔ ((i < n) × ((b : A) × (iterate f i a ≡ some b) × FurtherIn f bytes room b))
  makes-iff n a i = iff-beside (iff-under (Further f (room_for bytes room)) (FurtherIn f bytes room) further-iff)

  no_room-iff : (x : Answer A) → ((b : A) × (x ≡ next b) × (room_for bytes room b ≡ false)) ↔ ((b : A) × (x ≡ next b) × (room < length (bytes b)))
  unfolding room_for
  no_room-iff x = iff-under (λ b. leb (length (bytes b)) room ≡ false) _ (λ b. leb-not (length (bytes b)) room)

  pub run-answers : (a : A) (budget : ℕ) → let r = run_in f bytes room budget a in
      RanFrom f bytes a room budget (accepted budget r (length (bytes r.state))) r.state
  run-answers a budget =
      let fits = room_for bytes room in
      let reads = run-reads f fits budget a in
      record {
        number = refl;
        stepped = run-reached f fits budget a;
        used = refl;
        left = omega (arith, run-le f fits budget a);
        makes = λ i h. Iff.trans (run-makes f fits budget a i h) (makes-iff budget a i);
        finishes = reads.finishes;
        overs = reads.overs;
        no_rooms = Iff.trans reads.no_rooms (no_room-iff (f (run_in f bytes room budget a).state));
        spends = Iff.trans (run-spent f fits budget a) (iff-beside (further-iff (run_in f bytes room budget a).state));
        not_refused = reads.accepted;
      }

  pub run-stays : (a : A) (budget : ℕ) → length (bytes a) ≤ room → length (bytes (run_in f bytes room budget a).state) ≤ room
  run-stays a budget h = room_fits (run_in f bytes room budget a).state (run_room f (room_for bytes room) budget a (fits-room a h))

  -- and so does every state on the way
  pub run-way : (a : A) (budget : ℕ) → length (bytes a) ≤ room → (i : ℕ) (b : A) → i ≤ (run_in f bytes room budget a).count → iterate f i a ≡ some b → length (bytes b) ≤ room
  unfolding iterate
  run-way a budget h zero b l e = subst (λ (c : A). length (bytes c) ≤ room) (some-injective a b e) h
  run-way a budget h (suc i) b l e =
      let made = (((run-answers a budget).makes i (omega arith)).0 (omega arith)).1 in
      let c : A = made.0 in
      let next-is = iterate-last f i a c made.2.0 made.1 made.2.1 in
      subst (λ (d : A). length (bytes d) ≤ room) (some-injective made.2.0 b (sym next-is ∙ e)) made.2.2
