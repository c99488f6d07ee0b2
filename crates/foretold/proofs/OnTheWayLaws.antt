-- A machine g that makes no step which f does not, f's way being known to its end: wherever g is, it is on that way.
use Prim.Native.Nat.{suc, ℕ, ◌≤◌}
use mathlib.Core.Path.{◌≡◌, ap, refl, sym, ◌∙◌}
use mathlib.Core.Bool.{Bool, cond, true}
use mathlib.Core.Option.{some-injective, some}
use native.Mathlib.Omega.{arith}
use Rattle.forecast.specs.Longest.{Longest}
use Rattle.forecast.proofs.LongestLaws.{longest-most, steps-most}
use Rattle.rules.specs.Run.{iterate, no_room, outcome_of, spent}
use Rattle.rules.specs.Syntax.{Answer, finished, next, over}
use Rattle.rules.proofs.IterateLaws.{iterate-last}
use Rattle.rules.proofs.WalkLaws.{Halts}

-- a state whose next one fits does not read no room
pub has_room : {A : Type 0} (f : A → Answer A) (fits : A → Bool) (x : Answer A) → ((b : A) → x ≡ next b → fits b ≡ true) → outcome_of f fits x ≡ no_room → ⊥
unfolding outcome_of
has_room f fits (finished vs) h e = let z : ◌≡◌ {A = ℕ} 0 1 = cc in omega arith
has_room f fits over h e = let z : ◌≡◌ {A = ℕ} 0 1 = cc in omega arith
has_room f fits (next b) h e =
    let s : spent ≡ no_room = ap (λ (t : Bool). cond t spent no_room) (sym (h b refl)) ∙ e in
    let z : ◌≡◌ {A = ℕ} 0 1 = cc in
    omega arith

-- g is m steps on, in the state a, on a way of n steps to `end` whose longest state is p
pub record OnTheWay {A : Type 0} (g : A → Answer A) (size : A → ℕ) (end : A) (n p m : ℕ) (a : A) : Type 0 where
  pub not_further : m ≤ n
  pub not_longer : size a ≤ p
  pub at_end : m ≡ n → a ≡ end
  pub next_not_longer : (b : A) → g a ≡ next b → size b ≤ p

pub on-the-way : {A : Type 0} (f g : A → Answer A) (size : A → ℕ) (start end : A) (n p : ℕ) → iterate f n start ≡ some end → Halts f end → Longest f size start n p
    → ((m : ℕ) (a : A) → iterate g m start ≡ some a → iterate f m start ≡ some a) → (m : ℕ) (a : A) → iterate g m start ≡ some a → OnTheWay g size end n p m a
on-the-way f g size start end n p reaches halts longest follows m a reached = record {
  not_further = steps-most f n m start end a reaches halts (follows m a reached);
  not_longer = longest-most f size start end n p reaches halts longest m a (follows m a reached);
  at_end = λ e. some-injective a end (sym (follows m a reached) ∙ ap (λ (i : ℕ). iterate f i start) e ∙ reaches);
  next_not_longer = λ b e. longest-most f size start end n p reaches halts longest (suc m) b (follows (suc m) b (iterate-last g m start a b reached e));
}
