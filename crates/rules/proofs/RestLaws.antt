-- A machine at rest: it makes no further step. From one start it comes to rest after one number of steps at most.
use Prim.Native.Nat.{◌+◌, suc, zero, ℕ}
use mathlib.Core.Path.{ap, refl, sym, ◌∙◌, ◌≡◌}
use mathlib.Core.List.{List}
use mathlib.Core.Option.{some}
use native.Mathlib.Omega.{arith}
use Rattle.rules.specs.Reduction.{on_next}
use Rattle.rules.specs.Run.{iterate, or_stop}
use Rattle.rules.specs.Syntax.{Answer, finished, next, over}
use Rattle.rules.proofs.IterateLaws.{iterate-split}

-- an answer that is no next state
abbrev pub Rests : {A : Type 0} → Answer A → Type 0
Rests (finished vs) = Unit {0}
Rests over = Unit {0}
Rests (next a) = ⊥

rests-stop : {A : Type 0} (f : A → Answer A) (d : ℕ) (b c : A) (o : Answer A) → f b ≡ o → Rests o → iterate f (suc d) b ≡ some c → ⊥
unfolding iterate or_stop
rests-stop f d b c (finished vs) e h q = let p = sym (ap (λ a. or_stop a (iterate f d)) e) ∙ q in let z : ◌≡◌ {A = ℕ} 0 1 = cc in omega arith
rests-stop f d b c over e h q = let p = sym (ap (λ a. or_stop a (iterate f d)) e) ∙ q in let z : ◌≡◌ {A = ℕ} 0 1 = cc in omega arith
rests-stop f d b c (next a) e h q = h

module _ {A : Type 0} (f : A → Answer A) (a b c : A) (m n : ℕ) (to-b : iterate f m a ≡ some b) (to-c : iterate f n a ≡ some c) where
  rests-before : Rests (f b) → (d : ℕ) → n ≡ m + suc d → ⊥
  rests-before h d e = rests-stop f d b c (f b) refl h (sym (iterate-split f m (suc d) a b to-b) ∙ ap (λ j. iterate f j a) (sym e) ∙ to-c)

pub rests-once : {A : Type 0} (f : A → Answer A) (a b c : A) (m n : ℕ) → iterate f m a ≡ some b → iterate f n a ≡ some c → Rests (f b) → Rests (f c) → m ≡ n
rests-once f a b c m n p q hb hc = by m n (λ d e. rests-before f a b c m n p q hb d e) (λ d e. rests-before f a c b n m q p hc d e)
  where
    up : (m n : ℕ) → ((d : ℕ) → suc n ≡ suc m + suc d → ⊥) → (d : ℕ) → n ≡ m + suc d → ⊥
    up m n h d e = h d (omega arith)

    by : (m n : ℕ) → ((d : ℕ) → n ≡ m + suc d → ⊥) → ((d : ℕ) → m ≡ n + suc d → ⊥) → m ≡ n
    by zero zero h g = omega arith
    by zero (suc n) h g = absurd (h n (omega arith))
    by (suc m) zero h g = absurd (g m (omega arith))
    by (suc m) (suc n) h g = ap suc (by m n (up m n h) (up n m g))

pub rests-on_next : {A B : Type 0} (g : A → B) (o : Answer A) → Rests o → Rests (on_next g o)
unfolding on_next
rests-on_next g (finished vs) h = tt
rests-on_next g over h = tt
rests-on_next g (next a) h = h

pub rests-finished : {A : Type 0} (o : Answer A) → ((vs : List ℕ) × (o ≡ finished vs)) → Rests o
rests-finished o h = rw h.1 tt

pub rests-over : {A : Type 0} (o : Answer A) → o ≡ over → Rests o
rests-over o e = rw e tt
