-- Laws of the fixed point: it is its own level, with no fuel in sight, and keeps what one level keeps.
use Prim.Native.Nat.{◌<◌, suc, zero, ℕ}
use mathlib.Core.Path.{◌≡◌}
use mathlib.Core.Option.{Option, some}
use native.Mathlib.Omega.{arith}
use Rattle.record.specs.Fix.{fixed, fuelled}

module _ {X B : Type 0} (measure : X → ℕ) (level : (X → Option B) → X → Option B) where
  -- what one level keeps holds of the whole
  pub fuelled-keeps : (P : X → B → Type 0)
      → ((D : X → Option B) → ((y : X) (t : B) → D y ≡ some t → P y t) → (x : X) (t : B) → level D x ≡ some t → P x t)
      → (n : ℕ) (x : X) (t : B) → fuelled measure level n x ≡ some t → P x t
  unfolding fuelled
  fuelled-keeps P keep zero x t e = absurd (let z : ◌≡◌ {A = ℕ} 0 1 = cc in omega arith)
  fuelled-keeps P keep (suc n) x t e = keep (fuelled measure level n) (fuelled-keeps P keep n) x t e

  pub fixed-keeps : (P : X → B → Type 0)
      → ((D : X → Option B) → ((y : X) (t : B) → D y ≡ some t → P y t) → (x : X) (t : B) → level D x ≡ some t → P x t)
      → (x : X) (t : B) → fixed measure level x ≡ some t → P x t
  unfolding fixed
  fixed-keeps P keep x t e = fuelled-keeps P keep (suc (measure x)) x t e

  module _ (local : (D E : X → Option B) (x : X) → ((y : X) → measure y < measure x → D y ≡ E y) → level D x ≡ level E x) where
    -- any sufficient fuel gives the same answer
    pub fuelled-same : (n m : ℕ) (x : X) → measure x < n → measure x < m → fuelled measure level n x ≡ fuelled measure level m x
    unfolding fuelled
    fuelled-same zero m x h k = absurd (omega arith)
    fuelled-same (suc n) zero x h k = absurd (omega arith)
    fuelled-same (suc n) (suc m) x h k = local (fuelled measure level n) (fuelled measure level m) x (λ y q. fuelled-same n m y (omega arith) (omega arith))

    -- the recursion without its fuel
    pub fixed-level : (x : X) → fixed measure level x ≡ level (fixed measure level) x
    unfolding fixed fuelled
    fixed-level x = local (fuelled measure level (measure x)) (fixed measure level) x (λ y q. fuelled-same (measure x) (suc (measure y)) y q (omega arith))
