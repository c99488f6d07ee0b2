-- Stores one behind the other are one store.
use Prim.Native.Nat.{ℕ, ◌+◌, ◌≤◌}
use mathlib.Core.Path.{◌≡◌, ap, ◌∙◌}
use mathlib.Core.List.{List, ◌++◌, append_assoc}
use native.Mathlib.Omega.{arith}
use lib.ListN.{length, length-append}
use Rattle.buffer.specs.Slice.{put}
use Rattle.buffer.proofs.SliceLaws.{put-put}

pub stores-2 : (l l₁ l₂ a b : List ℕ) (p q : ℕ) → l₁ ≡ put l p a → l₂ ≡ put l₁ q b → p + length a ≡ q → q ≤ length l → l₂ ≡ put l p (a ++ b)
stores-2 l l₁ l₂ a b p q e₁ e₂ h n = e₂ ∙ ap (λ (y : List ℕ). put y q b) e₁ ∙ put-put l a b p q h n

pub stores-3 : (l l₁ l₂ l₃ a b c : List ℕ) (p q r : ℕ) → l₁ ≡ put l p a → l₂ ≡ put l₁ q b → l₃ ≡ put l₂ r c
    → p + length a ≡ q → q + length b ≡ r → r ≤ length l → l₃ ≡ put l p (a ++ (b ++ c))
stores-3 l l₁ l₂ l₃ a b c p q r e₁ e₂ e₃ h k n =
    stores-2 l l₂ l₃ (a ++ b) c p r (stores-2 l l₁ l₂ a b p q e₁ e₂ h (omega arith)) e₃ (omega (arith, length-append a b)) n
    ∙ ap (put l p) (append_assoc a b c)

pub stores-4 : (l l₁ l₂ l₃ l₄ a b c d : List ℕ) (p q r s : ℕ) → l₁ ≡ put l p a → l₂ ≡ put l₁ q b → l₃ ≡ put l₂ r c → l₄ ≡ put l₃ s d
    → p + length a ≡ q → q + length b ≡ r → r + length c ≡ s → s ≤ length l → l₄ ≡ put l p (a ++ (b ++ (c ++ d)))
stores-4 l l₁ l₂ l₃ l₄ a b c d p q r s e₁ e₂ e₃ e₄ h k m n =
    stores-3 l l₂ l₃ l₄ (a ++ b) c d p r s (stores-2 l l₁ l₂ a b p q e₁ e₂ h (omega arith)) e₃ e₄ (omega (arith, length-append a b)) m n
    ∙ ap (put l p) (append_assoc a b (c ++ d))
