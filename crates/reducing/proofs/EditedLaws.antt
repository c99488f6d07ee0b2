-- Laws of the edits: several stores are one edit.
use Prim.Native.Nat.{ℕ, ◌*◌, ◌+◌, ◌-◌}
use mathlib.Core.Path.{◌≡◌, ◌∙◌, ap}
use mathlib.Core.List.{List}
use Rattle.buffer.specs.LittleEndian.{le, val}
use Rattle.buffer.specs.Slice.{part, put}
use Rattle.record.specs.Term.{encode_term_record}
use Rattle.rules.specs.Replaced.{replaced}
use Rattle.rules.specs.Substitution.{Substitution, substitute}
use Rattle.rules.specs.Syntax.{Term}
use Rattle.place.specs.Edit.{leaf_bytes, removed}
use Rattle.reducing.specs.Perform.{filled_at, numeral_at, stopped_at}

pub filled_is : (l m₁ m₂ : List ℕ) (p n used c : ℕ) (f g : Substitution) (u : Term) → f ≡ g
    → (m₁ ≡ put l (p + n) (encode_term_record (substitute f u))) × (c ≡ replaced f u) → m₂ ≡ removed m₁ p n used
    → (m₂ ≡ filled_at l p n (substitute g u) used) × (c ≡ replaced g u)
unfolding filled_at
filled_is l m₁ m₂ p n used c f g u e e₁ e₂ = (
  e₂ ∙ ap (λ (y : List ℕ). removed y p n used) (e₁.0 ∙ ap (λ (j : Substitution). put l (p + n) (encode_term_record (substitute j u))) e),
  e₁.1 ∙ ap (λ (j : Substitution). replaced j u) e,
)

pub numeral-is : (l m₁ m₂ m₃ : List ℕ) (p used n v : ℕ) → n ≡ val (part l p 2) → m₁ ≡ removed l (p + 8) 4 used → m₂ ≡ put m₁ p (le 2 (n - 4))
    → m₃ ≡ put m₂ (p + 8) (leaf_bytes 32 v) → m₃ ≡ numeral_at l p used v
unfolding numeral_at
numeral-is l m₁ m₂ m₃ p used n v e e₁ e₂ e₃ = cc

pub stopped-is : (l m₁ m₂ : List ℕ) (p k n used q : ℕ) → q ≡ 4 + 8 * k → m₁ ≡ put l p (part l (p + 16) q) → m₂ ≡ removed m₁ (p + q) n used → m₂ ≡ stopped_at l p k n used
unfolding stopped_at
stopped-is l m₁ m₂ p k n used q e e₁ e₂ = cc
