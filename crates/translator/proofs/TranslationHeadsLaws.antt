-- What the writers of heads leave, and how long the heads are.
use Prim.Native.Nat.{◌*◌, ◌+◌, ◌<◌, ◌≤◌, ℕ}
use mathlib.Core.Path.{ap, refl, sym, ◌∙◌, ◌≡◌}
use mathlib.Core.Logic.{inl, inr, ◌⊎◌}
use mathlib.Core.List.{◌++◌, List}
use borrow.Author.Tests.{eq-eqb, le-ltb, lt-ltb, ne_eqb}
use lib.Dec.{ltb}
use lib.ListN.{length}
use native.Mathlib.Omega.{arith}
use Rattle.buffer.specs.LittleEndian.{le}
use Rattle.buffer.specs.Slice.{put}
use Rattle.buffer.proofs.LittleEndianLaws.{length-le}
use Rattle.buffer.proofs.StoresLaws.{stores-3, stores-4}
use Rattle.record.specs.Front.{u16, u32}
use Rattle.record.specs.declared.kind.Kind.{Kind}
use Rattle.record.specs.declared.kind.Kind.TheVariants.{Literal, Variable}
use Rattle.record.specs.Kind.{kind_named}
use Rattle.record.proofs.KindLaws.{in_term-number, named-number, not-number, number-named}
use Rattle.place.specs.Edit.{lead, leaf_bytes}
use Rattle.place.specs.Heads.{record_head}
use Rattle.place.proofs.EditLaws.{length-lead}
use Rattle.place.proofs.HeadsLaws.{length-record_head}
use Rattle.translator.specs.RowTranslation.{all_bytes}
use Rattle.translator.specs.TranslationHeads.{lead_of, let_all_head, let_all_head_if, let_one_head, let_one_head_if, let_one_size}

-- THE KIND OF AN EXPRESSION

-- a literal's or a variable's
pub kind-low : {n : ℕ} {r : Kind} → r ≡ kind_named n → (r ≡ Literal) ⊎ (r ≡ Variable) → n < 18
kind-low {n} e (inl f) = let d : n ≡ 16 = named-number (sym f ∙ e) in omega arith
kind-low {n} e (inr f) = let d : n ≡ 17 = named-number (sym f ∙ e) in omega arith

-- that of one more or one less
pub kind-high : {n : ℕ} {r : Kind} → r ≡ kind_named n → (r ≡ Literal → ⊥) → (r ≡ Variable → ⊥) → 16 ≤ n → 18 ≤ n
kind-high e a b low = omega (arith, low, not-number Literal tt e a, not-number Variable tt e b)

-- A LEAD

length-lead_of : (kind n : ℕ) (l : List ℕ) (p : ℕ) → length (lead_of kind n l p) ≡ 16
unfolding lead_of
length-lead_of kind n l p = length-lead kind n (u32 l (p + 4)) (u16 l (p + 10) + 16) (u32 l (p + 12))

-- The number of an atom's kind, whether the kind is that of an expression in the term or is named by a number.
pub ruleset atom_kinds = (in_term-number, number-named)

pub lead-reads : (l : List ℕ) (p kind n x leaf v : ℕ) → x ≡ u32 l (p + 4) → leaf ≡ u16 l (p + 10) + 16 → v ≡ u32 l (p + 12)
    → lead kind n x leaf v ≡ lead_of kind n l p
unfolding lead_of
lead-reads l p kind n x leaf v ex el ev = rw (ex, el, ev) refl

-- A LET-ONE

module _ (l : List ℕ) (p n kind : ℕ) (read : kind ≡ u16 l (p + 10)) where
  pub let_one_head-low : kind < 18 → let_one_head l p n ≡ lead_of 37 n l p
  unfolding let_one_head let_one_head_if
  let_one_head-low h = rw (← read, lt-ltb kind 18 h) refl

  pub let_one_head-high : 18 ≤ kind → let_one_head l p n ≡ record_head 37 n ++ (le 4 (u32 l (p + 4)) ++ (record_head (kind + 16) 12 ++ leaf_bytes 33 (u32 l (p + 12))))
  unfolding let_one_head let_one_head_if
  let_one_head-high h = rw (← read, le-ltb kind 18 h, ← read) refl

  pub let_one_size-low : kind < 18 → let_one_size (ltb (u16 l (p + 10)) 18) ≡ 16
  unfolding let_one_size
  let_one_size-low h = rw (← read, lt-ltb kind 18 h) refl

  pub let_one_size-high : 18 ≤ kind → let_one_size (ltb (u16 l (p + 10)) 18) ≡ 20
  unfolding let_one_size
  let_one_size-high h = rw (← read, le-ltb kind 18 h) refl

  pub high-stores : (out out₁ out₂ out₃ out₄ : List ℕ) (o x leaf v : ℕ) → 18 ≤ kind → x ≡ u32 l (p + 4) → leaf ≡ kind + 16 → v ≡ u32 l (p + 12)
      → out₁ ≡ put out o (record_head 37 n) → out₂ ≡ put out₁ (o + 4) (le 4 x) → out₃ ≡ put out₂ (o + 8) (record_head leaf 12)
      → out₄ ≡ put out₃ (o + 12) (leaf_bytes 33 v) → o + 20 ≤ length out
      → out₄ ≡ put out o (let_one_head l p n)
  high-stores out out₁ out₂ out₃ out₄ o x leaf v k ex el ev e₁ e₂ e₃ e₄ h =
      stores-4 out out₁ out₂ out₃ out₄ (record_head 37 n) (le 4 x) (record_head leaf 12) (leaf_bytes 33 v) o (o + 4) (o + 8) (o + 12) e₁ e₂ e₃ e₄
      (omega (arith, length-record_head 37 n)) (omega (arith, length-le 4 x)) (omega (arith, length-record_head leaf 12)) (omega arith)
      ∙ ap (put out o) (rw (let_one_head-high k, ← ex, ← el, ← ev) refl)

-- A LET-ALL

module _ (l : List ℕ) (k p n m kind : ℕ) (read : kind ≡ u16 l (p + 2)) where
  pub let_all_head-loop : kind ≡ 3 → let_all_head k l p n m ≡ record_head 38 n ++ (lead_of 39 (20 + 8 * k + m) l p ++ all_bytes k)
  unfolding let_all_head let_all_head_if
  let_all_head-loop h = rw (← read, eq-eqb kind 3 h) refl

  pub let_all_head-nest : (kind ≡ 3 → ⊥) → let_all_head k l p n m ≡ record_head 38 n
  unfolding let_all_head let_all_head_if
  let_all_head-nest h = rw (← read, ne_eqb kind 3 h) refl

  pub nest-stores : (out out₁ : List ℕ) (o : ℕ) → (kind ≡ 3 → ⊥) → out₁ ≡ put out o (record_head 38 n) → out₁ ≡ put out o (let_all_head k l p n m)
  nest-stores out out₁ o h e = e ∙ ap (put out o) (sym (let_all_head-nest h))

  pub loop-stores : (out out₁ out₂ out₃ : List ℕ) (o : ℕ) → kind ≡ 3
      → out₁ ≡ put out o (record_head 38 n) → out₂ ≡ put out₁ (o + 4) (lead_of 39 (20 + 8 * k + m) l p) → out₃ ≡ put out₂ (o + 20) (all_bytes k)
      → o + 20 ≤ length out → out₃ ≡ put out o (let_all_head k l p n m)
  loop-stores out out₁ out₂ out₃ o h e₁ e₂ e₃ r =
      stores-3 out out₁ out₂ out₃ (record_head 38 n) (lead_of 39 (20 + 8 * k + m) l p) (all_bytes k) o (o + 4) (o + 20) e₁ e₂ e₃
      (omega (arith, length-record_head 38 n)) (omega (arith, length-lead_of 39 (20 + 8 * k + m) l p)) r
      ∙ ap (put out o) (sym (let_all_head-loop h))
