-- THE PAPER'S RULES (003), one constructor a rule, in the paper's order. `ok` is the test for a value that is not too
-- large; with `no_limit` they are the paper's own. `step` and `reduce` are exactly these relations (`RulesLaws`).
use Rattle.std.specs.Prelude.{suc, ℕ, ◌≡◌, Bool, true, List, map}
use Rattle.rules.specs.Step.{bound_value}
use Rattle.rules.specs.Store.{lookup, minus_one, update}
use Rattle.rules.specs.Substitution.{from_store, only, substitute}
use Rattle.rules.specs.Syntax.{Atom, Block, Bound, Config, Expr, Term, assign, dec, empty, inc, let_all, let_one, lit, loop, nest, num, plain, pred_of, rec, succ_of, tuple, upto, var}

-- ⟨s, μ⟩
abbrev pub at : Block → List ℕ → Config
at s μ = record { block = s; store = μ }

-- ⟨e, μ⟩ → n, rules 1 and 2.
pub data Eval (ok : ℕ → Bool) (μ : List ℕ) : Expr → ℕ → Type 0 where
  rule1 : {x : ℕ} → ok (suc (lookup μ x)) ≡ true → Eval ok μ (inc x) (suc (lookup μ x))
  rule2 : {x : ℕ} → Eval ok μ (dec x) (minus_one (lookup μ x))

-- ⟨{c; s}, μ⟩ → ⟨{c₁; s}, μ₁⟩, rules 3 to 9. A loop steps where it stands first in a block: rule 7 around rules 8 and 9.
pub data Step (ok : ℕ → Bool) : Config → Config → Type 0 where
  rule3 : {x q : ℕ} {s : Block} {μ : List ℕ} → Step ok (at (assign x (lit q) s) μ) (at s (update μ x q))
  rule4 : {x y : ℕ} {s : Block} {μ : List ℕ} → Step ok (at (assign x (var y) s) μ) (at s (update μ x (lookup μ y)))
  rule5 : {x n : ℕ} {e : Expr} {s : Block} {μ : List ℕ} → Eval ok μ e n → Step ok (at (assign x e s) μ) (at (assign x (lit n) s) μ)
  rule6 : {s : Block} {μ : List ℕ} → Step ok (at (nest empty s) μ) (at s μ)
  rule7 : {c c₁ s : Block} {μ μ₁ : List ℕ} → Step ok (at c μ) (at c₁ μ₁) → Step ok (at (nest c s) μ) (at (nest c₁ s) μ₁)
  rule8 : {x : ℕ} {e : Bound} {c s : Block} {μ : List ℕ} → bound_value μ e ≡ 0 → Step ok (at (loop x e c s) μ) (at (nest empty s) μ)
  rule9 : {x q : ℕ} {e : Bound} {c s : Block} {μ : List ℕ} → bound_value μ e ≡ suc q
      → Step ok (at (loop x e c s) μ) (at (nest (loop x (upto q) c (assign x (lit (suc q)) c)) s) μ)

-- t ↝ u: figure 1 on the terms of 01, the body of a rec given q + 1.
pub data Reduce (ok : ℕ → Bool) : Term → Term → Type 0 where
  let_value : {x v : ℕ} {t : Term} → Reduce ok (let_one x (plain (num v)) t) (substitute (only x v) t)
  let_succ : {x v : ℕ} {t : Term} → ok (suc v) ≡ true → Reduce ok (let_one x (succ_of (num v)) t) (let_one x (plain (num (suc v))) t)
  let_pred : {x v : ℕ} {t : Term} → Reduce ok (let_one x (pred_of (num v)) t) (let_one x (plain (num (minus_one v))) t)
  let_tuple : (vs : List ℕ) {u : Term} → Reduce ok (let_all (tuple (map num vs)) u) (substitute (from_store vs) u)
  let_inside : {t t₁ u : Term} → Reduce ok t t₁ → Reduce ok (let_all t u) (let_all t₁ u)
  rec_zero : {x : ℕ} {l : List Atom} {t : Term} → Reduce ok (rec x (num 0) l t) (tuple l)
  rec_suc : {x q : ℕ} {l : List Atom} {t : Term} → Reduce ok (rec x (num (suc q)) l t) (let_all (rec x (num q) l t) (let_one x (plain (num (suc q))) t))

-- OVER: the value n that the next step works out as a plus one, by rule 1 under rules 5 and 7, and by succ in a let-one.

-- Of a configuration: the plus one of the assignment that stands first, in however many blocks, gives n.
pub data Raises : Config → ℕ → Type 0 where
  raises_here : {x y : ℕ} {s : Block} {μ : List ℕ} → Raises (at (assign x (inc y) s) μ) (suc (lookup μ y))
  raises_inside : {c s : Block} {μ : List ℕ} {n : ℕ} → Raises (at c μ) n → Raises (at (nest c s) μ) n

-- Of a term: the succ of the let-one that is reduced next, in the first terms of however many let-alls, gives n.
pub data RaisesTerm : Term → ℕ → Type 0 where
  raises_let : {x v : ℕ} {t : Term} → RaisesTerm (let_one x (succ_of (num v)) t) (suc v)
  raises_first : {t u : Term} {n : ℕ} → RaisesTerm t n → RaisesTerm (let_all t u) n
