-- What the record of an expression or a bound is read as, by its places and its class.
use Prim.Native.Nat.{ℕ, ◌≤◌}
use mathlib.Core.Path.{◌≡◌, ap, refl, sym, ◌∙◌}
use mathlib.Core.Bool.{Bool, false, true}
use mathlib.Core.List.{List, []}
use mathlib.Core.Option.{Option, none, some}
use borrow.Author.Tests.{eqb-false, eqb-true}
use lib.Dec.{eqb}
use lib.ListN.{length}
use native.Mathlib.Omega.{arith}
use Rattle.rules.specs.Literals.{bound_literals, expr_literals}
use Rattle.rules.specs.Scope.{bound_in_range, expr_in_range, in_range}
use Rattle.rules.specs.Syntax.{Bound, Expr, dec, inc, lit, upto, upto_var, var}
use Rattle.record.specs.declared.Class.TheVariants.{Expression}
use Rattle.record.specs.Class.{class_of}
use Rattle.record.specs.Front.{only, u16, u32}
use Rattle.record.specs.Program.{bound_from, bound_kind, bound_number, expr_from, expr_kind, expr_number, read_bound, read_expr}
use Rattle.record.specs.Reading.{pick}
use Rattle.record.proofs.ClassLaws.{class-expression, expression-range}
use Rattle.record.proofs.FrontLaws.{none-unless, only-inv, split-kind}
use Rattle.record.proofs.LeafLaws.{leaf-only, leaf-only-not}
use Rattle.record.proofs.ProgramLaws.{bound_from-inv, expr_from-inv}
use Rattle.record.proofs.ReadingLaws.{leaf-parts}

-- BY KIND AND NUMBER

expr-class : (e : Expr) → class_of (expr_kind e) ≡ Expression
unfolding expr_kind
expr-class (lit v) = class-expression 16 (omega arith) (omega arith)
expr-class (var v) = class-expression 17 (omega arith) (omega arith)
expr-class (inc v) = class-expression 18 (omega arith) (omega arith)
expr-class (dec v) = class-expression 19 (omega arith) (omega arith)

-- What a kind and a variable's number stand for.
pub record Variable (o : Option Expr) (v : ℕ) : Type 0 where
  pub expr : Expr
  pub is : o ≡ some expr
  pub range : (k : ℕ) → expr_in_range k expr ≡ in_range k v
  pub none : expr_literals expr ≡ []

variable-kind : (k v : ℕ) → 17 ≤ k → k ≤ 19 → Variable (expr_from k v) v
unfolding expr_from pick expr_in_range expr_literals
variable-kind k v a b = go (eqb k 17) (eqb k 18) refl refl
  where
    go : (s t : Bool) → eqb k 17 ≡ s → eqb k 18 ≡ t → Variable (expr_from k v) v
    go true t p q = record { expr = var v; is = rw (eqb-true k 17 p) refl; range = λ n. refl; none = refl }
    go false true p q = record { expr = inc v; is = rw (eqb-true k 18 q) refl; range = λ n. refl; none = refl }
    go false false p q =
        let x = eqb-false k 17 p in
        let y = eqb-false k 18 q in
        let e : k ≡ 19 = omega arith in
        record { expr = dec v; is = rw e refl; range = λ n. refl; none = refl }

-- A bound as an expression.
abbrev pub bound_expr : Bound → Expr
bound_expr (upto v) = lit v
bound_expr (upto_var x) = var x

abbrev pub as_expr : Option Bound → Option Expr
as_expr none = none
as_expr (some b) = some (bound_expr b)

pub bound_expr-range : (k : ℕ) (b : Bound) → expr_in_range k (bound_expr b) ≡ bound_in_range k b
unfolding expr_in_range bound_in_range
bound_expr-range k (upto v) = refl
bound_expr-range k (upto_var x) = refl

pub bound_expr-literals : (b : Bound) → expr_literals (bound_expr b) ≡ bound_literals b
unfolding expr_literals bound_literals
bound_expr-literals (upto v) = refl
bound_expr-literals (upto_var x) = refl

bound-kind : (k v : ℕ) → k ≤ 17 → expr_from k v ≡ as_expr (bound_from k v)
unfolding expr_from bound_from pick
bound-kind k v h = go (eqb k 16) (eqb k 17) (eqb k 18) (eqb k 19) refl refl
  where
    go : (a b c d : Bool) → eqb k 18 ≡ c → eqb k 19 ≡ d
        → pick a (some (lit v)) (pick b (some (var v)) (pick c (some (inc v)) (pick d (some (dec v)) none))) ≡ as_expr (pick a (some (upto v)) (pick b (some (upto_var v)) none))
    go true b c d p q = refl
    go false true c d p q = refl
    go false false true d p q = absurd (omega (arith, eqb-true k 18 p))
    go false false false true p q = absurd (omega (arith, eqb-true k 19 q))
    go false false false false p q = refl

-- BY PLACES

module _ (l : List ℕ) where
  pub expr-no-length : (u16 l 0 ≡ 8 → ⊥) → only (read_expr l) ≡ none
  expr-no-length h = leaf-only-not expr_kind expr_number expr_from l h

  pub expr-no-class : (class_of (u16 l 2) ≡ Expression → ⊥) → only (read_expr l) ≡ none
  expr-no-class h = none-unless (only (read_expr l)) λ e f.
      let p = leaf-parts expr_kind expr_number expr_from l e [] (only-inv (read_expr l) e f) in
      let k : u16 l 2 ≡ expr_kind e = sym (split-kind l p.0 p.1 [] p.3) ∙ (expr_from-inv p.0 p.2 e p.5).0 in
      h (ap class_of k ∙ expr-class e)

  pub bound-no-kind : (u16 l 2 ≡ 16 → ⊥) → (u16 l 2 ≡ 17 → ⊥) → only (read_bound l) ≡ none
  unfolding bound_kind
  bound-no-kind not-literal not-variable = none-unless (only (read_bound l)) λ b q.
      let p = leaf-parts bound_kind bound_number bound_from l b [] (only-inv (read_bound l) b q) in
      let k : u16 l 2 ≡ bound_kind b = sym (split-kind l p.0 p.1 [] p.3) ∙ (bound_from-inv p.0 p.2 b p.5).0 in
      go b k
    where
      go : (b : Bound) → u16 l 2 ≡ bound_kind b → ⊥
      go (upto v) e = not-literal e
      go (upto_var x) e = not-variable e

  module _ (eight : length l ≡ 8) where
    pub expr-literal : u16 l 0 ≡ 8 → u16 l 2 ≡ 16 → only (read_expr l) ≡ some (lit (u32 l 4))
    unfolding expr_from pick
    expr-literal n e = leaf-only expr_kind expr_number expr_from l eight n ∙ rw e refl

    pub expr-variable : u16 l 0 ≡ 8 → class_of (u16 l 2) ≡ Expression → (u16 l 2 ≡ 16 → ⊥) → Variable (only (read_expr l)) (u32 l 4)
    expr-variable n c h =
        let r = expression-range (u16 l 2) c in
        rw (leaf-only expr_kind expr_number expr_from l eight n) (variable-kind (u16 l 2) (u32 l 4) (omega (arith, r.0)) r.1)

    -- a bound is an expression of kind 16 or 17
    pub bound-expr : u16 l 2 ≤ 17 → only (read_expr l) ≡ as_expr (only (read_bound l))
    bound-expr h = go (eqb (u16 l 0) 8) refl
      where
        go : (t : Bool) → eqb (u16 l 0) 8 ≡ t → only (read_expr l) ≡ as_expr (only (read_bound l))
        go true t =
            let n : u16 l 0 ≡ 8 = eqb-true (u16 l 0) 8 t in
            rw (leaf-only expr_kind expr_number expr_from l eight n, leaf-only bound_kind bound_number bound_from l eight n) (bound-kind (u16 l 2) (u32 l 4) h)
        go false t =
            let n : u16 l 0 ≡ 8 → ⊥ = eqb-false (u16 l 0) 8 t in
            rw (leaf-only-not expr_kind expr_number expr_from l n, leaf-only-not bound_kind bound_number bound_from l n) refl
