-- Laws of the plan: what it says of the redex that it is made for, and what that reduces to.
use Prim.Native.Nat.{ℕ, zero, suc, ◌*◌, ◌+◌}
use mathlib.Core.Path.{◌≡◌, ◌∙◌, ap, refl, subst, sym}
use mathlib.Core.Bool.{Bool, true, false, cond}
use mathlib.Core.List.{List, map}
use lib.ListN.{length}
use native.Mathlib.Omega.{arith}
use Rattle.rules.specs.Reduction.{on_next, reduce, reduce_let_one, unroll_rec, value_of}
use Rattle.rules.specs.Replaced.{replaced, replaced_let_all, replaced_let_one, replaced_next}
use Rattle.rules.specs.Substitution.{from_store, only, substitute}
use Rattle.rules.specs.Syntax.{Atom, Simple, Term, let_all, let_one, next, num, over, plain, pred_of, rec, succ_of, tuple}
use Rattle.record.specs.Term.{simple_size, term_size}
use Rattle.place.specs.Nesting.{plug}
use Rattle.place.specs.TermPath.{Redex, redex, term_path, terms}
use Rattle.place.proofs.TermBytesLaws.{size-pred, size-succ}
use Rattle.place.proofs.TermPathLaws.{plug-redex, redex-kind, reduce-let_all-tuple, reduce-plug}
use Rattle.plan.specs.Plan.{plan, plan_raise, plan_turn}
use Rattle.plan.specs.declared.Plan.{Plan}
use Rattle.plan.specs.declared.Rule.TheVariants.{Bind, Evaluate, Finished, Leave, Over, Stop, Unroll}
use Rattle.redex.specs.Plan.{plan_let_one, plan_redex}

-- THE PLAN

-- The plan of a redex at p: its parts, what it reduces to, and what that replaces.
pub data Planned (ok : ℕ → Bool) (levels p : ℕ) : Term → Plan → Type 0 where
  planned_finished : {t : Term} → Planned ok levels p t (plan levels p Finished 0 0 0 0)
  planned_over : {t : Term} {x : ℕ} → Planned ok levels p t (plan levels p Over x 0 0 0)
  planned_bind : {x v : ℕ} {a : Atom} {u : Term} → reduce ok (let_one x (plain a) u) ≡ next (substitute (only x v) u)
      → replaced_next (let_one x (plain a) u) ≡ replaced (only x v) u → Planned ok levels p (let_one x (plain a) u) (plan levels p Bind x v 0 16)
  planned_evaluate : {x v : ℕ} {s : Simple} {u : Term} → simple_size s ≡ 12 → reduce ok (let_one x s u) ≡ next (let_one x (plain (num v)) u)
      → replaced_next (let_one x s u) ≡ 0 → Planned ok levels p (let_one x s u) (plan levels p Evaluate x v 0 4)
  planned_leave : {ys : List Atom} {u : Term} → reduce ok (let_all (tuple ys) u) ≡ next (substitute (from_store (map value_of ys)) u)
      → replaced_next (let_all (tuple ys) u) ≡ replaced (from_store (map value_of ys)) u → Planned ok levels p (let_all (tuple ys) u) (plan levels p Leave 0 0 0 (8 + 8 * length ys))
  planned_stop : {x : ℕ} {a : Atom} {ys : List Atom} {u : Term} → reduce ok (rec x a ys u) ≡ next (tuple ys)
      → replaced_next (rec x a ys u) ≡ 0 → Planned ok levels p (rec x a ys u) (plan levels p Stop x 0 0 (20 + term_size u))
  planned_unroll : {x q : ℕ} {a : Atom} {ys : List Atom} {u : Term}
      → reduce ok (rec x a ys u) ≡ next (let_all (rec x (num q) ys u) (let_one x (plain (num (suc q))) u))
      → replaced_next (rec x a ys u) ≡ 0 → Planned ok levels p (rec x a ys u) (plan levels p Unroll x (suc q) (24 + term_size u) 0)

module _ (ok : ℕ → Bool) (levels p : ℕ) where
  planned-raise : (x : ℕ) (a : Atom) (t : Term) (b : Bool) → ok (suc (value_of a)) ≡ b → Planned ok levels p (let_one x (succ_of a) t) (plan_raise levels p x (suc (value_of a)) 4 b)
  unfolding plan_raise reduce reduce_let_one replaced_next replaced_let_one
  planned-raise x a t true e = planned_evaluate (size-succ a) (ap (λ (c : Bool). cond c (next (let_one x (plain (num (suc (value_of a)))) t)) over) e) refl
  planned-raise x a t false e = planned_over

  planned-let_one : (x : ℕ) (s : Simple) (t : Term) → Planned ok levels p (let_one x s t) (plan_let_one ok levels p x s)
  unfolding plan_let_one reduce reduce_let_one replaced_next replaced_let_one
  planned-let_one x (plain a) t = planned_bind refl refl
  planned-let_one x (succ_of a) t = planned-raise x a t (ok (suc (value_of a))) refl
  planned-let_one x (pred_of a) t = planned_evaluate (size-pred a) refl refl

  planned-rec : (x : ℕ) (a : Atom) (ys : List Atom) (t : Term) (v : ℕ) → value_of a ≡ v → Planned ok levels p (rec x a ys t) (plan_turn levels p x (4 + term_size t) v)
  unfolding plan_turn reduce unroll_rec replaced_next
  planned-rec x a ys t zero e =
      let s : 20 + term_size t ≡ 16 + (4 + term_size t) = omega arith in
      subst (λ (m : ℕ). Planned ok levels p (rec x a ys t) (plan levels p Stop x 0 0 m)) s (planned_stop (ap (λ (n : ℕ). next (unroll_rec x n ys t)) e) refl)
  planned-rec x a ys t (suc q) e =
      let s : 24 + term_size t ≡ 20 + (4 + term_size t) = omega arith in
      subst (λ (m : ℕ). Planned ok levels p (rec x a ys t) (plan levels p Unroll x (suc q) m 0)) s (planned_unroll (ap (λ (n : ℕ). next (unroll_rec x n ys t)) e) refl)

  pub planned-redex : (t : Term) → Planned ok levels p t (plan_redex ok levels p t)
  unfolding plan_redex replaced_next replaced_let_all
  planned-redex (tuple ys) = planned_finished
  planned-redex (let_one x s t) = planned-let_one x s t
  planned-redex (let_all (tuple ys) u) = planned_leave (reduce-let_all-tuple ok ys u) refl
  planned-redex (let_all (let_one x s t) u) = planned_finished
  planned-redex (let_all (let_all s t) u) = planned_finished
  planned-redex (let_all (rec x a ys t) u) = planned_finished
  planned-redex (rec x a ys t) = planned-rec x a ys t (value_of a) refl

-- THE REDUCTION of the redex is the term's

on_next-next : (p : List Term) (u : Term) → on_next (plug terms p) (next u) ≡ next (plug terms p u)
unfolding on_next
on_next-next p u = refl

pub redex-reduces : (ok : ℕ → Bool) (t t₀ u : Term) → redex t ≡ t₀ → Redex t₀ → reduce ok t₀ ≡ next u → reduce ok t ≡ next (plug terms (term_path t) u)
redex-reduces ok t t₀ u is r e =
    ap (reduce ok) (sym (plug-redex t) ∙ ap (plug terms (term_path t)) is) ∙ reduce-plug ok (term_path t) t₀ (redex-kind t₀ r)
    ∙ ap (on_next (plug terms (term_path t))) e ∙ on_next-next (term_path t) u
