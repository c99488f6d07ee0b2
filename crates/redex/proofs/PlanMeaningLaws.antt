-- What the plan tells of the next reduction, before it is made: finished, over, or the next term and its length.
use Prim.Native.Nat.{◌*◌, ◌+◌, suc, zero, ℕ}
use mathlib.Core.Path.{ap, refl, subst, sym, ◌∙◌, ◌≡◌}
use mathlib.Core.Bool.{Bool}
use mathlib.Core.List.{List, [], map, ◌∷◌}
use lib.ListN.{length}
use native.Mathlib.Omega.{arith}
use Rattle.place.specs.Nesting.{around, plug}
use Rattle.place.specs.TermPath.{Redex, redex, redex_let_all, redex_let_one, redex_rec, term_path, terms}
use Rattle.record.specs.declared.Header.{Header}
use Rattle.record.specs.Header.{encode_term}
use Rattle.record.specs.Term.{kind_of_term, term_size}
use Rattle.rules.specs.Reduction.{reduce, reduce_let_one, unroll_rec, value_of}
use Rattle.rules.specs.Store.{minus_one}
use Rattle.rules.specs.Substitution.{from_store, only, substitute}
use Rattle.rules.specs.Syntax.{Atom, Simple, Term, let_all, let_one, next, num, plain, pred_of, rec, succ_of, tuple}
use Rattle.place.proofs.TermBytesLaws.{size-pred, size-succ, term_size-let_all, term_size-let_one, term_size-plain, term_size-rec, term_size-tuple}
use Rattle.place.proofs.TermPathLaws.{plug-kind, plug-redex, redex-is, redex-kind, reduce-let_all-tuple, reduce-redex, term_size-plug}
use Rattle.record.proofs.HeaderLaws.{length-encode_term}
use Rattle.record.proofs.SizeLaws.{term_size-substitute}
use Rattle.plan.specs.Plan.{plan_turn}
use Rattle.plan.specs.declared.Plan.{Plan}
use Rattle.plan.specs.declared.Rule.{Rule}
use Rattle.plan.proofs.TellsLaws.{Tells, tells-around, tells-raise}
use Rattle.redex.specs.Plan.{plan_let_one, plan_of, plan_redex}

-- of a term that the rules act on
abbrev TellsRedex : (ℕ → Bool) → Term → Plan → Rule → Type 0
TellsRedex ok t q r = Tells (reduce ok) term_size t q r

module _ (ok : ℕ → Bool) (levels p : ℕ) where
  tells-let_one : (x : ℕ) (s : Simple) (t : Term) → TellsRedex ok (let_one x s t) (plan_let_one ok levels p x s) (plan_let_one ok levels p x s).rule
  unfolding plan_let_one reduce reduce_let_one
  tells-let_one x (plain a) t =
      (substitute (only x (value_of a)) t, refl, omega (arith, term_size-plain x a t, term_size-substitute (only x (value_of a)) t))
  tells-let_one x (succ_of a) t =
      tells-raise (reduce ok) term_size (let_one x (succ_of a) t) (let_one x (plain (num (suc (value_of a)))) t) levels p x (suc (value_of a)) 4 (ok (suc (value_of a))) refl
      (omega (arith, term_size-let_one x (succ_of a) t, size-succ a, term_size-plain x (num (suc (value_of a))) t))
  tells-let_one x (pred_of a) t =
      (let_one x (plain (num (minus_one (value_of a)))) t, refl, omega (arith, term_size-let_one x (pred_of a) t, size-pred a, term_size-plain x (num (minus_one (value_of a))) t))

  tells-rec : (x : ℕ) (a : Atom) (l : List Atom) (t : Term) (v : ℕ) → value_of a ≡ v
      → TellsRedex ok (rec x a l t) (plan_turn levels p x (4 + term_size t) v) (plan_turn levels p x (4 + term_size t) v).rule
  unfolding plan_turn reduce unroll_rec
  tells-rec x a l t zero e =
      (tuple l, ap (λ m. next (unroll_rec x m l t)) e, omega (arith, term_size-rec x a l t, term_size-tuple l))
  tells-rec x a l t (suc q) e = (
    let_all (rec x (num q) l t) (let_one x (plain (num (suc q))) t),
    ap (λ m. next (unroll_rec x m l t)) e,
    omega (arith, term_size-rec x a l t, term_size-let_all (rec x (num q) l t) (let_one x (plain (num (suc q))) t), term_size-rec x (num q) l t, term_size-plain x (num (suc q)) t),
  )

  tells-redex : (t : Term) → Redex t → TellsRedex ok t (plan_redex ok levels p t) (plan_redex ok levels p t).rule
  unfolding plan_redex
  tells-redex (let_one x s t) redex_let_one = tells-let_one x s t
  tells-redex (let_all (tuple l) u) redex_let_all =
      (substitute (from_store (map value_of l)) u, reduce-let_all-tuple ok l u, omega (arith, term_size-let_all (tuple l) u, term_size-tuple l, term_size-substitute (from_store (map value_of l)) u))
  tells-redex (rec x a l t) redex_rec = tells-rec x a l t (value_of a) refl
  tells-redex (tuple _) x'' = elim x'' [ ]
  tells-redex (let_all (let_one _ _ _) u) x7 = elim x7 [ ]
  tells-redex (let_all (let_all _ _) u) x7 = elim x7 [ ]
  tells-redex (let_all (rec _ _ _ _) u) x10 = elim x10 [ ]

-- OF THE WHOLE TERM

abbrev pub TellsOf : (ℕ → Bool) → Header → Term → Plan → Type 0
TellsOf ok h t q = Tells (reduce ok) (λ (u : Term). length (encode_term h u)) t q q.rule

tells-tuple : (ok : ℕ → Bool) (h : Header) (contents : ℕ) (l : List Atom) → TellsOf ok h (tuple l) (plan_of contents ok (tuple l))
unfolding plan_of plan_redex redex reduce
tells-tuple ok h contents l = (map value_of l, refl)

tells-some : (ok : ℕ → Bool) (h : Header) (contents : ℕ) (t : Term) → (kind_of_term t ≡ 36 → ⊥) → TellsOf ok h t (plan_of contents ok t)
unfolding plan_of
tells-some ok h contents t n =
    tells-around (reduce ok) term_size (λ (u : Term). length (encode_term h u)) (plug terms (term_path t)) t (redex t) (reduce-redex ok t n) sizes (plan_of contents ok t) (plan_of contents ok t).rule
    (tells-redex ok (length (term_path t)) (contents + 4 * length (term_path t)) (redex t) (redex-is t n))
  where
    sizes : (u : Term) → length (encode_term h (plug terms (term_path t) u)) + term_size (redex t) ≡ length (encode_term h t) + term_size u
    sizes u =
        let was : term_size t ≡ term_size (redex t) + around terms (term_path t) = ap term_size (sym (plug-redex t)) ∙ term_size-plug (term_path t) (redex t) in
        omega (arith, length-encode_term h (plug terms (term_path t) u), length-encode_term h t, term_size-plug (term_path t) u)

-- a let-all is no tuple
let_all-kind : (t u : Term) → kind_of_term (let_all t u) ≡ 36 → ⊥
unfolding plug
let_all-kind (tuple l) u = redex-kind (let_all (tuple l) u) redex_let_all
let_all-kind (let_one x s t) u = plug-kind (u ∷ []) (let_one x s t) (redex-kind (let_one x s t) redex_let_one)
let_all-kind (let_all s t) u = plug-kind (u ∷ []) (let_all s t) (let_all-kind s t)
let_all-kind (rec x a l t) u = plug-kind (u ∷ []) (rec x a l t) (redex-kind (rec x a l t) redex_rec)

pub plan-tells : (ok : ℕ → Bool) (h : Header) (contents : ℕ) (t : Term) (q : Plan) → q ≡ plan_of contents ok t → TellsOf ok h t q
plan-tells ok h contents t q e = subst (TellsOf ok h t) (sym e) (whole t)
  where
    whole : (u : Term) → TellsOf ok h u (plan_of contents ok u)
    whole (tuple l) = tells-tuple ok h contents l
    whole (let_one x s t) = tells-some ok h contents (let_one x s t) (redex-kind (let_one x s t) redex_let_one)
    whole (let_all t u) = tells-some ok h contents (let_all t u) (let_all-kind t u)
    whole (rec x a l t) = tells-some ok h contents (rec x a l t) (redex-kind (rec x a l t) redex_rec)
