-- LOCK STEP (003, theorem 1): the reducer at the state of a configuration does what the stepper does. For every test for a
-- value that is too large.
use Prim.Native.Nat.{suc, zero, ℕ}
use mathlib.Core.Path.{ap, refl, subst, sym, ◌∙◌, ◌≡◌}
use mathlib.Core.Bool.{Bool, cond, false, true}
use mathlib.Core.List.{List, map}
use mathlib.Core.Option
use lib.ListN.{length}
use Rattle.rules.specs.Reduction.{on_next, reduce, reduce_inside, reduce_let_one, unroll_rec, value_of}
use Rattle.rules.specs.Run.{iterate, or_stop}
use Rattle.rules.specs.Scope.{BlockWithin, BoundWithin, ConfigWithin, ExprWithin, Within}
use Rattle.rules.specs.Step.{bound_value, step, step_assign, step_block, step_inside, unroll_loop}
use Rattle.rules.specs.Store.{lookup}
use Rattle.rules.specs.Substitution.{except, from_store, state_of, substitute, substitute_atom, substitute_simple}
use Rattle.rules.specs.Syntax.{Answer, Block, Bound, Config, Expr, assign, dec, empty, finished, inc, let_all, let_one, lit, loop, nest, next, num, over, plain, upto, upto_var, var}
use Rattle.rules.specs.Translation.{all, atom_of, simple_of, translate}
use Rattle.rules.proofs.ScopeLaws.{WithinAnswer, within_step}
use Rattle.rules.proofs.SubstitutionLaws.{substitute-all, substitute-lookup, substitute-update, values-num}

-- ONE STEP. The store's own length stands for k

abbrev Same : (ℕ → Bool) → Block → List ℕ → Type 0
Same ok b s = reduce ok (substitute (from_store s) (translate (length s) b)) ≡ on_next (state_of (length s)) (step_block ok b s)

-- an assignment: of a value that the store or the literal gives, and of one to be computed
lock-assign : (ok : ℕ → Bool) (x : ℕ) (e : Expr) (r : Block) (s : List ℕ) → Within (length s) x → ExprWithin (length s) e
    → reduce_let_one ok x (substitute_simple (from_store s) (simple_of e)) (substitute (except x (from_store s)) (translate (length s) r)) ≡ on_next (state_of (length s)) (step_assign ok x e r s)
unfolding reduce_let_one substitute_simple simple_of on_next step_assign state_of translate substitute value_of
lock-assign ok x (lit n) r s hx he = unfold substitute_atom in ap next (substitute-update s x n hx (translate (length s) r))
lock-assign ok x (var y) r s hx he = rw (substitute-lookup s y he) (ap next (substitute-update s x (lookup s y) hx (translate (length s) r)))
lock-assign ok x (inc y) r s hx he = rw (substitute-lookup s y he) (test (ok (suc (lookup s y))))
  where
    test : (b : Bool)
        → cond b (next (let_one x (plain (num (suc (lookup s y)))) (substitute (except x (from_store s)) (translate (length s) r)))) over
        ≡ on_next (state_of (length s)) (cond b (next (record { block = assign x (lit (suc (lookup s y))) r; store = s })) over)
    test true = unfold substitute_atom in refl
    test false = refl
lock-assign ok x (dec y) r s hx he = unfold substitute_atom in rw (substitute-lookup s y he)

bound-value : (s : List ℕ) (b : Bound) → BoundWithin (length s) b → substitute_atom (from_store s) (atom_of b) ≡ num (bound_value s b)
unfolding atom_of bound_value
bound-value s (upto n) h = unfold substitute_atom in refl
bound-value s (upto_var x) h = substitute-lookup s x h

lock-turn : (x n : ℕ) (body r : Block) (s : List ℕ)
    → let_all (unroll_rec x n (map (substitute_atom (from_store s)) (all (length s))) (translate (length s) body)) (translate (length s) r)
    ≡ substitute (from_store s) (translate (length s) (unroll_loop x n body r))
unfolding unroll_rec unroll_loop translate substitute atom_of substitute_atom simple_of substitute_simple
lock-turn x zero body r s = refl
lock-turn x (suc q) body r s = refl

-- a step inside a block that stands first
lock-inside : (k : ℕ) (r : Block) (a : Answer Config) → reduce_inside (translate k r) (on_next (state_of k) a) ≡ on_next (state_of k) (step_inside r a)
unfolding reduce_inside on_next state_of step_inside translate substitute
lock-inside k r (finished s) = refl
lock-inside k r over = refl
lock-inside k r (next c) = refl

lock : (ok : ℕ → Bool) (b : Block) (s : List ℕ) → BlockWithin (length s) b → Same ok b s
unfolding reduce substitute translate step_block on_next state_of reduce_inside value_of
lock ok empty s h = ap finished (ap (map value_of) (substitute-all s) ∙ values-num s)
lock ok (assign x e r) s h = lock-assign ok x e r s h.0 h.1
lock ok (loop x b body r) s h = rw (bound-value s b h.1) (ap next (lock-turn x (bound_value s b) body r s))
lock ok (nest b r) s h = ap (reduce_inside (translate (length s) r)) (lock ok b s h.0) ∙ lock-inside (length s) r (step_block ok b s)

-- THE THEOREM: the reducer at the state of a configuration does what the stepper does
pub lock-step : (ok : ℕ → Bool) (k : ℕ) (c : Config) → ConfigWithin k c → reduce ok (state_of k c) ≡ on_next (state_of k) (step ok c)
unfolding state_of step
lock-step ok k c g = subst (λ n. reduce ok (state_of n c) ≡ on_next (state_of n) (step ok c)) g.size (lock ok c.block c.store (subst (λ n. BlockWithin n c.block) (sym g.size) g.block))

-- ANY NUMBER OF STEPS

lock-more : (ok : ℕ → Bool) (k n : ℕ) → ((c : Config) → ConfigWithin k c → iterate (reduce ok) n (state_of k c) ≡ Option.map (state_of k) (iterate (step ok) n c))
    → (a : Answer Config) → WithinAnswer k a → or_stop (on_next (state_of k) a) (iterate (reduce ok) n) ≡ Option.map (state_of k) (or_stop a (iterate (step ok) n))
unfolding or_stop on_next
lock-more ok k n ih (finished s) g = refl
lock-more ok k n ih over g = refl
lock-more ok k n ih (next c) g = ih c g

-- After any number of steps: the reducer can make n exactly where the stepper can, and its state is the stepper's.
pub lock-steps : (ok : ℕ → Bool) (k n : ℕ) (c : Config) → ConfigWithin k c → iterate (reduce ok) n (state_of k c) ≡ Option.map (state_of k) (iterate (step ok) n c)
unfolding iterate
lock-steps ok k zero c g = refl
lock-steps ok k (suc n) c g = ap (λ a. or_stop a (iterate (reduce ok) n)) (lock-step ok k c g) ∙ lock-more ok k n (lock-steps ok k n) (step ok c) (within_step ok k c g)
