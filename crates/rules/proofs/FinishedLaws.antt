-- Finished, as 01 says it of each engine: the outermost block is empty; the term is a tuple.
use Prim.Native.Nat.{suc, ℕ}
use mathlib.Core.Path.{◌≡◌, ap, refl, subst}
use mathlib.Core.Logic.{◌↔◌}
use mathlib.Core.Bool.{Bool, cond, false, true}
use mathlib.Core.List.{List, map}
use lib.ListN.{length}
use native.Mathlib.Omega.{arith}
use Rattle.rules.specs.Reduction.{reduce, reduce_inside, reduce_let_one, value_of}
use Rattle.rules.specs.Step.{step, step_assign, step_block, step_inside}
use Rattle.rules.specs.Store.{lookup}
use Rattle.rules.specs.Substitution.{from_store, state_of, substitute, substitute_atom}
use Rattle.rules.specs.Syntax.{Answer, Atom, Block, Config, Expr, Simple, Term, assign, dec, empty, finished, inc, let_all, let_one, lit, loop, nest, next, num, over, plain, pred_of, rec, succ_of, tuple, var}
use Rattle.rules.specs.Translation.{all, translate}
use Rattle.rules.proofs.SubstitutionLaws.{substitute-all}

abbrev NotFinished : {A : Type 0} → Answer A → Type 0
NotFinished (finished vs) = ⊥
NotFinished over = Unit {0}
NotFinished (next a) = Unit {0}

not-finished : {A P : Type 0} (a : Answer A) (vs : List ℕ) → NotFinished a → a ≡ finished vs → P
not-finished (finished ws) vs h e = absurd h
not-finished over vs h e = absurd (let z : ◌≡◌ {A = ℕ} 0 1 = cc in omega arith)
not-finished (next a) vs h e = absurd (let z : ◌≡◌ {A = ℕ} 0 1 = cc in omega arith)

cond-not : {A : Type 0} (b : Bool) (a : A) → NotFinished (cond b (next a) over)
cond-not true a = tt
cond-not false a = tt

assign-not : (ok : ℕ → Bool) (x : ℕ) (e : Expr) (r : Block) (s : List ℕ) → NotFinished (step_assign ok x e r s)
unfolding step_assign
assign-not ok x (lit n) r s = tt
assign-not ok x (var y) r s = tt
assign-not ok x (inc y) r s = cond-not (ok (suc (lookup s y))) _
assign-not ok x (dec y) r s = tt

inside-not : (r : Block) (a : Answer Config) → NotFinished (step_inside r a)
unfolding step_inside
inside-not r (finished s) = tt
inside-not r over = tt
inside-not r (next c) = tt

step_in-finished : (ok : ℕ → Bool) (b : Block) (s vs : List ℕ) → step_block ok b s ≡ finished vs → b ≡ empty
unfolding step_block
step_in-finished ok empty s vs e = refl
step_in-finished ok (assign x a r) s vs e = not-finished (step_assign ok x a r s) vs (assign-not ok x a r s) e
step_in-finished ok (loop x b p r) s vs e = absurd (let z : ◌≡◌ {A = ℕ} 0 1 = cc in omega arith)
step_in-finished ok (nest b r) s vs e = not-finished (step_inside r (step_block ok b s)) vs (inside-not r (step_block ok b s)) e

pub step-finished : (ok : ℕ → Bool) (c : Config) → ((vs : List ℕ) × (step ok c ≡ finished vs)) ↔ (c.block ≡ empty)
unfolding step step_block
step-finished ok c = ((λ v. step_in-finished ok c.block c.store v.0 v.1), (λ e. (c.store, ap (λ b. step_block ok b c.store) e)))

one-not : (ok : ℕ → Bool) (x : ℕ) (s : Simple) (t : Term) → NotFinished (reduce_let_one ok x s t)
unfolding reduce_let_one
one-not ok x (plain a) t = tt
one-not ok x (succ_of a) t = cond-not (ok (suc (value_of a))) _
one-not ok x (pred_of a) t = tt

within-not : (u : Term) (a : Answer Term) → NotFinished (reduce_inside u a)
unfolding reduce_inside
within-not u (finished vs) = tt
within-not u over = tt
within-not u (next t) = tt

finished-tuple : (ok : ℕ → Bool) (t : Term) (vs : List ℕ) → reduce ok t ≡ finished vs → (l : List Atom) × (t ≡ tuple l)
unfolding reduce
finished-tuple ok (tuple l) vs e = (l, refl)
finished-tuple ok (let_one x s t) vs e = not-finished (reduce_let_one ok x s t) vs (one-not ok x s t) e
finished-tuple ok (let_all t u) vs e = not-finished (reduce_inside u (reduce ok t)) vs (within-not u (reduce ok t)) e
finished-tuple ok (rec x a l t) vs e = absurd (let z : ◌≡◌ {A = ℕ} 0 1 = cc in omega arith)

pub reduce-finished : (ok : ℕ → Bool) (t : Term) → ((vs : List ℕ) × (reduce ok t ≡ finished vs)) ↔ ((l : List Atom) × (t ≡ tuple l))
unfolding reduce
reduce-finished ok t = ((λ v. finished-tuple ok t v.0 v.1), (λ l. (map value_of l.0, ap (reduce ok) l.1)))

-- THE TERM OF A CONFIGURATION is a tuple where its block is empty and nowhere else, and then its atoms are the values

pub finished-block : (k : ℕ) (Q : Block) (s : List ℕ) (l : List Atom) → state_of k (record { block = Q; store = s }) ≡ tuple l → Q ≡ empty
unfolding state_of translate substitute
finished-block k empty s l e = refl
finished-block k (assign x a r) s l e = cc
finished-block k (loop x b p r) s l e = cc
finished-block k (nest b r) s l e = cc

pub finished-state : (k : ℕ) (s : List ℕ) → length s ≡ k → state_of k (record { block = empty; store = s }) ≡ tuple (map num s)
unfolding state_of translate substitute
finished-state k s e = ap tuple (subst (λ n. map (substitute_atom (from_store s)) (all n) ≡ map num s) e (substitute-all s))
