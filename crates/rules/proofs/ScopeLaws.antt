-- Laws of variable numbers: the test of refusal 5 is the fact, and a step keeps it.
use Prim.Native.Nat.{suc, zero, ℕ}
use mathlib.Core.Path.{refl, ◌∙◌, ◌≡◌}
use mathlib.Core.Bool.{◌&&◌, Bool, cond, false, true}
use mathlib.Core.List.{List, [], ◌∷◌}
use borrow.Author.Tests.{le-leb, leb-true}
use lib.Dec.{leb}
use lib.ListN.{length, length-set}
use Rattle.rules.specs.Scope.{AtomWithin, AtomsWithin, BlockWithin, BoundWithin, ConfigWithin, ExprWithin, SimpleWithin, TermWithin, Within, atom_in_range, atoms_in_range, block_in_range, bound_in_range, expr_in_range, in_range, simple_in_range, term_in_range}
use Rattle.rules.specs.Step.{bound_value, step, step_assign, step_block, step_inside, unroll_loop}
use Rattle.rules.specs.Store.{lookup, update}
use Rattle.rules.specs.Syntax.{Answer, Atom, Block, Bound, Config, Expr, Simple, Term, assign, dec, empty, finished, inc, let_all, let_one, lit, loop, nest, next, num, over, plain, pred_of, rec, ref, succ_of, tuple, upto, upto_var, var}
use Rattle.rules.proofs.Tests.{and_both, and_intro}

-- THE TEST IS THE FACT

pub within-in_range : (k x : ℕ) → Within k x → in_range k x ≡ true
unfolding in_range
within-in_range k x h = and_intro (le-leb 1 x h.0) (le-leb x k h.1)

pub in_range-within : (k x : ℕ) → in_range k x ≡ true → Within k x
unfolding in_range
in_range-within k x e = let h = and_both (leb 1 x) (leb x k) e in (leb-true 1 x h.0, leb-true x k h.1)

within-expr_in_range : (k : ℕ) (e : Expr) → ExprWithin k e → expr_in_range k e ≡ true
unfolding expr_in_range
within-expr_in_range k (lit n) h = refl
within-expr_in_range k (var x) h = within-in_range k x h
within-expr_in_range k (inc x) h = within-in_range k x h
within-expr_in_range k (dec x) h = within-in_range k x h

within-bound_in_range : (k : ℕ) (b : Bound) → BoundWithin k b → bound_in_range k b ≡ true
unfolding bound_in_range
within-bound_in_range k (upto n) h = refl
within-bound_in_range k (upto_var x) h = within-in_range k x h

pub within-block_in_range : (k : ℕ) (b : Block) → BlockWithin k b → block_in_range k b ≡ true
unfolding block_in_range
within-block_in_range k empty h = refl
within-block_in_range k (assign x e r) h = and_intro (within-in_range k x h.0) (and_intro (within-expr_in_range k e h.1) (within-block_in_range k r h.2))
within-block_in_range k (loop x b body r) h =
    and_intro (within-in_range k x h.0) (and_intro (within-bound_in_range k b h.1) (and_intro (within-block_in_range k body h.2) (within-block_in_range k r h.3)))
within-block_in_range k (nest b r) h = and_intro (within-block_in_range k b h.0) (within-block_in_range k r h.1)

expr_in_range-within : (k : ℕ) (e : Expr) → expr_in_range k e ≡ true → ExprWithin k e
unfolding expr_in_range
expr_in_range-within k (lit n) h = tt
expr_in_range-within k (var x) h = in_range-within k x h
expr_in_range-within k (inc x) h = in_range-within k x h
expr_in_range-within k (dec x) h = in_range-within k x h

bound_in_range-within : (k : ℕ) (b : Bound) → bound_in_range k b ≡ true → BoundWithin k b
unfolding bound_in_range
bound_in_range-within k (upto n) h = tt
bound_in_range-within k (upto_var x) h = in_range-within k x h

pub block_in_range-within : (k : ℕ) (b : Block) → block_in_range k b ≡ true → BlockWithin k b
unfolding block_in_range
block_in_range-within k empty h = tt
block_in_range-within k (assign x e r) h =
    let p = and_both (in_range k x) (expr_in_range k e && block_in_range k r) h in
    let q = and_both (expr_in_range k e) (block_in_range k r) p.1 in
    (in_range-within k x p.0, expr_in_range-within k e q.0, block_in_range-within k r q.1)
block_in_range-within k (loop x b body r) h =
    let p = and_both (in_range k x) (bound_in_range k b && (block_in_range k body && block_in_range k r)) h in
    let q = and_both (bound_in_range k b) (block_in_range k body && block_in_range k r) p.1 in
    let s = and_both (block_in_range k body) (block_in_range k r) q.1 in
    (in_range-within k x p.0, bound_in_range-within k b q.0, block_in_range-within k body s.0, block_in_range-within k r s.1)
block_in_range-within k (nest b r) h = let p = and_both (block_in_range k b) (block_in_range k r) h in (block_in_range-within k b p.0, block_in_range-within k r p.1)

-- THE SAME OF TERMS

atom-within : (k : ℕ) (a : Atom) → atom_in_range k a ≡ true → AtomWithin k a
unfolding atom_in_range
atom-within k (num n) h = tt
atom-within k (ref x) h = in_range-within k x h

atoms-within : (k : ℕ) (l : List Atom) → atoms_in_range k l ≡ true → AtomsWithin k l
unfolding atoms_in_range
atoms-within k [] h = tt
atoms-within k (a ∷ l) h = let p = and_both (atom_in_range k a) (atoms_in_range k l) h in (atom-within k a p.0, atoms-within k l p.1)

simple-within : (k : ℕ) (s : Simple) → simple_in_range k s ≡ true → SimpleWithin k s
unfolding simple_in_range
simple-within k (plain a) h = atom-within k a h
simple-within k (succ_of a) h = atom-within k a h
simple-within k (pred_of a) h = atom-within k a h

pub term_in_range-within : (k : ℕ) (t : Term) → term_in_range k t ≡ true → TermWithin k t
unfolding term_in_range
term_in_range-within k (tuple l) h = atoms-within k l h
term_in_range-within k (let_one x s t) h =
    let p = and_both (in_range k x) (simple_in_range k s && term_in_range k t) h in
    let q = and_both (simple_in_range k s) (term_in_range k t) p.1 in
    (in_range-within k x p.0, simple-within k s q.0, term_in_range-within k t q.1)
term_in_range-within k (let_all t u) h = let p = and_both (term_in_range k t) (term_in_range k u) h in (term_in_range-within k t p.0, term_in_range-within k u p.1)
term_in_range-within k (rec x a l t) h =
    let p = and_both (in_range k x) (atom_in_range k a && (atoms_in_range k l && term_in_range k t)) h in
    let q = and_both (atom_in_range k a) (atoms_in_range k l && term_in_range k t) p.1 in
    let s = and_both (atoms_in_range k l) (term_in_range k t) q.1 in
    (in_range-within k x p.0, atom-within k a q.0, atoms-within k l s.0, term_in_range-within k t s.1)

within-atom : (k : ℕ) (a : Atom) → AtomWithin k a → atom_in_range k a ≡ true
unfolding atom_in_range
within-atom k (num n) h = refl
within-atom k (ref x) h = within-in_range k x h

within-atoms : (k : ℕ) (l : List Atom) → AtomsWithin k l → atoms_in_range k l ≡ true
unfolding atoms_in_range
within-atoms k [] h = refl
within-atoms k (a ∷ l) h = and_intro (within-atom k a h.0) (within-atoms k l h.1)

within-simple : (k : ℕ) (s : Simple) → SimpleWithin k s → simple_in_range k s ≡ true
unfolding simple_in_range
within-simple k (plain a) h = within-atom k a h
within-simple k (succ_of a) h = within-atom k a h
within-simple k (pred_of a) h = within-atom k a h

pub within-term_in_range : (k : ℕ) (t : Term) → TermWithin k t → term_in_range k t ≡ true
unfolding term_in_range
within-term_in_range k (tuple l) h = within-atoms k l h
within-term_in_range k (let_one x s t) h = and_intro (within-in_range k x h.0) (and_intro (within-simple k s h.1) (within-term_in_range k t h.2))
within-term_in_range k (let_all t u) h = and_intro (within-term_in_range k t h.0) (within-term_in_range k u h.1)
within-term_in_range k (rec x a l t) h =
    and_intro (within-in_range k x h.0) (and_intro (within-atom k a h.1) (and_intro (within-atoms k l h.2) (within-term_in_range k t h.3)))

-- A STEP KEEPS k AND THE VARIABLES

abbrev pub WithinAnswer : ℕ → Answer Config → Type 0
WithinAnswer k (finished s) = length s ≡ k
WithinAnswer k over = Unit {0}
WithinAnswer k (next c) = ConfigWithin k c

pub length-update : (s : List ℕ) (x v : ℕ) → length (update s x v) ≡ length s
unfolding update
length-update s zero v = refl
length-update s (suc i) v = length-set s i v

within-assign : (ok : ℕ → Bool) (k x : ℕ) (e : Expr) (r : Block) (s : List ℕ) → Within k x → ExprWithin k e → BlockWithin k r → length s ≡ k → WithinAnswer k (step_assign ok x e r s)
unfolding step_assign
within-assign ok k x (lit n) r s hx he hr hs = record { block = hr; size = length-update s x n ∙ hs }
within-assign ok k x (var y) r s hx he hr hs = record { block = hr; size = length-update s x (lookup s y) ∙ hs }
within-assign ok k x (inc y) r s hx he hr hs = test (ok (suc (lookup s y)))
  where
    test : (b : Bool) → WithinAnswer k (cond b (next (record { block = assign x (lit (suc (lookup s y))) r; store = s })) over)
    test true = record { block = (hx, tt, hr); size = hs }
    test false = tt
within-assign ok k x (dec y) r s hx he hr hs = record { block = (hx, tt, hr); size = hs }

within-unroll_loop : (k x n : ℕ) (body r : Block) → Within k x → BlockWithin k body → BlockWithin k r → BlockWithin k (unroll_loop x n body r)
unfolding unroll_loop
within-unroll_loop k x zero body r hx hb hr = (tt, hr)
within-unroll_loop k x (suc q) body r hx hb hr = ((hx, tt, hb, (hx, tt, hb)), hr)

within-inside : (k : ℕ) (r : Block) → BlockWithin k r → (a : Answer Config) → WithinAnswer k a → WithinAnswer k (step_inside r a)
unfolding step_inside
within-inside k r hr (finished s) g = record { block = hr; size = g }
within-inside k r hr over g = tt
within-inside k r hr (next c) g = record { block = (g.block, hr); size = g.size }

within_block : (ok : ℕ → Bool) (k : ℕ) (b : Block) (s : List ℕ) → BlockWithin k b → length s ≡ k → WithinAnswer k (step_block ok b s)
unfolding step_block
within_block ok k empty s h hs = hs
within_block ok k (assign x e r) s h hs = within-assign ok k x e r s h.0 h.1 h.2 hs
within_block ok k (loop x b body r) s h hs = record { block = within-unroll_loop k x (bound_value s b) body r h.0 h.2 h.3; size = hs }
within_block ok k (nest b r) s h hs = within-inside k r h.1 (step_block ok b s) (within_block ok k b s h.0 hs)

pub within_step : (ok : ℕ → Bool) (k : ℕ) (c : Config) → ConfigWithin k c → WithinAnswer k (step ok c)
unfolding step
within_step ok k c g = within_block ok k c.block c.store g.block g.size
