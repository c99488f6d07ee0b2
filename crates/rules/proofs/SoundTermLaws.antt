-- A sound term: substitution and reduction keep it sound, and a sound program's state is one.
use Prim.Native.Nat.{◌+◌, ◌<◌, suc, zero, ℕ, ◌≤◌}
use mathlib.Core.Path.{ap, refl, subst, sym, ◌∙◌, ◌≡◌}
use mathlib.Core.Bool.{Bool, cond, false, true}
use mathlib.Core.List.{List, [], map, ◌∷◌}
use mathlib.Core.Option.{Option, none, some}
use lib.Dec.{T, eqb}
use lib.ListN.{get_elem?, length, length-map}
use native.Mathlib.Nat.{le_of_suc-le-suc, not-suc-le-zero}
use native.Mathlib.Omega.{arith}
use Rattle.rules.specs.FreeVariables.{Vars, adding, all_vars, closed, closed_atom, closed_atoms, closed_in, closed_simple, no_vars}
use Rattle.rules.specs.Reduction.{reduce, reduce_inside, reduce_let_one, unroll_rec, value_of}
use Rattle.rules.specs.Run.{iterate}
use Rattle.rules.specs.Scope.{BlockWithin, BoundWithin, ExprWithin, Within, atom_in_range, atoms_in_range, simple_in_range, term_in_range}
use Rattle.rules.specs.Sound.{SmallBlock, SmallBound, SmallExpr, SmallValues, SoundAtom, SoundAtoms, SoundConfig, SoundSimple, SoundTerm}
use Rattle.rules.specs.Store.{Limit}
use Rattle.rules.specs.Substitution.{Substitution, except, from_store, only, or_ref, state_of, substitute, substitute_atom, substitute_simple}
use Rattle.rules.specs.Syntax.{Answer, Atom, Block, Bound, Config, Expr, Simple, Term, assign, dec, empty, finished, inc, let_all, let_one, lit, loop, nest, next, num, over, plain, pred_of, rec, ref, succ_of, tuple, upto, upto_var, var}
use Rattle.rules.specs.Translation.{all, atom_of, refs, simple_of, translate}
use Rattle.rules.proofs.FreeVariablesLaws.{adding-all}
use Rattle.rules.proofs.IterateLaws.{OnNext, iterate-keeps}
use Rattle.rules.proofs.ScopeLaws.{within-in_range}
use Rattle.rules.proofs.StoreLaws.{minus_one-passes}
use Rattle.rules.proofs.Tests.{T_true, and_intro}

pub length-refs : (i n : ℕ) → length (refs i n) ≡ n
unfolding refs
length-refs i zero = refl
length-refs i (suc n) = ap suc (length-refs (suc i) n)

module _ (ok : ℕ → Bool) (limit : Limit ok) where
  -- SUBSTITUTION: what is free afterwards was free and not substituted

  abbrev SmallOption : Option ℕ → Bool → Type 0
  SmallOption none b = T b
  SmallOption (some v) b = ok v ≡ true

  -- f has a value that passes for each variable 1 to k of S that is not in R
  abbrev pub Covers : ℕ → Substitution → Vars → Vars → Type 0
  Covers k f S R = (y : ℕ) → Within k y → T (S y) → SmallOption (f y) (R y)

  sound-or_ref : (k : ℕ) (R : Vars) (x : ℕ) (o : Option ℕ) → Within k x → SmallOption o (R x) → SoundAtom ok k R (or_ref x o)
  unfolding or_ref
  sound-or_ref k R x none hx h = (hx, h)
  sound-or_ref k R x (some v) hx h = h

  sound-atom : (k : ℕ) (f : Substitution) (S R : Vars) → Covers k f S R → (a : Atom) → SoundAtom ok k S a → SoundAtom ok k R (substitute_atom f a)
  unfolding substitute_atom
  sound-atom k f S R h (num n) ha = ha
  sound-atom k f S R h (ref x) ha = sound-or_ref k R x (f x) ha.0 (h x ha.0 ha.1)

  sound-atoms : (k : ℕ) (f : Substitution) (S R : Vars) → Covers k f S R → (l : List Atom) → SoundAtoms ok k S l → SoundAtoms ok k R (map (substitute_atom f) l)
  sound-atoms k f S R h [] hl = tt
  sound-atoms k f S R h (a ∷ l) hl = (sound-atom k f S R h a hl.0, sound-atoms k f S R h l hl.1)

  sound-simple : (k : ℕ) (f : Substitution) (S R : Vars) → Covers k f S R → (s : Simple) → SoundSimple ok k S s → SoundSimple ok k R (substitute_simple f s)
  unfolding substitute_simple
  sound-simple k f S R h (plain a) = sound-atom k f S R h a
  sound-simple k f S R h (succ_of a) = sound-atom k f S R h a
  sound-simple k f S R h (pred_of a) = sound-atom k f S R h a

  covers-except : (k x : ℕ) (f : Substitution) (S R : Vars) → Covers k f S R → Covers k (except x f) (adding x S) (adding x R)
  unfolding except adding
  covers-except k x f S R h y hy = test (eqb y x)
    where
      test : (b : Bool) → T (cond b true (S y)) → SmallOption (cond b none (f y)) (cond b true (R y))
      test true t = tt
      test false t = h y hy t

  pub sound-substitute : (k : ℕ) (f : Substitution) (S R : Vars) → Covers k f S R → (t : Term) → SoundTerm ok k S t → SoundTerm ok k R (substitute f t)
  unfolding substitute
  sound-substitute k f S R h (tuple l) ht = (length-map l (substitute_atom f) ∙ ht.0, sound-atoms k f S R h l ht.1)
  sound-substitute k f S R h (let_one x s t) ht =
      (ht.0, sound-simple k f S R h s ht.1, sound-substitute k (except x f) (adding x S) (adding x R) (covers-except k x f S R h) t ht.2)
  sound-substitute k f S R h (let_all t u) ht = (sound-substitute k f S R h t ht.0, ht.1)
  sound-substitute k f S R h (rec x a l t) ht =
      (ht.0, sound-atom k f S R h a ht.1, length-map l (substitute_atom f) ∙ ht.2, sound-atoms k f S R h l ht.3, ht.4)

  -- THE VALUES OF A STORE

  at_small : (s : List ℕ) (i : ℕ) (b : Bool) → SmallValues ok s → i < length s → SmallOption (get_elem? s i) b
  at_small [] i b hs h = absurd (not-suc-le-zero h)
  at_small (v ∷ s) zero b hs h = hs.0
  at_small (v ∷ s) (suc i) b hs h = at_small s i b hs.1 (le_of_suc-le-suc h)

  covers-store : (s : List ℕ) (S R : Vars) → SmallValues ok s → Covers (length s) (from_store s) S R
  unfolding from_store
  covers-store s S R hs zero hy t = absurd (not-suc-le-zero hy.0)
  covers-store s S R hs (suc i) hy t = at_small s i (R (suc i)) hs hy.1

  -- a term with a store of k values substituted is closed
  pub sound-from_store : (k : ℕ) (s : List ℕ) → length s ≡ k → SmallValues ok s → (S R : Vars) (t : Term) → SoundTerm ok k S t → SoundTerm ok k R (substitute (from_store s) t)
  sound-from_store k s e hs S R t ht = sound-substitute k (from_store s) S R (subst (λ n. Covers n (from_store s) S R) e (covers-store s S R hs)) t ht

  covers-only : (k x v : ℕ) → ok v ≡ true → Covers k (only x v) (adding x no_vars) no_vars
  unfolding only adding
  covers-only k x v hv y hy = test (eqb y x)
    where
      test : (b : Bool) → T (cond b true false) → SmallOption (cond b (some v) none) false
      test true t = hv
      test false t = t

  -- A REDUCTION OF A CLOSED TERM

  abbrev pub SoundAnswer : ℕ → Answer Term → Type 0
  SoundAnswer k (finished vs) = (length vs ≡ k) × SmallValues ok vs
  SoundAnswer k over = Unit {0}
  SoundAnswer k (next t) = SoundTerm ok k no_vars t

  small-value : (k : ℕ) (a : Atom) → SoundAtom ok k no_vars a → ok (value_of a) ≡ true
  unfolding value_of
  small-value k (num n) h = h
  small-value k (ref x) h = absurd h.1

  small-values : (k : ℕ) (l : List Atom) → SoundAtoms ok k no_vars l → SmallValues ok (map value_of l)
  small-values k [] h = tt
  small-values k (a ∷ l) h = (small-value k a h.0, small-values k l h.1)

  sound-let_one : (k x : ℕ) (s : Simple) (t : Term) → Within k x → SoundSimple ok k no_vars s → SoundTerm ok k (adding x no_vars) t → SoundAnswer k (reduce_let_one ok x s t)
  unfolding reduce_let_one
  sound-let_one k x (plain a) t hx hs ht = sound-substitute k (only x (value_of a)) (adding x no_vars) no_vars (covers-only k x (value_of a) (small-value k a hs)) t ht
  sound-let_one k x (succ_of a) t hx hs ht = test (ok (suc (value_of a))) refl
    where
      test : (b : Bool) → ok (suc (value_of a)) ≡ b → SoundAnswer k (cond b (next (let_one x (plain (num (suc (value_of a)))) t)) over)
      test true e = (hx, e, ht)
      test false e = tt
  sound-let_one k x (pred_of a) t hx hs ht = (hx, minus_one-passes ok limit (value_of a) (small-value k a hs), ht)

  sound-unroll_rec : (k x n : ℕ) (l : List Atom) (t : Term) → ok n ≡ true → Within k x → length l ≡ k → SoundAtoms ok k no_vars l → SoundTerm ok k all_vars t → SoundTerm ok k no_vars (unroll_rec x n l t)
  unfolding unroll_rec
  sound-unroll_rec k x zero l t hn hx hk hl ht = (hk, hl)
  sound-unroll_rec k x (suc q) l t hn hx hk hl ht = ((hx, limit.below_passes q hn, hk, hl, ht), (hx, hn, subst (λ S. SoundTerm ok k S t) (sym (adding-all x)) ht))

  sound-inside : (k : ℕ) (u : Term) → SoundTerm ok k all_vars u → (a : Answer Term) → SoundAnswer k a → SoundAnswer k (reduce_inside u a)
  unfolding reduce_inside
  sound-inside k u hu (finished vs) h = sound-from_store k vs h.0 h.1 all_vars no_vars u hu
  sound-inside k u hu over h = tt
  sound-inside k u hu (next t) h = (h, hu)

  pub sound-reduce : (k : ℕ) (t : Term) → SoundTerm ok k no_vars t → SoundAnswer k (reduce ok t)
  unfolding reduce
  sound-reduce k (tuple l) h = (length-map l value_of ∙ h.0, small-values k l h.1)
  sound-reduce k (let_one x s t) h = sound-let_one k x s t h.0 h.1 h.2
  sound-reduce k (let_all t u) h = sound-inside k u h.1 (reduce ok t) (sound-reduce k t h.0)
  sound-reduce k (rec x a l t) h = sound-unroll_rec k x (value_of a) l t (small-value k a h.1) h.0 h.2 h.3 h.4

  -- A PROGRAM'S TERM

  sound-refs : (k i n : ℕ) → 1 ≤ i → i + n ≤ suc k → SoundAtoms ok k all_vars (refs i n)
  unfolding refs
  sound-refs k i zero hi h = tt
  sound-refs k i (suc n) hi h = (((hi, omega arith), tt), sound-refs k (suc i) n (omega arith) (omega arith))

  sound-all : (k : ℕ) → SoundAtoms ok k all_vars (all k)
  sound-all k = sound-refs k 1 k (omega arith) (omega arith)

  sound-expr : (k : ℕ) (e : Expr) → ExprWithin k e → SmallExpr ok e → SoundSimple ok k all_vars (simple_of e)
  unfolding simple_of
  sound-expr k (lit n) h hs = hs
  sound-expr k (var x) h hs = (h, tt)
  sound-expr k (inc x) h hs = (h, tt)
  sound-expr k (dec x) h hs = (h, tt)

  sound-bound : (k : ℕ) (b : Bound) → BoundWithin k b → SmallBound ok b → SoundAtom ok k all_vars (atom_of b)
  unfolding atom_of
  sound-bound k (upto n) h hs = hs
  sound-bound k (upto_var x) h hs = (h, tt)

  pub sound-translate : (k : ℕ) (b : Block) → BlockWithin k b → SmallBlock ok b → SoundTerm ok k all_vars (translate k b)
  unfolding translate
  sound-translate k empty h hs = (length-refs 1 k, sound-all k)
  sound-translate k (assign x e r) h hs = (h.0, sound-expr k e h.1 hs.0, subst (λ S. SoundTerm ok k S (translate k r)) (sym (adding-all x)) (sound-translate k r h.2 hs.1))
  sound-translate k (loop x b body r) h hs =
      ((h.0, sound-bound k b h.1 hs.0, length-refs 1 k, sound-all k, sound-translate k body h.2 hs.1), sound-translate k r h.3 hs.2)
  sound-translate k (nest b r) h hs = (sound-translate k b h.0 hs.0, sound-translate k r h.1 hs.1)

  expr-sound : (k : ℕ) (e : Expr) → SoundSimple ok k all_vars (simple_of e) → ExprWithin k e × SmallExpr ok e
  unfolding simple_of
  expr-sound k (lit n) h = (tt, h)
  expr-sound k (var x) h = (h.0, tt)
  expr-sound k (inc x) h = (h.0, tt)
  expr-sound k (dec x) h = (h.0, tt)

  bound-sound : (k : ℕ) (b : Bound) → SoundAtom ok k all_vars (atom_of b) → BoundWithin k b × SmallBound ok b
  unfolding atom_of
  bound-sound k (upto n) h = (tt, h)
  bound-sound k (upto_var x) h = (h.0, tt)

  -- what translates to a sound term is a program
  pub translate-sound : (k : ℕ) (b : Block) → SoundTerm ok k all_vars (translate k b) → BlockWithin k b × SmallBlock ok b
  unfolding translate
  translate-sound k empty h = (tt, tt)
  translate-sound k (assign x e r) h =
      let a = expr-sound k e h.1 in
      let q = translate-sound k r (subst (λ S. SoundTerm ok k S (translate k r)) (adding-all x) h.2) in
      ((h.0, a.0, q.0), (a.1, q.1))
  translate-sound k (loop x b body r) h =
      let a = bound-sound k b h.0.1 in
      let p = translate-sound k body h.0.4 in
      let q = translate-sound k r h.1 in
      ((h.0.0, a.0, p.0, q.0), (a.1, p.1, q.1))
  translate-sound k (nest b r) h =
      let p = translate-sound k b h.0 in
      let q = translate-sound k r h.1 in
      ((p.0, q.0), (p.1, q.1))

  -- the state of a sound configuration is a sound closed term
  pub sound-state_of : (k : ℕ) (c : Config) → SoundConfig ok k c → SoundTerm ok k no_vars (state_of k c)
  unfolding state_of
  sound-state_of k c g =
      sound-from_store k c.store g.variables.size g.values all_vars no_vars (translate k c.block) (sound-translate k c.block g.variables.block g.literals)

  -- ANY NUMBER OF REDUCTIONS

  sound-next_term : (k : ℕ) (a : Answer Term) → SoundAnswer k a → OnNext (SoundTerm ok k no_vars) a
  sound-next_term k (finished vs) h = tt
  sound-next_term k over h = tt
  sound-next_term k (next t) h = h

  pub sound-reductions : (k n : ℕ) (t u : Term) → SoundTerm ok k no_vars t → iterate (reduce ok) n t ≡ some u → SoundTerm ok k no_vars u
  sound-reductions k = iterate-keeps (reduce ok) (SoundTerm ok k no_vars) (λ t h. sound-next_term k (reduce ok t) (sound-reduce k t h))

-- WHAT A SOUND TERM PASSES: the tests of refusals 5 and 7

module _ (ok : ℕ → Bool) where
  sound-atom_in_range : (k : ℕ) (S : Vars) (a : Atom) → SoundAtom ok k S a → atom_in_range k a ≡ true
  unfolding atom_in_range
  sound-atom_in_range k S (num n) h = refl
  sound-atom_in_range k S (ref x) h = within-in_range k x h.0

  sound-atoms_in_range : (k : ℕ) (S : Vars) (l : List Atom) → SoundAtoms ok k S l → atoms_in_range k l ≡ true
  unfolding atoms_in_range
  sound-atoms_in_range k S [] h = refl
  sound-atoms_in_range k S (a ∷ l) h = and_intro (sound-atom_in_range k S a h.0) (sound-atoms_in_range k S l h.1)

  sound-simple_in_range : (k : ℕ) (S : Vars) (s : Simple) → SoundSimple ok k S s → simple_in_range k s ≡ true
  unfolding simple_in_range
  sound-simple_in_range k S (plain a) h = sound-atom_in_range k S a h
  sound-simple_in_range k S (succ_of a) h = sound-atom_in_range k S a h
  sound-simple_in_range k S (pred_of a) h = sound-atom_in_range k S a h

  pub sound-in_range : (k : ℕ) (S : Vars) (t : Term) → SoundTerm ok k S t → term_in_range k t ≡ true
  unfolding term_in_range
  sound-in_range k S (tuple l) h = sound-atoms_in_range k S l h.1
  sound-in_range k S (let_one x s t) h = and_intro (within-in_range k x h.0) (and_intro (sound-simple_in_range k S s h.1) (sound-in_range k (adding x S) t h.2))
  sound-in_range k S (let_all t u) h = and_intro (sound-in_range k S t h.0) (sound-in_range k all_vars u h.1)
  sound-in_range k S (rec x a l t) h =
      and_intro (within-in_range k x h.0) (and_intro (sound-atom_in_range k S a h.1) (and_intro (sound-atoms_in_range k S l h.3) (sound-in_range k all_vars t h.4)))

  sound-closed_atom : (k : ℕ) (S : Vars) (a : Atom) → SoundAtom ok k S a → closed_atom S a ≡ true
  unfolding closed_atom
  sound-closed_atom k S (num n) h = refl
  sound-closed_atom k S (ref x) h = T_true (S x) h.1

  sound-closed_atoms : (k : ℕ) (S : Vars) (l : List Atom) → SoundAtoms ok k S l → closed_atoms S l ≡ true
  unfolding closed_atoms
  sound-closed_atoms k S [] h = refl
  sound-closed_atoms k S (a ∷ l) h = and_intro (sound-closed_atom k S a h.0) (sound-closed_atoms k S l h.1)

  sound-closed_simple : (k : ℕ) (S : Vars) (s : Simple) → SoundSimple ok k S s → closed_simple S s ≡ true
  unfolding closed_simple
  sound-closed_simple k S (plain a) h = sound-closed_atom k S a h
  sound-closed_simple k S (succ_of a) h = sound-closed_atom k S a h
  sound-closed_simple k S (pred_of a) h = sound-closed_atom k S a h

  sound-closed_in : (k : ℕ) (S : Vars) (t : Term) → SoundTerm ok k S t → closed_in S t ≡ true
  unfolding closed_in
  sound-closed_in k S (tuple l) h = sound-closed_atoms k S l h.1
  sound-closed_in k S (let_one x s t) h = and_intro (sound-closed_simple k S s h.1) (sound-closed_in k (adding x S) t h.2)
  sound-closed_in k S (let_all t u) h = sound-closed_in k S t h.0
  sound-closed_in k S (rec x a l t) h = and_intro (sound-closed_atom k S a h.1) (sound-closed_atoms k S l h.3)

  pub sound-closed : (k : ℕ) (t : Term) → SoundTerm ok k no_vars t → closed t ≡ true
  unfolding closed
  sound-closed k t h = sound-closed_in k no_vars t h
