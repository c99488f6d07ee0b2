-- The tests of literals, numerals and values say what they are for.
use Prim.Native.Nat.{◌<◌, suc, zero, ℕ, ◌≤◌}
use mathlib.Core.Path.{ap, refl, sym, ◌∙◌, ◌≡◌}
use mathlib.Core.Logic.{inl, inr, ◌↔◌}
use mathlib.Core.Bool.{Bool, and_assoc, false, not, true, ◌&&◌}
use mathlib.Core.List.{◌++◌, List, [], ◌∷◌}
use borrow.Author.Tests.{not-false, not-true}
use lib.ListN.{drop, get_or, length, take}
use lib.Seq.{drop-cons}
use native.Mathlib.Omega.{arith}
use Rattle.rules.specs.FreeVariables.{Vars, adding, all_vars}
use Rattle.rules.specs.Literals.{Among, atom_numerals, atoms_numerals, bound_literals, expr_literals, literals_in, numerals_in, simple_numerals, small_values}
use Rattle.rules.specs.Sound.{SmallBlock, SmallBound, SmallExpr, SmallValues, SoundAtom, SoundAtoms, SoundSimple, SoundTerm}
use Rattle.rules.specs.Store.{up_to}
use Rattle.rules.specs.Syntax.{Atom, Block, Bound, Expr, Simple, Term, append, assign, dec, empty, inc, let_all, let_one, lit, loop, nest, num, plain, pred_of, rec, ref, succ_of, tuple, upto, upto_var, var}
use Rattle.rules.proofs.StoreLaws.{up_to-above}
use Rattle.rules.proofs.Tests.{and_both, and_intro, true-false}

module _ (ok : ℕ → Bool) where
  -- VALUES

  pub small_values-small : (s : List ℕ) → small_values ok s ≡ true → SmallValues ok s
  unfolding small_values
  small_values-small [] e = tt
  small_values-small (v ∷ s) e = let p = and_both (ok v) (small_values ok s) e in (p.0, small_values-small s p.1)

  pub small-small_values : (s : List ℕ) → SmallValues ok s → small_values ok s ≡ true
  unfolding small_values
  small-small_values [] h = refl
  small-small_values (v ∷ s) h = and_intro h.0 (small-small_values s h.1)

  -- two lists of values, one behind the other
  pub small_values-append : (r s : List ℕ) → small_values ok (r ++ s) ≡ (small_values ok r && small_values ok s)
  unfolding small_values
  small_values-append [] s = refl
  small_values-append (v ∷ r) s = ap (λ (b : Bool). ok v && b) (small_values-append r s) ∙ sym (and_assoc (ok v) (small_values ok r) (small_values ok s))

  -- by what was found of the first: where one does not pass, not all of both do; where all pass, the second decides
  module _ (r s : List ℕ) (above : Bool) (tells : above ≡ not (small_values ok r)) where
    pub first_above : above ≡ true → true ≡ not (small_values ok (r ++ s))
    first_above t = go (small_values ok r) (sym t ∙ tells) (small_values-append r s)
      where
        go : (b : Bool) → true ≡ not b → small_values ok (r ++ s) ≡ (b && small_values ok s) → true ≡ not (small_values ok (r ++ s))
        go true e q = e ∙ cc
        go false e q = sym (ap not q)

    pub second-decides : above ≡ false → small_values ok (r ++ s) ≡ small_values ok s
    second-decides f = small_values-append r s ∙ ap (λ (b : Bool). b && small_values ok s) (not-false (small_values ok r) (sym tells ∙ f))

  -- from a place on: the value there, and then the rest
  pub small_values-at : (s : List ℕ) (i : ℕ) → i < length s → small_values ok (drop i s) ≡ (ok (get_or s i 0) && small_values ok (drop (suc i) s))
  unfolding small_values
  small_values-at s i h = ap (small_values ok) (drop-cons s i 0 h)

  pub small_values-end : (s : List ℕ) (i : ℕ) → length s ≤ i → small_values ok (drop i s) ≡ true
  unfolding small_values
  small_values-end [] zero h = refl
  small_values-end [] (suc i) h = refl
  small_values-end (v ∷ s) zero h = absurd (omega arith)
  small_values-end (v ∷ s) (suc i) h = small_values-end s i (omega arith)

  pub small-append : (r s : List ℕ) → SmallValues ok r → SmallValues ok s → SmallValues ok (r ++ s)
  small-append [] s g h = h
  small-append (v ∷ r) s g h = (g.0, small-append r s g.1 h)

  pub append-small : (r s : List ℕ) → SmallValues ok (r ++ s) → SmallValues ok r × SmallValues ok s
  append-small [] s h = (tt, h)
  append-small (v ∷ r) s h = let p = append-small r s h.1 in ((h.0, p.0), p.1)

  -- a part of the values
  pub small-take : (n : ℕ) (s : List ℕ) → SmallValues ok s → SmallValues ok (take n s)
  small-take zero s h = tt
  small-take (suc n) [] h = tt
  small-take (suc n) (v ∷ s) h = (h.0, small-take n s h.1)

  pub small-drop : (n : ℕ) (s : List ℕ) → SmallValues ok s → SmallValues ok (drop n s)
  small-drop zero s h = h
  small-drop (suc n) [] h = tt
  small-drop (suc n) (v ∷ s) h = small-drop n s h.1

  -- THE LITERALS OF A PROGRAM pass exactly where it is small

  small-expr_literals : (e : Expr) → SmallExpr ok e → SmallValues ok (expr_literals e)
  unfolding expr_literals
  small-expr_literals (lit n) h = (h, tt)
  small-expr_literals (var x) h = tt
  small-expr_literals (inc x) h = tt
  small-expr_literals (dec x) h = tt

  small-bound_literals : (b : Bound) → SmallBound ok b → SmallValues ok (bound_literals b)
  unfolding bound_literals
  small-bound_literals (upto n) h = (h, tt)
  small-bound_literals (upto_var x) h = tt

  pub small-literals : (b : Block) → SmallBlock ok b → SmallValues ok (literals_in b)
  unfolding literals_in
  small-literals empty h = tt
  small-literals (assign x e r) h = small-append (expr_literals e) (literals_in r) (small-expr_literals e h.0) (small-literals r h.1)
  small-literals (loop x b body r) h =
      small-append (bound_literals b) (literals_in body ++ literals_in r) (small-bound_literals b h.0)
      (small-append (literals_in body) (literals_in r) (small-literals body h.1) (small-literals r h.2))
  small-literals (nest b r) h = small-append (literals_in b) (literals_in r) (small-literals b h.0) (small-literals r h.1)

  expr_literals-small : (e : Expr) → SmallValues ok (expr_literals e) → SmallExpr ok e
  unfolding expr_literals
  expr_literals-small (lit n) h = h.0
  expr_literals-small (var x) h = tt
  expr_literals-small (inc x) h = tt
  expr_literals-small (dec x) h = tt

  bound_literals-small : (b : Bound) → SmallValues ok (bound_literals b) → SmallBound ok b
  unfolding bound_literals
  bound_literals-small (upto n) h = h.0
  bound_literals-small (upto_var x) h = tt

  pub literals-small : (b : Block) → SmallValues ok (literals_in b) → SmallBlock ok b
  unfolding literals_in
  literals-small empty h = tt
  literals-small (assign x e r) h = let p = append-small (expr_literals e) (literals_in r) h in (expr_literals-small e p.0, literals-small r p.1)
  literals-small (loop x b body r) h =
      let p = append-small (bound_literals b) (literals_in body ++ literals_in r) h in
      let q = append-small (literals_in body) (literals_in r) p.1 in
      (bound_literals-small b p.0, literals-small body q.0, literals-small r q.1)
  literals-small (nest b r) h = let p = append-small (literals_in b) (literals_in r) h in (literals-small b p.0, literals-small r p.1)

  -- THE NUMERALS OF A SOUND TERM pass

  sound-atom_numerals : (k : ℕ) (S : Vars) (a : Atom) → SoundAtom ok k S a → SmallValues ok (atom_numerals a)
  unfolding atom_numerals
  sound-atom_numerals k S (num n) h = (h, tt)
  sound-atom_numerals k S (ref x) h = tt

  sound-atoms_numerals : (k : ℕ) (S : Vars) (l : List Atom) → SoundAtoms ok k S l → SmallValues ok (atoms_numerals l)
  unfolding atoms_numerals
  sound-atoms_numerals k S [] h = tt
  sound-atoms_numerals k S (a ∷ l) h = small-append (atom_numerals a) (atoms_numerals l) (sound-atom_numerals k S a h.0) (sound-atoms_numerals k S l h.1)

  sound-simple_numerals : (k : ℕ) (S : Vars) (s : Simple) → SoundSimple ok k S s → SmallValues ok (simple_numerals s)
  unfolding simple_numerals
  sound-simple_numerals k S (plain a) h = sound-atom_numerals k S a h
  sound-simple_numerals k S (succ_of a) h = sound-atom_numerals k S a h
  sound-simple_numerals k S (pred_of a) h = sound-atom_numerals k S a h

  pub sound-numerals : (k : ℕ) (S : Vars) (t : Term) → SoundTerm ok k S t → SmallValues ok (numerals_in t)
  unfolding numerals_in
  sound-numerals k S (tuple l) h = sound-atoms_numerals k S l h.1
  sound-numerals k S (let_one x s t) h = small-append (simple_numerals s) (numerals_in t) (sound-simple_numerals k S s h.1) (sound-numerals k (adding x S) t h.2)
  sound-numerals k S (let_all t u) h = small-append (numerals_in t) (numerals_in u) (sound-numerals k S t h.0) (sound-numerals k all_vars u h.1)
  sound-numerals k S (rec x a l t) h =
      small-append (atom_numerals a) (atoms_numerals l ++ numerals_in t) (sound-atom_numerals k S a h.1)
      (small-append (atoms_numerals l) (numerals_in t) (sound-atoms_numerals k S l h.3) (sound-numerals k all_vars t h.4))

-- the literals of a row of commands are those of the first, and then those of the rest
pub append-literals : (ok : ℕ → Bool) (p q : Block) → small_values ok (literals_in (append p q)) ≡ (small_values ok (literals_in p) && small_values ok (literals_in q))
unfolding append literals_in small_values
append-literals ok empty q = refl
append-literals ok (assign x e r) q =
    small_values-append ok (expr_literals e) (literals_in (append r q))
    ∙ rw (append-literals ok r q, small_values-append ok (expr_literals e) (literals_in r)) (simp and_assoc)
append-literals ok (loop x b body r) q =
    small_values-append ok (bound_literals b) (literals_in body ++ literals_in (append r q))
    ∙ rw (small_values-append ok (literals_in body) (literals_in (append r q)), append-literals ok r q, small_values-append ok (bound_literals b) (literals_in body ++ literals_in r), small_values-append ok (literals_in body) (literals_in r)) (simp and_assoc)
append-literals ok (nest b r) q =
    small_values-append ok (literals_in b) (literals_in (append r q))
    ∙ rw (append-literals ok r q, small_values-append ok (literals_in b) (literals_in r)) (simp and_assoc)

-- A VALUE ABOVE THE LARGEST is what the test finds

some-above : (largest : ℕ) (s : List ℕ) → not (small_values (up_to largest) s) ≡ true → (n : ℕ) × Among n s × (largest < n)
unfolding small_values
some-above largest [] e = true-false (sym e)
some-above largest (v ∷ s) e = go (up_to largest v) refl e (some-above largest s)
  where
    go : (b : Bool) → up_to largest v ≡ b → not (b && small_values (up_to largest) s) ≡ true
        → (not (small_values (up_to largest) s) ≡ true → (n : ℕ) × Among n s × (largest < n)) → (n : ℕ) × Among n (v ∷ s) × (largest < n)
    go true q f later = let r = later f in (r.0, inr r.1, r.2)
    go false q f later = (v, inl refl, (up_to-above largest v).0 q)

above-some : (largest : ℕ) (s : List ℕ) (n : ℕ) → Among n s → largest < n → not (small_values (up_to largest) s) ≡ true
unfolding small_values
above-some largest [] n a h = absurd a
above-some largest (v ∷ s) n (inl e) h = rw ((up_to-above largest v).1 (rw (← e) h)) refl
above-some largest (v ∷ s) n (inr a) h = go (up_to largest v) (above-some largest s n a h)
  where
    go : (b : Bool) → not (small_values (up_to largest) s) ≡ true → not (b && small_values (up_to largest) s) ≡ true
    go true later = later
    go false later = refl

-- one above it stands against all of them passing
pub not-small : (largest : ℕ) (s : List ℕ) (n : ℕ) → Among n s → largest < n → SmallValues (up_to largest) s → ⊥
not-small largest s n a h v = true-false (sym (small-small_values (up_to largest) s v) ∙ not-true (small_values (up_to largest) s) (above-some largest s n a h))

pub above-iff : (largest : ℕ) (s : List ℕ) → (not (small_values (up_to largest) s) ≡ true) ↔ ((n : ℕ) × Among n s × (largest < n))
above-iff largest s = (some-above largest s, (λ v. above-some largest s v.0 v.1 v.2))
