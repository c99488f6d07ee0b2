-- Numbers of 4 bytes: what the record layer asks of numbers, and what the rules ask of values and variables.
use Prim.Native.Nat.{◌<◌, ℕ}
use mathlib.Core.Path.{◌≡◌}
use mathlib.Core.Bool.{Bool, ◌&&◌, true}
use mathlib.Core.List.{◌++◌, List, [], ◌∷◌}
use native.Mathlib.Omega.{arith}
use Rattle.rules.specs.FreeVariables.{Vars, adding, all_vars, atom_of_simple, closed_atom, closed_atoms, closed_in, closed_simple}
use Rattle.rules.specs.Literals.{atom_numerals, atoms_numerals, numerals_in, simple_numerals}
use Rattle.rules.specs.Scope.{BlockWithin, BoundWithin, ExprWithin, atom_in_range, atoms_in_range, in_range, simple_in_range, term_in_range}
use Rattle.rules.specs.Sound.{SmallBlock, SmallBound, SmallExpr, SmallValues, SoundAtom, SoundAtoms, SoundSimple, SoundTerm}
use Rattle.rules.specs.Syntax.{Atom, Block, Bound, Expr, Simple, Term, assign, dec, empty, inc, let_all, let_one, lit, loop, nest, num, plain, pred_of, rec, ref, succ_of, tuple, upto, upto_var, var}
use Rattle.rules.proofs.FreeVariablesLaws.{all_closed}
use Rattle.rules.proofs.LiteralsLaws.{append-small}
use Rattle.rules.proofs.ScopeLaws.{in_range-within}
use Rattle.rules.proofs.Tests.{and_both, true-T}
use Rattle.record.specs.Program.{BlockWords, bound_number, expr_number}
use Rattle.record.specs.Term.{AtomWords, AtomsWords, TermWords, atom_number}

-- A TEST OF VALUES that lets only numbers of 4 bytes pass
module _ (ok : ℕ → Bool) (word : (n : ℕ) → ok n ≡ true → n < 4294967296) where
  -- PROGRAMS

  expr-words : (k : ℕ) (e : Expr) → k < 4294967296 → ExprWithin k e → SmallExpr ok e → expr_number e < 4294967296
  unfolding expr_number
  expr-words k (lit n) hk h s = word n s
  expr-words k (var x) hk h s = omega (arith, h.1)
  expr-words k (inc x) hk h s = omega (arith, h.1)
  expr-words k (dec x) hk h s = omega (arith, h.1)

  bound-words : (k : ℕ) (b : Bound) → k < 4294967296 → BoundWithin k b → SmallBound ok b → bound_number b < 4294967296
  unfolding bound_number
  bound-words k (upto n) hk h s = word n s
  bound-words k (upto_var x) hk h s = omega (arith, h.1)

  pub block_words : (k : ℕ) (b : Block) → k < 4294967296 → BlockWithin k b → SmallBlock ok b → BlockWords b
  block_words k empty hk h s = tt
  block_words k (assign x e r) hk h s = (omega (arith, h.0.1), expr-words k e hk h.1 s.0, block_words k r hk h.2 s.1)
  block_words k (loop x b body r) hk h s =
      (omega (arith, h.0.1), bound-words k b hk h.1 s.0, block_words k body hk h.2 s.1, block_words k r hk h.3 s.2)
  block_words k (nest b r) hk h s = (block_words k b hk h.0 s.0, block_words k r hk h.1 s.1)

  -- TERMS

  sound-words_atom : (k : ℕ) (S : Vars) (a : Atom) → k < 4294967296 → SoundAtom ok k S a → AtomWords a
  unfolding atom_number
  sound-words_atom k S (num n) hk h = word n h
  sound-words_atom k S (ref x) hk h = omega (arith, h.0.1)

  sound-words_atoms : (k : ℕ) (S : Vars) (l : List Atom) → k < 4294967296 → SoundAtoms ok k S l → AtomsWords l
  sound-words_atoms k S [] hk h = tt
  sound-words_atoms k S (a ∷ l) hk h = (sound-words_atom k S a hk h.0, sound-words_atoms k S l hk h.1)

  sound-words_simple : (k : ℕ) (S : Vars) (s : Simple) → k < 4294967296 → SoundSimple ok k S s → AtomWords (atom_of_simple s)
  sound-words_simple k S (plain a) hk h = sound-words_atom k S a hk h
  sound-words_simple k S (succ_of a) hk h = sound-words_atom k S a hk h
  sound-words_simple k S (pred_of a) hk h = sound-words_atom k S a hk h

  pub sound-words : (k : ℕ) (S : Vars) (t : Term) → k < 4294967296 → SoundTerm ok k S t → TermWords k t
  sound-words k S (tuple l) hk h = (h.0, sound-words_atoms k S l hk h.1)
  sound-words k S (let_one x s t) hk h = (omega (arith, h.0.1), sound-words_simple k S s hk h.1, sound-words k (adding x S) t hk h.2)
  sound-words k S (let_all t u) hk h = (sound-words k S t hk h.0, sound-words k all_vars u hk h.1)
  sound-words k S (rec x a l t) hk h = (omega (arith, h.0.1), sound-words_atom k S a hk h.1, h.2, sound-words_atoms k S l hk h.3, sound-words k all_vars t hk h.4)

-- AND BACK: a term that decodes, whose numerals pass, whose variables are in range and of which only those of S are free
module _ (ok : ℕ → Bool) where
  words-sound_atom : (k : ℕ) (S : Vars) (a : Atom) → SmallValues ok (atom_numerals a) → atom_in_range k a ≡ true → closed_atom S a ≡ true → SoundAtom ok k S a
  unfolding atom_numerals atom_in_range closed_atom
  words-sound_atom k S (num n) v r c = v.0
  words-sound_atom k S (ref x) v r c = (in_range-within k x r, true-T (S x) c)

  words-sound_atoms : (k : ℕ) (S : Vars) (l : List Atom) → SmallValues ok (atoms_numerals l) → atoms_in_range k l ≡ true → closed_atoms S l ≡ true → SoundAtoms ok k S l
  unfolding atoms_numerals atoms_in_range closed_atoms
  words-sound_atoms k S [] v r c = tt
  words-sound_atoms k S (a ∷ l) v r c =
      let s = append-small ok (atom_numerals a) (atoms_numerals l) v in
      let p = and_both (atom_in_range k a) (atoms_in_range k l) r in
      let q = and_both (closed_atom S a) (closed_atoms S l) c in
      (words-sound_atom k S a s.0 p.0 q.0, words-sound_atoms k S l s.1 p.1 q.1)

  words-sound_simple : (k : ℕ) (S : Vars) (s : Simple) → SmallValues ok (simple_numerals s) → simple_in_range k s ≡ true → closed_simple S s ≡ true → SoundSimple ok k S s
  unfolding simple_numerals simple_in_range closed_simple
  words-sound_simple k S (plain a) v r c = words-sound_atom k S a v r c
  words-sound_simple k S (succ_of a) v r c = words-sound_atom k S a v r c
  words-sound_simple k S (pred_of a) v r c = words-sound_atom k S a v r c

  pub words-sound : (k : ℕ) (S : Vars) (t : Term) → TermWords k t → SmallValues ok (numerals_in t) → term_in_range k t ≡ true → closed_in S t ≡ true → SoundTerm ok k S t
  unfolding numerals_in term_in_range closed_in
  words-sound k S (tuple l) w v r c = (w.0, words-sound_atoms k S l v r c)
  words-sound k S (let_one x s t) w v r c =
      let u = append-small ok (simple_numerals s) (numerals_in t) v in
      let p = and_both (in_range k x) (simple_in_range k s && term_in_range k t) r in
      let q = and_both (simple_in_range k s) (term_in_range k t) p.1 in
      let d = and_both (closed_simple S s) (closed_in (adding x S) t) c in
      (in_range-within k x p.0, words-sound_simple k S s u.0 q.0 d.0, words-sound k (adding x S) t w.2 u.1 q.1 d.1)
  words-sound k S (let_all t u) w v r c =
      let n = append-small ok (numerals_in t) (numerals_in u) v in
      let p = and_both (term_in_range k t) (term_in_range k u) r in
      (words-sound k S t w.0 n.0 p.0 c, words-sound k all_vars u w.1 n.1 p.1 (all_closed u))
  words-sound k S (rec x a l t) w v r c =
      let m = append-small ok (atom_numerals a) (atoms_numerals l ++ numerals_in t) v in
      let n = append-small ok (atoms_numerals l) (numerals_in t) m.1 in
      let p = and_both (in_range k x) (atom_in_range k a && (atoms_in_range k l && term_in_range k t)) r in
      let q = and_both (atom_in_range k a) (atoms_in_range k l && term_in_range k t) p.1 in
      let s = and_both (atoms_in_range k l) (term_in_range k t) q.1 in
      let d = and_both (closed_atom S a) (closed_atoms S l) c in
      (in_range-within k x p.0, words-sound_atom k S a m.0 q.0 d.0, w.2, words-sound_atoms k S l n.0 s.0 d.1, words-sound k all_vars t w.4 n.1 s.1 (all_closed t))
