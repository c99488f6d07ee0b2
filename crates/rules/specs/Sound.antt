-- What every step keeps: values pass the test `ok`, variables are 1 to k, tuples have k atoms, closed terms stay closed.
use Rattle.std.specs.Prelude.{ℕ, ◌≡◌, Bool, true, List, [], ◌∷◌, T, length}
use Rattle.rules.specs.FreeVariables.{Vars, adding, all_vars}
use Rattle.rules.specs.Scope.{ConfigWithin, Within}
use Rattle.rules.specs.Syntax.{Atom, Block, Bound, Config, Expr, Simple, Term, assign, dec, empty, inc, let_all, let_one, lit, loop, nest, num, plain, pred_of, rec, ref, succ_of, tuple, upto, upto_var, var}

-- VALUES

-- Each of these values passes the test.
abbrev pub SmallValues : (ℕ → Bool) → List ℕ → Type 0
SmallValues ok [] = Unit {0}
SmallValues ok (v ∷ s) = (ok v ≡ true) × SmallValues ok s

-- The same of an expression, where it is a literal.
abbrev pub SmallExpr : (ℕ → Bool) → Expr → Type 0
SmallExpr ok (lit n) = ok n ≡ true
SmallExpr ok (var x) = Unit {0}
SmallExpr ok (inc x) = Unit {0}
SmallExpr ok (dec x) = Unit {0}

-- The same of a bound, where it is a literal.
abbrev pub SmallBound : (ℕ → Bool) → Bound → Type 0
SmallBound ok (upto n) = ok n ≡ true
SmallBound ok (upto_var x) = Unit {0}

-- The same of every literal in a block.
abbrev pub SmallBlock : (ℕ → Bool) → Block → Type 0
SmallBlock ok empty = Unit {0}
SmallBlock ok (assign x e r) = SmallExpr ok e × SmallBlock ok r
SmallBlock ok (loop x b body r) = SmallBound ok b × SmallBlock ok body × SmallBlock ok r
SmallBlock ok (nest b r) = SmallBlock ok b × SmallBlock ok r

-- A SOUND CONFIGURATION of k variables

-- Its block's variables are 1 to k, its store has k values, and these values and the block's literals pass the test.
pub record SoundConfig (ok : ℕ → Bool) (k : ℕ) (c : Config) : Type 0 where
  pub variables : ConfigWithin k c
  pub literals : SmallBlock ok c.block
  pub values : SmallValues ok c.store

-- A SOUND TERM of k variables, of which only those of S are free

-- A numeral that passes the test, or a variable of S that is one of 1 to k.
abbrev pub SoundAtom : (ℕ → Bool) → ℕ → Vars → Atom → Type 0
SoundAtom ok k S (num n) = ok n ≡ true
SoundAtom ok k S (ref x) = Within k x × T (S x)

-- The same of a row of atoms.
abbrev pub SoundAtoms : (ℕ → Bool) → ℕ → Vars → List Atom → Type 0
SoundAtoms ok k S [] = Unit {0}
SoundAtoms ok k S (a ∷ l) = SoundAtom ok k S a × SoundAtoms ok k S l

-- The same of the atom in what a let-one binds.
abbrev pub SoundSimple : (ℕ → Bool) → ℕ → Vars → Simple → Type 0
SoundSimple ok k S (plain a) = SoundAtom ok k S a
SoundSimple ok k S (succ_of a) = SoundAtom ok k S a
SoundSimple ok k S (pred_of a) = SoundAtom ok k S a

-- Its numerals pass the test, its variables are 1 to k, its tuples have k atoms, and only variables of S are free.
abbrev pub SoundTerm : (ℕ → Bool) → ℕ → Vars → Term → Type 0
SoundTerm ok k S (tuple l) = (length l ≡ k) × SoundAtoms ok k S l
SoundTerm ok k S (let_one x s t) = Within k x × SoundSimple ok k S s × SoundTerm ok k (adding x S) t
SoundTerm ok k S (let_all t u) = SoundTerm ok k S t × SoundTerm ok k all_vars u
SoundTerm ok k S (rec x a l t) = Within k x × SoundAtom ok k S a × (length l ≡ k) × SoundAtoms ok k S l × SoundTerm ok k all_vars t
