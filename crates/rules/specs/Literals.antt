-- The numbers that are written in a program and in a term, in their order, and whether values pass a test: what refusals 15 and 16 look
-- at (02 C-17).
use Rattle.std.specs.Prelude.{ℕ, ◌≡◌, ◌⊎◌, Bool, true, ◌&&◌, ◌++◌, List, [], ◌∷◌}
use Rattle.rules.specs.FreeVariables.{atom_of_simple}
use Rattle.rules.specs.Syntax.{Atom, Block, Bound, Expr, Simple, Term, assign, dec, empty, inc, let_all, let_one, lit, loop, nest, num, rec, ref, tuple, upto, upto_var, var}

-- THE LITERALS OF A PROGRAM

-- An expression has one where it is a literal.
unfoldable pub expr_literals : Expr → List ℕ
expr_literals (lit n) = n ∷ []
expr_literals (var x) = []
expr_literals (inc x) = []
expr_literals (dec x) = []

-- The same of a bound.
unfoldable pub bound_literals : Bound → List ℕ
bound_literals (upto n) = n ∷ []
bound_literals (upto_var x) = []

-- Those of a block.
unfoldable pub literals_in : Block → List ℕ
literals_in empty = []
literals_in (assign x e r) = expr_literals e ++ literals_in r
literals_in (loop x b body r) = bound_literals b ++ (literals_in body ++ literals_in r)
literals_in (nest b r) = literals_in b ++ literals_in r

-- THE NUMERALS OF A TERM

-- An atom has one where it is a numeral.
unfoldable pub atom_numerals : Atom → List ℕ
atom_numerals (num n) = n ∷ []
atom_numerals (ref x) = []

-- Those of a row of atoms.
unfoldable pub atoms_numerals : List Atom → List ℕ
atoms_numerals [] = []
atoms_numerals (a ∷ l) = atom_numerals a ++ atoms_numerals l

-- What a let-one binds has those of its atom.
unfoldable pub simple_numerals : Simple → List ℕ
simple_numerals s = atom_numerals (atom_of_simple s)

-- Those of a term.
unfoldable pub numerals_in : Term → List ℕ
numerals_in (tuple l) = atoms_numerals l
numerals_in (let_one x s t) = simple_numerals s ++ numerals_in t
numerals_in (let_all t u) = numerals_in t ++ numerals_in u
numerals_in (rec x a l t) = atom_numerals a ++ (atoms_numerals l ++ numerals_in t)

-- VALUES

-- The value is one of the list.
abbrev pub Among : ℕ → List ℕ → Type 0
Among n [] = ⊥
Among n (v ∷ s) = (n ≡ v) ⊎ Among n s

-- Whether each of these values passes the test: `SmallValues` as a test.
unfoldable pub small_values : (ℕ → Bool) → List ℕ → Bool
small_values ok [] = true
small_values ok (v ∷ s) = ok v && small_values ok s
