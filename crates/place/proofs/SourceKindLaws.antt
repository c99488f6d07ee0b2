-- Kinds and numbers of expressions and bounds beside those of their translations; the kind of each term.
use Prim.Native.Nat.{◌+◌, ℕ}
use mathlib.Core.Path.{refl, ◌≡◌}
use mathlib.Core.List.{List}
use Rattle.rules.specs.FreeVariables.{atom_of_simple}
use Rattle.rules.specs.Syntax.{Atom, Bound, Expr, Term, dec, inc, lit, rec, upto, upto_var, var}
use Rattle.rules.specs.Translation.{atom_of, simple_of}
use Rattle.record.specs.Program.{bound_kind, bound_number, expr_kind, expr_number}
use Rattle.record.specs.Term.{atom_kind, atom_number, kind_of_term}
use Rattle.place.specs.TermView.{simple_kind}

pub kind-simple_of : (e : Expr) → simple_kind (simple_of e) ≡ 16 + expr_kind e
unfolding simple_kind simple_of expr_kind atom_kind
kind-simple_of (lit v) = refl
kind-simple_of (var x) = refl
kind-simple_of (inc x) = refl
kind-simple_of (dec x) = refl

pub number-simple_of : (e : Expr) → atom_number (atom_of_simple (simple_of e)) ≡ expr_number e
unfolding simple_of expr_number atom_number
number-simple_of (lit v) = refl
number-simple_of (var x) = refl
number-simple_of (inc x) = refl
number-simple_of (dec x) = refl

pub kind-atom_of : (b : Bound) → atom_kind (atom_of b) ≡ 16 + bound_kind b
unfolding atom_of bound_kind atom_kind
kind-atom_of (upto v) = refl
kind-atom_of (upto_var x) = refl

pub number-atom_of : (b : Bound) → atom_number (atom_of b) ≡ bound_number b
unfolding atom_of bound_number atom_number
number-atom_of (upto v) = refl
number-atom_of (upto_var x) = refl

pub kind_of_term-rec : (x : ℕ) (a : Atom) (ys : List Atom) (t : Term) → kind_of_term (rec x a ys t) ≡ 39
unfolding kind_of_term
kind_of_term-rec x a ys t = refl
