-- Substitution, 01's filling: variables free in a term are replaced by numerals (003, figure 1; 01 "Filling").
use Rattle.std.specs.Prelude.{suc, zero, ℕ, cond, List, map, eqb}
use Rattle.std.proofs.Math.Option.{Option, none, some}
use Rattle.std.proofs.Math.ListN.{get_elem?}
use Rattle.rules.specs.Syntax.{Atom, Config, Simple, Term, let_all, let_one, num, plain, pred_of, rec, ref, succ_of, tuple}
use Rattle.rules.specs.Translation.{translate}

-- A substitution gives some of the variables their values.
abbrev pub Substitution : Type 0
Substitution = ℕ → Option ℕ

-- Each variable of the store.
unfoldable pub from_store : List ℕ → Substitution
from_store s zero = none
from_store s (suc i) = get_elem? s i

-- The one variable x.
unfoldable pub only : ℕ → ℕ → Substitution
only x v y = cond (eqb y x) (some v) none

-- All of f but x, which is bound.
unfoldable pub except : ℕ → Substitution → Substitution
except x f y = cond (eqb y x) none (f y)

-- The numeral of the value that variable x is given, or x itself where it is given none.
unfoldable pub or_ref : ℕ → Option ℕ → Atom
or_ref x none = ref x
or_ref x (some v) = num v

-- An atom with its variable replaced, where f gives that a value.
unfoldable pub substitute_atom : Substitution → Atom → Atom
substitute_atom f (num n) = num n
substitute_atom f (ref x) = or_ref x (f x)

-- The same of the atom in what a let-one binds.
unfoldable pub substitute_simple : Substitution → Simple → Simple
substitute_simple f (plain a) = plain (substitute_atom f a)
substitute_simple f (succ_of a) = succ_of (substitute_atom f a)
substitute_simple f (pred_of a) = pred_of (substitute_atom f a)

-- Let-one binds its variable in its last term only; let-all every variable in its last term; rec every variable in its
-- body, its count and start tuple are open.
unfoldable pub substitute : Substitution → Term → Term
substitute f (tuple l) = tuple (map (substitute_atom f) l)
substitute f (let_one x s t) = let_one x (substitute_simple f s) (substitute (except x f) t)
substitute f (let_all t u) = let_all (substitute f t) u
substitute f (rec x a l t) = rec x (substitute_atom f a) (map (substitute_atom f) l) t

-- The reducer's state for a configuration of k variables: the translation of its block with its store substituted
-- (003, theorem 1).
unfoldable pub state_of : ℕ → Config → Term
state_of k c = substitute (from_store c.store) (translate k c.block)
