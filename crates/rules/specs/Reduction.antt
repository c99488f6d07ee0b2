-- One reduction of a closed term, as a function (01 "Reducer"; 003, figure 1 with q + 1 handed to the body). `Rules` has
-- the reductions one by one.
use Rattle.std.specs.Prelude.{suc, zero, ℕ, Bool, cond, List, map}
use Rattle.rules.specs.Store.{minus_one}
use Rattle.rules.specs.Substitution.{from_store, only, substitute}
use Rattle.rules.specs.Syntax.{Answer, Atom, Simple, Term, finished, let_all, let_one, next, num, over, plain, pred_of, rec, ref, succ_of, tuple}

-- The value of an atom. In a closed term, which is all that the reducer is given, each atom that it reads is a numeral.
unfoldable pub value_of : Atom → ℕ
value_of (num n) = n
value_of (ref x) = 0

-- Rec of 0: its start tuple. Of q + 1: let-all of the rec of q in let-one index = q + 1 in the body.
unfoldable pub unroll_rec : ℕ → ℕ → List Atom → Term → Term
unroll_rec x zero l t = tuple l
unroll_rec x (suc q) l t = let_all (rec x (num q) l t) (let_one x (plain (num (suc q))) t)

-- Let-all with last term u, given what its first term's reduction comes to: of a tuple, u with the values substituted.
unfoldable pub reduce_inside : Term → Answer Term → Answer Term
reduce_inside u (finished vs) = next (substitute (from_store vs) u)
reduce_inside u over = over
reduce_inside u (next t) = next (let_all t u)

-- Let-one: of a numeral, its last term with the variable substituted; succ or pred becomes the numeral.
unfoldable pub reduce_let_one : (ℕ → Bool) → ℕ → Simple → Term → Answer Term
reduce_let_one ok x (plain a) t = next (substitute (only x (value_of a)) t)
reduce_let_one ok x (succ_of a) t = cond (ok (suc (value_of a))) (next (let_one x (plain (num (suc (value_of a)))) t)) over
reduce_let_one ok x (pred_of a) t = next (let_one x (plain (num (minus_one (value_of a)))) t)

-- One reduction under the test `ok` for a value that is not too large.
unfoldable pub reduce : (ℕ → Bool) → Term → Answer Term
reduce ok (tuple l) = finished (map value_of l)
reduce ok (let_one x s t) = reduce_let_one ok x s t
reduce ok (let_all t u) = reduce_inside u (reduce ok t)
reduce ok (rec x a l t) = next (unroll_rec x (value_of a) l t)

-- An answer with its next state mapped, which is how lock step is said.
unfoldable pub on_next : {A B : Type 0} → (A → B) → Answer A → Answer B
on_next f (finished vs) = finished vs
on_next f over = over
on_next f (next a) = next (f a)
