-- Which terms are translations, told term by term in the order of the bytes.
use Rattle.std.specs.Prelude.{ℕ, ◌&&◌, Bool, false, true, List, [], ◌∷◌}
use Rattle.rules.specs.ReadBack.{Source, a_block, a_loop, nothing, same_atoms, source}
use Rattle.rules.specs.Syntax.{Atom, Simple, Term, let_all, let_one, num, plain, pred_of, rec, ref, succ_of, tuple}
use Rattle.rules.specs.Translation.{all}

-- A block is a source anywhere, a loop only where the flag says that a let-all's first term stands here.
unfoldable pub accepts : Bool → Source → Bool
accepts first (a_block b) = true
accepts first (a_loop x b c) = first
accepts first nothing = false

-- The terms have sources, and only the first may be a loop's, as the flag says.
unfoldable pub recognised : ℕ → Bool → List Term → Bool
recognised k first [] = true
recognised k first (t ∷ ts) = accepts first (source k t) && recognised k false ts

-- The atom is a variable.
unfoldable pub is_ref : Atom → Bool
is_ref (num n) = false
is_ref (ref x) = true

-- Some expression translates to what a let-one binds.
unfoldable pub has_expr : Simple → Bool
has_expr (plain a) = true
has_expr (succ_of a) = is_ref a
has_expr (pred_of a) = is_ref a

-- What is asked of a term's own bytes.
unfoldable pub legal : ℕ → Bool → Term → Bool
legal k first (tuple ys) = same_atoms ys (all k)
legal k first (let_one x s t) = has_expr s
legal k first (let_all s t) = true
legal k first (rec x a ys t) = first && same_atoms ys (all k)

-- The term is a let-all, so that a loop's term may come next.
unfoldable pub is_let_all : Term → Bool
is_let_all (tuple ys) = false
is_let_all (let_one x s t) = false
is_let_all (let_all s t) = true
is_let_all (rec x a ys t) = false
