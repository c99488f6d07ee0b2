-- The bytes of a translated expression and of a translated bound, by the kinds of the source (01 "Translation and read-back").
use Prim.Native.Nat.{◌+◌, ◌<◌, ◌≤◌, ℕ}
use mathlib.Core.Path.{ap, refl, ◌∙◌, ◌≡◌}
use mathlib.Core.List.{◌++◌, List, []}
use native.Mathlib.Omega.{arith}
use Rattle.buffer.specs.LittleEndian.{le}
use Rattle.rules.specs.Syntax.{Bound, Expr, Simple, dec, inc, lit, num, plain, pred_of, ref, succ_of, upto, upto_var, var}
use Rattle.rules.specs.Translation.{atom_of, simple_of}
use Rattle.record.specs.Program.{bound_kind, bound_number, expr_kind, expr_number}
use Rattle.record.specs.Term.{atom_from, atom_kind, atom_number, encode_atom, encode_atoms, encode_simple, simple_size}
use Rattle.place.specs.Heads.{record_head}
use Rattle.place.proofs.ProgramBytesLaws.{encode_leaf-head}
use Rattle.place.proofs.TermBytesLaws.{encode_simple-plain, encode_simple-pred, encode_simple-succ}

num-head : (v : ℕ) → encode_atom (num v) ≡ record_head 32 8 ++ le 4 v
unfolding atom_kind atom_number
num-head v = encode_leaf-head atom_kind atom_number atom_from (num v)

pub ref-head : (v : ℕ) → encode_atom (ref v) ≡ record_head 33 8 ++ le 4 v
unfolding atom_kind atom_number
ref-head v = encode_leaf-head atom_kind atom_number atom_from (ref v)

pub encode_atoms-nil : encode_atoms [] ≡ []
unfolding encode_atoms
encode_atoms-nil = refl

-- a bound, and a literal or a variable, become an atom of the kind 16 higher
pub atom_of-bytes : (n : Bound) → encode_atom (atom_of n) ≡ record_head (bound_kind n + 16) 8 ++ le 4 (bound_number n)
unfolding atom_of bound_kind bound_number
atom_of-bytes (upto v) = num-head v
atom_of-bytes (upto_var x) = ref-head x

pub simple_of-low : (e : Expr) → expr_kind e < 18 → encode_simple (simple_of e) ≡ record_head (expr_kind e + 16) 8 ++ le 4 (expr_number e)
unfolding simple_of expr_kind expr_number
simple_of-low (lit v) h = encode_simple-plain (num v) ∙ num-head v
simple_of-low (var x) h = encode_simple-plain (ref x) ∙ ref-head x
simple_of-low (inc x) h = absurd (omega arith)
simple_of-low (dec x) h = absurd (omega arith)

-- plus one and minus one become succ and pred of a variable
pub simple_of-high : (e : Expr) → 18 ≤ expr_kind e → encode_simple (simple_of e) ≡ record_head (expr_kind e + 16) 12 ++ (record_head 33 8 ++ le 4 (expr_number e))
unfolding simple_of expr_kind expr_number
simple_of-high (lit v) h = absurd (omega arith)
simple_of-high (var x) h = absurd (omega arith)
simple_of-high (inc x) h = encode_simple-succ (ref x) ∙ ap (λ (y : List ℕ). record_head 34 12 ++ y) (ref-head x)
simple_of-high (dec x) h = encode_simple-pred (ref x) ∙ ap (λ (y : List ℕ). record_head 35 12 ++ y) (ref-head x)

pub simple_size-low : (e : Expr) → expr_kind e < 18 → simple_size (simple_of e) ≡ 8
unfolding simple_of expr_kind simple_size
simple_size-low (lit v) h = refl
simple_size-low (var x) h = refl
simple_size-low (inc x) h = absurd (omega arith)
simple_size-low (dec x) h = absurd (omega arith)

pub simple_size-high : (e : Expr) → 18 ≤ expr_kind e → simple_size (simple_of e) ≡ 12
unfolding simple_of expr_kind simple_size
simple_size-high (lit v) h = absurd (omega arith)
simple_size-high (var x) h = absurd (omega arith)
simple_size-high (inc x) h = refl
simple_size-high (dec x) h = refl

pub simple-most : (s : Simple) → simple_size s ≤ 12
unfolding simple_size
simple-most (plain a) = omega arith
simple-most (succ_of a) = omega arith
simple-most (pred_of a) = omega arith
