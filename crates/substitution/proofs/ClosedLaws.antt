-- The test that no variable is free: what is left to test is what was to test at first.
use Rattle.std.proofs.Common.{◌≡◌, ◌∙◌, ap, ap₂, refl, subst, sym, ℕ, ◌+◌, ◌-◌, ◌<◌, Bool, cond, false, true, eqb, List, Option, None, Some, length, replicate, set, arith}
use mathlib.Core.Bool.{◌&&◌}
use mathlib.Core.Option.{none}
use mathlib.Core.Path.{fun_ext}
use borrow.Author.Tests.{eqb-false, eqb-true}
use lib.ListN.{length-replicate}
use lib.Seq.{get_or-set_other, get_or-set_same}
use Rattle.buffer.specs.LittleEndian.{val}
use Rattle.buffer.specs.Slice.{part, put}
use Rattle.record.specs.Term.{encode_atom}
use Rattle.rules.specs.FreeVariables.{Vars, adding, closed, closed_atom, closed_atoms, closed_in, no_vars}
use Rattle.rules.specs.Substitution.{Substitution, or_ref, substitute_atom}
use Rattle.rules.specs.Syntax.{Atom, Term, num, ref, tuple}
use Rattle.numerals.proofs.ValuesLaws.{get_d-alike}
use Rattle.place.proofs.AtLaws.{put_same}
use Rattle.place.proofs.TermViewLaws.{as-num, as-ref, atom-kind}
use Rattle.substitution.specs.Marks.{marked}
use Rattle.substitution.specs.Path.{Left, Onward, Stepped, adding_bound}
use Rattle.substitution.specs.Ranged.{RangedAtom, RangedAtoms, RangedTerm}
use Rattle.substitution.specs.declared.path.Path.{Path}
use Rattle.substitution.specs.declared.path.Path.TheVariants.{At, Row}
use Rattle.substitution.specs.declared.path.Stop.{Stop}
use Rattle.substitution.proofs.PathLaws.{begin, row_ended, step-row}

-- MARKS

unfoldable pub unmarked : List Bool
unmarked = replicate 17 false

pub length-unmarked : length unmarked ≡ 17
unfolding unmarked
length-unmarked = length-replicate 17 false

marked-none : marked unmarked ≡ no_vars
unfolding marked unmarked
marked-none = fun_ext λ y. get_d-alike false 17 y

adding-at : (m : List Bool) (x : ℕ) → x < length m → (y : ℕ) (b : Bool) → eqb y x ≡ b → marked (set m x true) y ≡ cond b true (marked m y)
unfolding marked
adding-at m x h y true e = rw (eqb-true y x e) (get_or-set_same m x true false h)
adding-at m x h y false e = get_or-set_other m x y true false (eqb-false y x e)

-- one mark more
marked-adding : (m : List Bool) (x : ℕ) → x < length m → marked (set m x true) ≡ adding x (marked m)
unfolding adding
marked-adding m x h = fun_ext λ y. adding-at m x h y (eqb y x) refl

-- ONE ATOM

module _ {l : List ℕ} {p : ℕ} {a : Atom} (h : RangedAtom l p a) (S : Vars) where
  pub closed-ref : (x : ℕ) → x ≡ val (part l (p + 4) 4) → val (part l (p + 2) 2) ≡ 33 → S x ≡ closed_atom S a
  unfolding closed_atom
  closed-ref x ex e = sym (ap (closed_atom S) (as-ref h.here e) ∙ ap S (sym ex))

  pub closed-num : (val (part l (p + 2) 2) ≡ 33 → ⊥) → true ≡ closed_atom S a
  unfolding closed_atom
  closed-num ne = let k = atom-kind h.here in sym (ap (closed_atom S) (as-num h.here (omega arith)))

-- ALONG THE PATH

-- A term is left, and the test of it comes to b.
pub record ClosedTodo (m : List Bool) (l : List ℕ) (b : Bool) (path : Path) (k : ℕ) : Type 0 where
  pub term : Term
  pub here : Left l path k term
  pub goal : closed_in (marked m) term ≡ b

pub todo-begin : {l : List ℕ} {p k : ℕ} {t : Term} → RangedTerm l p k t → ClosedTodo unmarked l (closed t) (At p) k
unfolding closed
todo-begin {t = t} h = record { term = t; here = h; goal = ap (λ (S : Vars). closed_in S t) marked-none }

-- a step that writes nothing
unfoldable nothing : Substitution
nothing x = none

substitute-nothing : (a : Atom) → substitute_atom nothing a ≡ a
unfolding substitute_atom or_ref nothing
substitute-nothing (num v) = refl
substitute-nothing (ref x) = refl

unwritten : {l : List ℕ} {p : ℕ} {a : Atom} → RangedAtom l p a → l ≡ put l p (encode_atom (substitute_atom nothing a))
unwritten {l} {p} {a} h = sym (ap (λ (y : Atom). put l p (encode_atom y)) (substitute-nothing a) ∙ put_same h.here.here)

and-found : (a b c : Bool) → (a && b) ≡ c → a ≡ false → false ≡ c
and-found a b c e f = sym (ap (λ (y : Bool). y && b) f) ∙ e

and-next : (a b c : Bool) → (a && b) ≡ c → a ≡ true → b ≡ c
and-next a b c e f = sym (ap (λ (y : Bool). y && b) f) ∙ e

-- the marks with that of the variable that is bound
abbrev pub marking : Option ℕ → List Bool → List Bool
marking None m = m
marking (Some x) m = set m x true

marking-adding : (b : Option ℕ) (m : List Bool) → length m ≡ 17 → ((x : ℕ) → b ≡ Some x → x < 17) → marked (marking b m) ≡ adding_bound b (marked m)
marking-adding None m long low = refl
marking-adding (Some x) m long low = marked-adding m x (let b = low x refl in omega arith)

module _ {m : List Bool} {l : List ℕ} {b : Bool} {from : Path} {k : ℕ} (s : ClosedTodo m l b from k) where
  -- where the path goes on without an atom
  pub todo-onward : {path : Path} → ((t : Term) → Left l from k t → Onward l from path k t) → ClosedTodo m l b path k
  todo-onward goes = let o = goes s.term s.here in record { term = o.left; here = o.here; goal = sym (o.closes (marked m)) ∙ s.goal }

  module _ {stop : Stop} {path : Path} (v : Stepped l from k s.term stop path) (r : Bool) (is : r ≡ closed_atom (marked m) v.atom) where
    both : (r && closed_in (adding_bound stop.binds (marked m)) v.left) ≡ b
    both = ap (λ (y : Bool). y && closed_in (adding_bound stop.binds (marked m)) v.left) is ∙ sym (v.closes (marked m)) ∙ s.goal

    pub todo-found : r ≡ false → false ≡ b
    todo-found f = and-found r (closed_in (adding_bound stop.binds (marked m)) v.left) b both f

    pub todo-next : r ≡ true → length m ≡ 17 → (m₁ : List Bool) → m₁ ≡ marking stop.binds m → ClosedTodo m₁ l b path k
    todo-next f long m₁ z = record {
      term = v.left;
      here = v.stays nothing l (unwritten v.here);
      goal =
          ap (λ (S : Vars). closed_in S v.left) (ap marked z ∙ marking-adding stop.binds m long v.low)
          ∙ and-next r (closed_in (adding_bound stop.binds (marked m)) v.left) b both f;
    }

-- A ROW OF ATOMS

pub row-begin : (m : List Bool) {l : List ℕ} {p n k : ℕ} {ys : List Atom} → RangedAtoms l p n ys → ClosedTodo m l (closed_atoms (marked m) ys) (Row p n) k
unfolding closed_in
row-begin m {ys = ys} h = record { term = tuple ys; here = (ys, refl, h); goal = refl }

-- with the path as it was read, and with the row's place and its count
pub todo-as : {m : List Bool} {l : List ℕ} {b : Bool} {from path : Path} {k : ℕ} → ClosedTodo m l b from k → from ≡ path → ClosedTodo m l b path k
todo-as {m} {l} {b} {k = k} s e = subst (λ (y : Path). ClosedTodo m l b y k) e s

pub row_moved : {m : List Bool} {l : List ℕ} {b : Bool} {p q c d k : ℕ} → ClosedTodo m l b (Row p c) k → p ≡ q → c ≡ d → ClosedTodo m l b (Row q d) k
row_moved s e f = todo-as s (ap₂ Row e f)

module _ {m : List Bool} {l : List ℕ} {b : Bool} {p c k : ℕ} (s : ClosedTodo m l b (Row p c) k) where
  pub row_first : (c ≡ 0 → ⊥) → Stepped l (Row p c) k s.term (record { at = p; binds = None }) (Row (p + 8) (c - 1))
  row_first ne = step-row (begin {k = k} s.here) ne

  pub row_done : c ≡ 0 → true ≡ b
  row_done e = let z = row_ended (begin {k = k} s.here) e in sym (z.closes (marked m)) ∙ s.goal

  -- all that is left, once it is tested
  pub row_all : (r : Bool) → ((ys : List Atom) → RangedAtoms l p c ys → r ≡ closed_atoms (marked m) ys) → r ≡ b
  unfolding closed_in
  row_all r done = done s.here.0 s.here.2 ∙ ap (closed_in (marked m)) (sym s.here.1) ∙ s.goal
