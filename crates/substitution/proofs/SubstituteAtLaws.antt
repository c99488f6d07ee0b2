-- Substitution along the path of free variables: what is left to do is what was to do at first.
use Rattle.std.proofs.Common.{◌≡◌, ◌∙◌, ap, ap₂, refl, subst, sym, ℕ, ◌+◌, ◌-◌, ◌≤◌, ◌<◌, List, Option, None, Some, length, map, arith}
use Rattle.buffer.specs.Slice.{put}
use Rattle.record.specs.Term.{encode_atom, encode_atoms, encode_term_record}
use Rattle.rules.specs.Replaced.{replaced, replaced_atom, replaced_atoms}
use Rattle.rules.specs.Substitution.{Substitution, substitute, substitute_atom}
use Rattle.rules.specs.Syntax.{Atom, Term, tuple}
use Rattle.rules.proofs.ReplacedLaws.{replaced-tuple}
use Rattle.record.proofs.SizeLaws.{replaced-most}
use Rattle.place.proofs.TermViewLaws.{term-room}
use Rattle.substitution.specs.Path.{Left, Onward, Stepped, except_bound, left_as, unset}
use Rattle.substitution.specs.Ranged.{RangedAtoms, RangedTerm}
use Rattle.substitution.specs.ValuesLeft.{values_left}
use Rattle.substitution.specs.declared.path.Path.{Path}
use Rattle.substitution.specs.declared.path.Path.TheVariants.{At, Row}
use Rattle.substitution.specs.declared.path.Stop.{Stop}
use Rattle.numerals.specs.Values.{substitution_of}
use Rattle.numerals.proofs.ValuesLaws.{values-except}
use Rattle.substitution.proofs.PathLaws.{begin, row_ended, step-row}

-- A term is left, storing its substitution gives `to`, what it replaces, beside the n replaced already, is `total`, and it leaves the array
-- as `end`.
pub record Todo (w : List (Option ℕ)) (l : List ℕ) (path : Path) (k : ℕ) (to : List ℕ) (n total : ℕ) (end : List (Option ℕ)) : Type 0 where
  pub term : Term
  pub here : Left l path k term
  pub goal : left_as l path (substitute (substitution_of w) term) ≡ to
  pub count : n + replaced (substitution_of w) term ≡ total
  pub leaves : values_left w term ≡ end

pub todo-begin : {w : List (Option ℕ)} {l : List ℕ} {p k : ℕ} {t : Term} → RangedTerm l p k t
    → Todo w l (At p) k (put l p (encode_term_record (substitute (substitution_of w) t))) 0 (replaced (substitution_of w) t) (values_left w t)
todo-begin {t = t} h = record { term = t; here = h; goal = refl; count = omega arith; leaves = refl }

-- all that is replaced in a buffer is no more than its bytes
pub replaced-room : (w : List (Option ℕ)) {l : List ℕ} {p k : ℕ} {t : Term} → RangedTerm l p k t → replaced (substitution_of w) t ≤ length l
replaced-room w {t = t} h = omega (arith, replaced-most (substitution_of w) t, term-room h.here)

unset-except : (b : Option ℕ) (w : List (Option ℕ)) → length w ≡ 17 → ((x : ℕ) → b ≡ Some x → x < 17) → substitution_of (unset b w) ≡ except_bound b (substitution_of w)
unset-except None w long low = refl
unset-except (Some x) w long low = values-except w x (let b = low x refl in omega arith)

module _ {w : List (Option ℕ)} {l : List ℕ} {from : Path} {k : ℕ} {to : List ℕ} {n total : ℕ} {end : List (Option ℕ)} (s : Todo w l from k to n total end) where
  abbrev f : Substitution
  f = substitution_of w

  -- where the path goes on without an atom
  pub todo-onward : {path : Path} → ((t : Term) → Left l from k t → Onward l from path k t) → Todo w l path k to n total end
  todo-onward goes =
      let o = goes s.term s.here in
      record { term = o.left; here = o.here; goal = o.stores f ∙ s.goal; count = omega (arith, o.counts f, s.count); leaves = sym (o.leaves w) ∙ s.leaves }

  module _ {stop : Stop} {path : Path} (v : Stepped l from k s.term stop path) (m : ℕ) (is : m ≡ replaced_atom f v.atom) where
    pub todo-most : n + m ≤ total
    todo-most = omega (arith, v.counts f, s.count)

    pub todo-next : (l₁ : List ℕ) → l₁ ≡ put l stop.at (encode_atom (substitute_atom f v.atom)) → length w ≡ 17 → (w₁ : List (Option ℕ)) → w₁ ≡ unset stop.binds w
        → Todo w₁ l₁ path k to (n + m) total end
    todo-next l₁ e long w₁ z =
        let g : substitution_of w₁ ≡ except_bound stop.binds f = ap substitution_of z ∙ unset-except stop.binds w long v.low in
        record {
          term = v.left;
          here = v.stays f l₁ e;
          goal = ap (λ (h : Substitution). left_as l₁ path (substitute h v.left)) g ∙ v.stores f l₁ e ∙ s.goal;
          count = let r = ap (λ (h : Substitution). replaced h v.left) g in omega (arith, r, v.counts f, s.count);
          leaves = ap (λ (y : List (Option ℕ)). values_left y v.left) z ∙ sym (v.leaves w) ∙ s.leaves;
        }

-- A ROW OF ATOMS

pub row-begin : (w : List (Option ℕ)) {l : List ℕ} {p n k : ℕ} {ys : List Atom} → RangedAtoms l p n ys
    → Todo w l (Row p n) k (put l p (encode_atoms (map (substitute_atom (substitution_of w)) ys))) 0 (replaced_atoms (substitution_of w) ys) w
unfolding substitute values_left
row-begin w {ys = ys} h = record { term = tuple ys; here = (ys, refl, h); goal = refl; count = omega (arith, replaced-tuple (substitution_of w) ys); leaves = refl }

-- with the path as it was read, and with the row's place and its count
pub todo-as : {w : List (Option ℕ)} {l : List ℕ} {from path : Path} {k : ℕ} {to : List ℕ} {n total : ℕ} {end : List (Option ℕ)} → Todo w l from k to n total end → from ≡ path → Todo w l path k to n total end
todo-as {w} {l} {k = k} {to} {n} {total} {end} s e = subst (λ (y : Path). Todo w l y k to n total end) e s

pub row_moved : {w : List (Option ℕ)} {l : List ℕ} {p q c d k : ℕ} {to : List ℕ} {n total : ℕ} {end : List (Option ℕ)} → Todo w l (Row p c) k to n total end → p ≡ q → c ≡ d → Todo w l (Row q d) k to n total end
row_moved s e f = todo-as s (ap₂ Row e f)

module _ {w : List (Option ℕ)} {l : List ℕ} {p c k : ℕ} {to : List ℕ} {n total : ℕ} {end : List (Option ℕ)} (s : Todo w l (Row p c) k to n total end) where
  pub row_first : (c ≡ 0 → ⊥) → Stepped l (Row p c) k s.term (record { at = p; binds = None }) (Row (p + 8) (c - 1))
  row_first ne = step-row (begin {k = k} s.here) ne

  pub row_done : c ≡ 0 → (l ≡ to) × (n ≡ total)
  row_done e = let z = row_ended (begin {k = k} s.here) e in (z.stores (substitution_of w) ∙ s.goal, omega (arith, z.counts (substitution_of w), s.count))

  -- all that is left, once it is done
  pub row_all : (l₁ : List ℕ) (m : ℕ)
      → ((ys : List Atom) → RangedAtoms l p c ys → (l₁ ≡ put l p (encode_atoms (map (substitute_atom (substitution_of w)) ys))) × (m ≡ replaced_atoms (substitution_of w) ys))
      → (l₁ ≡ to) × (n + m ≡ total) × (w ≡ end)
  unfolding substitute values_left
  row_all l₁ m done =
      let ys = s.here.0 in
      let is = s.here.1 in
      let e = done ys s.here.2 in (
        e.0 ∙ ap (λ (u : Term). left_as l (Row p c) (substitute (substitution_of w) u)) (sym is) ∙ s.goal,
        (let r = ap (replaced (substitution_of w)) is ∙ replaced-tuple (substitution_of w) ys in omega (arith, r, e.1, s.count)),
        ap (values_left w) (sym is) ∙ s.leaves,
      )
