-- Laws of the path of a term's free variables: what goes on without an atom, each kind of step, and the end.
use Prim.Native.Nat.{◌+◌, ◌-◌, ℕ, suc}
use mathlib.Core.Path.{ap, refl, subst, sym, ◌∙◌, ◌≡◌}
use mathlib.Core.Bool.{◌&&◌, Bool}
use mathlib.Core.List.{List, [], ◌∷◌}
use lib.ListN.{length}
use native.Mathlib.Omega.{arith}
use Rattle.std.specs.Prelude.{None, Some}
use Rattle.buffer.specs.LittleEndian.{val}
use Rattle.buffer.specs.Slice.{part}
use Rattle.record.specs.Term.{simple_size}
use Rattle.rules.specs.FreeVariables.{Vars, adding, atom_of_simple, closed_atom, closed_atoms, closed_in, closed_simple}
use Rattle.rules.specs.Replaced.{replaced, replaced_atom}
use Rattle.rules.specs.Substitution.{substitute}
use Rattle.rules.specs.Syntax.{Atom, Simple, Term, plain, pred_of, succ_of, tuple}
use Rattle.rules.proofs.ReplacedLaws.{replaced-empty, replaced-let_all, replaced-let_one, replaced-rec, replaced-row, replaced-tuple}
use Rattle.place.proofs.TermSubstitutionLaws.{onward-let_all, onward-let_one, onward-rec, onward-row, onward-tuple, row-empty}
use Rattle.substitution.specs.Path.{Ended, Left, Onward, Stepped, left_as}
use Rattle.substitution.specs.Ranged.{RangedAtoms}
use Rattle.substitution.specs.ValuesLeft.{values_left}
use Rattle.substitution.specs.declared.path.Path.{Path}
use Rattle.substitution.specs.declared.path.Path.TheVariants.{At, Row}
use Rattle.substitution.proofs.AtomSubstitutionLaws.{atom-room}
use Rattle.substitution.proofs.RangedLaws.{RangedLetOne, RangedRec, ranged-first, ranged-let_all, ranged-tuple}

pub begin : {l : List ℕ} {from : Path} {k : ℕ} {t : Term} → Left l from k t → Onward l from from k t
begin {t = t} h = record { left = t; here = h; ahead = omega arith; closes = λ S. refl; counts = λ f. refl; stores = λ f. refl; leaves = λ w. refl }

-- How far the next atom can be: the kinds between take no more than this.
abbrev pub rank : List ℕ → Path → ℕ
rank l (At p) = suc (length l - p)
rank l (Row p n) = 0

closed-simple : (S : Vars) (e : Simple) → closed_simple S e ≡ closed_atom S (atom_of_simple e)
unfolding closed_simple
closed-simple S (plain a) = refl
closed-simple S (succ_of a) = refl
closed-simple S (pred_of a) = refl

module _ {l : List ℕ} {from : Path} {k p : ℕ} {t : Term} (o : Onward l from (At p) k t) where
  pub past-let_all : val (part l (p + 2) 2) ≡ 38 → Onward l from (At (p + 4)) k t
  unfolding closed_in values_left
  past-let_all e =
      let v = ranged-let_all o.here e in
      record {
        left = v.view.first;
        here = record { here = v.view.first-at; range = v.first };
        ahead = omega (arith, o.ahead);
        closes = λ S. o.closes S ∙ ap (closed_in S) v.view.is;
        counts = λ f. o.counts f ∙ ap (replaced f) v.view.is ∙ replaced-let_all f v.view.first v.view.last;
        stores = λ f. let w = onward-let_all f o.here.here v.view in w.same ∙ o.stores f;
        leaves = λ w. o.leaves w ∙ ap (values_left w) v.view.is;
      }

  pub into-tuple : val (part l (p + 2) 2) ≡ 36 → Onward l from (Row (p + 4) k) k t
  unfolding substitute
  into-tuple e =
      let v = ranged-tuple o.here e in
      record {
        left = tuple v.view.atoms;
        here = (v.view.atoms, refl, v.row);
        ahead = omega (arith, o.ahead);
        closes = λ S. o.closes S ∙ ap (closed_in S) v.view.is;
        counts = λ f. o.counts f ∙ ap (replaced f) v.view.is;
        stores = λ f. onward-tuple f o.here.here v.view ∙ o.stores f;
        leaves = λ w. o.leaves w ∙ ap (values_left w) v.view.is;
      }

  pub step-let_one : (v : RangedLetOne l p k o.left) (q x : ℕ) → q ≡ p + simple_size v.view.bound → x ≡ val (part l (p + 4) 4)
      → Stepped l from k t (record { at = q; binds = Some x }) (At (q + 8))
  unfolding closed_in values_left
  step-let_one v q x eq ex =
      subst (λ (y : ℕ). Stepped l from k t (record { at = q; binds = Some y }) (At (q + 8))) (sym (ex ∙ v.view.variable-read))
      (subst (λ (j : ℕ). Stepped l from k t (record { at = j; binds = Some v.view.variable }) (At (j + 8))) (sym eq) (record {
        atom = atom_of_simple v.view.bound;
        left = v.view.last;
        here = v.atom;
        low = λ y is. let z : v.view.variable ≡ y = cc in omega (arith, v.low);
        ahead = omega (arith, o.ahead);
        within = v.room;
        closes = λ S.
            o.closes S ∙ ap (closed_in S) v.view.is
            ∙ ap (λ (b : Bool). b && closed_in (adding v.view.variable S) v.view.last) (closed-simple S v.view.bound);
        counts = λ f. o.counts f ∙ ap (replaced f) v.view.is ∙ replaced-let_one f v.view.variable v.view.bound v.view.last;
        stays = λ f m is. let w = onward-let_one f o.here.here v.view m is in record { here = w.here; range = v.last };
        stores = λ f m is. let w = onward-let_one f o.here.here v.view m is in w.same ∙ o.stores f;
        leaves = λ w. o.leaves w ∙ ap (values_left w) v.view.is;
      }))

  pub step-rec : RangedRec l p k o.left → Stepped l from k t (record { at = p + 8; binds = None }) (At (p + 16))
  unfolding closed_in values_left
  step-rec v = record {
    atom = v.view.count;
    left = tuple v.view.start;
    here = v.count;
    low = λ y is. absurd (cc);
    ahead = omega (arith, o.ahead);
    within = omega (arith, atom-room v.count);
    closes = λ S. o.closes S ∙ ap (closed_in S) v.view.is;
    counts = λ f. o.counts f ∙ ap (replaced f) v.view.is ∙ replaced-rec f v.view.variable v.view.count v.view.start v.view.body;
    stays = λ f m is. let w = onward-rec f o.here.here v.view m is in record { here = w.here; range = v.start };
    stores = λ f m is. let w = onward-rec f o.here.here v.view m is in w.same ∙ o.stores f;
    leaves = λ w. o.leaves w ∙ ap (values_left w) v.view.is;
  }

module _ {l : List ℕ} {from : Path} {k p n : ℕ} {t : Term} (o : Onward l from (Row p n) k t) where
  pub step-row : (n ≡ 0 → ⊥) → Stepped l from k t (record { at = p; binds = None }) (Row (p + 8) (n - 1))
  unfolding closed_in closed_atoms substitute values_left
  step-row ne = go o.here.0 o.here.1 o.here.2
    where
      go : (ys : List Atom) → o.left ≡ tuple ys → RangedAtoms l p n ys → Stepped l from k t (record { at = p; binds = None }) (Row (p + 8) (n - 1))
      go [] is h = absurd (ne (sym h.count))
      go (a ∷ ys) is h =
          let first = ranged-first h in
          record {
            atom = a;
            left = tuple ys;
            here = first.0;
            low = λ y is. absurd (cc);
            ahead = omega (arith, o.ahead);
            within = omega (arith, atom-room first.0);
            closes = λ S. o.closes S ∙ ap (closed_in S) is;
            counts = λ f.
                o.counts f ∙ ap (replaced f) is ∙ replaced-tuple f (a ∷ ys) ∙ replaced-row f a ys
                ∙ ap (λ (m : ℕ). replaced_atom f a + m) (sym (replaced-tuple f ys));
            stays = λ f m e.
                let w = onward-row f h.here m e in (ys, refl, record { here = w.0; range = first.1.range; count = first.1.count });
            stores = λ f m e.
                let w = onward-row f h.here m e in
                w.1 ∙ ap (λ (u : Term). left_as l (Row p n) (substitute f u)) (sym is) ∙ o.stores f;
            leaves = λ w. o.leaves w ∙ ap (values_left w) is;
          }

  pub row_ended : n ≡ 0 → Ended l from t
  unfolding closed_in closed_atoms substitute values_left
  row_ended e = go o.here.0 o.here.1 o.here.2
    where
      go : (ys : List Atom) → o.left ≡ tuple ys → RangedAtoms l p n ys → Ended l from t
      go [] is h = record {
        closes = λ S. o.closes S ∙ ap (closed_in S) is;
        counts = λ f. o.counts f ∙ ap (replaced f) is ∙ replaced-tuple f [] ∙ replaced-empty f;
        stores = λ f. sym (row-empty l p) ∙ ap (λ (u : Term). left_as l (Row p n) (substitute f u)) (sym is) ∙ o.stores f;
        leaves = λ w. o.leaves w ∙ ap (values_left w) is;
      }
      go (a ∷ ys) is h = absurd (omega (arith, h.count))

-- with the path as it was read
pub onward-as : {l : List ℕ} {from to path : Path} {k : ℕ} {t : Term} → Onward l from to k t → to ≡ path → Onward l from path k t
onward-as {l} {from} {k = k} {t = t} o e = subst (λ (y : Path). Onward l from y k t) e o
