-- A checked term at an index, by the kind read there: what stands on the path of its free variables.
use Prim.Native.Nat.{◌+◌, ◌-◌, ◌<◌, ◌≤◌, ℕ}
use mathlib.Core.Path.{refl, subst, ◌≡◌}
use mathlib.Core.Bool.{Bool}
use mathlib.Core.List.{List, [], ◌∷◌}
use lib.ListN.{length}
use native.Mathlib.Omega.{arith}
use Rattle.buffer.specs.LittleEndian.{val}
use Rattle.buffer.specs.Slice.{part}
use Rattle.record.specs.declared.Header.{Header}
use Rattle.record.specs.Header.{contents_at, ok_of}
use Rattle.record.specs.Holding.{TermIn}
use Rattle.record.specs.Kind.{kind_named}
use Rattle.record.specs.declared.kind.Kind.{Kind}
use Rattle.record.specs.declared.kind.Kind.TheVariants.{LetAll, LetOne, Tuple}
use Rattle.record.proofs.KindLaws.{not-number}
use Rattle.record.specs.Term.{simple_size}
use Rattle.rules.specs.FreeVariables.{Vars, adding, all_vars, atom_of_simple}
use Rattle.rules.specs.Scope.{AtomWithin, AtomsWithin, SimpleWithin, TermWithin}
use Rattle.rules.specs.Sound.{SoundAtom, SoundAtoms, SoundSimple, SoundTerm}
use Rattle.rules.specs.Syntax.{Atom, Simple, Term, let_all, let_one, num, plain, pred_of, rec, ref, succ_of, tuple}
use Rattle.place.specs.TermView.{simple_kind, LetAllView, LetOneView, RecView, TupleView}
use Rattle.place.proofs.WholeLaws.{term-from}
use Rattle.place.proofs.TermBytesLaws.{atom_kind-range, simple-least}
use Rattle.place.proofs.TermViewLaws.{as-let_all, as-let_one, as-rec, as-tuple, atom-view, atoms-first, term-kind, term-room}
use Rattle.substitution.specs.Ranged.{RangedAtom, RangedAtoms, RangedTerm}

-- THE ATOM OF A LET-ONE

-- what is neither succ nor pred is an atom
pub kind-low : (s : Simple) → (simple_kind s ≡ 34 → ⊥) → (simple_kind s ≡ 35 → ⊥) → simple_kind s < 34
unfolding simple_kind
kind-low (plain a) n m = omega (arith, atom_kind-range a)
kind-low (succ_of a) n m = absurd (n refl)
kind-low (pred_of a) n m = absurd (m refl)

simple-within : (s : Simple) → SimpleWithin 16 s → AtomWithin 16 (atom_of_simple s)
simple-within (plain a) h = h
simple-within (succ_of a) h = h
simple-within (pred_of a) h = h

-- ROWS OF ATOMS

-- the first of them, and the others
pub ranged-first : {l : List ℕ} {p n : ℕ} {a : Atom} {ys : List Atom} → RangedAtoms l p n (a ∷ ys) → RangedAtom l p a × RangedAtoms l (p + 8) (n - 1) ys
ranged-first h =
    let f = atoms-first h.here in
    (record { here = f.0; range = h.range.0 }, record { here = f.1; range = h.range.1; count = omega (arith, h.count) })

-- THE FOUR KINDS

pub record RangedTuple (l : List ℕ) (p k : ℕ) (t : Term) : Type 0 where
  pub view : TupleView l p k t
  pub row : RangedAtoms l (p + 4) k view.atoms

pub record RangedLetOne (l : List ℕ) (p k : ℕ) (t : Term) : Type 0 where
  pub view : LetOneView l p k t
  pub low : view.variable < 17
  pub atom : RangedAtom l (p + simple_size view.bound) (atom_of_simple view.bound)
  pub last : TermWithin 16 view.last
  pub high : 8 ≤ simple_size view.bound
  pub room : p + simple_size view.bound + 8 ≤ length l

pub record RangedLetAll (l : List ℕ) (p k : ℕ) (t : Term) : Type 0 where
  pub view : LetAllView l p k t
  pub first : TermWithin 16 view.first

pub record RangedRec (l : List ℕ) (p k : ℕ) (t : Term) : Type 0 where
  pub view : RecView l p k t
  pub count : RangedAtom l (p + 8) view.count
  pub start : AtomsWithin 16 view.start

module _ {l : List ℕ} {p k : ℕ} {t : Term} (h : RangedTerm l p k t) where
  pub ranged-room : p + 4 ≤ length l
  ranged-room = let r = term-room h.here in omega arith

  pub ranged-tuple : val (part l (p + 2) 2) ≡ 36 → RangedTuple l p k t
  ranged-tuple e =
      let v = as-tuple h.here e in
      record { view = v; row = record { here = v.row; range = subst (TermWithin 16) v.is h.range; count = v.count } }

  pub ranged-let_one : val (part l (p + 2) 2) ≡ 37 → RangedLetOne l p k t
  ranged-let_one e =
      let v = as-let_one h.here e in
      let r : TermWithin 16 (let_one v.variable v.bound v.last) = subst (TermWithin 16) v.is h.range in
      record {
        view = v;
        low = omega (arith, r.0.1);
        atom = record { here = v.atom; range = simple-within v.bound r.1 };
        last = r.2;
        high = simple-least v.bound;
        room = (atom-view v.atom).room;
      }

  pub ranged-let_all : val (part l (p + 2) 2) ≡ 38 → RangedLetAll l p k t
  ranged-let_all e =
      let v = as-let_all h.here e in
      let r : TermWithin 16 (let_all v.first v.last) = subst (TermWithin 16) v.is h.range in
      record { view = v; first = r.0 }

  pub ranged-rec : val (part l (p + 2) 2) ≡ 39 → RangedRec l p k t
  ranged-rec e =
      let v = as-rec h.here e in
      let r : TermWithin 16 (rec v.variable v.count v.start v.body) = subst (TermWithin 16) v.is h.range in
      record { view = v; count = record { here = v.count_at; range = r.1 }; start = r.2 }

  -- what is none of the other three is a rec
  pub else-rec : {r : Kind} → r ≡ kind_named (val (part l (p + 2) 2)) → (r ≡ Tuple → ⊥) → (r ≡ LetOne → ⊥) → (r ≡ LetAll → ⊥) → RangedRec l p k t
  else-rec e a b c =
      let r = term-kind h.here in
      ranged-rec (omega (arith, not-number Tuple tt e a, not-number LetOne tt e b, not-number LetAll tt e c))

-- A RECORD IN A BUFFER

-- the variables of a sound term of few variables
atom-ranged : (ok : ℕ → Bool) (k : ℕ) (S : Vars) (a : Atom) → k ≤ 16 → SoundAtom ok k S a → AtomWithin 16 a
atom-ranged ok k S (num n) h s = tt
atom-ranged ok k S (ref x) h s = (s.0.0, omega (arith, s.0.1))

atoms-ranged : (ok : ℕ → Bool) (k : ℕ) (S : Vars) (ys : List Atom) → k ≤ 16 → SoundAtoms ok k S ys → AtomsWithin 16 ys
atoms-ranged ok k S [] h s = tt
atoms-ranged ok k S (a ∷ ys) h s = (atom-ranged ok k S a h s.0, atoms-ranged ok k S ys h s.1)

simple-ranged : (ok : ℕ → Bool) (k : ℕ) (S : Vars) (e : Simple) → k ≤ 16 → SoundSimple ok k S e → SimpleWithin 16 e
simple-ranged ok k S (plain a) h s = atom-ranged ok k S a h s
simple-ranged ok k S (succ_of a) h s = atom-ranged ok k S a h s
simple-ranged ok k S (pred_of a) h s = atom-ranged ok k S a h s

pub sound-ranged : (ok : ℕ → Bool) (k : ℕ) (S : Vars) (t : Term) → k ≤ 16 → SoundTerm ok k S t → TermWithin 16 t
sound-ranged ok k S (tuple ys) h s = atoms-ranged ok k S ys h s.1
sound-ranged ok k S (let_one x e t) h s = ((s.0.0, omega (arith, s.0.1)), simple-ranged ok k S e h s.1, sound-ranged ok k (adding x S) t h s.2)
sound-ranged ok k S (let_all t u) h s = (sound-ranged ok k S t h s.0, sound-ranged ok k all_vars u h s.1)
sound-ranged ok k S (rec x a ys t) h s =
    ((s.0.0, omega (arith, s.0.1)), atom-ranged ok k S a h s.1, atoms-ranged ok k S ys h s.3, sound-ranged ok k all_vars t h s.4)

pub record-ranged : {S : Vars} {h : Header} {t : Term} {buf : List ℕ} {used : ℕ} → TermIn S h t buf used → length buf ≤ 16384
    → {n : ℕ} → n ≡ contents_at h → RangedTerm buf n h.k t
record-ranged {S} {h} {t} p l e = record { here = term-from p l e; range = sound-ranged (ok_of h) h.k S t p.header.k-high p.sound }
