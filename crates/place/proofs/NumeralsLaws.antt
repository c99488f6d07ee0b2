-- A finished term at an index: what tells that it is a tuple, and what is read of its numerals.
use Prim.Native.Nat.{◌*◌, ◌+◌, ◌<◌, ◌≤◌, ℕ}
use mathlib.Core.Path.{ap, refl, subst, sym, ◌∙◌, ◌≡◌}
use mathlib.Core.List.{List, map}
use lib.Dec.{eqb}
use lib.ListN.{get_or-map, get_or, length, length-map}
use Rattle.buffer.specs.LittleEndian.{val}
use Rattle.buffer.specs.Slice.{part}
use Rattle.rules.specs.Syntax.{Atom, Term, let_all, let_one, num, rec, tuple}
use Rattle.record.specs.Rows.{finished_term}
use Rattle.record.specs.Term.{atom_number, kind_of_term}
use Rattle.place.specs.TermView.{AtomsAt, TermAt}
use Rattle.place.proofs.TermViewLaws.{as-tuple, atom-view, atoms-nth, term-read}

-- a tuple is finished, and nothing else
finished-kind : (t : Term) → eqb (kind_of_term t) 36 ≡ finished_term t
unfolding kind_of_term finished_term
finished-kind (tuple ys) = refl
finished-kind (let_one x e t) = refl
finished-kind (let_all t u) = refl
finished-kind (rec x a ys t) = refl

pub finished-read : {l : List ℕ} {p k : ℕ} {t : Term} → TermAt l p k t → eqb (val (part l (p + 2) 2)) 36 ≡ finished_term t
finished-read {l} {p} {k} {t} h = ap (λ (n : ℕ). eqb n 36) (term-read h (p + 2) refl).1 ∙ finished-kind t

-- the row of a known tuple
kind-tuple : (ys : List Atom) → kind_of_term (tuple ys) ≡ 36
unfolding kind_of_term
kind-tuple ys = refl

pub tuple-row : {l : List ℕ} {p k : ℕ} {ys : List Atom} → TermAt l p k (tuple ys) → AtomsAt l (p + 4) ys × (length ys ≡ k)
tuple-row {l} {p} {k} {ys} h =
    let v = as-tuple h ((term-read h (p + 2) refl).1 ∙ kind-tuple ys) in
    let e : v.atoms ≡ ys = cc v.is in
    (subst (AtomsAt l (p + 4)) e v.row, ap length (sym e) ∙ v.count)

-- the row of a tuple of numerals
pub numerals-row : {l : List ℕ} {p k : ℕ} (vs : List ℕ) → TermAt l p k (tuple (map num vs)) → AtomsAt l (p + 4) (map num vs) × (length vs ≡ k)
numerals-row vs h = let r = tuple-row h in (r.0, sym (length-map vs num) ∙ r.1)

-- the numeral number i of a row
number-num : (v : ℕ) → atom_number (num v) ≡ v
unfolding atom_number
number-num v = refl

pub nth-numeral : {l : List ℕ} {p : ℕ} (vs : List ℕ) → AtomsAt l p (map num vs) → (i : ℕ) → i < length vs
    → (p + 8 * i + 8 ≤ length l) × (val (part l (p + 8 * i + 4) 4) ≡ get_or vs i 0)
nth-numeral vs h i b =
    let a = atoms-nth h i (rw (length-map vs num) b) in
    let v = atom-view a in
    (v.room, v.number_read ∙ ap atom_number (get_or-map num vs i 0) ∙ number-num (get_or vs i 0))
