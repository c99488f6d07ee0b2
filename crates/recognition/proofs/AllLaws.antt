-- The loop that holds the atoms of a tuple against the variables 1 to k.
use Prim.Native.Nat.{◌+◌, ◌<◌, ◌≤◌, ℕ}
use mathlib.Core.Path.{ap, refl, sym, ◌∙◌, ◌≡◌}
use mathlib.Core.Bool.{◌&&◌, false, true}
use mathlib.Core.List.{List, [], ◌∷◌}
use borrow.Author.Tests.{eq-eqb, ne_eqb}
use lib.ListN.{length}
use native.Mathlib.Numerals.{add-one}
use native.Mathlib.Omega.{arith}
use Rattle.buffer.specs.LittleEndian.{val}
use Rattle.buffer.specs.Slice.{part}
use Rattle.place.specs.TermView.{AtomAt, AtomsAt}
use Rattle.rules.specs.ReadBack.{same_atom, same_atoms}
use Rattle.rules.specs.Syntax.{Atom, ref}
use Rattle.rules.specs.Translation.{all, refs}
use Rattle.place.proofs.TermViewLaws.{as-num, as-ref, atom-kind, atom-view, atoms-first}

-- What is left of the atoms ys when the loop comes to variable i at index p.
pub record AtomsLeft (l : List ℕ) (k i p : ℕ) (ys : List Atom) : Type 0 where
  pub atoms : List Atom
  pub row : AtomsAt l p atoms
  pub count : length atoms + i ≡ k + 1
  pub same : same_atoms ys (all k) ≡ same_atoms atoms (refs i (length atoms))

pub left-start : {l : List ℕ} {k p : ℕ} {ys : List Atom} → AtomsAt l p ys → length ys ≡ k → AtomsLeft l k 1 p ys
left-start {l} {k} {p} {ys} h e = record { atoms = ys; row = h; count = omega arith; same = ap (λ (n : ℕ). same_atoms ys (refs 1 n)) (sym e) }

module _ {l : List ℕ} {k i p : ℕ} {ys : List Atom} (s : AtomsLeft l k i p ys) where
  pub left_end : k < i → true ≡ same_atoms ys (all k)
  unfolding same_atoms refs
  left_end b = sym (s.same ∙ go s.atoms s.count)
    where
      go : (zs : List Atom) → length zs + i ≡ k + 1 → same_atoms zs (refs i (length zs)) ≡ true
      go [] e = refl
      go (a ∷ zs) e = absurd (omega arith)

  -- the first atom left, and what the test of all says of it
  record Next : Type 0 where
    atom : Atom
    rest : List Atom
    here : AtomAt l p atom
    after : AtomsAt l (p + 8) rest
    fewer : length rest + (i + 1) ≡ k + 1
    tested : same_atoms ys (all k) ≡ (same_atom atom (ref i) && same_atoms rest (refs (i + 1) (length rest)))

  left-first : i ≤ k → Next
  unfolding same_atoms refs
  left-first b = go s.atoms s.row s.count s.same
    where
      go : (zs : List Atom) → AtomsAt l p zs → length zs + i ≡ k + 1 → same_atoms ys (all k) ≡ same_atoms zs (refs i (length zs)) → Next
      go [] h e f = absurd (omega arith)
      go (a ∷ zs) h e f = record {
        atom = a;
        rest = zs;
        here = (atoms-first h).0;
        after = (atoms-first h).1;
        fewer = omega arith;
        tested = f ∙ ap (λ (n : ℕ). same_atom a (ref i) && same_atoms zs (refs n (length zs))) (sym (add-one i));
      }

  module _ (b : i ≤ k) where
    pub left-room : p + 8 ≤ length l
    left-room = (atom-view (left-first b).here).room

    pub left-next : val (part l (p + 2) 2) ≡ 33 → val (part l (p + 4) 4) ≡ i → AtomsLeft l k (i + 1) (p + 8) ys
    unfolding same_atom
    left-next e f =
        let n = left-first b in
        let t : same_atom n.atom (ref i) ≡ true = ap (λ (a : Atom). same_atom a (ref i)) (as-ref n.here e) ∙ eq-eqb (val (part l (p + 4) 4)) i f in
        record { atoms = n.rest; row = n.after; count = n.fewer; same = n.tested ∙ rw t refl }

    pub left-kind : (val (part l (p + 2) 2) ≡ 33 → ⊥) → false ≡ same_atoms ys (all k)
    unfolding same_atom
    left-kind e =
        let n = left-first b in
        let t : same_atom n.atom (ref i) ≡ false = ap (λ (a : Atom). same_atom a (ref i)) (as-num n.here (omega (arith, atom-kind n.here))) in
        sym (n.tested ∙ rw t refl)

    pub left-number : val (part l (p + 2) 2) ≡ 33 → (val (part l (p + 4) 4) ≡ i → ⊥) → false ≡ same_atoms ys (all k)
    unfolding same_atom
    left-number e f =
        let n = left-first b in
        let t : same_atom n.atom (ref i) ≡ false = ap (λ (a : Atom). same_atom a (ref i)) (as-ref n.here e) ∙ ne_eqb (val (part l (p + 4) 4)) i f in
        sym (n.tested ∙ rw t refl)
