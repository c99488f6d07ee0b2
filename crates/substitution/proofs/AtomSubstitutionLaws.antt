-- Substitution of an atom that stands at an index: one law for each way out of the code.
use Prim.Native.Nat.{◌+◌, ◌<◌, ◌≤◌, ℕ}
use mathlib.Core.Path.{ap, refl, subst, sym, ◌∙◌, ◌≡◌}
use mathlib.Core.List.{List}
use mathlib.Core.Option.{none, some}
use lib.ListN.{get_or, length}
use native.Mathlib.Omega.{arith}
use Rattle.buffer.specs.LittleEndian.{le, val}
use Rattle.buffer.specs.Slice.{part, put}
use Rattle.record.specs.Term.{encode_atom}
use Rattle.rules.specs.Replaced.{replaced_atom}
use Rattle.rules.specs.Scope.{AtomWithin}
use Rattle.rules.specs.Substitution.{Substitution, or_ref, substitute_atom}
use Rattle.rules.specs.Syntax.{Atom, num, ref}
use Rattle.rules.proofs.ReplacedLaws.{replaced-none, replaced-num, replaced-some}
use Rattle.place.proofs.AtLaws.{put_same}
use Rattle.place.proofs.TermSubstitutionLaws.{num-stored}
use Rattle.place.proofs.TermViewLaws.{as-num, as-ref, atom-kind, atom-view}
use Rattle.substitution.specs.Ranged.{RangedAtom}
use Rattle.std.specs.Prelude.{Option, None, Some}
use Rattle.numerals.specs.Values.{given_by, substitution_of}

-- ONE ATOM

substitute-num : (f : Substitution) (v : ℕ) → substitute_atom f (num v) ≡ num v
unfolding substitute_atom
substitute-num f v = refl

substitute-some : (f : Substitution) (x v : ℕ) → f x ≡ some v → substitute_atom f (ref x) ≡ num v
unfolding substitute_atom or_ref
substitute-some f x v e = ap (or_ref x) e

substitute-none : (f : Substitution) (x : ℕ) → f x ≡ none → substitute_atom f (ref x) ≡ ref x
unfolding substitute_atom or_ref
substitute-none f x e = ap (or_ref x) e

module _ {l : List ℕ} {p : ℕ} {a : Atom} (h : RangedAtom l p a) where
  pub atom-room : p + 8 ≤ length l
  atom-room = (atom-view h.here).room

  -- a variable's number is an index of the array
  pub ranged-low : val (part l (p + 2) 2) ≡ 33 → val (part l (p + 4) 4) < 17
  ranged-low e =
      let w : AtomWithin 16 (ref (val (part l (p + 4) 4))) = subst (AtomWithin 16) (as-ref h.here e) h.range in
      omega (arith, w.1)

  -- THE THREE WAYS OUT, each with the bytes and the count: a numeral, a variable that is replaced, and one that stays
  pub atom-num : (f : Substitution) → (val (part l (p + 2) 2) ≡ 33 → ⊥) → (l ≡ put l p (encode_atom (substitute_atom f a))) × (0 ≡ replaced_atom f a)
  atom-num f ne =
      let k = atom-kind h.here in
      let e : val (part l (p + 2) 2) ≡ 32 = omega arith in
      let is = as-num h.here e in (
        sym (ap (λ (y : Atom). put l p (encode_atom y)) (ap (substitute_atom f) is ∙ substitute-num f (val (part l (p + 4) 4)) ∙ sym is) ∙ put_same h.here.here),
        sym (ap (replaced_atom f) is ∙ replaced-num f (val (part l (p + 4) 4))),
      )

  -- by what the array has for the variable
  module _ (w : List (Option ℕ)) (kind : val (part l (p + 2) 2) ≡ 33) where
    pub atom-stored : (v : ℕ) → get_or w (val (part l (p + 4) 4)) None ≡ Some v
        → (put (put l (p + 2) (le 2 32)) (p + 4) (le 4 v) ≡ put l p (encode_atom (substitute_atom (substitution_of w) a))) × (1 ≡ replaced_atom (substitution_of w) a)
    unfolding substitution_of given_by
    atom-stored v read =
        let s : substitution_of w (val (part l (p + 4) 4)) ≡ some v = ap given_by read in
        let is = as-ref h.here kind in (
          num-stored h.here v
              ∙ ap (λ (y : Atom). put l p (encode_atom y)) (sym (ap (substitute_atom (substitution_of w)) is ∙ substitute-some (substitution_of w) (val (part l (p + 4) 4)) v s)),
          sym (ap (replaced_atom (substitution_of w)) is ∙ replaced-some (substitution_of w) (val (part l (p + 4) 4)) v s),
        )

    pub atom-stays : get_or w (val (part l (p + 4) 4)) None ≡ None → (l ≡ put l p (encode_atom (substitute_atom (substitution_of w) a))) × (0 ≡ replaced_atom (substitution_of w) a)
    unfolding substitution_of given_by
    atom-stays read =
        let s : substitution_of w (val (part l (p + 4) 4)) ≡ none = ap given_by read in
        let is = as-ref h.here kind in (
          sym (ap (λ (y : Atom). put l p (encode_atom y)) (ap (substitute_atom (substitution_of w)) is ∙ substitute-none (substitution_of w) (val (part l (p + 4) 4)) s ∙ sym is) ∙ put_same h.here.here),
          sym (ap (replaced_atom (substitution_of w)) is ∙ replaced-none (substitution_of w) (val (part l (p + 4) 4)) s),
        )

-- what is no value is none
pub not_some : {A : Type 0} (o : Option A) → ((v : A) → o ≡ Some v → ⊥) → o ≡ None
not_some None h = refl
not_some (Some v) h = absurd (h v refl)
