-- The verdict on a term, from the verdicts on its parts.
use Prim.Native.Nat.{ℕ}
use mathlib.Core.Path.{◌≡◌, ap, refl, sym, ◌∙◌}
use mathlib.Core.Bool.{◌&&◌, Bool, and-true}
use mathlib.Core.List.{◌++◌, List, [], ◌∷◌}
use mathlib.Core.Option.{Option, none, some}
use Rattle.rules.specs.Literals.{atom_numerals, atoms_numerals, numerals_in, simple_numerals, small_values}
use Rattle.rules.specs.Scope.{atom_in_range, atoms_in_range, in_range, simple_in_range, term_in_range}
use Rattle.rules.specs.Store.{up_to}
use Rattle.rules.specs.Syntax.{Atom, Simple, Term, let_all, let_one, num, rec, ref, tuple}
use Rattle.rules.proofs.LiteralsLaws.{small_values-append}
use Rattle.record.specs.Reading.{bind}
use Rattle.record.proofs.AloneLaws.{bind-found, bind-none}
use Rattle.checker.specs.declared.Verdict.{Verdict}
use Rattle.checker.specs.declared.Verdict.TheVariants.{Good, Malformed}
use Rattle.checker.specs.Verdict.{rated, valued, verdict, worse}
use Rattle.checker.proofs.VerdictLaws.{both-and, rated-and, worse-assoc, worse-good, worse-malformed}
use Rattle.term_checker.specs.TermVerdict.{atom_rating, atoms_rating, simple_rating, term_rating, term_verdict}

-- a turn of a loop: of what was left, a is found now and b is left
pub worse-turn : {whole left : Verdict} (found a b next : Verdict) → whole ≡ worse found left → left ≡ worse a b → next ≡ worse found a → whole ≡ worse next b
worse-turn found a b next e h n = e ∙ ap (worse found) h ∙ sym (worse-assoc found a b) ∙ ap (λ v. worse v b) (sym n)

-- WHAT WAS DECODED

pub verdict-none : {A : Type 0} (p : A → Verdict) (o : Option A) → o ≡ none → verdict p o ≡ Malformed
verdict-none p o e = rw e refl

-- the code finds it malformed
pub none-malformed : {A : Type 0} (p : A → Verdict) {o : Option A} → o ≡ none → Malformed ≡ verdict p o
none-malformed p {o = o} e = sym (verdict-none p o e)

pub verdict-some : {A : Type 0} (p : A → Verdict) (o : Option A) (a : A) → o ≡ some a → verdict p o ≡ p a
verdict-some p o a e = rw e refl

-- one thing decoded and then another: C is the verdict on the whole by that on the first
pub verdict-bind : {A B : Type 0} (p : A → Verdict) (q : B → Verdict) (C : Verdict → Verdict) → C Malformed ≡ Malformed
    → (o : Option A) (f : A → Option B) → ((a : A) → verdict q (f a) ≡ C (p a)) → verdict q (bind o f) ≡ C (verdict p o)
verdict-bind p q C bad none f h = verdict-none q (bind none f) (bind-none none f refl) ∙ sym (ap C (verdict-none p none refl) ∙ bad)
verdict-bind p q C bad (some a) f h = ap (verdict q) (bind-found (some a) f a refl) ∙ h a ∙ ap C (sym (verdict-some p (some a) a refl))

-- THE PARTS OF A TERM

module _ (k largest : ℕ) where
  abbrev small : List ℕ → Bool
  small l = small_values (up_to largest) l

  -- two parts: both tests of the first, and both of the second
  two-parts : (a b : Bool) (l m : List ℕ) → worse (rated (a && b)) (valued (small (l ++ m))) ≡ worse (worse (rated a) (valued (small l))) (worse (rated b) (valued (small m)))
  two-parts a b l m = ap (λ (x : Bool). worse (rated (a && b)) (valued x)) (small_values-append (up_to largest) l m) ∙ both-and a b (small l) (small m)

  -- a variable number in front
  variable-part : (x : ℕ) (b : Bool) (v : Verdict) → worse (rated (in_range k x && b)) v ≡ worse (rated (in_range k x)) (worse (rated b) v)
  variable-part x b v = ap (λ (w : Verdict). worse w v) (rated-and (in_range k x) b) ∙ worse-assoc (rated (in_range k x)) (rated b) v

  -- an atom: a numeral has a value, and a variable a number
  pub numeral-verdict : (o : Option Atom) (v : ℕ) → o ≡ some (num v) → verdict (atom_rating k largest) o ≡ valued (up_to largest v)
  unfolding atom_in_range atom_numerals small_values
  numeral-verdict o v e = verdict-some (atom_rating k largest) o (num v) e ∙ ap valued (and-true (up_to largest v))

  pub reference-verdict : (o : Option Atom) (x : ℕ) → o ≡ some (ref x) → verdict (atom_rating k largest) o ≡ rated (in_range k x)
  unfolding atom_in_range atom_numerals small_values
  reference-verdict o x e = verdict-some (atom_rating k largest) o (ref x) e ∙ worse-good (rated (in_range k x))

  -- a row: none, or its first atom and the rest
  pub none-verdict : (o : Option (List Atom)) → o ≡ some [] → verdict (atoms_rating k largest) o ≡ Good
  unfolding atoms_in_range atoms_numerals small_values
  none-verdict o e = verdict-some (atoms_rating k largest) o [] e

  pub atoms-verdict : (a : Option Atom) (l : Option (List Atom))
      → verdict (atoms_rating k largest) (bind a (λ x. bind l (λ xs. some (x ∷ xs)))) ≡ worse (verdict (atom_rating k largest) a) (verdict (atoms_rating k largest) l)
  unfolding atoms_in_range atoms_numerals
  atoms-verdict a l =
      verdict-bind (atom_rating k largest) (atoms_rating k largest) (λ v. worse v (verdict (atoms_rating k largest) l)) refl a _ λ x.
      verdict-bind (atoms_rating k largest) (atoms_rating k largest) (worse (atom_rating k largest x)) (worse-malformed (atom_rating k largest x)) l _ λ xs.
      verdict-some (atoms_rating k largest) _ (x ∷ xs) refl ∙ two-parts (atom_in_range k x) (atoms_in_range k xs) (atom_numerals x) (atoms_numerals xs)

  -- what a let-one binds: its atom
  pub simple-verdict : (make : Atom → Simple) → ((x : Atom) → simple_rating k largest (make x) ≡ atom_rating k largest x) → (a : Option Atom)
      → verdict (simple_rating k largest) (bind a (λ x. some (make x))) ≡ verdict (atom_rating k largest) a
  simple-verdict make h a =
      verdict-bind (atom_rating k largest) (simple_rating k largest) (λ v. v) refl a _ λ x.
      verdict-some (simple_rating k largest) _ (make x) refl ∙ h x

  pub tuple-verdict : (l : Option (List Atom)) → term_verdict k largest (bind l (λ xs. some (tuple xs))) ≡ verdict (atoms_rating k largest) l
  unfolding term_verdict term_in_range numerals_in
  tuple-verdict l =
      verdict-bind (atoms_rating k largest) (term_rating k largest) (λ v. v) refl l _ λ xs.
      verdict-some (term_rating k largest) _ (tuple xs) refl

  pub let_one-verdict : (x : ℕ) (s : Option Simple) (t : Option Term)
      → term_verdict k largest (bind s (λ e. bind t (λ u. some (let_one x e u)))) ≡ worse (worse (rated (in_range k x)) (verdict (simple_rating k largest) s)) (term_verdict k largest t)
  unfolding term_verdict term_in_range numerals_in
  let_one-verdict x s t =
      let X = rated (in_range k x) in
      let T = term_verdict k largest t in
      verdict-bind (simple_rating k largest) (term_rating k largest) (λ v. worse (worse X v) T) (ap (λ v. worse v T) (worse-malformed X)) s _ λ e.
      let E = simple_rating k largest e in
      verdict-bind (term_rating k largest) (term_rating k largest) (worse (worse X E)) (worse-malformed (worse X E)) t _ λ u.
      verdict-some (term_rating k largest) _ (let_one x e u) refl
      ∙ variable-part x (simple_in_range k e && term_in_range k u) (valued (small (simple_numerals e ++ numerals_in u)))
      ∙ ap (worse X) (two-parts (simple_in_range k e) (term_in_range k u) (simple_numerals e) (numerals_in u))
      ∙ sym (worse-assoc X E (term_rating k largest u))

  pub let_all-verdict : (s t : Option Term) → term_verdict k largest (bind s (λ u. bind t (λ w. some (let_all u w)))) ≡ worse (term_verdict k largest s) (term_verdict k largest t)
  unfolding term_verdict term_in_range numerals_in
  let_all-verdict s t =
      verdict-bind (term_rating k largest) (term_rating k largest) (λ v. worse v (term_verdict k largest t)) refl s _ λ u.
      verdict-bind (term_rating k largest) (term_rating k largest) (worse (term_rating k largest u)) (worse-malformed (term_rating k largest u)) t _ λ w.
      verdict-some (term_rating k largest) _ (let_all u w) refl ∙ two-parts (term_in_range k u) (term_in_range k w) (numerals_in u) (numerals_in w)

  pub rec-verdict : (x : ℕ) (a : Option Atom) (l : Option (List Atom)) (t : Option Term)
      → term_verdict k largest (bind a (λ y. bind l (λ xs. bind t (λ u. some (rec x y xs u)))))
      ≡ worse (worse (worse (rated (in_range k x)) (verdict (atom_rating k largest) a)) (verdict (atoms_rating k largest) l)) (term_verdict k largest t)
  unfolding term_verdict term_in_range numerals_in
  rec-verdict x a l t =
      let X = rated (in_range k x) in
      let L = verdict (atoms_rating k largest) l in
      let T = term_verdict k largest t in
      verdict-bind (atom_rating k largest) (term_rating k largest) (λ v. worse (worse (worse X v) L) T) (ap (λ v. worse (worse v L) T) (worse-malformed X)) a _ λ y.
      let A = atom_rating k largest y in
      verdict-bind (atoms_rating k largest) (term_rating k largest) (λ v. worse (worse (worse X A) v) T) (ap (λ v. worse v T) (worse-malformed (worse X A))) l _ λ xs.
      let M = atoms_rating k largest xs in
      verdict-bind (term_rating k largest) (term_rating k largest) (worse (worse (worse X A) M)) (worse-malformed (worse (worse X A) M)) t _ λ u.
      verdict-some (term_rating k largest) _ (rec x y xs u) refl
      ∙ variable-part x (atom_in_range k y && (atoms_in_range k xs && term_in_range k u)) (valued (small (atom_numerals y ++ (atoms_numerals xs ++ numerals_in u))))
      ∙ ap (worse X) (two-parts (atom_in_range k y) (atoms_in_range k xs && term_in_range k u) (atom_numerals y) (atoms_numerals xs ++ numerals_in u))
      ∙ sym (worse-assoc X A (worse (rated (atoms_in_range k xs && term_in_range k u)) (valued (small (atoms_numerals xs ++ numerals_in u)))))
      ∙ ap (worse (worse X A)) (two-parts (atoms_in_range k xs) (term_in_range k u) (atoms_numerals xs) (numerals_in u))
      ∙ sym (worse-assoc (worse X A) M (term_rating k largest u))
