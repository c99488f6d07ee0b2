-- What each head's check says of the whole term, from what it found of the parts.
use Prim.Native.Nat.{◌*◌, ◌+◌, ◌-◌, suc, ℕ, ◌≤◌}
use mathlib.Core.Path.{◌≡◌, ap, ap₂, refl, sym, ◌∙◌}
use mathlib.Core.List.{List}
use mathlib.Core.Option.{Option, none, some}
use Rattle.std.proofs.Common.{◌⊎◌, inl, inr}
use lib.ListN.{drop, length, take}
use native.Mathlib.Omega.{arith}
use Rattle.buffer.specs.LittleEndian.{val}
use Rattle.buffer.specs.Slice.{part}
use Rattle.rules.specs.Literals.{simple_numerals}
use Rattle.rules.specs.Scope.{in_range, simple_in_range}
use Rattle.rules.specs.Syntax.{Atom, plain, pred_of, succ_of}
use Rattle.record.specs.declared.Class.TheVariants.{Term}
use Rattle.record.specs.Alone.{only_simple, only_tuple, record_kind}
use Rattle.record.specs.Class.{class_of}
use Rattle.record.specs.Header.{term_in}
use Rattle.record.specs.Term.{decode_atoms, only_atom}
use Rattle.record.proofs.AloneLaws.{record_kind-least}
use Rattle.record.proofs.ClassLaws.{class-term}
use Rattle.record.proofs.TermReadLaws.{only_simple-plain, only_simple-pred, only_simple-succ, only_tuple-read, term-other, term-tuple}
use Rattle.reader.specs.Head.{next_at}
use Rattle.checker.specs.declared.Verdict.{Verdict}
use Rattle.checker.specs.declared.Verdict.TheVariants.{Malformed}
use Rattle.checker.specs.Verdict.{rated, verdict, worse}
use Rattle.checker.proofs.VerdictLaws.{worse-malformed}
use Rattle.term_checker.specs.declared.Opened.TheVariants.{Last, Two, Whole}
use Rattle.term_checker.specs.TermVerdict.{OpensTerm, atom_rating, atoms_rating, simple_rating, term_rating, term_verdict}
use Rattle.term_checker.specs.RecordAt.{record_at}
use Rattle.term_checker.proofs.WalkLaws.{alone-bytes, moved_inside, next-length, next-most}
use Rattle.term_checker.proofs.TermWalkLaws.{atom-next, atoms-first, let_all-walk, let_one-walk, rec-walk}
use Rattle.term_checker.proofs.TermVerdictLaws.{atoms-verdict, let_all-verdict, let_one-verdict, rec-verdict, simple-verdict, tuple-verdict, verdict-none, worse-turn}

module _ (k largest : ℕ) (l : List ℕ) where
  pub none-opens : term_in k l ≡ none → OpensTerm k largest l (Whole Malformed)
  unfolding term_verdict
  none-opens e = verdict-none (term_rating k largest) (term_in k l) e

  -- a record of another class
  pub class-opens : {kind : ℕ} → record_kind l ≡ kind → (class_of kind ≡ Term → ⊥) → OpensTerm k largest l (Whole Malformed)
  class-opens {kind} r h =
      let other : (n : ℕ) → 32 ≤ n → n ≤ 41 → record_kind l ≡ n → ⊥ = λ n a b e. h (ap class_of (sym r ∙ e) ∙ class-term n a b) in
      none-opens (term-other k l (other 36 (omega arith) (omega arith)) (other 37 (omega arith) (omega arith)) (other 38 (omega arith) (omega arith)) (other 39 (omega arith) (omega arith)))

  pub tuple-opens : {v : Verdict} → record_kind l ≡ 36 → v ≡ verdict (atoms_rating k largest) (only_tuple k (record_at l 0)) → OpensTerm k largest l (Whole v)
  tuple-opens e h =
      ap (term_verdict k largest) (term-tuple k l e) ∙ tuple-verdict k largest (decode_atoms k (drop 4 l))
      ∙ sym (h ∙ ap (verdict (atoms_rating k largest)) (ap (only_tuple k) (alone-bytes l 36 e (omega arith)) ∙ only_tuple-read k l e))

  pub let_one-opens : {x last : ℕ} {i s v : Verdict} → record_kind l ≡ 37 → (last ≡ 8 → ⊥) → x ≡ val (part l 4 4) → i ≡ rated (in_range k x)
      → s ≡ verdict (simple_rating k largest) (only_simple (record_at l 8)) → v ≡ worse i s → last ≡ next_at l 8 → OpensTerm k largest l (Last v last)
  let_one-opens {last = last} {v = v} e goes_on ex ei es ev el =
      let inside : 12 ≤ length l = moved_inside l 8 (λ q. goes_on (el ∙ q)) in (
        omega (arith, el, next-length l 8),
        omega (arith, el, next-most l 8 (omega arith)),
        ap (term_verdict k largest) (let_one-walk k l e)
            ∙ let_one-verdict k largest (val (part l 4 4)) _ _
            ∙ ap₂ (λ (w : Verdict) (n : ℕ). worse w (term_verdict k largest (term_in k (drop n l)))) (sym (ev ∙ ap₂ worse (ei ∙ ap (λ y. rated (in_range k y)) ex) es)) (sym el),
      )

  pub let_all-opens : {second : ℕ} → record_kind l ≡ 38 → second ≡ next_at l 4 → OpensTerm k largest l (Two second)
  let_all-opens {second} e es = (
    omega (arith, es, next-length l 4),
    omega (arith, es, next-most l 4 (record_kind-least l 38 e (omega arith))),
    ap (term_verdict k largest) (let_all-walk k l e)
        ∙ let_all-verdict k largest _ _
        ∙ ap (λ (n : ℕ). worse (term_verdict k largest (term_in k (take (n - 4) (drop 4 l)))) (term_verdict k largest (term_in k (drop n l)))) (sym es),
  )

  pub rec-opens : {x start last : ℕ} {i a c s v : Verdict} → record_kind l ≡ 39 → start ≡ 16 → x ≡ val (part l 4 4) → i ≡ rated (in_range k x)
      → a ≡ verdict (atom_rating k largest) (only_atom (record_at l 8)) → c ≡ worse i a → start ≡ next_at l 8
      → s ≡ verdict (atoms_rating k largest) (only_tuple k (record_at l start)) → v ≡ worse c s → last ≡ next_at l start → OpensTerm k largest l (Last v last)
  rec-opens {start = start} {last = last} e goes_on ex ei ea ec eb es ev el =
      let inside : 12 ≤ length l = moved_inside l 8 (λ q. omega (arith, q, eb)) in
      let here : start ≤ length l = omega (arith, eb, next-most l 8 (omega arith)) in (
        omega (arith, el, next-length l start, eb, next-length l 8),
        omega (arith, el, next-most l start here),
        ap (term_verdict k largest) (rec-walk k l e)
            ∙ rec-verdict k largest (val (part l 4 4)) _ _ _
            ∙ ap (λ (p : ℕ). worse (worse (worse (rated (in_range k (val (part l 4 4)))) (verdict (atom_rating k largest) (only_atom (record_at l 8)))) (verdict (atoms_rating k largest) (only_tuple k (record_at l p)))) (term_verdict k largest (term_in k (drop (next_at l p) l)))) (sym eb)
            ∙ ap₂ (λ (w : Verdict) (n : ℕ). worse w (term_verdict k largest (term_in k (drop n l)))) (sym (ev ∙ ap₂ worse (ec ∙ ap₂ worse (ei ∙ ap (λ y. rated (in_range k y)) ex) ea) es)) (sym el),
      )

-- what a let-one binds, by its kind: succ or pred around an atom, or an atom
module _ (k largest : ℕ) (l : List ℕ) where
  pub wrapped-verdict : (record_kind l ≡ 34) ⊎ (record_kind l ≡ 35) → verdict (simple_rating k largest) (only_simple l) ≡ verdict (atom_rating k largest) (only_atom (drop 4 l))
  unfolding simple_in_range simple_numerals
  wrapped-verdict (inl e) = ap (verdict (simple_rating k largest)) (only_simple-succ l e) ∙ simple-verdict k largest succ_of (λ a. refl) (only_atom (drop 4 l))
  wrapped-verdict (inr e) = ap (verdict (simple_rating k largest)) (only_simple-pred l e) ∙ simple-verdict k largest pred_of (λ a. refl) (only_atom (drop 4 l))

  pub plain-verdict : (record_kind l ≡ 34 → ⊥) → (record_kind l ≡ 35 → ⊥) → verdict (simple_rating k largest) (only_simple l) ≡ verdict (atom_rating k largest) (only_atom l)
  unfolding simple_in_range simple_numerals
  plain-verdict a b = ap (verdict (simple_rating k largest)) (only_simple-plain l a b) ∙ simple-verdict k largest plain (λ a. refl) (only_atom l)

-- A ROW OF ATOMS, where n and one more are left

module _ (k largest : ℕ) (l : List ℕ) (at n : ℕ) (inside : at + 8 * suc n ≤ length l) where
  row : verdict (atoms_rating k largest) (decode_atoms (suc n) (part l at (8 * suc n)))
      ≡ worse (verdict (atom_rating k largest) (only_atom (record_at l at))) (verdict (atoms_rating k largest) (decode_atoms n (part l (at + 8) (8 * n))))
  row = ap (verdict (atoms_rating k largest)) (atoms-first n l at inside) ∙ atoms-verdict k largest (only_atom (record_at l at)) (decode_atoms n (part l (at + 8) (8 * n)))

  -- a turn of the loop: an atom is found
  pub atoms-turn : {whole : Verdict} (found a next : Verdict) → whole ≡ worse found (verdict (atoms_rating k largest) (decode_atoms (suc n) (part l at (8 * suc n))))
      → a ≡ verdict (atom_rating k largest) (only_atom (record_at l at)) → next ≡ worse found a
      → whole ≡ worse next (verdict (atoms_rating k largest) (decode_atoms n (part l (at + 8) (8 * n))))
  atoms-turn found a next e ea en = worse-turn found _ _ next e row (en ∙ ap (worse found) ea)

  -- and none where it is malformed
  pub atoms-malformed : {whole : Verdict} (found : Verdict) → whole ≡ worse found (verdict (atoms_rating k largest) (decode_atoms (suc n) (part l at (8 * suc n))))
      → Malformed ≡ verdict (atom_rating k largest) (only_atom (record_at l at)) → whole ≡ Malformed
  atoms-malformed found e bad = e ∙ ap (worse found) (row ∙ ap (λ (v : Verdict). worse v (verdict (atoms_rating k largest) (decode_atoms n (part l (at + 8) (8 * n))))) (sym bad)) ∙ worse-malformed found

-- the reader stands at the next one
pub atoms-onward : (k largest : ℕ) (l : List ℕ) (at : ℕ) (a : Verdict) → a ≡ verdict (atom_rating k largest) (only_atom (record_at l at)) → (a ≡ Malformed → ⊥) → next_at l at ≡ at + 8
atoms-onward k largest l at a e h = go (only_atom (record_at l at)) refl
  where
    go : (o : Option Atom) → only_atom (record_at l at) ≡ o → next_at l at ≡ at + 8
    go none q = absurd (h (e ∙ verdict-none (atom_rating k largest) _ q))
    go (some x) q = atom-next l at x q
