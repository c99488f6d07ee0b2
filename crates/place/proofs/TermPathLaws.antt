-- Laws of terms inside the first terms of let-alls: their bytes, the redex, the walk to it, and the reduction there.
use Prim.Native.Nat.{◌*◌, ◌+◌, ◌<◌, ◌≤◌, ℕ}
use mathlib.Core.Path.{ap, refl, sym, ◌∙◌, ◌≡◌}
use mathlib.Core.Bool.{Bool, false, not, true}
use mathlib.Core.List.{◌++◌, List, [], append-nil, map, ◌∷◌}
use borrow.Author.Tests.{eq-eqb, eqb-false, eqb-true, ne_eqb, not-true}
use lib.Dec.{eqb}
use lib.ListN.{length, length-append}
use native.Mathlib.Omega.{arith}
use Rattle.buffer.specs.LittleEndian.{val}
use Rattle.buffer.specs.Slice.{part}
use Rattle.rules.specs.Reduction.{on_next, reduce, reduce_inside, value_of}
use Rattle.rules.specs.Replaced.{replaced_let_all, replaced_next}
use Rattle.rules.specs.Substitution.{from_store, substitute}
use Rattle.rules.specs.Syntax.{Answer, Atom, Term, finished, let_all, let_one, next, over, rec, tuple}
use Rattle.record.specs.Term.{TermWords, encode_term_record, kind_of_term, term_size}
use Rattle.rules.proofs.FinishedLaws.{reduce-finished}
use Rattle.rules.proofs.Tests.{and_both, true-false}
use Rattle.record.proofs.HeaderLaws.{length-encode_term_record}
use Rattle.place.specs.Heads.{record_head}
use Rattle.place.specs.Nesting.{Nests, around, plug}
use Rattle.place.specs.TermPath.{Redex, TermWalk, enters_at, redex, redex_let_all, redex_let_one, redex_rec, term_path, terms}
use Rattle.place.specs.TermView.{TermAt}
use Rattle.place.proofs.NestingLaws.{plug-at, plug-keeps, plug-nil, plug-snoc, size-plug}
use Rattle.place.proofs.TermBytesLaws.{encode_term_record-let_all}
use Rattle.place.proofs.TermViewLaws.{as-let_all, let_all-view, term-index, term-room, term-same}

-- BYTES AND SIZES

pub terms-nest : Nests terms
terms-nest = record {
  length-encode = length-encode_term_record;
  encode-wrap = λ t u.
      let e : 12 + term_size t + term_size u ≡ 4 + (4 + term_size t) + (4 + term_size u) = omega arith in
      encode_term_record-let_all t u ∙ ap (λ (n : ℕ). record_head 38 n ++ (encode_term_record t ++ encode_term_record u)) e;
  inside-le = λ u. omega arith;
}

pub term_size-plug : (p : List Term) (t : Term) → term_size (plug terms p t) ≡ term_size t + around terms p
term_size-plug p t = omega (arith, size-plug terms terms-nest p t)

pub term_words-plug : (k : ℕ) (p : List Term) (t : Term) → TermWords k (plug terms p t) → TermWords k t
term_words-plug k = plug-keeps terms (TermWords k) (λ t u h. h.0)

pub term-plug : {l : List ℕ} {o k : ℕ} (p : List Term) (t : Term) → TermAt l o k (plug terms p t) → TermAt l (o + 4 * length p) k t
term-plug {l} {o} {k} p t h = record {
  here = plug-at terms terms-nest p t h.here;
  words = term_words-plug k p t h.words;
  small = omega (arith, h.small, term_size-plug p t);
}

-- THE REDEX

pub plug-redex : (t : Term) → plug terms (term_path t) (redex t) ≡ t
unfolding plug term_path redex
plug-redex (tuple l) = refl
plug-redex (let_one x s t) = refl
plug-redex (rec x a l t) = refl
plug-redex (let_all (tuple l) u) = refl
plug-redex (let_all (let_one x s t) u) = refl
plug-redex (let_all (let_all s t) u) = ap (λ (v : Term). let_all v u) (plug-redex (let_all s t))
plug-redex (let_all (rec x a l t) u) = refl

pub redex-is : (t : Term) → (kind_of_term t ≡ 36 → ⊥) → Redex (redex t)
unfolding redex kind_of_term
redex-is (tuple l) h = absurd (h refl)
redex-is (let_one x s t) h = redex_let_one
redex-is (rec x a l t) h = redex_rec
redex-is (let_all (tuple l) u) h = redex_let_all
redex-is (let_all (let_one x s t) u) h = redex_let_one
redex-is (let_all (let_all s t) u) h = redex-is (let_all s t) (λ e. absurd (omega arith))
redex-is (let_all (rec x a l t) u) h = redex_rec

pub redex-kind : (t : Term) → Redex t → kind_of_term t ≡ 36 → ⊥
unfolding kind_of_term
redex-kind _ redex_let_one e = omega arith
redex-kind _ redex_let_all e = omega arith
redex-kind _ redex_rec e = omega arith

-- a term at the end of a path is no tuple, unless the path is none
pub plug-kind : (p : List Term) (t : Term) → (kind_of_term t ≡ 36 → ⊥) → kind_of_term (plug terms p t) ≡ 36 → ⊥
unfolding plug kind_of_term
plug-kind [] t h e = h e
plug-kind (u ∷ p) t h e = omega arith

term_path-let_all : (t u : Term) → (kind_of_term t ≡ 36 → ⊥) → term_path (let_all t u) ≡ u ∷ term_path t
unfolding term_path kind_of_term
term_path-let_all (tuple l) u h = absurd (h refl)
term_path-let_all (let_one x s t) u h = refl
term_path-let_all (let_all s t) u h = refl
term_path-let_all (rec x a l t) u h = refl

redex-let_all : (t u : Term) → (kind_of_term t ≡ 36 → ⊥) → redex (let_all t u) ≡ redex t
unfolding redex kind_of_term
redex-let_all (tuple l) u h = absurd (h refl)
redex-let_all (let_one x s t) u h = refl
redex-let_all (let_all s t) u h = refl
redex-let_all (rec x a l t) u h = refl

-- below a path, the path goes on
pub term_path-plug : (p : List Term) (t : Term) → (kind_of_term t ≡ 36 → ⊥) → term_path (plug terms p t) ≡ p ++ term_path t
unfolding plug
term_path-plug [] t h = refl
term_path-plug (u ∷ p) t h = term_path-let_all (plug terms p t) u (plug-kind p t h) ∙ ap (λ (q : List Term). u ∷ q) (term_path-plug p t h)

pub redex-plug : (p : List Term) (t : Term) → (kind_of_term t ≡ 36 → ⊥) → redex (plug terms p t) ≡ redex t
unfolding plug
redex-plug [] t h = refl
redex-plug (u ∷ p) t h = redex-let_all (plug terms p t) u (plug-kind p t h) ∙ redex-plug p t h

-- THE WALK TO IT

-- what the test of a turn is, by the numbers read
pub enters-yes : (l : List ℕ) (p : ℕ) → val (part l (p + 2) 2) ≡ 38 → (val (part l (p + 6) 2) ≡ 36 → ⊥) → enters_at l p ≡ true
unfolding enters_at
enters-yes l p e h = rw (eq-eqb (val (part l (p + 2) 2)) 38 e, ne_eqb (val (part l (p + 6) 2)) 36 h)

pub enters-kind : (l : List ℕ) (p : ℕ) → (val (part l (p + 2) 2) ≡ 38 → ⊥) → enters_at l p ≡ false
unfolding enters_at
enters-kind l p h = rw (ne_eqb (val (part l (p + 2) 2)) 38 h)

pub enters-tuple : (l : List ℕ) (p : ℕ) → val (part l (p + 2) 2) ≡ 38 → val (part l (p + 6) 2) ≡ 36 → enters_at l p ≡ false
unfolding enters_at
enters-tuple l p e h = rw (eq-eqb (val (part l (p + 2) 2)) 38 e, eq-eqb (val (part l (p + 6) 2)) 36 h)

pub term_walk-start : (t : Term) (o : ℕ) → TermWalk t o o
term_walk-start t o = record { passed = []; here = t; whole = sym (plug-nil terms t); place = omega arith; deep = λ h e. absurd (omega arith) }

-- a let-all whose first term is no tuple passes the test
enters-let_all : {l : List ℕ} {p k : ℕ} (t u : Term) → TermAt l p k (let_all t u) → (kind_of_term t ≡ 36 → ⊥) → enters_at l p ≡ true
unfolding let_all-view
enters-let_all {l} {p} t u h ne = let v = let_all-view t u h in enters-yes l p v.kind (λ e. ne (sym v.first_kind ∙ e))

module _ {l : List ℕ} {o p k : ℕ} {t : Term} (h : TermAt l o k t) (w : TermWalk t o p) where
  -- what stands where the walk is
  pub term_walk-at : TermAt l p k w.here
  term_walk-at = term-index (term-plug w.passed w.here (term-same h w.whole)) w.place

  pub term_walk-room : p + 4 ≤ length l
  term_walk-room = omega (arith, term-room term_walk-at)

  -- the kind of a let-all's first term can be read
  pub term_walk-first : val (part l (p + 2) 2) ≡ 38 → p + 8 ≤ length l
  term_walk-first e = let v = as-let_all term_walk-at e in omega (arith, v.room, v.size)

  -- a turn
  pub term_walk-next : enters_at l p ≡ true → TermWalk t o (p + 4)
  unfolding enters_at
  term_walk-next e =
      let c = and_both (eqb (val (part l (p + 2) 2)) 38) (not (eqb (val (part l (p + 6) 2)) 36)) e in
      let v = as-let_all term_walk-at (eqb-true (val (part l (p + 2) 2)) 38 c.0) in
      record {
        passed = w.passed ++ (v.last ∷ []);
        here = v.first;
        whole = w.whole ∙ ap (plug terms w.passed) v.is ∙ sym (plug-snoc terms w.passed v.last v.first);
        place = rw (length-append w.passed (v.last ∷ [])) (omega (arith, w.place));
        deep = λ b q. eqb-false (val (part l (p + 6) 2)) 36 (not-true (eqb (val (part l (p + 6) 2)) 36) c.1) (v.first_kind ∙ q);
      }

  -- the end: the walk has come to the end of the term's path
  pub term_walk-end : enters_at l p ≡ false → p ≡ o + 4 * length (term_path t)
  unfolding kind_of_term term_path
  term_walk-end e = rw (go w.passed w.here w.whole w.deep term_walk-at) (sym w.place)
    where
      -- a term that does not pass the test has no path of its own
      none : (u : Term) → TermAt l p k u → term_path u ≡ []
      none (tuple ys) s = refl
      none (let_one x b u) s = refl
      none (rec x a ys u) s = refl
      none (let_all (tuple ys) u) s = refl
      none (let_all (let_one x b v) u) s = true-false (sym (enters-let_all (let_one x b v) u s (λ q. absurd (omega arith))) ∙ e)
      none (let_all (let_all v z) u) s = true-false (sym (enters-let_all (let_all v z) u s (λ q. absurd (omega arith))) ∙ e)
      none (let_all (rec x a ys v) u) s = true-false (sym (enters-let_all (rec x a ys v) u s (λ q. absurd (omega arith))) ∙ e)

      go : (us : List Term) (u : Term) → t ≡ plug terms us u → (0 < length us → kind_of_term u ≡ 36 → ⊥) → TermAt l p k u → term_path t ≡ us
      go [] u q d s = ap term_path (q ∙ plug-nil terms u) ∙ none u s
      go (r ∷ us) u q d s =
          ap term_path q ∙ term_path-plug (r ∷ us) u (d (omega arith)) ∙ ap (λ (y : List Term). r ∷ (us ++ y)) (none u s) ∙ append-nil (r ∷ us)

pub redex-at : {l : List ℕ} {o k : ℕ} {t : Term} → TermAt l o k t → TermAt l (o + 4 * length (term_path t)) k (redex t)
redex-at {l} {o} {k} {t} h = term-plug (term_path t) (redex t) (term-same h (sym (plug-redex t)))

-- THE REDUCTION

-- a term that is no tuple is not finished
not-finished : (ok : ℕ → Bool) (t : Term) (vs : List ℕ) → (kind_of_term t ≡ 36 → ⊥) → reduce ok t ≡ finished vs → ⊥
unfolding kind_of_term
not-finished ok t vs h e = let f = (reduce-finished ok t).0 (vs, e) in h (ap kind_of_term f.1)

on_next-plug : (p : List Term) (u : Term) (a : Answer Term) → ((vs : List ℕ) → a ≡ finished vs → ⊥) → reduce_inside u (on_next (plug terms p) a) ≡ on_next (plug terms (u ∷ p)) a
unfolding reduce_inside on_next plug
on_next-plug p u (finished vs) h = absurd (h vs refl)
on_next-plug p u over h = refl
on_next-plug p u (next t) h = refl

on_next-nil : (a : Answer Term) → a ≡ on_next (plug terms []) a
unfolding on_next plug
on_next-nil (finished vs) = refl
on_next-nil over = refl
on_next-nil (next t) = refl

pub reduce-plug : (ok : ℕ → Bool) (p : List Term) (t : Term) → (kind_of_term t ≡ 36 → ⊥) → reduce ok (plug terms p t) ≡ on_next (plug terms p) (reduce ok t)
unfolding reduce plug
reduce-plug ok [] t h = on_next-nil (reduce ok t)
reduce-plug ok (u ∷ p) t h = ap (reduce_inside u) (reduce-plug ok p t h) ∙ on_next-plug p u (reduce ok t) (λ vs e. not-finished ok t vs h e)

-- a let-all of a tuple: its last term with the values substituted
pub reduce-let_all-tuple : (ok : ℕ → Bool) (l : List Atom) (u : Term) → reduce ok (let_all (tuple l) u) ≡ next (substitute (from_store (map value_of l)) u)
unfolding reduce reduce_inside
reduce-let_all-tuple ok l u = refl

-- the reduction of a term is that of its redex, at the end of its path
pub reduce-redex : (ok : ℕ → Bool) (t : Term) → (kind_of_term t ≡ 36 → ⊥) → reduce ok t ≡ on_next (plug terms (term_path t)) (reduce ok (redex t))
reduce-redex ok t h =
    ap (reduce ok) (sym (plug-redex t)) ∙ reduce-plug ok (term_path t) (redex t) (redex-kind (redex t) (redex-is t h))

-- and so is what it replaces
pub replaced-redex : (t : Term) → replaced_next t ≡ replaced_next (redex t)
unfolding replaced_next replaced_let_all redex
replaced-redex (tuple l) = refl
replaced-redex (let_one x s t) = refl
replaced-redex (rec x a l t) = refl
replaced-redex (let_all (tuple l) u) = refl
replaced-redex (let_all (let_one x s t) u) = replaced-redex (let_one x s t)
replaced-redex (let_all (let_all s t) u) = replaced-redex (let_all s t)
replaced-redex (let_all (rec x a l t) u) = replaced-redex (rec x a l t)
