-- A term is a translation exactly where every term met in it is legal; and what is legal, by the kind read.
use Prim.Native.Nat.{◌+◌, ◌<◌, ◌≤◌, ℕ}
use mathlib.Core.Path.{ap, refl, sym, ◌∙◌, ◌≡◌}
use mathlib.Core.Bool.{Bool, ◌&&◌, and_assoc, and-false, and-true, cond, false, not, true}
use mathlib.Core.List.{◌++◌, List, [], ◌∷◌}
use mathlib.Core.Option.{none, some}
use borrow.Author.Tests.{eqb-false, eqb-true}
use lib.Dec.{eqb}
use lib.ListN.{length}
use native.Mathlib.Omega.{arith}
use Rattle.buffer.specs.LittleEndian.{val}
use Rattle.buffer.specs.Slice.{part}
use Rattle.place.specs.TermView.{AtomsAt, LetOfView, TermAt, TermView, is_let_all_at, is_let_one_at, is_rec_at, is_tuple_at}
use Rattle.record.specs.Rows.{is_none}
use Rattle.record.specs.Term.{atom_kind}
use Rattle.record.specs.declared.Header.{Header}
use Rattle.record.specs.Header.{contents_at}
use Rattle.record.specs.Holding.{TermIn}
use Rattle.rules.specs.FreeVariables.{all_vars}
use Rattle.rules.specs.ReadBack.{Source, a_block, a_loop, block_of_source, bound_of, expr_of, nothing, read_back, same_atoms, source, source_let_all, source_let_one, source_rec}
use Rattle.rules.specs.Syntax.{Atom, Block, Bound, Expr, Simple, Term, dec, empty, inc, let_all, let_one, lit, num, plain, pred_of, rec, ref, succ_of, tuple, var}
use Rattle.rules.specs.Translation.{all}
use Rattle.place.proofs.TermBytesLaws.{atom_kind-range, kind-num, kind-ref}
use Rattle.place.proofs.TermViewLaws.{as-let_all, as-let_atom, as-let_pred, as-let_succ, as-rec, as-tuple, simple-kind, term-view}
use Rattle.record.proofs.RowLaws.{is_none-none, is_none-some}
use Rattle.recognition.specs.Recognition.{accepts, has_expr, is_let_all, is_ref, legal, recognised}
use Rattle.recognition.specs.Scan.{TermsUpTo, inner, own_size}
use Rattle.recognition.proofs.ScanLaws.{terms-end, terms-first, terms-record}

-- THE SOURCE OF A TERM, by the sources of the terms inside it

accepts-some : (first : Bool) (x : ℕ) (e : Expr) (o : Source) → accepts first (source_let_one x (some e) o) ≡ accepts false o
unfolding accepts source_let_one
accepts-some first x e (a_block r) = refl
accepts-some first x e (a_loop y b c) = refl
accepts-some first x e nothing = refl

accepts-let_one : (first : Bool) (x : ℕ) (s : Simple) (o : Source) → accepts first (source_let_one x (expr_of s) o) ≡ (has_expr s && accepts false o)
unfolding accepts source_let_one expr_of has_expr is_ref
accepts-let_one first x (plain (num n)) o = accepts-some first x (lit n) o
accepts-let_one first x (plain (ref y)) o = accepts-some first x (var y) o
accepts-let_one first x (succ_of (num n)) o = refl
accepts-let_one first x (succ_of (ref y)) o = accepts-some first x (inc y) o
accepts-let_one first x (pred_of (num n)) o = refl
accepts-let_one first x (pred_of (ref y)) o = accepts-some first x (dec y) o

accepts-let_all : (first : Bool) (o p : Source) → accepts first (source_let_all o p) ≡ (accepts true o && accepts false p)
unfolding accepts source_let_all
accepts-let_all first (a_block b) (a_block r) = refl
accepts-let_all first (a_block b) (a_loop y d c) = refl
accepts-let_all first (a_block b) nothing = refl
accepts-let_all first (a_loop x e b) (a_block r) = refl
accepts-let_all first (a_loop x e b) (a_loop y d c) = refl
accepts-let_all first (a_loop x e b) nothing = refl
accepts-let_all first nothing p = refl

accepts-rec : (first : Bool) (x : ℕ) (b : Bound) (same : Bool) (o : Source) → accepts first (source_rec x b same o) ≡ ((first && same) && accepts false o)
unfolding accepts source_rec
accepts-rec true x b false o = refl
accepts-rec false x b false o = refl
accepts-rec first x b true (a_block c) = sym (and-true (first && true) ∙ and-true first)
accepts-rec first x b true (a_loop y d c) = sym (and-false (first && true))
accepts-rec first x b true nothing = sym (and-false (first && true))

-- a term's own bytes first, then the terms inside it
pub recognised-step : (k : ℕ) (first : Bool) (t : Term) (ts : List Term) → recognised k first (t ∷ ts) ≡ (legal k first t && recognised k (is_let_all t) (inner t ++ ts))
unfolding recognised legal is_let_all inner source accepts
recognised-step k first (tuple ys) ts = ap (λ (b : Bool). b && recognised k false ts) (go (same_atoms ys (all k)))
  where
    go : (same : Bool) → accepts first (cond same (a_block empty) nothing) ≡ same
    go true = refl
    go false = refl
recognised-step k first (let_one x s t) ts =
    ap (λ (b : Bool). b && recognised k false ts) (accepts-let_one first x s (source k t)) ∙ and_assoc (has_expr s) (accepts false (source k t)) (recognised k false ts)
recognised-step k first (let_all s t) ts =
    ap (λ (b : Bool). b && recognised k false ts) (accepts-let_all first (source k s) (source k t))
    ∙ and_assoc (accepts true (source k s)) (accepts false (source k t)) (recognised k false ts)
recognised-step k first (rec x a ys t) ts =
    let same : Bool = same_atoms ys (all k) in
    ap (λ (b : Bool). b && recognised k false ts) (accepts-rec first x (bound_of a) same (source k t))
    ∙ and_assoc (first && same) (accepts false (source k t)) (recognised k false ts)

pub recognised-end : (k : ℕ) (first : Bool) (ts : List Term) → ts ≡ [] → recognised k first ts ≡ true
unfolding recognised
recognised-end k first ts e = rw e refl

-- WHAT IT SAYS OF ONE TERM: some program translates to it

accepts-block : (o : Source) → accepts false o ≡ not (is_none (block_of_source o))
unfolding accepts block_of_source
accepts-block (a_block b) = ap not (sym (is_none-some (some b) b refl))
accepts-block (a_loop x b c) = ap not (sym (is_none-none {A = Block} none refl))
accepts-block nothing = ap not (sym (is_none-none {A = Block} none refl))

pub recognised-one : (k : ℕ) (t : Term) → recognised k false (t ∷ []) ≡ not (is_none (read_back k t))
unfolding recognised read_back
recognised-one k t = and-true (accepts false (source k t)) ∙ accepts-block (source k t)

-- WHAT IS LEGAL, by the kinds read

-- the kind says whether the atom is a variable
is_ref-kind : (a : Atom) → eqb (atom_kind a) 33 ≡ is_ref a
unfolding is_ref
is_ref-kind a = go (eqb (atom_kind a) 33) refl
  where
    go : (b : Bool) → eqb (atom_kind a) 33 ≡ b → b ≡ is_ref a
    go true e = sym (ap is_ref (kind-ref a (eqb-true (atom_kind a) 33 e)))
    go false e = sym (ap is_ref (kind-num a (omega (arith, atom_kind-range a, eqb-false (atom_kind a) 33 e))))

module _ {l : List ℕ} {p k : ℕ} {t : Term} (h : TermAt l p k t) (first : Bool) where
  -- b says of every tuple of k atoms at index q whether it is all
  abbrev pub SaysAll : ℕ → Bool → Type 0
  SaysAll q b = (ys : List Atom) → AtomsAt l q ys → length ys ≡ k → b ≡ same_atoms ys (all k)

  pub legal-tuple : val (part l (p + 2) 2) ≡ 36 → (b : Bool) → SaysAll (p + 4) b → b ≡ legal k first t
  unfolding legal
  legal-tuple e b s = let v = as-tuple h e in s v.atoms v.row v.count ∙ sym (ap (legal k first) v.is)

  module _ (e : val (part l (p + 2) 2) ≡ 37) where
    pub legal-atom : val (part l (p + 10) 2) < 34 → true ≡ legal k first t
    unfolding legal has_expr
    legal-atom b = sym (ap (legal k first) (as-let_atom h e b).is)

    -- it is succ or pred
    of_either : (B : Type 0) → (LetOfView succ_of 12 l p k t → B) → (LetOfView pred_of 12 l p k t → B) → 34 ≤ val (part l (p + 10) 2) → B
    of_either B f g q = go (eqb (val (part l (p + 10) 2)) 34) refl
      where
        go : (c : Bool) → eqb (val (part l (p + 10) 2)) 34 ≡ c → B
        go true r = f (as-let_succ h e (eqb-true (val (part l (p + 10) 2)) 34 r))
        go false r = g (as-let_pred h e (omega (arith, eqb-false (val (part l (p + 10) 2)) 34 r, simple-kind h e)))

    module _ (q : 34 ≤ val (part l (p + 10) 2)) where
      -- the atom's kind is read inside the buffer
      pub legal-room : p + 16 ≤ length l
      legal-room = of_either (p + 16 ≤ length l) (λ v. omega (arith, v.room, v.size)) (λ v. omega (arith, v.room, v.size)) q

      pub legal-of : eqb (val (part l (p + 14) 2)) 33 ≡ legal k first t
      unfolding legal has_expr
      legal-of =
          let of : (a : Atom) → val (part l (p + 14) 2) ≡ atom_kind a → eqb (val (part l (p + 14) 2)) 33 ≡ is_ref a = λ a r. ap (λ (n : ℕ). eqb n 33) r ∙ is_ref-kind a in
          of_either (eqb (val (part l (p + 14) 2)) 33 ≡ legal k first t) (λ v. of v.atom v.kind-read ∙ sym (ap (legal k first) v.is))
          (λ v. of v.atom v.kind-read ∙ sym (ap (legal k first) v.is)) q

  pub legal-let_all : val (part l (p + 2) 2) ≡ 38 → true ≡ legal k first t
  unfolding legal
  legal-let_all e = sym (ap (legal k first) (as-let_all h e).is)

  pub legal-rec : val (part l (p + 2) 2) ≡ 39 → first ≡ true → (b : Bool) → SaysAll (p + 20) b → b ≡ legal k first t
  unfolding legal
  legal-rec e f b s =
      let v = as-rec h e in
      s v.start v.row v.start-length ∙ sym (ap (legal k first) v.is ∙ ap (λ (c : Bool). c && same_atoms v.start (all k)) f)

  pub legal-alone : val (part l (p + 2) 2) ≡ 39 → first ≡ false → false ≡ legal k first t
  unfolding legal
  legal-alone e f = let v = as-rec h e in sym (ap (legal k first) v.is ∙ ap (λ (c : Bool). c && same_atoms v.start (all k)) f)

-- the kind says whether the term is a let-all
pub is_let_all-kind : {l : List ℕ} {p k : ℕ} {t : Term} → TermAt l p k t → eqb (val (part l (p + 2) 2)) 38 ≡ is_let_all t
unfolding is_let_all
is_let_all-kind {l} {p} {k} {t} h = go (val (part l (p + 2) 2)) (term-view h)
  where
    go : (n : ℕ) → TermView l p k t n → eqb n 38 ≡ is_let_all t
    go _ (is_tuple_at v) = sym (ap is_let_all v.is)
    go _ (is_let_one_at v) = sym (ap is_let_all v.is)
    go _ (is_let_all_at v) = sym (ap is_let_all v.is)
    go _ (is_rec_at v) = sym (ap is_let_all v.is)

-- THE LOOP

-- When the loop comes to index `at`, whether t is a translation is the same question of the terms that are left.
pub record ToRecognise (l : List ℕ) (k used : ℕ) (first : Bool) (at : ℕ) (t : Term) : Type 0 where
  pub terms : List Term
  pub row : TermsUpTo l k used at terms
  pub same : recognised k first terms ≡ not (is_none (read_back k t))

pub recognise-start : {h : Header} {t : Term} {l : List ℕ} {used n : ℕ} → TermIn all_vars h t l used → length l ≤ 16384 → n ≡ contents_at h → ToRecognise l h.k used false n t
recognise-start {h} {t} p b e = record { terms = t ∷ []; row = terms-record p b e; same = recognised-one h.k t }

pub recognise-to : {l : List ℕ} {k used : ℕ} {first : Bool} {at p : ℕ} {t : Term} → p ≡ at → ToRecognise l k used first at t → ToRecognise l k used first p t
recognise-to e s = rw e s

module _ {l : List ℕ} {k used : ℕ} {first : Bool} {at : ℕ} {t : Term} (s : ToRecognise l k used first at t) where
  pub recognise-end : used ≤ at → true ≡ not (is_none (read_back k t))
  recognise-end b = sym (recognised-end k first s.terms (terms-end s.row b)) ∙ s.same

  module _ (b : at < used) where
    -- the term that the loop stands at
    pub recognise-here : (u : Term) × TermAt l at k u
    recognise-here = let f = terms-first s.row b in (f.term, f.here)

    recognise-step : (u : Term) (ts : List Term) → s.terms ≡ u ∷ ts → (legal k first u && recognised k (is_let_all u) (inner u ++ ts)) ≡ not (is_none (read_back k t))
    recognise-step u ts e = sym (recognised-step k first u ts) ∙ ap (recognised k first) (sym e) ∙ s.same

    pub recognise-no : ((u : Term) → TermAt l at k u → false ≡ legal k first u) → false ≡ not (is_none (read_back k t))
    recognise-no no-term =
        let f = terms-first s.row b in
        ap (λ (c : Bool). c && recognised k (is_let_all f.term) (inner f.term ++ f.rest)) (no-term f.term f.here) ∙ recognise-step f.term f.rest f.is

    pub recognise-next : (g : Bool) (next : ℕ) → ((u : Term) → TermAt l at k u → true ≡ legal k first u) → ((u : Term) → TermAt l at k u → g ≡ is_let_all u)
        → ((u : Term) → TermAt l at k u → next ≡ at + own_size u) → ToRecognise l k used g next t
    recognise-next g next is-legal is-let_all is-size =
        let f = terms-first s.row b in
        record {
          terms = inner f.term ++ f.rest;
          row = rw (is-size f.term f.here) f.after;
          same = rw (is-let_all f.term f.here)
              (ap (λ (c : Bool). c && recognised k (is_let_all f.term) (inner f.term ++ f.rest)) (is-legal f.term f.here) ∙ recognise-step f.term f.rest f.is);
        }
