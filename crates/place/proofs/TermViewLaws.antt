-- What an atom or a term is that stands at an index: one view for each kind.
use Prim.Native.Nat.{◌*◌, ◌+◌, ◌<◌, ◌≤◌, suc, zero, ℕ}
use mathlib.Core.Path.{ap, refl, subst, sym, ◌∙◌, ◌≡◌}
use mathlib.Core.List.{◌++◌, List, [], append_assoc, append-nil, ◌∷◌}
use lib.Dec.{lit<}
use lib.ListN.{get_or, length, length-append}
use native.Mathlib.Omega.{arith}
use Rattle.buffer.specs.LittleEndian.{le, val}
use Rattle.buffer.specs.Slice.{part}
use Rattle.rules.specs.FreeVariables.{atom_of_simple}
use Rattle.rules.specs.Syntax.{Atom, Simple, Term, let_all, let_one, num, plain, pred_of, rec, ref, succ_of, tuple}
use Rattle.record.specs.Term.{AtomWords, atom_from, atom_kind, atom_number, encode_atom, encode_atoms, encode_simple, encode_term_record, kind_of_term, simple_size, term_contents, term_size}
use Rattle.buffer.proofs.LittleEndianLaws.{length-le}
use Rattle.record.proofs.TermLaws.{length-encode_atoms, length-encode_simple}
use Rattle.record.proofs.HeaderLaws.{length-encode_term_record}
use Rattle.place.specs.At.{At}
use Rattle.place.specs.Heads.{record_head}
use Rattle.place.specs.TermView.{AtomAt, AtomView, AtomsAt, LetAllView, LetOfView, LetOneView, RecView, TermAt, TermView, TupleView, is_let_all_at, is_let_one_at, is_rec_at, is_tuple_at, simple_kind}
use Rattle.place.proofs.AtLaws.{at-index, at_part, at_room, at_same, word_read}
use Rattle.place.proofs.HeadsLaws.{kind_at, leaf-read, length_at, length-record_head}
use Rattle.place.proofs.ProgramBytesLaws.{encode_leaf-head}
use Rattle.place.proofs.TermBytesLaws.{atom_kind-range, encode_atoms-cons, encode_simple-plain, encode_simple-pred, encode_simple-succ, encode_term_record-head, encode_term_record-let_all, encode_term_record-let_one, encode_term_record-rec, encode_term_record-tuple, kind-num, kind-plain, kind-pred, kind-ref, kind-succ, kind_of_term-range, length-encode_atom, simple-high, simple-low, simple_kind-range, term_size-let_all, term_size-let_one, term_size-rec, term_size-tuple}

-- ATOMS

pub atom-index : {l : List ℕ} {p q : ℕ} {a : Atom} → AtomAt l p a → p ≡ q → AtomAt l q a
atom-index h e = record { here = at-index h.here e; words = h.words }

-- what is read, with the places of the kind and of the number named
pub atom-read : {l : List ℕ} {p : ℕ} {a : Atom} → AtomAt l p a → (q r : ℕ) → q ≡ p + 2 → r ≡ p + 4
    → (val (part l q 2) ≡ atom_kind a) × (val (part l r 4) ≡ atom_number a) × (part l r 4 ≡ le 4 (atom_number a))
atom-read {l} {p} {a} h q r eq er =
    leaf-read (atom_kind a) (atom_number a) q r (at_same h.here (encode_leaf-head atom_kind atom_number atom_from a)) eq er (omega (arith, atom_kind-range a)) h.words

pub atom-view : {l : List ℕ} {p : ℕ} {a : Atom} → AtomAt l p a → AtomView l p a
atom-view {l} {p} {a} h =
    let r = atom-read h (p + 2) (p + 4) refl refl in
    record {
      room = rw (length-encode_atom a) at (at_room h.here);
      stored = length_at (atom_kind a) 8 (le 4 (atom_number a)) (at_same h.here (encode_leaf-head atom_kind atom_number atom_from a)) (lit< tt);
      kind-read = r.0;
      number_read = r.1;
      number-bytes = r.2;
    }

-- by the kind read, the atom is of the number read
pub as-num : {l : List ℕ} {p : ℕ} {a : Atom} → AtomAt l p a → val (part l (p + 2) 2) ≡ 32 → a ≡ num (val (part l (p + 4) 4))
as-num {a = a} h e = let v = atom-view h in kind-num a (sym v.kind-read ∙ e) ∙ ap num (sym v.number_read)

pub as-ref : {l : List ℕ} {p : ℕ} {a : Atom} → AtomAt l p a → val (part l (p + 2) 2) ≡ 33 → a ≡ ref (val (part l (p + 4) 4))
as-ref {a = a} h e = let v = atom-view h in kind-ref a (sym v.kind-read ∙ e) ∙ ap ref (sym v.number_read)

pub atom-kind : {l : List ℕ} {p : ℕ} {a : Atom} → AtomAt l p a → (32 ≤ val (part l (p + 2) 2)) × (val (part l (p + 2) 2) ≤ 33)
atom-kind {a = a} h = let v = atom-view h in let r = atom_kind-range a in omega arith

-- atoms in a row: the first and the others, and two rows
pub atoms-first : {l : List ℕ} {p : ℕ} {a : Atom} {ys : List Atom} → AtomsAt l p (a ∷ ys) → AtomAt l p a × AtomsAt l (p + 8) ys
atoms-first {l} {p} {a} {ys} h = (
  record { here = at_part h.here [] (encode_atom a) (encode_atoms ys) p (encode_atoms-cons a ys) (omega arith); words = h.words.0 },
  record {
    here = at_part h.here (encode_atom a) (encode_atoms ys) [] (p + 8) (encode_atoms-cons a ys ∙ simp append-nil) (ap (λ (y : ℕ). p + y) (length-encode_atom a));
    words = h.words.1;
  },
)

pub atoms-room : {l : List ℕ} {p : ℕ} {ys : List Atom} → AtomsAt l p ys → p + 8 * length ys ≤ length l
atoms-room {l} {p} {ys} h = rw (length-encode_atoms ys) at (at_room h.here)

-- the atom at number i
pub atoms-nth : {l : List ℕ} {p : ℕ} {ys : List Atom} → AtomsAt l p ys → (i : ℕ) → i < length ys → AtomAt l (p + 8 * i) (get_or ys i (num 0))
atoms-nth {l} {p} {ys} h i b = go i p ys h b
  where
    go : (j q : ℕ) (zs : List Atom) → AtomsAt l q zs → j < length zs → AtomAt l (q + 8 * j) (get_or zs j (num 0))
    go zero q [] k c = absurd (omega arith)
    go zero q (a ∷ zs) k c = atom-index (atoms-first k).0 (omega arith)
    go (suc j) q [] k c = absurd (omega arith)
    go (suc j) q (a ∷ zs) k c = atom-index (go j (q + 8) zs (atoms-first k).1 (omega arith)) (omega arith)

-- TERMS, where the tree is known

pub term-index : {l : List ℕ} {p q k : ℕ} {t : Term} → TermAt l p k t → p ≡ q → TermAt l q k t
term-index h e = record { here = at-index h.here e; words = h.words; small = h.small }

pub term-same : {l : List ℕ} {p k : ℕ} {t u : Term} → TermAt l p k t → t ≡ u → TermAt l p k u
term-same {l} {p} {k} h e = subst (TermAt l p k) e h

pub term-room : {l : List ℕ} {p k : ℕ} {t : Term} → TermAt l p k t → p + (4 + term_size t) ≤ length l
term-room {l} {p} {k} {t} h = rw (length-encode_term_record t) at (at_room h.here)

-- its length and its kind, whatever it is
pub term-read : {l : List ℕ} {p k : ℕ} {t : Term} → TermAt l p k t → (q : ℕ) → q ≡ p + 2 → (val (part l p 2) ≡ 4 + term_size t) × (val (part l q 2) ≡ kind_of_term t)
term-read {l} {p} {k} {t} h q e =
    let r : At l p (record_head (kind_of_term t) (4 + term_size t) ++ term_contents t) = at_same h.here (encode_term_record-head t) in (
      length_at (kind_of_term t) (4 + term_size t) (term_contents t) r h.small,
      rw e (kind_at (kind_of_term t) (4 + term_size t) (term_contents t) r (omega (arith, kind_of_term-range t))),
    )

unfoldable pub tuple-view : {l : List ℕ} {p k : ℕ} (ys : List Atom) → TermAt l p k (tuple ys) → TupleView l p k (tuple ys)
unfolding kind_of_term
tuple-view {l} {p} {k} ys h =
    let c : length ys ≡ k = h.words.0 in
    let z : term_size (tuple ys) ≡ 8 * k = term_size-tuple ys ∙ ap (λ (y : ℕ). 8 * y) c in
    let hd : List ℕ = record_head 36 (4 + 8 * length ys) in
    let r : At l p (hd ++ encode_atoms ys) = at_same h.here (encode_term_record-tuple ys) in
    record {
      atoms = ys;
      is = refl;
      size = z;
      room = term-room h;
      kind = (term-read h (p + 2) refl).1;
      stored = (term-read h (p + 2) refl).0 ∙ ap (λ (y : ℕ). 4 + y) z;
      count = c;
      row = record {
        here = at_part r hd (encode_atoms ys) [] (p + 4) (simp append-nil) (ap (λ (y : ℕ). p + y) (length-record_head 36 (4 + 8 * length ys)));
        words = h.words.1;
      };
    }

-- succ or pred of an atom
pub of-read : {l : List ℕ} (p kind : ℕ) (a : Atom) → At l (p + 8) (record_head kind 12 ++ encode_atom a) → kind < 65536 → AtomWords a
    → (val (part l (p + 10) 2) ≡ kind) × AtomAt l (p + 12) a
of-read {l} p kind a h b w =
    let e : p + 8 + 2 ≡ p + 10 = omega arith in (
      rw e at (kind_at kind 12 (encode_atom a) h b),
      record { here = at_part h (record_head kind 12) (encode_atom a) [] (p + 12) (simp append-nil) (rw (length-record_head kind 12) (omega arith)); words = w },
    )

-- what a let-one binds: the kind read, and its atom
pub simple-read : {l : List ℕ} (p : ℕ) (s : Simple) → At l (p + 8) (encode_simple s) → AtomWords (atom_of_simple s)
    → (val (part l (p + 10) 2) ≡ simple_kind s) × AtomAt l (p + simple_size s) (atom_of_simple s)
unfolding simple_kind simple_size
simple-read {l} p (plain a) h w =
    let a_at : AtomAt l (p + 8) a = record { here = at_same h (encode_simple-plain a); words = w } in
    ((atom-read a_at (p + 10) (p + 12) (omega arith) (omega arith)).0, a_at)
simple-read {l} p (succ_of a) h w = of-read p 34 a (at_same h (encode_simple-succ a)) (lit< tt) w
simple-read {l} p (pred_of a) h w = of-read p 35 a (at_same h (encode_simple-pred a)) (lit< tt) w

unfoldable pub let_one-view : {l : List ℕ} {p k : ℕ} (x : ℕ) (s : Simple) (t : Term) → TermAt l p k (let_one x s t) → LetOneView l p k (let_one x s t)
unfolding kind_of_term
let_one-view {l} {p} {k} x s t h =
    let n : ℕ = simple_size s in
    let hd : List ℕ = record_head 37 (12 + n + term_size t) in
    let r : At l p (hd ++ (le 4 x ++ (encode_simple s ++ encode_term_record t))) = at_same h.here (encode_term_record-let_one x s t) in
    let z : term_size (let_one x s t) ≡ 8 + n + term_size t = term_size-let_one x s t in
    let hs : 4 + (8 + n + term_size t) < 65536 = rw z at h.small in
    let v = word_read x (at_part r hd (le 4 x) (encode_simple s ++ encode_term_record t) (p + 4) refl (ap (λ (y : ℕ). p + y) (length-record_head 37 (12 + n + term_size t)))) h.words.0 in
    let b : At l (p + 8) (encode_simple s) =
    at_part r (hd ++ le 4 x) (encode_simple s) (encode_term_record t) (p + 8) (simp append_assoc) (ap (λ (y : ℕ). p + y) (simp (length-append, length-record_head, length-le))) in
    let c = simple-read p s b h.words.1 in
    record {
      variable = x;
      bound = s;
      last = t;
      is = refl;
      size = z;
      room = term-room h;
      kind = (term-read h (p + 2) refl).1;
      stored = (term-read h (p + 2) refl).0 ∙ omega arith;
      variable-read = v.0;
      variable-bytes = v.1;
      kind-read = c.0;
      bound_at = b;
      atom = c.1;
      last-at = record {
        here = at_part r (hd ++ (le 4 x ++ encode_simple s)) (encode_term_record t) [] (p + (8 + n)) (simp (append_assoc, append-nil))
            (ap (λ (y : ℕ). p + y) (simp (length-append, length-record_head, length-le, length-encode_simple) (omega arith)));
        words = h.words.2;
        small = omega arith;
      };
    }

unfoldable pub let_all-view : {l : List ℕ} {p k : ℕ} (s t : Term) → TermAt l p k (let_all s t) → LetAllView l p k (let_all s t)
unfolding kind_of_term
let_all-view {l} {p} {k} s t h =
    let hd : List ℕ = record_head 38 (12 + term_size s + term_size t) in
    let lh : length hd ≡ 4 = length-record_head 38 (12 + term_size s + term_size t) in
    let r : At l p (hd ++ (encode_term_record s ++ encode_term_record t)) = at_same h.here (encode_term_record-let_all s t) in
    let z : term_size (let_all s t) ≡ 8 + term_size s + term_size t = term_size-let_all s t in
    let hs : 4 + (8 + term_size s + term_size t) < 65536 = rw z at h.small in
    let first-at : TermAt l (p + 4) k s = record {
      here = at_part r hd (encode_term_record s) (encode_term_record t) (p + 4) refl (ap (λ (y : ℕ). p + y) lh);
      words = h.words.0;
      small = omega arith;
    } in
    let f = term-read first-at (p + 6) (omega arith) in
    record {
      first = s;
      last = t;
      is = refl;
      size = z;
      room = term-room h;
      kind = (term-read h (p + 2) refl).1;
      stored = (term-read h (p + 2) refl).0 ∙ omega arith;
      first-stored = f.0;
      first_kind = f.1;
      first-at = first-at;
      last-at = record {
        here = at_part r (hd ++ encode_term_record s) (encode_term_record t) [] (p + (8 + term_size s)) (simp (append_assoc, append-nil))
            (ap (λ (y : ℕ). p + y) (simp (length-append, length-encode_term_record, lh) (omega arith)));
        words = h.words.1;
        small = omega arith;
      };
    }

unfoldable pub rec-view : {l : List ℕ} {p k : ℕ} (x : ℕ) (a : Atom) (ys : List Atom) (t : Term) → TermAt l p k (rec x a ys t) → RecView l p k (rec x a ys t)
unfolding tuple-view kind_of_term
rec-view {l} {p} {k} x a ys t h =
    let N : ℕ = 24 + 8 * length ys + term_size t in
    let hd : List ℕ = record_head 39 N in
    let u : List ℕ = encode_term_record (tuple ys) in
    let r : At l p (hd ++ (le 4 x ++ (encode_atom a ++ (u ++ encode_term_record t)))) = at_same h.here (encode_term_record-rec x a ys t) in
    let c : length ys ≡ k = h.words.2 in
    let z : term_size (rec x a ys t) ≡ 20 + 8 * k + term_size t = rw (← c) (term_size-rec x a ys t) in
    let hs : 4 + (20 + 8 * k + term_size t) < 65536 = rw z at h.small in
    let zu : term_size (tuple ys) ≡ 8 * k = rw (← c) (term_size-tuple ys) in
    let v = word_read x (at_part r hd (le 4 x) (encode_atom a ++ (u ++ encode_term_record t)) (p + 4) refl (ap (λ (y : ℕ). p + y) (length-record_head 39 N))) h.words.0 in
    let count_at : AtomAt l (p + 8) a = record {
      here = at_part r (hd ++ le 4 x) (encode_atom a) (u ++ encode_term_record t) (p + 8) (simp append_assoc) (ap (λ (y : ℕ). p + y) (simp (length-append, length-record_head, length-le)));
      words = h.words.1;
    } in
    let n = atom-read count_at (p + 10) (p + 12) (omega arith) (omega arith) in
    let start-at : TermAt l (p + 16) k (tuple ys) = record {
      here = at_part r (hd ++ (le 4 x ++ encode_atom a)) u (encode_term_record t) (p + 16) (simp append_assoc)
          (ap (λ (y : ℕ). p + y) (simp (length-append, length-record_head, length-le, length-encode_atom)));
      words = (c, h.words.3);
      small = omega arith;
    } in
    let s = tuple-view ys start-at in
    record {
      variable = x;
      count = a;
      start = ys;
      body = t;
      is = refl;
      size = z;
      room = term-room h;
      kind = (term-read h (p + 2) refl).1;
      stored = (term-read h (p + 2) refl).0 ∙ omega arith;
      variable-read = v.0;
      variable-bytes = v.1;
      kind-read = n.0;
      number_read = n.1;
      number-bytes = n.2;
      count_at = count_at;
      start-length = c;
      start-at = start-at;
      row = record { here = at-index {p = p + 16 + 4} {m = encode_atoms ys} s.row.here (omega arith); words = h.words.3 };
      body_at = record {
        here = at_part r (hd ++ (le 4 x ++ (encode_atom a ++ u))) (encode_term_record t) [] (p + (20 + 8 * k)) (simp (append_assoc, append-nil))
            (ap (λ (y : ℕ). p + y) (simp (length-append, length-record_head, length-le, length-encode_atom, length-encode_term_record) (omega arith)));
        words = h.words.4;
        small = omega arith;
      };
    }

-- TERMS, by the kind read

module _ {l : List ℕ} {p k : ℕ} {t : Term} (h : TermAt l p k t) where
  pub term-view : TermView l p k t (val (part l (p + 2) 2))
  term-view = go t h
    where
      go : (u : Term) → TermAt l p k u → TermView l p k u (val (part l (p + 2) 2))
      go (tuple ys) s = let v = tuple-view ys s in rw v.kind (is_tuple_at v)
      go (let_one x b u) s = let v = let_one-view x b u s in rw v.kind (is_let_one_at v)
      go (let_all u w) s = let v = let_all-view u w s in rw v.kind (is_let_all_at v)
      go (rec x a ys u) s = let v = rec-view x a ys u s in rw v.kind (is_rec_at v)

  -- the term's kind is one of the four
  pub term-kind : (36 ≤ val (part l (p + 2) 2)) × (val (part l (p + 2) 2) ≤ 39)
  term-kind = let e = term-read h (p + 2) refl in let r = kind_of_term-range t in omega arith

  pub as-tuple : val (part l (p + 2) 2) ≡ 36 → TupleView l p k t
  as-tuple e = go (val (part l (p + 2) 2)) term-view e
    where
      go : (n : ℕ) → TermView l p k t n → n ≡ 36 → TupleView l p k t
      go _ (is_tuple_at v) q = v
      go _ (is_let_one_at v) q = absurd (omega arith)
      go _ (is_let_all_at v) q = absurd (omega arith)
      go _ (is_rec_at v) q = absurd (omega arith)

  pub as-let_one : val (part l (p + 2) 2) ≡ 37 → LetOneView l p k t
  as-let_one e = go (val (part l (p + 2) 2)) term-view e
    where
      go : (n : ℕ) → TermView l p k t n → n ≡ 37 → LetOneView l p k t
      go _ (is_tuple_at v) q = absurd (omega arith)
      go _ (is_let_one_at v) q = v
      go _ (is_let_all_at v) q = absurd (omega arith)
      go _ (is_rec_at v) q = absurd (omega arith)

  pub as-let_all : val (part l (p + 2) 2) ≡ 38 → LetAllView l p k t
  as-let_all e = go (val (part l (p + 2) 2)) term-view e
    where
      go : (n : ℕ) → TermView l p k t n → n ≡ 38 → LetAllView l p k t
      go _ (is_tuple_at v) q = absurd (omega arith)
      go _ (is_let_one_at v) q = absurd (omega arith)
      go _ (is_let_all_at v) q = v
      go _ (is_rec_at v) q = absurd (omega arith)

  pub as-rec : val (part l (p + 2) 2) ≡ 39 → RecView l p k t
  as-rec e = go (val (part l (p + 2) 2)) term-view e
    where
      go : (n : ℕ) → TermView l p k t n → n ≡ 39 → RecView l p k t
      go _ (is_tuple_at v) q = absurd (omega arith)
      go _ (is_let_one_at v) q = absurd (omega arith)
      go _ (is_let_all_at v) q = absurd (omega arith)
      go _ (is_rec_at v) q = v

  -- the three shapes of what a let-one binds, by the kind at p + 10
  module _ (one : val (part l (p + 2) 2) ≡ 37) where
    pub simple-kind : (32 ≤ val (part l (p + 10) 2)) × (val (part l (p + 10) 2) ≤ 35)
    simple-kind = let v = as-let_one one in let r = simple_kind-range v.bound in omega arith

    let_of : (make : Atom → Simple) (n : ℕ) (v : LetOneView l p k t) → v.bound ≡ make (atom_of_simple v.bound) → simple_size v.bound ≡ n → LetOfView make n l p k t
    let_of make n v b z =
        let a : AtomAt l (p + n) (atom_of_simple v.bound) = atom-index v.atom (ap (λ (y : ℕ). p + y) z) in
        let r = atom-read a (p + (2 + n)) (p + (4 + n)) (omega arith) (omega arith) in
        record {
          variable = v.variable;
          atom = atom_of_simple v.bound;
          last = v.last;
          is = v.is ∙ ap (λ (y : Simple). let_one v.variable y v.last) b;
          size = v.size ∙ omega arith;
          room = v.room;
          kind = v.kind;
          stored = v.stored ∙ omega arith;
          variable-read = v.variable-read;
          variable-bytes = v.variable-bytes;
          kind-read = r.0;
          number_read = r.1;
          number-bytes = r.2;
          atom-at = a;
          last-at = term-index v.last-at (omega arith);
        }

    pub as-let_atom : val (part l (p + 10) 2) < 34 → LetOfView plain 8 l p k t
    as-let_atom e =
        let v = as-let_one one in
        let_of plain 8 v (kind-plain v.bound (rw v.kind-read at e)) (simple-low v.bound (rw v.kind-read at e))

    pub as-let_succ : val (part l (p + 10) 2) ≡ 34 → LetOfView succ_of 12 l p k t
    as-let_succ e =
        let v = as-let_one one in
        let_of succ_of 12 v (kind-succ v.bound (sym v.kind-read ∙ e)) (simple-high v.bound (omega (arith, v.kind-read)))

    pub as-let_pred : val (part l (p + 10) 2) ≡ 35 → LetOfView pred_of 12 l p k t
    as-let_pred e =
        let v = as-let_one one in
        let_of pred_of 12 v (kind-pred v.bound (sym v.kind-read ∙ e)) (simple-high v.bound (omega (arith, v.kind-read)))
