-- Terms: encoding and decoding are inverse, both ways.
use Prim.Native.Nat.{◌*◌, ◌<◌, suc, zero, ℕ, ◌≤◌}
use mathlib.Core.Path.{ap, ap₂, refl, sym, ◌∙◌, ◌≡◌}
use mathlib.Core.List.{◌++◌, List, [], append-nil, ◌∷◌}
use mathlib.Core.Option.{Option, some-injective, some}
use lib.Dec.{lit<}
use lib.ListN.{length, length-append}
use native.Mathlib.Omega.{arith}
use Rattle.buffer.specs.LittleEndian.{Bytes, le}
use Rattle.rules.specs.FreeVariables.{atom_of_simple}
use Rattle.rules.specs.Syntax.{Atom, Simple, Term, let_all, let_one, num, plain, pred_of, rec, ref, succ_of, tuple}
use Rattle.buffer.proofs.LittleEndianLaws.{length-le}
use Rattle.record.specs.Reading.{Got, RecordParts, any_record, at_end, bind, encode_leaf, fail, from_some, got, pick, sub, then, word}
use Rattle.record.specs.Record.{Split, bad, encode_record, end, part, split}
use Rattle.record.specs.Term.{AtomWords, AtomsWords, SimpleKind, TermKind, TermWords, atom_from, atom_kind, atom_number, decode_atoms, decode_term, decode_term_kind, decode_term_step, encode_atom, encode_atoms, encode_simple, is_atom, is_let_all, is_let_one, is_pred, is_rec, is_succ, is_tuple, kind_of_term, last_term, measure_term, not_term, only_atom, plain_of, read_atom, read_simple, same, simple_by, simple_from, simple_kind_if, simple_size, term_contents, term_kind, term_kind_if, term_size}
use Rattle.record.proofs.FixLaws.{fixed-keeps, fixed-level}
use Rattle.record.proofs.ReadingLaws.{Found, any_record-encode_record, any_record-part, at_end-inv, bind_inv, fail-got, from_some-got, leaf-encode, leaf-found, leaf-length, length-encode_leaf, none-inv, pick_inv, sub-encode_record, sub_part, then-cong, then-inv, word-found, word-le, word-length}
use Rattle.record.proofs.RecordLaws.{length-encode_record, split-encode_record, split-length, split-parted}

-- ATOMS

pub atom_from-inv : (k v : ℕ) (x : Atom) → atom_from k v ≡ some x → (k ≡ atom_kind x) × (v ≡ atom_number x)
unfolding atom_from atom_kind atom_number
atom_from-inv k v =
    let P : Atom → Type 0 = λ x. (k ≡ atom_kind x) × (v ≡ atom_number x) in
    pick_inv P k 32 _ _ (λ x h e. (cc, cc)) (pick_inv P k 33 _ _ (λ x h e. (cc, cc)) (none-inv P))

pub atom_from-at : (x : Atom) → atom_from (atom_kind x) (atom_number x) ≡ some x
unfolding atom_from atom_kind atom_number pick
atom_from-at (num v) = refl
atom_from-at (ref v) = refl

pub atom_kind-low : (x : Atom) → atom_kind x < 65536
unfolding atom_kind
atom_kind-low (num v) = lit< tt
atom_kind-low (ref v) = lit< tt

pub length-encode_atoms : (ys : List Atom) → length (encode_atoms ys) ≡ 8 * length ys
unfolding encode_atoms
length-encode_atoms [] = refl
length-encode_atoms (a ∷ ys) = simp (length-append, length-encode_leaf, length-encode_atoms ys) (omega arith)

pub record Atoms (n : ℕ) (bs : List ℕ) (ys : List Atom) : Type 0 where
  pub whole : bs ≡ encode_atoms ys
  pub count : length ys ≡ n
  pub fits : AtomsWords ys

pub decode_atoms-sound : (n : ℕ) (bs : List ℕ) (ys : List Atom) → Bytes bs → decode_atoms n bs ≡ some ys → Atoms n bs ys
unfolding decode_atoms encode_atoms
decode_atoms-sound zero bs ys h e =
    at_end-inv bs _ ys e λ q f.
    rw (← some-injective [] ys f) (record { whole = q; count = refl; fits = tt })
decode_atoms-sound (suc n) bs ys h e =
    then-inv (read_atom bs) _ ys e λ a r e₁ f₁.
    bind_inv (decode_atoms n r) _ ys f₁ λ xs e₂ f₂.
    let l = leaf-found atom_kind atom_number atom_from atom_from-inv bs a r h e₁ in
    let d = decode_atoms-sound n r xs l.0.after e₂ in
    rw (← some-injective (a ∷ xs) ys f₂)
    (record { whole = l.0.whole ∙ ap (λ (y : List ℕ). encode_atom a ++ y) d.whole; count = ap suc d.count; fits = (l.1, d.fits) })

pub decode_atoms-encode : (ys : List Atom) → AtomsWords ys → decode_atoms (length ys) (encode_atoms ys) ≡ some ys
unfolding decode_atoms encode_atoms then bind at_end
decode_atoms-encode [] h = refl
decode_atoms-encode (a ∷ ys) h =
    rw (leaf-encode atom_kind atom_number atom_from atom_from-at atom_kind-low a (encode_atoms ys) h.0, decode_atoms-encode ys h.1) refl

-- WHAT A LET-ONE BINDS

pub length-encode_simple : (e : Simple) → length (encode_simple e) ≡ simple_size e
unfolding encode_simple simple_size
length-encode_simple (plain a) = length-encode_leaf atom_kind atom_number atom_from a
length-encode_simple (succ_of a) = simp (length-encode_record, length-encode_leaf)
length-encode_simple (pred_of a) = simp (length-encode_record, length-encode_leaf)

pub only_atom-sound : (b : List ℕ) (a : Atom) → Bytes b → only_atom b ≡ some a → (b ≡ encode_atom a) × AtomWords a
unfolding only_atom
only_atom-sound b a h e =
    then-inv (read_atom b) _ a e λ c r e₁ f₁.
    at_end-inv r _ a f₁ λ n f₂.
    let l = leaf-found atom_kind atom_number atom_from atom_from-inv b c r h e₁ in
    rw (← some-injective c a f₂) (l.0.whole ∙ ap (λ (y : List ℕ). encode_atom c ++ y) n ∙ append-nil (encode_atom c), l.1)

pub only_atom-encode : (a : Atom) → AtomWords a → only_atom (encode_atom a) ≡ some a
unfolding only_atom then at_end
only_atom-encode a h =
    let l : read_atom (encode_atom a) ≡ got a [] = ap read_atom (sym (append-nil (encode_atom a))) ∙ leaf-encode atom_kind atom_number atom_from atom_from-at atom_kind-low a [] h in
    rw l refl

pub read_simple-found : (bs : List ℕ) (e : Simple) (r : List ℕ) → Bytes bs → read_simple bs ≡ got e r → Found bs (encode_simple e) r × AtomWords (atom_of_simple e)
unfolding read_simple simple_from simple_by encode_simple plain_of
read_simple-found bs e r h q = go (split bs) refl q
  where
    -- succ_of and pred_of: a record around one plain
    wrapped : (k : ℕ) (make : Atom → Simple) → ((a : Atom) → encode_simple (make a) ≡ encode_record k (encode_atom a)) → ((a : Atom) → atom_of_simple (make a) ≡ a)
        → (b r₁ : List ℕ) → split bs ≡ part k b r₁ → from_some (bind (only_atom b) (λ a. some (make a))) r₁ ≡ got e r
        → Found bs (encode_simple e) r × AtomWords (atom_of_simple e)
    wrapped k make enc-is atom-is b r₁ s f =
        let o = from_some-got (bind (only_atom b) (λ a. some (make a))) r₁ e r f in
        bind_inv (only_atom b) (λ a. some (make a)) e o.0 λ a e₁ f₁.
        let g = split-parted bs k b r₁ h s in
        let l = only_atom-sound b a g.inside e₁ in
        rw (← some-injective (make a) e f₁, enc-is a, atom-is a, ← o.1)
        (record { whole = g.whole ∙ ap (λ (y : List ℕ). encode_record k y ++ r₁) l.0; after = g.after }, l.1)

    at : (k : ℕ) (b r₁ : List ℕ) → split bs ≡ part k b r₁ → (c : SimpleKind k) → simple_by c bs b r₁ ≡ got e r → Found bs (encode_simple e) r × AtomWords (atom_of_simple e)
    at k b r₁ s (is_succ p) f = wrapped 34 succ_of (λ a. refl) (λ a. refl) b r₁ (rw p at s) f
    at k b r₁ s (is_pred p) f = wrapped 35 pred_of (λ a. refl) (λ a. refl) b r₁ (rw p at s) f
    at k b r₁ s is_atom f = one (read_atom bs) refl f
      where
        one : (g : Got Atom) → read_atom bs ≡ g → plain_of g ≡ got e r → Found bs (encode_simple e) r × AtomWords (atom_of_simple e)
        one fail u v = absurd (fail-got e r v)
        one (got a r₂) u v =
            let l = leaf-found atom_kind atom_number atom_from atom_from-inv bs a r₂ h u in
            let ee : e ≡ plain a = cc in
            let re : r ≡ r₂ = cc in
            rw (ee, re) l

    go : (s : Split) → split bs ≡ s → simple_from bs s ≡ got e r → Found bs (encode_simple e) r × AtomWords (atom_of_simple e)
    go end s f = absurd (fail-got e r f)
    go bad s f = absurd (fail-got e r f)
    go (part k b r₁) s f = at k b r₁ s (simple_kind_if (same k 34) (same k 35)) f

pub read_simple-shorter : (bs : List ℕ) (e : Simple) (r : List ℕ) → read_simple bs ≡ got e r → length r < length bs
unfolding read_simple simple_from simple_by plain_of
read_simple-shorter bs e r q = go (split bs) refl q
  where
    at : (k : ℕ) (b r₁ : List ℕ) → split bs ≡ part k b r₁ → (c : SimpleKind k) → simple_by c bs b r₁ ≡ got e r → length r < length bs
    at k b r₁ s (is_succ p) f = omega (arith, split-length bs k b r₁ s, ap length (from_some-got (bind (only_atom b) (λ a. some (succ_of a))) r₁ e r f).1)
    at k b r₁ s (is_pred p) f = omega (arith, split-length bs k b r₁ s, ap length (from_some-got (bind (only_atom b) (λ a. some (pred_of a))) r₁ e r f).1)
    at k b r₁ s is_atom f = one (read_atom bs) refl f
      where
        one : (g : Got Atom) → read_atom bs ≡ g → plain_of g ≡ got e r → length r < length bs
        one fail u v = absurd (fail-got e r v)
        one (got a r₂) u v =
            let re : r ≡ r₂ = cc in
            omega (arith, leaf-length atom_kind atom_number atom_from bs a r₂ u, ap length re)

    go : (s : Split) → split bs ≡ s → simple_from bs s ≡ got e r → length r < length bs
    go end s f = absurd (fail-got e r f)
    go bad s f = absurd (fail-got e r f)
    go (part k b r₁) s f = at k b r₁ s (simple_kind_if (same k 34) (same k 35)) f

atom-split : (a : Atom) (r : List ℕ) → split (encode_atom a ++ r) ≡ part (atom_kind a) (le 4 (atom_number a)) r
unfolding encode_leaf
atom-split a r = split-encode_record (atom_kind a) (le 4 (atom_number a)) r (atom_kind-low a) (simp length-le (lit< tt))

pub read_simple-encode : (e : Simple) (r : List ℕ) → AtomWords (atom_of_simple e) → read_simple (encode_simple e ++ r) ≡ got e r
unfolding read_simple simple_from simple_by encode_simple simple_kind_if from_some bind plain_of atom_kind atom_number
read_simple-encode (plain (num v)) r h =
    let l : read_atom (encode_atom (num v) ++ r) ≡ got (num v) r = leaf-encode atom_kind atom_number atom_from atom_from-at atom_kind-low (num v) r h in
    let s : split (encode_atom (num v) ++ r) ≡ part 32 (le 4 v) r = atom-split (num v) r in
    rw (s, l) refl
read_simple-encode (plain (ref v)) r h =
    let l : read_atom (encode_atom (ref v) ++ r) ≡ got (ref v) r = leaf-encode atom_kind atom_number atom_from atom_from-at atom_kind-low (ref v) r h in
    let s : split (encode_atom (ref v) ++ r) ≡ part 33 (le 4 v) r = atom-split (ref v) r in
    rw (s, l) refl
read_simple-encode (succ_of a) r h =
    let s : split (encode_record 34 (encode_atom a) ++ r) ≡ part 34 (encode_atom a) r = split-encode_record 34 (encode_atom a) r (lit< tt) (simp length-encode_leaf (lit< tt)) in
    rw (s, only_atom-encode a h) refl
read_simple-encode (pred_of a) r h =
    let s : split (encode_record 35 (encode_atom a) ++ r) ≡ part 35 (encode_atom a) r = split-encode_record 35 (encode_atom a) r (lit< tt) (simp length-encode_leaf (lit< tt)) in
    rw (s, only_atom-encode a h) refl

-- TERMS

pub length-term_contents : (t : Term) → length (term_contents t) ≡ term_size t
unfolding term_contents term_size
length-term_contents (tuple ys) = length-encode_atoms ys
length-term_contents (let_one x e t) = simp (length-append, length-encode_record, length-le, length-encode_simple, length-term_contents t) (omega arith)
length-term_contents (let_all s t) = simp (length-append, length-encode_record, length-term_contents s, length-term_contents t) (omega arith)
length-term_contents (rec x a ys t) = simp (length-append, length-encode_record, length-le, length-encode_leaf, length-encode_atoms, length-term_contents t) (omega arith)

pub kind_of_term-low : (t : Term) → kind_of_term t < 65536
unfolding kind_of_term
kind_of_term-low (tuple ys) = lit< tt
kind_of_term-low (let_one x e t) = lit< tt
kind_of_term-low (let_all s t) = lit< tt
kind_of_term-low (rec x a ys t) = lit< tt

module _ (n : ℕ) (D E : RecordParts → Option Term) (m : ℕ) (h : (y : RecordParts) → length y.body < m → D y ≡ E y) where
  -- a record inside a list that is not longer is decoded alike
  last-same : (b : List ℕ) → length b ≤ m → last_term n D b ≡ last_term n E b
  unfolding last_term
  last-same b l =
      then-cong (any_record b) _ _ λ g r e.
      let q = split-length b g.kind g.body r (any_record-part b g r e) in
      rw (h g (omega arith)) refl

decode_term_step-local : (n : ℕ) (D E : RecordParts → Option Term) (x : RecordParts) → ((y : RecordParts) → measure_term y < measure_term x → D y ≡ E y) → decode_term_step n D x ≡ decode_term_step n E x
unfolding decode_term_step decode_term_kind measure_term
decode_term_step-local n D E x h = at x.kind x.body h (term_kind x.kind)
  where
    at : (k : ℕ) (b : List ℕ) → ((y : RecordParts) → length y.body < length b → D y ≡ E y) → (c : TermKind k) → decode_term_kind n D c b ≡ decode_term_kind n E c b
    at k b h (is_tuple p) = refl
    at k b h (is_let_one p) =
        then-cong (word b) _ _ λ x b₁ e₁.
        then-cong (read_simple b₁) _ _ λ e b₂ e₂.
        let l₁ = word-length b x b₁ e₁ in
        let l₂ = read_simple-shorter b₁ e b₂ e₂ in
        rw (last-same n D E (length b) h b₂ (omega arith)) refl
    at k b h (is_let_all p) =
        then-cong (any_record b) _ _ λ g b₁ e₁.
        let q = split-length b g.kind g.body b₁ (any_record-part b g b₁ e₁) in
        rw (h g (omega arith), last-same n D E (length b) h b₁ (omega arith)) refl
    at k b h (is_rec p) =
        then-cong (word b) _ _ λ x b₁ e₁.
        then-cong (read_atom b₁) _ _ λ a b₂ e₂.
        then-cong (sub 36 b₂) _ _ λ c b₃ e₃.
        let l₁ = word-length b x b₁ e₁ in
        let l₂ = leaf-length atom_kind atom_number atom_from b₁ a b₂ e₂ in
        let l₃ = split-length b₂ 36 c b₃ (sub_part 36 b₂ c b₃ e₃) in
        rw (last-same n D E (length b) h b₃ (omega arith)) refl
    at k b h not_term = refl

pub decode_term-step : (n : ℕ) (x : RecordParts) → decode_term n x ≡ decode_term_step n (decode_term n) x
unfolding decode_term
decode_term-step n x = fixed-level measure_term (decode_term_step n) (decode_term_step-local n) x

-- WHAT DECODES IS THE ENCODING OF WHAT IT DECODES TO

pub record DecodedTerm (n : ℕ) (g : RecordParts) (t : Term) : Type 0 where
  pub is-kind : g.kind ≡ kind_of_term t
  pub is_body : g.body ≡ term_contents t
  pub fits : TermWords n t

module _ (n : ℕ) (D : RecordParts → Option Term) (ih : (y : RecordParts) (t : Term) → D y ≡ some t → Bytes y.body → DecodedTerm n y t) where
  pub last-decoded : (b : List ℕ) (t : Term) → Bytes b → last_term n D b ≡ some t → (b ≡ encode_record (kind_of_term t) (term_contents t)) × TermWords n t
  unfolding last_term
  last-decoded b t h f =
      then-inv (any_record b) _ t f λ g r e₁ f₁.
      at_end-inv r _ t f₁ λ q f₂.
      let s = split-parted b g.kind g.body r h (any_record-part b g r e₁) in
      let d = ih g t f₂ s.inside in
      (s.whole ∙ ap₂ (λ (y z : List ℕ). y ++ z) (ap₂ encode_record d.is-kind d.is_body) q ∙ append-nil (encode_record (kind_of_term t) (term_contents t)), d.fits)

  step-decoded_term : (x : RecordParts) (t : Term) → decode_term_step n D x ≡ some t → Bytes x.body → DecodedTerm n x t
  unfolding decode_term_step decode_term_kind kind_of_term term_contents
  step-decoded_term x t f h = at (term_kind x.kind) f
    where
      at : (c : TermKind x.kind) → decode_term_kind n D c x.body ≡ some t → DecodedTerm n x t
      at (is_tuple p) f =
          bind_inv (decode_atoms n x.body) _ t f λ ys e₁ f₁.
          let a = decode_atoms-sound n x.body ys h e₁ in
          rw (← some-injective (tuple ys) t f₁) (record { is-kind = p; is_body = a.whole; fits = (a.count, a.fits) })
      at (is_let_one p) f =
          then-inv (word x.body) _ t f λ v b₁ e₁ f₁.
          then-inv (read_simple b₁) _ t f₁ λ e b₂ e₂ f₂.
          bind_inv (last_term n D b₂) _ t f₂ λ u e₃ f₃.
          let w = word-found x.body v b₁ h e₁ in
          let l = read_simple-found b₁ e b₂ w.0.after e₂ in
          let d = last-decoded b₂ u l.0.after e₃ in
          let be : x.body ≡ term_contents (let_one v e u) = w.0.whole ∙ ap (λ (y : List ℕ). le 4 v ++ y) (l.0.whole ∙ ap (λ (y : List ℕ). encode_simple e ++ y) d.0) in
          rw (← some-injective (let_one v e u) t f₃) (record { is-kind = p; is_body = be; fits = (w.1, l.1, d.1) })
      at (is_let_all p) f =
          then-inv (any_record x.body) _ t f λ g b₁ e₁ f₁.
          bind_inv (D g) _ t f₁ λ s e₂ f₂.
          bind_inv (last_term n D b₁) _ t f₂ λ u e₃ f₃.
          let q = split-parted x.body g.kind g.body b₁ h (any_record-part x.body g b₁ e₁) in
          let c = ih g s e₂ q.inside in
          let d = last-decoded b₁ u q.after e₃ in
          let be : x.body ≡ term_contents (let_all s u) = q.whole ∙ ap₂ (λ (y z : List ℕ). y ++ z) (ap₂ encode_record c.is-kind c.is_body) d.0 in
          rw (← some-injective (let_all s u) t f₃) (record { is-kind = p; is_body = be; fits = (c.fits, d.1) })
      at (is_rec p) f =
          then-inv (word x.body) _ t f λ v b₁ e₁ f₁.
          then-inv (read_atom b₁) _ t f₁ λ a b₂ e₂ f₂.
          then-inv (sub 36 b₂) _ t f₂ λ c b₃ e₃ f₃.
          bind_inv (decode_atoms n c) _ t f₃ λ ys e₄ f₄.
          bind_inv (last_term n D b₃) _ t f₄ λ u e₅ f₅.
          let w = word-found x.body v b₁ h e₁ in
          let l = leaf-found atom_kind atom_number atom_from atom_from-inv b₁ a b₂ w.0.after e₂ in
          let q = split-parted b₂ 36 c b₃ l.0.after (sub_part 36 b₂ c b₃ e₃) in
          let o = decode_atoms-sound n c ys q.inside e₄ in
          let d = last-decoded b₃ u q.after e₅ in
          let ue : b₂ ≡ encode_record 36 (encode_atoms ys) ++ encode_record (kind_of_term u) (term_contents u) = q.whole ∙ ap₂ (λ (y z : List ℕ). encode_record 36 y ++ z) o.whole d.0 in
          let be : x.body ≡ term_contents (rec v a ys u) = w.0.whole ∙ ap (λ (y : List ℕ). le 4 v ++ y) (l.0.whole ∙ ap (λ (y : List ℕ). encode_atom a ++ y) ue) in
          rw (← some-injective (rec v a ys u) t f₅) (record { is-kind = p; is_body = be; fits = (w.1, l.1, o.count, o.fits, d.1) })
      at not_term f = none-inv (λ y. DecodedTerm n x y) t f

pub decode_term-sound : (n : ℕ) (x : RecordParts) (t : Term) → decode_term n x ≡ some t → Bytes x.body → DecodedTerm n x t
unfolding decode_term
decode_term-sound n x t e = fixed-keeps measure_term (decode_term_step n) (λ y u. Bytes y.body → DecodedTerm n y u) (step-decoded_term n) x t e

-- AN ENCODING DECODES TO ITS TREE

abbrev pub parts_of_term : Term → RecordParts
parts_of_term t = record { kind = kind_of_term t; body = term_contents t }

pub last-encode : (n : ℕ) (D : RecordParts → Option Term) (t : Term) → term_size t < 65532 → D (parts_of_term t) ≡ some t → last_term n D (encode_record (kind_of_term t) (term_contents t)) ≡ some t
unfolding last_term then at_end
last-encode n D t h e =
    let a : any_record (encode_record (kind_of_term t) (term_contents t)) ≡ got (parts_of_term t) [] =
    ap any_record (sym (append-nil (encode_record (kind_of_term t) (term_contents t)))) ∙ any_record-encode_record (kind_of_term t) (term_contents t) [] (kind_of_term-low t) (simp (length-term_contents t) (omega arith)) in
    rw (a, e) refl

pub decode_term-encode : (n : ℕ) (t : Term) → TermWords n t → term_size t < 65532 → decode_term n (parts_of_term t) ≡ some t
unfolding decode_term_step decode_term_kind kind_of_term term_contents term_size term_kind term_kind_if then bind
decode_term-encode n (tuple ys) h l = decode_term-step n (parts_of_term (tuple ys)) ∙ rw (← h.0, decode_atoms-encode ys h.1) refl
decode_term-encode n (let_one x e t) h l =
    let w = word-le x (encode_simple e ++ encode_record (kind_of_term t) (term_contents t)) h.0 in
    let r = read_simple-encode e (encode_record (kind_of_term t) (term_contents t)) h.1 in
    let d = last-encode n (decode_term n) t (omega arith) (decode_term-encode n t h.2 (omega arith)) in
    decode_term-step n (parts_of_term (let_one x e t)) ∙ rw (w, r, d) refl
decode_term-encode n (let_all s t) h l =
    let a = any_record-encode_record (kind_of_term s) (term_contents s) (encode_record (kind_of_term t) (term_contents t)) (kind_of_term-low s) (simp (length-term_contents s) (omega arith)) in
    let d = last-encode n (decode_term n) t (omega arith) (decode_term-encode n t h.1 (omega arith)) in
    decode_term-step n (parts_of_term (let_all s t)) ∙ rw (a, decode_term-encode n s h.0 (omega arith), d) refl
decode_term-encode n (rec x a ys t) h l =
    let w = word-le x (encode_atom a ++ (encode_record 36 (encode_atoms ys) ++ encode_record (kind_of_term t) (term_contents t))) h.0 in
    let r = leaf-encode atom_kind atom_number atom_from atom_from-at atom_kind-low a (encode_record 36 (encode_atoms ys) ++ encode_record (kind_of_term t) (term_contents t)) h.1 in
    let s = sub-encode_record 36 (encode_atoms ys) (encode_record (kind_of_term t) (term_contents t)) (lit< tt) (simp length-encode_atoms (omega arith)) in
    let d = last-encode n (decode_term n) t (omega arith) (decode_term-encode n t h.4 (omega arith)) in
    decode_term-step n (parts_of_term (rec x a ys t)) ∙ rw (w, r, s, rw h.2 at (decode_atoms-encode ys h.3), d) refl
