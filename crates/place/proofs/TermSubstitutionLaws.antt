-- Substitution over the bytes of a term that stands at an index: what is stored over a part of it is stored over the whole.
use Prim.Native.Nat.{◌*◌, ◌+◌, ◌≤◌, ℕ}
use mathlib.Core.Path.{ap, refl, sym, ◌∙◌, ◌≡◌}
use mathlib.Core.List.{◌++◌, List, [], append_assoc, append-nil, map, ◌∷◌}
use lib.ListN.{drop, length, length-append, length-drop, length-map}
use lib.Seq.{drop-append-le, drop_at}
use native.Mathlib.Omega.{arith}
use Rattle.buffer.specs.LittleEndian.{le}
use Rattle.buffer.specs.Slice.{put}
use Rattle.rules.specs.FreeVariables.{atom_of_simple}
use Rattle.rules.specs.Substitution.{Substitution, except, substitute, substitute_atom, substitute_simple}
use Rattle.rules.specs.Syntax.{Atom, Simple, Term, num, plain, pred_of, succ_of, tuple}
use Rattle.record.specs.Term.{atom_from, atom_kind, atom_number, encode_atom, encode_atoms, encode_simple, encode_term_record, simple_size, term_size}
use Rattle.buffer.proofs.LittleEndianLaws.{length-le}
use Rattle.buffer.proofs.SliceLaws.{put-nil, put-put}
use Rattle.record.proofs.TermLaws.{length-encode_atoms}
use Rattle.record.proofs.SizeLaws.{term_size-substitute}
use Rattle.record.proofs.HeaderLaws.{length-encode_term_record}
use Rattle.place.specs.At.{At}
use Rattle.place.specs.Heads.{record_head}
use Rattle.place.specs.TermView.{AtomAt, AtomsAt, LetAllView, LetOneView, RecView, TermAt, TupleView}
use Rattle.place.proofs.AtLaws.{at_room, put-at, put-part}
use Rattle.place.proofs.HeadsLaws.{length-record_head}
use Rattle.place.proofs.ProgramBytesLaws.{encode_leaf-head}
use Rattle.place.proofs.TermViewLaws.{atoms-first, term-index}
use Rattle.place.proofs.TermBytesLaws.{encode_atoms-cons, encode_simple-plain, encode_simple-pred, encode_simple-succ, encode_term_record-let_all, encode_term_record-let_one, encode_term_record-rec, encode_term_record-tuple, length-encode_atom}

-- STORES IN GENERAL

-- a store in front leaves what stands behind
pub at-behind : {l : List ℕ} {p q : ℕ} {m n : List ℕ} → At l p m → At l q n → p + length m ≤ q → (vs : List ℕ) → length m ≡ length vs → At (put l p vs) q n
at-behind {l} {p} {q} {m} {n} h k b vs e =
    let d : ℕ = p + length m in
    let i : drop d l ≡ h.post =
    ap (drop d) (h.is ∙ sym (append_assoc h.pre m h.post)) ∙ drop_at (h.pre ++ m) h.post d (length-append h.pre m ∙ ap (λ (y : ℕ). y + length m) h.len) in
    let j : drop d l ≡ drop d k.pre ++ (n ++ k.post) = ap (drop d) k.is ∙ drop-append-le d k.pre (n ++ k.post) (omega (arith, k.len)) in
    let s : put l p vs ≡ (h.pre ++ (vs ++ drop d k.pre)) ++ (n ++ k.post) =
    put-at h vs e ∙ ap (λ (y : List ℕ). h.pre ++ (vs ++ y)) (sym i ∙ j) ∙ simp append_assoc in
    record {
      pre = h.pre ++ (vs ++ drop d k.pre);
      post = k.post;
      is = s;
      len = simp (length-append, length-drop) (omega (arith, h.len, k.len));
    }

pub term-behind : {l : List ℕ} {p q k : ℕ} {m : List ℕ} {t : Term} → At l p m → TermAt l q k t → p + length m ≤ q → (vs : List ℕ) → length m ≡ length vs → TermAt (put l p vs) q k t
term-behind h u b vs e = record { here = at-behind h u.here b vs e; words = u.words; small = u.small }

-- a store over a part, where the whole with that part is known
store-part : {l : List ℕ} {p : ℕ} {m : List ℕ} → At l p m → (a b c vs n : List ℕ) (q : ℕ) → m ≡ a ++ (b ++ c) → n ≡ a ++ (vs ++ c) → p + length a ≡ q → length b ≡ length vs
    → put l q vs ≡ put l p n
store-part {l} {p} h a b c vs n q e f i z = put-part h a b c vs q e i z ∙ ap (put l p) (sym f)

-- ATOMS

atom-parts : (a : Atom) → encode_atom a ≡ le 2 8 ++ ((le 2 (atom_kind a) ++ le 4 (atom_number a)) ++ [])
unfolding record_head
atom-parts a = encode_leaf-head atom_kind atom_number atom_from a ∙ simp (append_assoc, append-nil)

-- the kind and the number of a numeral over an atom's
pub num-stored : {l : List ℕ} {p : ℕ} {a : Atom} → AtomAt l p a → (v : ℕ) → put (put l (p + 2) (le 2 32)) (p + 4) (le 4 v) ≡ put l p (encode_atom (num v))
unfolding atom_kind atom_number
num-stored {l} {p} {a} h v =
    let r : p + 8 ≤ length l = rw (length-encode_atom a) at (at_room h.here) in
    put-put l (le 2 32) (le 4 v) (p + 2) (p + 4) (rw (length-le 2 32) (omega arith)) (omega arith)
    ∙ store-part h.here (le 2 8) (le 2 (atom_kind a) ++ le 4 (atom_number a)) [] (le 2 32 ++ le 4 v) (encode_atom (num v)) (p + 2) (atom-parts a) (atom-parts (num v))
    (ap (λ (n : ℕ). p + n) (length-le 2 8)) (simp (length-append, length-le))

-- SUBSTITUTION CHANGES NO LENGTH

length-substitute_atoms : (f : Substitution) (ys : List Atom) → length (encode_atoms ys) ≡ length (encode_atoms (map (substitute_atom f) ys))
length-substitute_atoms f ys = rw (length-encode_atoms ys, length-encode_atoms (map (substitute_atom f) ys), length-map ys (substitute_atom f))

pub length-substitute : (f : Substitution) (t : Term) → length (encode_term_record t) ≡ length (encode_term_record (substitute f t))
length-substitute f t = rw (length-encode_term_record t, length-encode_term_record (substitute f t), term_size-substitute f t)

-- what a let-one binds: bytes that stay, and its atom
record SimpleParts (f : Substitution) (s : Simple) : Type 0 where
  pub stays : List ℕ
  pub size : 8 + length stays ≡ simple_size s
  pub same_size : simple_size (substitute_simple f s) ≡ simple_size s
  pub before : encode_simple s ≡ stays ++ encode_atom (atom_of_simple s)
  pub after : encode_simple (substitute_simple f s) ≡ stays ++ encode_atom (substitute_atom f (atom_of_simple s))

simple-parts : (f : Substitution) (s : Simple) → SimpleParts f s
unfolding substitute_simple simple_size
simple-parts f (plain a) = record { stays = []; size = refl; same_size = refl; before = encode_simple-plain a; after = encode_simple-plain (substitute_atom f a) }
simple-parts f (succ_of a) = record {
  stays = record_head 34 12;
  size = ap (λ (y : ℕ). 8 + y) (length-record_head 34 12);
  same_size = refl;
  before = encode_simple-succ a;
  after = encode_simple-succ (substitute_atom f a);
}
simple-parts f (pred_of a) = record {
  stays = record_head 35 12;
  size = ap (λ (y : ℕ). 8 + y) (length-record_head 35 12);
  same_size = refl;
  before = encode_simple-pred a;
  after = encode_simple-pred (substitute_atom f a);
}

-- ROWS OF ATOMS

pub row-empty : (l : List ℕ) (p : ℕ) → put l p (encode_atoms []) ≡ l
unfolding encode_atoms
row-empty l p = put-nil l p

-- the atoms behind the first, once that is stored
pub onward-row : (f : Substitution) {l : List ℕ} {p : ℕ} {a : Atom} {ys : List Atom} → AtomsAt l p (a ∷ ys) → (l₁ : List ℕ) → l₁ ≡ put l p (encode_atom (substitute_atom f a))
    → AtomsAt l₁ (p + 8) ys × (put l₁ (p + 8) (encode_atoms (map (substitute_atom f) ys)) ≡ put l p (encode_atoms (map (substitute_atom f) (a ∷ ys))))
onward-row f {l} {p} {a} {ys} h l₁ e =
    let v = atoms-first h in
    let a' : List ℕ = encode_atom (substitute_atom f a) in
    let zs : List Atom = map (substitute_atom f) ys in
    let la : length (encode_atom a) ≡ 8 = length-encode_atom a in
    let la' : length a' ≡ 8 = length-encode_atom (substitute_atom f a) in
    let r : p + 8 ≤ length l = rw la at (at_room v.0.here) in (
      record { here = rw e (at-behind v.0.here v.1.here (omega arith) a' (la ∙ sym la')); words = v.1.words },
      ap (λ (y : List ℕ). put y (p + 8) (encode_atoms zs)) e ∙ put-put l a' (encode_atoms zs) p (p + 8) (omega arith) r
          ∙ ap (put l p) (sym (encode_atoms-cons (substitute_atom f a) zs)),
    )

-- THE FOUR KINDS

-- What is left to do behind a store: the term u stands at q, and its substitution with g is t's with f at p.
pub record Onward (f g : Substitution) (l₁ l : List ℕ) (q p k : ℕ) (u t : Term) : Type 0 where
  pub here : TermAt l₁ q k u
  pub same : put l₁ q (encode_term_record (substitute g u)) ≡ put l p (encode_term_record (substitute f t))

module _ (f : Substitution) {l : List ℕ} {p k : ℕ} {t : Term} (h : TermAt l p k t) where
  -- a tuple: its row
  pub onward-tuple : (v : TupleView l p k t) → put l (p + 4) (encode_atoms (map (substitute_atom f) v.atoms)) ≡ put l p (encode_term_record (substitute f t))
  unfolding substitute
  onward-tuple v =
      let ys : List Atom = v.atoms in
      let zs : List Atom = map (substitute_atom f) ys in
      let hd : List ℕ = record_head 36 (4 + 8 * length ys) in
      let e : encode_term_record t ≡ hd ++ (encode_atoms ys ++ []) = ap encode_term_record v.is ∙ encode_term_record-tuple ys ∙ simp append-nil in
      let g : encode_term_record (substitute f t) ≡ hd ++ (encode_atoms zs ++ []) =
      ap (λ (u : Term). encode_term_record (substitute f u)) v.is ∙ encode_term_record-tuple zs
      ∙ ap (λ (n : ℕ). record_head 36 (4 + 8 * n) ++ encode_atoms zs) (length-map ys (substitute_atom f)) ∙ simp append-nil in
      store-part h.here hd (encode_atoms ys) [] (encode_atoms zs) (encode_term_record (substitute f t)) (p + 4) e g
      (ap (λ (n : ℕ). p + n) (length-record_head 36 (4 + 8 * length ys))) (length-substitute_atoms f ys)

  -- a let-all: its first term
  pub onward-let_all : (v : LetAllView l p k t) → Onward f f l l (p + 4) p k v.first t
  unfolding substitute
  onward-let_all v =
      let a : Term = v.first in
      let z : Term = v.last in
      let hd : List ℕ = record_head 38 (12 + term_size a + term_size z) in
      let e : encode_term_record t ≡ hd ++ (encode_term_record a ++ encode_term_record z) = ap encode_term_record v.is ∙ encode_term_record-let_all a z in
      let g : encode_term_record (substitute f t) ≡ hd ++ (encode_term_record (substitute f a) ++ encode_term_record z) =
      ap (λ (u : Term). encode_term_record (substitute f u)) v.is ∙ encode_term_record-let_all (substitute f a) z
      ∙ ap (λ (n : ℕ). record_head 38 (12 + n + term_size z) ++ (encode_term_record (substitute f a) ++ encode_term_record z)) (term_size-substitute f a) in
      record {
        here = v.first-at;
        same = store-part h.here hd (encode_term_record a) (encode_term_record z) (encode_term_record (substitute f a)) (encode_term_record (substitute f t)) (p + 4) e g
            (ap (λ (n : ℕ). p + n) (length-record_head 38 (12 + term_size a + term_size z))) (length-substitute f a);
      }

  -- a let-one: its last term, without its variable, once its atom is stored
  pub onward-let_one : (v : LetOneView l p k t) (l₁ : List ℕ) → l₁ ≡ put l (p + simple_size v.bound) (encode_atom (substitute_atom f (atom_of_simple v.bound)))
      → Onward f (except v.variable f) l₁ l (p + simple_size v.bound + 8) p k v.last t
  unfolding substitute
  onward-let_one v l₁ e₁ =
      let x : ℕ = v.variable in
      let s : Simple = v.bound in
      let z : Term = v.last in
      let z' : Term = substitute (except x f) z in
      let w = simple-parts f s in
      let a : List ℕ = encode_atom (atom_of_simple s) in
      let a' : List ℕ = encode_atom (substitute_atom f (atom_of_simple s)) in
      let q : ℕ = p + simple_size s in
      let hd : List ℕ = record_head 37 (12 + simple_size s + term_size z) in
      let front : List ℕ = hd ++ (le 4 x ++ w.stays) in
      let la : length a ≡ 8 = length-encode_atom (atom_of_simple s) in
      let la' : length a' ≡ 8 = length-encode_atom (substitute_atom f (atom_of_simple s)) in
      let e : encode_term_record t ≡ front ++ ((a ++ encode_term_record z) ++ []) =
      ap encode_term_record v.is ∙ encode_term_record-let_one x s z ∙ ap (λ (y : List ℕ). hd ++ (le 4 x ++ (y ++ encode_term_record z))) w.before ∙ simp (append_assoc, append-nil) in
      let g : encode_term_record (substitute f t) ≡ front ++ ((a' ++ encode_term_record z') ++ []) =
      ap (λ (u : Term). encode_term_record (substitute f u)) v.is ∙ encode_term_record-let_one x (substitute_simple f s) z'
      ∙ ap (λ (n : ℕ). record_head 37 (12 + n + term_size z') ++ (le 4 x ++ (encode_simple (substitute_simple f s) ++ encode_term_record z'))) w.same_size
      ∙ ap (λ (n : ℕ). record_head 37 (12 + simple_size s + n) ++ (le 4 x ++ (encode_simple (substitute_simple f s) ++ encode_term_record z'))) (term_size-substitute (except x f) z)
      ∙ ap (λ (y : List ℕ). hd ++ (le 4 x ++ (y ++ encode_term_record z'))) w.after ∙ simp (append_assoc, append-nil) in
      let i : p + length front ≡ q = simp (length-append, length-record_head, length-le) (omega (arith, w.size)) in
      let r : q + 8 ≤ length l = rw la at (at_room v.atom.here) in
      record {
        here = rw e₁ (term-behind v.atom.here (term-index v.last-at (omega arith)) (omega arith) a' (la ∙ sym la'));
        same =
            ap (λ (y : List ℕ). put y (q + 8) (encode_term_record z')) e₁ ∙ put-put l a' (encode_term_record z') q (q + 8) (ap (λ (n : ℕ). q + n) la') r
            ∙ store-part h.here front (a ++ encode_term_record z) [] (a' ++ encode_term_record z') (encode_term_record (substitute f t)) q e g i
            (simp length-append (omega (arith, la, la', length-substitute (except x f) z)));
      }

  -- a rec: its start tuple, once its count is stored
  pub onward-rec : (v : RecView l p k t) (l₁ : List ℕ) → l₁ ≡ put l (p + 8) (encode_atom (substitute_atom f v.count))
      → Onward f f l₁ l (p + 16) p k (tuple v.start) t
  unfolding substitute
  onward-rec v l₁ e₁ =
      let x : ℕ = v.variable in
      let ys : List Atom = v.start in
      let zs : List Atom = map (substitute_atom f) ys in
      let z : List ℕ = encode_term_record v.body in
      let u : List ℕ = encode_term_record (tuple ys) in
      let u' : List ℕ = encode_term_record (tuple zs) in
      let a : List ℕ = encode_atom v.count in
      let a' : List ℕ = encode_atom (substitute_atom f v.count) in
      let hd : List ℕ = record_head 39 (24 + 8 * length ys + term_size v.body) in
      let front : List ℕ = hd ++ le 4 x in
      let la : length a ≡ 8 = length-encode_atom v.count in
      let la' : length a' ≡ 8 = length-encode_atom (substitute_atom f v.count) in
      let e : encode_term_record t ≡ front ++ ((a ++ u) ++ z) = ap encode_term_record v.is ∙ encode_term_record-rec x v.count ys v.body ∙ simp append_assoc in
      let g : encode_term_record (substitute f t) ≡ front ++ ((a' ++ u') ++ z) =
      ap (λ (y : Term). encode_term_record (substitute f y)) v.is ∙ encode_term_record-rec x (substitute_atom f v.count) zs v.body
      ∙ ap (λ (n : ℕ). record_head 39 (24 + 8 * n + term_size v.body) ++ (le 4 x ++ (a' ++ (u' ++ z)))) (length-map ys (substitute_atom f)) ∙ simp append_assoc in
      let i : p + length front ≡ p + 8 = simp (length-append, length-record_head, length-le) in
      let r : p + 8 + 8 ≤ length l = rw la at (at_room v.count_at.here) in
      record {
        here = rw e₁ (term-behind v.count_at.here v.start-at (omega arith) a' (la ∙ sym la'));
        same =
            ap (λ (y : List ℕ). put y (p + 16) u') e₁ ∙ put-put l a' u' (p + 8) (p + 16) (omega arith) (omega arith)
            ∙ store-part h.here front (a ++ u) z (a' ++ u') (encode_term_record (substitute f t)) (p + 8) e g i
            (simp length-append (omega (arith, la, la', length-substitute f (tuple ys))));
      }
