-- What the decoders of atoms and terms give, by what stands in the bytes: a law for each way out of a check.
use Prim.Native.Nat.{◌*◌, ◌+◌, ◌-◌, ◌<◌, suc, zero, ℕ, ◌≤◌}
use mathlib.Core.Path.{◌≡◌, ap, refl, sym, ◌∙◌}
use mathlib.Core.Bool.{Bool, false, true}
use mathlib.Core.List.{List, [], ◌∷◌}
use mathlib.Core.Option.{Option, none, some}
use borrow.Author.Tests.{leb-false, leb-true}
use lib.Dec.{eqb, leb}
use lib.ListN.{drop, length, length-drop, take}
use lib.Seq.{drop-drop, drop-length, length-take-le}
use native.Mathlib.Omega.{arith}
use Rattle.buffer.specs.LittleEndian.{val}
use Rattle.buffer.specs.Slice.{part as slice}
use Rattle.rules.specs.Syntax.{Atom, let_all, let_one, num, plain, pred_of, rec, ref, succ_of, tuple}
use Rattle.record.specs.Alone.{kind_alone, only_simple, only_tuple, record_kind}
use Rattle.record.specs.Header.{term_in}
use Rattle.record.specs.Reading.{Got, any_record, any_record_of, at_end, bind, fail, from_some, got, leaf, leaf_of, of_kind, pick, sub, sub_of, then, word}
use Rattle.record.specs.Record.{Split, bad, end, part, split}
use Rattle.record.specs.Term.{SimpleKind, TermKind, atom_from, atom_kind, atom_number, decode_atoms, decode_term, decode_term_kind, decode_term_step, is_atom, is_let_all, is_let_one, is_pred, is_rec, is_succ, is_tuple, last_term, not_term, only_atom, plain_of, read_atom, read_simple, same, simple_by, simple_from, simple_kind_if, term_kind, term_kind_if}
use Rattle.record.proofs.AloneLaws.{NoPart, bind-cong, bind-none, record_kind-split, slice-take, split-alone, split-front, split-none, split-record, then-from_some, word_read, word-short}
use Rattle.record.proofs.ReadingLaws.{at_end-inv, bind_inv, leaf-length, leaf-parts, sub_part, then-inv, word-length}
use Rattle.record.proofs.RecordLaws.{split-length}
use Rattle.record.proofs.TermLaws.{atom_from-inv, decode_term-step}
use Rattle.record.proofs.FrontLaws.{none-unless}

-- what was found alone is what was found
alone : {A : Type 0} (o : Option A) → then (from_some o []) (λ a r. at_end r (some a)) ≡ o
unfolding then from_some at_end
alone none = refl
alone (some a) = refl

-- and with more after it, nothing
not-alone : {A : Type 0} (o : Option A) (x : ℕ) (r : List ℕ) → then (from_some o (x ∷ r)) (λ a q. at_end q (some a)) ≡ none
unfolding then from_some at_end
not-alone none x r = refl
not-alone (some a) x r = refl

from_some-none : {A : Type 0} (o : Option A) (r : List ℕ) → o ≡ none → from_some o r ≡ fail
unfolding from_some
from_some-none o r e = rw e refl

-- ATOMS

-- the length of an atom's record
read_atom-size : (l : List ℕ) (a : Atom) (r : List ℕ) → read_atom l ≡ got a r → val (slice l 0 2) ≡ 8
read_atom-size l a r e =
    let p = leaf-parts atom_kind atom_number atom_from l a r e in
    let f = split-front l p.0 p.1 r p.3 in
    let w = word-length p.1 p.2 [] p.4 in
    let d : length (drop 4 l) ≡ length l - 4 = length-drop 4 l in
    let n : length (take (val (slice l 0 2) - 4) (drop 4 l)) ≡ val (slice l 0 2) - 4 = length-take-le (val (slice l 0 2) - 4) (drop 4 l) (omega (arith, f.most)) in
    omega (arith, ap length f.is_body, f.least)

read_atom-none : (l : List ℕ) → (val (slice l 0 2) ≡ 8 → ⊥) → read_atom l ≡ fail
read_atom-none l h = go (read_atom l) refl
  where
    go : (g : Got Atom) → read_atom l ≡ g → g ≡ fail
    go fail e = refl
    go (got a r) e = absurd (h (read_atom-size l a r e))

-- what stands alone is read with nothing after it
only_atom-inv : (l : List ℕ) (a : Atom) → only_atom l ≡ some a → read_atom l ≡ got a []
unfolding only_atom
only_atom-inv l a e =
    then-inv (read_atom l) _ a e λ c r e₁ f₁.
    at_end-inv r _ a f₁ λ n f₂.
    let q : c ≡ a = cc in
    cc

-- an atom in front is alone in the first 8 bytes
read_atom-only : (l : List ℕ) → 8 ≤ length l → read_atom l ≡ from_some (only_atom (take 8 l)) (drop 8 l)
unfolding leaf leaf_of only_atom
read_atom-only l h = go (same (val (slice l 0 2)) 8)
  where
    go : Dec (val (slice l 0 2) ≡ 8) → read_atom l ≡ from_some (only_atom (take 8 l)) (drop 8 l)
    go (yes e) = rw (split-record l 8 e (omega arith) h, split-alone l 8 e (omega arith) h) (ap (λ o. from_some o (drop 8 l)) (sym (alone _)))
    go (no e) =
        let o : only_atom (take 8 l) ≡ none =
        none-unless (only_atom (take 8 l)) (λ a q. e (sym (ap val (slice-take 8 0 2 l (omega arith))) ∙ read_atom-size (take 8 l) a [] (only_atom-inv (take 8 l) a q))) in
        read_atom-none l e ∙ sym (from_some-none (only_atom (take 8 l)) (drop 8 l) o)

pub only_atom-long : (l : List ℕ) → (length l ≡ 8 → ⊥) → only_atom l ≡ none
only_atom-long l h = none-unless (only_atom l) (λ a e. h (leaf-length atom_kind atom_number atom_from l a [] (only_atom-inv l a e)))

pub only_atom-other : (l : List ℕ) → (record_kind l ≡ 32 → ⊥) → (record_kind l ≡ 33 → ⊥) → only_atom l ≡ none
unfolding record_kind kind_alone atom_kind
only_atom-other l h₁ h₂ = none-unless (only_atom l) λ a e.
    let p = leaf-parts atom_kind atom_number atom_from l a [] (only_atom-inv l a e) in
    let k : record_kind l ≡ atom_kind a = ap kind_alone p.3 ∙ (atom_from-inv p.0 p.2 a p.5).0 in
    go a k
  where
    go : (a : Atom) → record_kind l ≡ atom_kind a → ⊥
    go (num v) q = h₁ q
    go (ref v) q = h₂ q

module _ (l : List ℕ) (eight : length l ≡ 8) where
  only_atom-read : (kind : ℕ) → record_kind l ≡ kind → 1 ≤ kind → only_atom l ≡ atom_from kind (val (slice l 4 4))
  unfolding only_atom leaf leaf_of slice then at_end
  only_atom-read kind e h =
      let d : length (drop 4 l) ≡ 4 = length-drop 4 l ∙ omega arith in
      let none_left : drop 4 (drop 4 l) ≡ [] = ap (λ (n : ℕ). drop n (drop 4 l)) (sym d) ∙ drop-length (drop 4 l) in
      rw (record_kind-split l kind e h, word_read (drop 4 l) (omega arith), none_left) (alone (atom_from kind (val (slice l 4 4))))

  pub only_atom-num : record_kind l ≡ 32 → only_atom l ≡ some (num (val (slice l 4 4)))
  unfolding atom_from pick
  only_atom-num e = only_atom-read 32 e (omega arith)

  pub only_atom-ref : record_kind l ≡ 33 → only_atom l ≡ some (ref (val (slice l 4 4)))
  unfolding atom_from pick
  only_atom-ref e = only_atom-read 33 e (omega arith)

-- A ROW OF ATOMS

decode_atoms-length : (n : ℕ) (l : List ℕ) (ys : List Atom) → decode_atoms n l ≡ some ys → length l ≡ 8 * n
unfolding decode_atoms
decode_atoms-length zero l ys e = at_end-inv l _ ys e λ q f. omega (arith, ap length q)
decode_atoms-length (suc n) l ys e =
    then-inv (read_atom l) _ ys e λ a r e₁ f₁.
    bind_inv (decode_atoms n r) _ ys f₁ λ xs e₂ f₂.
    omega (arith, leaf-length atom_kind atom_number atom_from l a r e₁, decode_atoms-length n r xs e₂)

pub decode_atoms-long : (n : ℕ) (l : List ℕ) → (length l ≡ 8 * n → ⊥) → decode_atoms n l ≡ none
decode_atoms-long n l h = none-unless (decode_atoms n l) (λ ys e. h (decode_atoms-length n l ys e))

pub decode_atoms-end : (l : List ℕ) → length l ≡ 0 → decode_atoms 0 l ≡ some []
unfolding decode_atoms at_end
decode_atoms-end [] h = refl
decode_atoms-end (x ∷ l) h = absurd (omega arith)

pub decode_atoms-next : (n : ℕ) (l : List ℕ) → 8 ≤ length l
    → decode_atoms (suc n) l ≡ bind (only_atom (take 8 l)) (λ a. bind (decode_atoms n (drop 8 l)) (λ ys. some (a ∷ ys)))
unfolding decode_atoms
decode_atoms-next n l h = rw (read_atom-only l h) (then-from_some (only_atom (take 8 l)) (drop 8 l) _)

pub only_tuple-read : (n : ℕ) (l : List ℕ) → record_kind l ≡ 36 → only_tuple n l ≡ decode_atoms n (drop 4 l)
unfolding only_tuple sub sub_of of_kind then at_end
only_tuple-read n l e = rw (record_kind-split l 36 e (omega arith)) refl

pub only_tuple-other : (n : ℕ) (l : List ℕ) → (record_kind l ≡ 36 → ⊥) → only_tuple n l ≡ none
unfolding only_tuple record_kind kind_alone
only_tuple-other n l h = none-unless (only_tuple n l) λ ys e.
    then-inv (sub 36 l) _ ys e λ c r e₁ f₁.
    at_end-inv r _ ys f₁ λ q f₂.
    h (ap kind_alone (sub_part 36 l c r e₁ ∙ ap (λ (y : List ℕ). part 36 c y) q))

-- WHAT A LET-ONE BINDS

-- an atom that is read as what a let-one binds
plain-alone : (g : Got Atom) → then (plain_of g) (λ e r. at_end r (some e)) ≡ bind (then g (λ a r. at_end r (some a))) (λ a. some (plain a))
unfolding then plain_of at_end bind
plain-alone fail = refl
plain-alone (got a []) = refl
plain-alone (got a (x ∷ r)) = refl

module _ (l : List ℕ) where
  pub only_simple-succ : record_kind l ≡ 34 → only_simple l ≡ bind (only_atom (drop 4 l)) (λ a. some (succ_of a))
  unfolding only_simple read_simple simple_from simple_by simple_kind_if
  only_simple-succ e = rw (record_kind-split l 34 e (omega arith)) (alone (bind (only_atom (drop 4 l)) (λ a. some (succ_of a))))

  pub only_simple-pred : record_kind l ≡ 35 → only_simple l ≡ bind (only_atom (drop 4 l)) (λ a. some (pred_of a))
  unfolding only_simple read_simple simple_from simple_by simple_kind_if
  only_simple-pred e = rw (record_kind-split l 35 e (omega arith)) (alone (bind (only_atom (drop 4 l)) (λ a. some (pred_of a))))

  pub only_simple-plain : (record_kind l ≡ 34 → ⊥) → (record_kind l ≡ 35 → ⊥) → only_simple l ≡ bind (only_atom l) (λ a. some (plain a))
  unfolding only_simple only_atom read_simple simple_from simple_by record_kind kind_alone leaf leaf_of bind then
  only_simple-plain h₁ h₂ = go (split l) refl
    where
      atom-no : (o : Option Atom) (x : ℕ) (r : List ℕ) → bind (then (from_some o (x ∷ r)) (λ a q. at_end q (some a))) (λ a. some (plain a)) ≡ none
      atom-no o x r = bind-none _ _ (not-alone o x r)

      at : (k : ℕ) (b r : List ℕ) → split l ≡ part k b r → (c : SimpleKind k)
          → then (simple_by c l b r) (λ e q. at_end q (some e)) ≡ bind (then (read_atom l) (λ a q. at_end q (some a))) (λ a. some (plain a))
      at k b [] s (is_succ p) = absurd (h₁ (ap kind_alone s ∙ p))
      at k b (x ∷ r) s (is_succ p) = not-alone _ x r ∙ sym (rw s (atom-no _ x r))
      at k b [] s (is_pred p) = absurd (h₂ (ap kind_alone s ∙ p))
      at k b (x ∷ r) s (is_pred p) = not-alone _ x r ∙ sym (rw s (atom-no _ x r))
      at k b r s is_atom = plain-alone (read_atom l)

      go : (s : Split) → split l ≡ s → then (simple_from l s) (λ e q. at_end q (some e)) ≡ bind (then (read_atom l) (λ a q. at_end q (some a))) (λ a. some (plain a))
      go end s = rw s refl
      go bad s = rw s refl
      go (part k b r) s = at k b r s (simple_kind_if (same k 34) (same k 35))

read_simple-none : (l : List ℕ) → (4 ≤ val (slice l 0 2) → val (slice l 0 2) ≤ length l → ⊥) → read_simple l ≡ fail
unfolding read_simple simple_from
read_simple-none l h = go (split l) (split-none l h)
  where
    go : (s : Split) → NoPart s → simple_from l s ≡ fail
    go end f = refl
    go bad f = refl
    go (part k b r) f = absurd f

plain-front : (o : Option Atom) (r : List ℕ) → plain_of (from_some o r) ≡ from_some (then (plain_of (from_some o [])) (λ e q. at_end q (some e))) r
unfolding plain_of from_some then at_end
plain-front none r = refl
plain-front (some a) r = refl

-- one in front is alone in as many bytes as it says
read_simple-only : (l : List ℕ) (n : ℕ) → val (slice l 0 2) ≡ n → n ≤ length l → read_simple l ≡ from_some (only_simple (take n l)) (drop n l)
unfolding read_simple simple_from simple_by only_simple leaf leaf_of then
read_simple-only l n e h = go (leb 4 n) refl
  where
    simple : (k : ℕ) (b : List ℕ) → split l ≡ part k b (drop n l) → split (take n l) ≡ part k b [] → (c : SimpleKind k)
        → simple_by c l b (drop n l) ≡ from_some (then (simple_by c (take n l) b []) (λ s q. at_end q (some s))) (drop n l)
    simple k b s t (is_succ p) = ap (λ o. from_some o (drop n l)) (sym (alone (bind (only_atom b) (λ a. some (succ_of a)))))
    simple k b s t (is_pred p) = ap (λ o. from_some o (drop n l)) (sym (alone (bind (only_atom b) (λ a. some (pred_of a)))))
    simple k b s t is_atom = rw (s, t) (plain-front _ (drop n l))

    go : (t : Bool) → leb 4 n ≡ t → read_simple l ≡ from_some (only_simple (take n l)) (drop n l)
    go true t =
        let f = leb-true 4 n t in
        let s₁ = split-record l n e f h in
        let s₂ = split-alone l n e f h in
        rw (s₁, s₂) (simple (val (slice l 2 2)) _ s₁ s₂ (simple_kind_if (same (val (slice l 2 2)) 34) (same (val (slice l 2 2)) 35)))
    go false t =
        let f = leb-false 4 n t in
        let m = length-take-le n l h in
        let o : only_simple (take n l) ≡ none = rw (read_simple-none (take n l) (λ a b. omega arith)) refl in
        read_simple-none l (λ a b. omega arith) ∙ sym (from_some-none (only_simple (take n l)) (drop n l) o)

-- THE START TUPLE OF A REC

-- one in front is alone in as many bytes as n atoms take
sub-only : {B : Type 0} (n : ℕ) (l : List ℕ) (m : ℕ) → m ≡ 4 + 8 * n → m ≤ length l → (G : List Atom → List ℕ → Option B)
    → then (sub 36 l) (λ c r. bind (decode_atoms n c) (λ ys. G ys r)) ≡ bind (only_tuple n (take m l)) (λ ys. G ys (drop m l))
unfolding sub sub_of of_kind only_tuple then at_end bind
sub-only n l m em h G = go (same (val (slice l 0 2)) m)
  where
    of-kind : (t : Bool) (b : List ℕ) → then (of_kind t b (drop m l)) (λ c r. bind (decode_atoms n c) (λ ys. G ys r)) ≡ bind (then (of_kind t b []) (λ c r. at_end r (decode_atoms n c))) (λ ys. G ys (drop m l))
    of-kind true b = refl
    of-kind false b = refl

    -- a tuple of n atoms has m bytes
    size : (q c r : List ℕ) (ys : List Atom) → sub 36 q ≡ got c r → decode_atoms n c ≡ some ys → val (slice q 0 2) ≡ m
    size q c r ys s d =
        let p = sub_part 36 q c r s in
        let f = split-front q 36 c r p in
        let g = split-length q 36 c r p in
        let k = decode_atoms-length n c ys d in
        let len = ap length f.is-rest ∙ length-drop (val (slice q 0 2)) q in
        omega (arith, f.least, f.most)

    go : Dec (val (slice l 0 2) ≡ m) → then (sub 36 l) (λ c r. bind (decode_atoms n c) (λ ys. G ys r)) ≡ bind (only_tuple n (take m l)) (λ ys. G ys (drop m l))
    go (yes e) = rw (split-record l m e (omega arith) h, split-alone l m e (omega arith) h) (of-kind (eqb (val (slice l 2 2)) 36) (take (m - 4) (drop 4 l)))
    go (no e) =
        let o : only_tuple n (take m l) ≡ none =
        none-unless (only_tuple n (take m l)) (λ ys q.
        then-inv (sub 36 (take m l)) _ ys q λ c r e₁ f₁.
        at_end-inv r _ ys f₁ λ z f₂.
        e (sym (ap val (slice-take m 0 2 l (omega arith))) ∙ size (take m l) c r ys e₁ f₂)) in
        none-unless _ (λ y q.
        then-inv (sub 36 l) _ y q λ c r e₁ f₁.
        bind_inv (decode_atoms n c) _ y f₁ λ ys e₂ f₂.
        e (size l c r ys e₁ e₂))
        ∙ sym (bind-none (only_tuple n (take m l)) _ o)

-- TERMS

-- a record alone is the term that its kind and contents are
term-alone : (n : ℕ) (l : List ℕ) (k : ℕ) (b : List ℕ) → split l ≡ part k b [] → term_in n l ≡ decode_term_kind n (decode_term n) (term_kind k) b
unfolding term_in last_term any_record any_record_of then at_end decode_term_step
term-alone n l k b e = rw e (decode_term-step n (record { kind = k; body = b }))

-- as the contents of another record
term-record : (n : ℕ) (l : List ℕ) (k : ℕ) (b : List ℕ) → split l ≡ part k b [] → term_in n l ≡ decode_term n (record { kind = k; body = b })
unfolding term_in last_term any_record any_record_of then at_end
term-record n l k b e = rw e refl

any_record-none : (l : List ℕ) → (4 ≤ val (slice l 0 2) → val (slice l 0 2) ≤ length l → ⊥) → any_record l ≡ fail
unfolding any_record any_record_of
any_record-none l h = go (split l) (split-none l h)
  where
    go : (s : Split) → NoPart s → any_record_of s ≡ fail
    go end f = refl
    go bad f = refl
    go (part k b r) f = absurd f

term-short : (n : ℕ) (l : List ℕ) → length l < 4 → term_in n l ≡ none
unfolding term_in last_term then
term-short n l h = rw (any_record-none l (λ a b. omega arith)) refl

module _ (n : ℕ) (l : List ℕ) where
  term-kind : (k : ℕ) → record_kind l ≡ k → 1 ≤ k → term_in n l ≡ decode_term_kind n (decode_term n) (term_kind k) (drop 4 l)
  term-kind k e h = term-alone n l k (drop 4 l) (record_kind-split l k e h)

  -- a kind that is no term's
  pub term-other : (record_kind l ≡ 36 → ⊥) → (record_kind l ≡ 37 → ⊥) → (record_kind l ≡ 38 → ⊥) → (record_kind l ≡ 39 → ⊥) → term_in n l ≡ none
  unfolding term_in last_term any_record any_record_of then at_end record_kind kind_alone decode_term_kind
  term-other h₁ h₂ h₃ h₄ = go (split l) refl
    where
      at : (k : ℕ) (b : List ℕ) → split l ≡ part k b [] → (c : TermKind k) → decode_term_kind n (decode_term n) c b ≡ none
      at k b e (is_tuple p) = absurd (h₁ (ap kind_alone e ∙ p))
      at k b e (is_let_one p) = absurd (h₂ (ap kind_alone e ∙ p))
      at k b e (is_let_all p) = absurd (h₃ (ap kind_alone e ∙ p))
      at k b e (is_rec p) = absurd (h₄ (ap kind_alone e ∙ p))
      at k b e not_term = refl

      go : (s : Split) → split l ≡ s → term_in n l ≡ none
      go end e = rw e refl
      go bad e = rw e refl
      go (part k b (x ∷ r)) e = rw e refl
      go (part k b []) e = term-alone n l k b e ∙ at k b e (term_kind k)

  pub term-tuple : record_kind l ≡ 36 → term_in n l ≡ bind (decode_atoms n (drop 4 l)) (λ ys. some (tuple ys))
  unfolding decode_term_kind term_kind term_kind_if
  term-tuple e = term-kind 36 e (omega arith)

  module _ (e : record_kind l ≡ 37) where
    is-let_one : term_in n l ≡ then (word (drop 4 l)) (λ x b. then (read_simple b) (λ s r. bind (term_in n r) (λ t. some (let_one x s t))))
    unfolding decode_term_kind term_kind term_kind_if term_in
    is-let_one = term-kind 37 e (omega arith)

    pub let_one-none : (12 ≤ length l → 8 + val (slice l 8 2) ≤ length l → ⊥) → term_in n l ≡ none
    unfolding then slice
    let_one-none h = is-let_one ∙ go (leb 8 (length l)) refl
      where
        go : (t : Bool) → leb 8 (length l) ≡ t → then (word (drop 4 l)) (λ x b. then (read_simple b) (λ s r. bind (term_in n r) (λ t. some (let_one x s t)))) ≡ none
        go true t =
            let f = leb-true 8 (length l) t in
            let d = length-drop 4 l in
            let d₈ = length-drop 8 l in
            rw (word_read (drop 4 l) (omega arith), drop-drop 4 4 l, read_simple-none (drop 8 l) (λ a b. h (omega arith) (omega arith))) refl
        go false t =
            let f = leb-false 8 (length l) t in
            rw (word-short (drop 4 l) (omega (arith, length-drop 4 l))) refl

    pub let_one-last : (last : ℕ) → last ≡ 8 + val (slice l 8 2) → 12 ≤ length l → last ≤ length l
        → term_in n l ≡ bind (only_simple (take (last - 8) (drop 8 l))) (λ s. bind (term_in n (drop last l)) (λ t. some (let_one (val (slice l 4 4)) s t)))
    unfolding then slice
    let_one-last last q f h =
        let d = length-drop 4 l in
        let d₈ = length-drop 8 l in
        let m : 8 + (last - 8) ≡ last = omega arith in
        let s = read_simple-only (drop 8 l) (last - 8) (omega arith) (omega arith) in
        is-let_one
        ∙ rw (word_read (drop 4 l) (omega arith), drop-drop 4 4 l, s)
        (then-from_some (only_simple (take (last - 8) (drop 8 l))) (drop (last - 8) (drop 8 l)) (λ s r. bind (term_in n r) (λ t. some (let_one (val (slice l 4 4)) s t)))
        ∙ rw (drop-drop (last - 8) 8 l, m) refl)

  module _ (e : record_kind l ≡ 38) where
    is-let_all : term_in n l ≡ then (any_record (drop 4 l)) (λ g b. bind (decode_term n g) (λ s. bind (term_in n b) (λ t. some (let_all s t))))
    unfolding decode_term_kind term_kind term_kind_if term_in
    is-let_all = term-kind 38 e (omega arith)

    -- where the first record's length does not run past the end: also where it is below 4, since then neither is a term
    pub let_all-two : (second : ℕ) → second ≡ 4 + val (slice l 4 2) → second ≤ length l
        → term_in n l ≡ bind (term_in n (take (second - 4) (drop 4 l))) (λ s. bind (term_in n (drop second l)) (λ t. some (let_all s t)))
    unfolding then slice any_record any_record_of
    let_all-two second q h = is-let_all ∙ go (leb 8 second) refl
      where
        go : (t : Bool) → leb 8 second ≡ t → then (any_record (drop 4 l)) (λ g b. bind (decode_term n g) (λ s. bind (term_in n b) (λ t. some (let_all s t))))
            ≡ bind (term_in n (take (second - 4) (drop 4 l))) (λ s. bind (term_in n (drop second l)) (λ t. some (let_all s t)))
        go true t =
            let f = leb-true 8 second t in
            let d = length-drop 4 l in
            let m : 4 + (second - 4) ≡ second = omega arith in
            let r = split-record (drop 4 l) (second - 4) (omega arith) (omega arith) (omega arith) in
            let a = term-record n (take (second - 4) (drop 4 l)) _ _ (split-alone (drop 4 l) (second - 4) (omega arith) (omega arith) (omega arith)) in
            rw (r, a, drop-drop (second - 4) 4 l, m) refl
        go false t =
            let f = leb-false 8 second t in
            let d = length-drop 4 l in
            let s : length (take (second - 4) (drop 4 l)) ≡ second - 4 = length-take-le (second - 4) (drop 4 l) (omega arith) in
            rw (any_record-none (drop 4 l) (λ a b. omega arith)) (sym (bind-none (term_in n (take (second - 4) (drop 4 l))) _ (term-short n (take (second - 4) (drop 4 l)) (omega arith))))

    pub let_all-none : (8 ≤ length l → 4 + val (slice l 4 2) ≤ length l → ⊥) → term_in n l ≡ none
    unfolding then slice
    let_all-none h =
        let d = length-drop 4 l in
        is-let_all ∙ rw (any_record-none (drop 4 l) (λ a b. h (omega arith) (omega arith))) refl

  module _ (e : record_kind l ≡ 39) where
    is-rec : term_in n l ≡ then (word (drop 4 l)) (λ x b₁. then (read_atom b₁) (λ a b₂. then (sub 36 b₂) (λ c b₃. bind (decode_atoms n c) (λ ys. bind (term_in n b₃) (λ t. some (rec x a ys t))))))
    unfolding decode_term_kind term_kind term_kind_if term_in
    is-rec = term-kind 39 e (omega arith)

    pub rec-none : length l < 20 + 8 * n → term_in n l ≡ none
    rec-none h = none-unless (term_in n l) λ t q.
        then-inv (word (drop 4 l)) _ t (sym is-rec ∙ q) λ x b₁ e₁ f₁.
        then-inv (read_atom b₁) _ t f₁ λ a b₂ e₂ f₂.
        then-inv (sub 36 b₂) _ t f₂ λ c b₃ e₃ f₃.
        bind_inv (decode_atoms n c) _ t f₃ λ ys e₄ f₄.
        let w = word-length (drop 4 l) x b₁ e₁ in
        let r = leaf-length atom_kind atom_number atom_from b₁ a b₂ e₂ in
        let s = split-length b₂ 36 c b₃ (sub_part 36 b₂ c b₃ e₃) in
        let k = decode_atoms-length n c ys e₄ in
        omega (arith, length-drop 4 l)

    pub rec-last : (last : ℕ) → last ≡ 20 + 8 * n → last ≤ length l
        → term_in n l
        ≡ bind (only_atom (take 8 (drop 8 l))) (λ a.
        bind (only_tuple n (take (last - 16) (drop 16 l))) (λ ys. bind (term_in n (drop last l)) (λ t. some (rec (val (slice l 4 4)) a ys t))))
    unfolding then slice
    rec-last last q h =
        let d = length-drop 4 l in
        let d₈ = length-drop 8 l in
        let d₁₆ = length-drop 16 l in
        let m : 16 + (last - 16) ≡ last = omega arith in
        is-rec
        ∙ rw (word_read (drop 4 l) (omega arith), drop-drop 4 4 l, read_atom-only (drop 8 l) (omega arith))
        (then-from_some (only_atom (take 8 (drop 8 l))) (drop 8 (drop 8 l)) _
        ∙ bind-cong (only_atom (take 8 (drop 8 l))) _ _ λ a.
        rw (drop-drop 8 8 l)
        (sub-only n (drop 16 l) (last - 16) (omega arith) (omega arith) (λ ys r. bind (term_in n r) (λ t. some (rec (val (slice l 4 4)) a ys t)))
        ∙ rw (drop-drop (last - 16) 16 l, m) refl))
