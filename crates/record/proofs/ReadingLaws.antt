-- Laws of the readers: what was found and the rest are the list, and an encoding in front is found.
use Prim.Native.Nat.{◌+◌, ◌<◌, ℕ}
use mathlib.Core.Path.{◌≡◌, ap, ap₂, refl, subst, sym, ◌∙◌}
use mathlib.Core.Bool.{Bool, false, true}
use mathlib.Core.List.{◌++◌, List, [], append-nil, ◌∷◌}
use mathlib.Core.Option.{Option, none, some}
use borrow.Author.Tests.{eq-eqb, eqb-true, ne_eqb}
use lib.Dec.{eqb}
use lib.ListN.{length}
use native.Mathlib.Omega.{arith}
use Rattle.buffer.specs.LittleEndian.{Bytes, le, val}
use Rattle.buffer.proofs.LittleEndianLaws.{le_val, length-le, val-le, val-lt}
use Rattle.record.specs.Reading.{Got, RecordParts, any_record, any_record_of, at_end, bind, encode_leaf, fail, from_some, got, leaf, leaf_of, of_kind, pick, sub, sub_of, then, word}
use Rattle.record.specs.Record.{Split, bad, encode_record, end, part, split}
use Rattle.record.proofs.RecordLaws.{length-encode_record, split-encode_record, split-length, split-parted}

-- a test of a kind passes, and gives what it picks, or the rest of the tests does
pub pick_inv : {A : Type 0} (P : A → Type 0) (k n : ℕ) (o p : Option A) → ((a : A) → k ≡ n → o ≡ some a → P a) → ((a : A) → p ≡ some a → P a)
    → (a : A) → pick (eqb k n) o p ≡ some a → P a
unfolding pick
pick_inv P k n o p f g a e = go (eqb k n) refl e
  where
    go : (t : Bool) → eqb k n ≡ t → pick t o p ≡ some a → P a
    go true t q = f a (eqb-true k n t) q
    go false t q = g a q

-- the number itself, and another
pub pick_same : {A : Type 0} (a : ℕ) (o p : Option A) → pick (eqb a a) o p ≡ o
unfolding pick
pick_same a o p = rw (eq-eqb a a refl) refl

pub pick_other : {A : Type 0} (p a : ℕ) (o q : Option A) → (p ≡ a → ⊥) → pick (eqb p a) o q ≡ q
unfolding pick
pick_other p a o q h = rw (ne_eqb p a h) refl

pub none-inv : {A : Type 0} (P : A → Type 0) (a : A) → none ≡ some a → P a
none-inv P a e = absurd (let z : ◌≡◌ {A = ℕ} 0 1 = cc in omega arith)

module _ {A B : Type 0} where
  pub then_some : (g : Got A) (f : A → List ℕ → Option B) (y : B) → then g f ≡ some y
      → (a : A) × (r : List ℕ) × (g ≡ got a r) × (f a r ≡ some y)
  unfolding then
  then_some fail f y e = absurd (let z : ◌≡◌ {A = ℕ} 0 1 = cc in omega arith)
  then_some (got a r) f y e = (a, r, refl, e)

  pub bind-some : (o : Option A) (f : A → Option B) (y : B) → bind o f ≡ some y → (a : A) × (o ≡ some a) × (f a ≡ some y)
  unfolding bind
  bind-some none f y e = absurd (let z : ◌≡◌ {A = ℕ} 0 1 = cc in omega arith)
  bind-some (some a) f y e = (a, refl, e)

  -- the same, for a goal: what was found is bound by the goal's own λ
  pub then-inv : {P : Type 0} (g : Got A) (f : A → List ℕ → Option B) (y : B) → then g f ≡ some y
      → ((a : A) (r : List ℕ) → g ≡ got a r → f a r ≡ some y → P) → P
  then-inv g f y e k = let s = then_some g f y e in k s.0 s.1 s.2 s.3

  pub bind_inv : {P : Type 0} (o : Option A) (f : A → Option B) (y : B) → bind o f ≡ some y → ((a : A) → o ≡ some a → f a ≡ some y → P) → P
  bind_inv o f y e k = let s = bind-some o f y e in k s.0 s.1 s.2

  pub then-cong : (g : Got A) (f h : A → List ℕ → Option B) → ((a : A) (r : List ℕ) → g ≡ got a r → f a r ≡ h a r) → then g f ≡ then g h
  unfolding then
  then-cong fail f h q = refl
  then-cong (got a r) f h q = q a r refl

pub at_end-some : {B : Type 0} (r : List ℕ) (o : Option B) (y : B) → at_end r o ≡ some y → (r ≡ []) × (o ≡ some y)
unfolding at_end
at_end-some [] o y e = (refl, e)
at_end-some (x ∷ xs) o y e = absurd (let z : ◌≡◌ {A = ℕ} 0 1 = cc in omega arith)

pub at_end-inv : {B P : Type 0} (r : List ℕ) (o : Option B) (y : B) → at_end r o ≡ some y → (r ≡ [] → o ≡ some y → P) → P
at_end-inv r o y e k = let s = at_end-some r o y e in k s.0 s.1

-- FOUR BYTES

-- What a reader found: its encoding and the rest are the list.
pub record Found (bs encode_block r : List ℕ) : Type 0 where
  pub whole : bs ≡ encode_block ++ r
  pub after : Bytes r

pub fail-got : {A : Type 0} (a : A) (r : List ℕ) → fail ≡ got a r → ⊥
fail-got a r e = let z : ◌≡◌ {A = ℕ} 0 1 = cc in omega arith

pub word-length : (bs : List ℕ) (v : ℕ) (r : List ℕ) → word bs ≡ got v r → length bs ≡ 4 + length r
unfolding word
word-length [] v r e = absurd (fail-got v r e)
word-length (a ∷ []) v r e = absurd (fail-got v r e)
word-length (a ∷ b ∷ []) v r e = absurd (fail-got v r e)
word-length (a ∷ b ∷ c ∷ []) v r e = absurd (fail-got v r e)
word-length (a ∷ b ∷ c ∷ d ∷ xs) v r e = let q : xs ≡ r = cc in omega (arith, ap length q)

pub word-found : (bs : List ℕ) (v : ℕ) (r : List ℕ) → Bytes bs → word bs ≡ got v r → Found bs (le 4 v) r × (v < 4294967296)
unfolding word
word-found [] v r h e = absurd (fail-got v r e)
word-found (a ∷ []) v r h e = absurd (fail-got v r e)
word-found (a ∷ b ∷ []) v r h e = absurd (fail-got v r e)
word-found (a ∷ b ∷ c ∷ []) v r h e = absurd (fail-got v r e)
word-found (a ∷ b ∷ c ∷ d ∷ xs) v r h e =
    let hw : Bytes (a ∷ b ∷ c ∷ d ∷ []) = (h.0, (h.1.0, (h.1.1.0, (h.1.1.1.0, tt)))) in
    let q : xs ≡ r = cc in
    let w : val (a ∷ b ∷ c ∷ d ∷ []) ≡ v = cc in
    let el : le 4 v ≡ a ∷ b ∷ c ∷ d ∷ [] = ap (le 4) (sym w) ∙ le_val (a ∷ b ∷ c ∷ d ∷ []) hw in
    (record { whole = rw (el, ← q) refl; after = rw q at h.1.1.1.1 }, omega (arith, val-lt (a ∷ b ∷ c ∷ d ∷ []) hw))

pub word-le : (v : ℕ) (r : List ℕ) → v < 4294967296 → word (le 4 v ++ r) ≡ got v r
unfolding word le
word-le v r h = ap (λ (n : ℕ). got n r) (val-le 4 v h)

-- A RECORD OF A KIND

pub sub_part : (n : ℕ) (bs b r : List ℕ) → sub n bs ≡ got b r → split bs ≡ part n b r
unfolding sub sub_of of_kind
sub_part n bs b r e = go (split bs) refl e
  where
    go : (s : Split) → split bs ≡ s → sub_of n s ≡ got b r → split bs ≡ part n b r
    go end q f = absurd (fail-got b r f)
    go bad q f = absurd (fail-got b r f)
    go (part k b₁ r₁) q f = at (eqb k n) refl f
      where
        at : (t : Bool) → eqb k n ≡ t → of_kind t b₁ r₁ ≡ got b r → split bs ≡ part n b r
        at true t g = let kn : k ≡ n = eqb-true k n t in cc
        at false t g = absurd (fail-got b r g)

pub sub-encode_record : (n : ℕ) (b r : List ℕ) → n < 65536 → 4 + length b < 65536 → sub n (encode_record n b ++ r) ≡ got b r
unfolding sub sub_of of_kind
sub-encode_record n b r hn hb = rw (split-encode_record n b r hn hb, eq-eqb n n refl) refl

pub from_some-got : {A : Type 0} (o : Option A) (r : List ℕ) (a : A) (q : List ℕ) → from_some o r ≡ got a q → (o ≡ some a) × (r ≡ q)
unfolding from_some
from_some-got none r a q e = absurd (fail-got a q e)
from_some-got (some b) r a q e = (cc, cc)

-- A LEAF: a record that holds one value

module _ {X : Type 0} (kind_of val_of : X → ℕ) (make : ℕ → ℕ → Option X) where
  pub length-encode_leaf : (x : X) → length (encode_leaf kind_of val_of make x) ≡ 8
  unfolding encode_leaf
  length-encode_leaf x = simp (length-encode_record, length-le)

  -- what a leaf was read from
  pub leaf-parts : (bs : List ℕ) (x : X) (r : List ℕ) → leaf kind_of val_of make bs ≡ got x r
      → (k : ℕ) × (b : List ℕ) × (v : ℕ) × (split bs ≡ part k b r) × (word b ≡ got v []) × (make k v ≡ some x)
  unfolding leaf leaf_of
  leaf-parts bs x r e = go (split bs) refl e
    where
      go : (s : Split) → split bs ≡ s → leaf_of kind_of val_of make s ≡ got x r
          → (k : ℕ) × (b : List ℕ) × (v : ℕ) × (split bs ≡ part k b r) × (word b ≡ got v []) × (make k v ≡ some x)
      go end q f = absurd (fail-got x r f)
      go bad q f = absurd (fail-got x r f)
      go (part k b r₁) q f =
          let a = from_some-got (then (word b) (λ v b₁. at_end b₁ (make k v))) r₁ x r f in
          let c = then_some (word b) (λ v b₁. at_end b₁ (make k v)) x a.0 in
          let d = at_end-some c.1 (make k c.0) x c.3 in
          let w : word b ≡ got c.0 [] = c.2 ∙ ap (λ (l : List ℕ). got c.0 l) d.0 in
          let s : split bs ≡ part k b r = q ∙ ap (λ (l : List ℕ). part k b l) a.1 in
          (k, b, c.0, s, w, d.1)

  pub leaf-length : (bs : List ℕ) (x : X) (r : List ℕ) → leaf kind_of val_of make bs ≡ got x r → length bs ≡ 8 + length r
  leaf-length bs x r e =
      let p = leaf-parts bs x r e in
      omega (arith, split-length bs p.0 p.1 r p.3, word-length p.1 p.2 [] p.4)

  module _ (inv : (k v : ℕ) (x : X) → make k v ≡ some x → (k ≡ kind_of x) × (v ≡ val_of x)) where
    pub leaf-found : (bs : List ℕ) (x : X) (r : List ℕ) → Bytes bs → leaf kind_of val_of make bs ≡ got x r → Found bs (encode_leaf kind_of val_of make x) r × (val_of x < 4294967296)
    unfolding encode_leaf
    leaf-found bs x r h e =
        let p = leaf-parts bs x r e in
        let s = split-parted bs p.0 p.1 r h p.3 in
        let w = word-found p.1 p.2 [] s.inside p.4 in
        let i = inv p.0 p.2 x p.5 in
        let body : p.1 ≡ le 4 p.2 = w.0.whole ∙ append-nil (le 4 p.2) in (
          record { whole = s.whole ∙ ap (λ (l : List ℕ). l ++ r) (ap₂ encode_record i.0 (body ∙ ap (le 4) i.1)); after = s.after },
          subst (λ (n : ℕ). n < 4294967296) i.1 w.1,
        )

  module _ (at : (x : X) → make (kind_of x) (val_of x) ≡ some x) (low : (x : X) → kind_of x < 65536) where
    pub leaf-encode : (x : X) (r : List ℕ) → val_of x < 4294967296 → leaf kind_of val_of make (encode_leaf kind_of val_of make x ++ r) ≡ got x r
    unfolding leaf leaf_of encode_leaf then at_end from_some
    leaf-encode x r h =
        let w : word (le 4 (val_of x)) ≡ got (val_of x) [] = ap word (sym (append-nil (le 4 (val_of x)))) ∙ word-le (val_of x) [] h in
        let n : 4 + length (le 4 (val_of x)) < 65536 = simp length-le (omega arith) in
        rw (split-encode_record (kind_of x) (le 4 (val_of x)) r (low x) n, w, at x) refl

-- ANY RECORD

pub any_record-part : (bs : List ℕ) (h : RecordParts) (r : List ℕ) → any_record bs ≡ got h r → split bs ≡ part h.kind h.body r
unfolding any_record any_record_of
any_record-part bs h r e = go (split bs) refl e
  where
    go : (s : Split) → split bs ≡ s → any_record_of s ≡ got h r → split bs ≡ part h.kind h.body r
    go end q f = absurd (fail-got h r f)
    go bad q f = absurd (fail-got h r f)
    go (part k b r₁) q f =
        let hr : record { kind = k; body = b } ≡ h = cc in
        let rr : r₁ ≡ r = cc in
        q ∙ ap₂ (λ (g : RecordParts) (l : List ℕ). part g.kind g.body l) hr rr

pub any_record-encode_record : (k : ℕ) (b r : List ℕ) → k < 65536 → 4 + length b < 65536 → any_record (encode_record k b ++ r) ≡ got (record { kind = k; body = b }) r
unfolding any_record any_record_of
any_record-encode_record k b r hk hb = rw (split-encode_record k b r hk hb) refl
