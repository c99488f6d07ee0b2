-- Readers: what stands at the front of a list of bytes, and what follows it.
use Rattle.std.specs.Prelude.{ℕ, Bool, false, true, List, [], ◌∷◌, eqb}
use Rattle.std.proofs.Math.Option.{Option, none, some}
use Rattle.buffer.specs.LittleEndian.{le, val}
use Rattle.record.specs.Record.{Split, bad, encode_record, end, part, split}

-- What a reader found, and what follows it.
pub data Got (A : Type 0) : Type 0 where
  fail : Got A
  got : A → List ℕ → Got A

-- On what was found; nothing where nothing was.
unfoldable pub then : {A B : Type 0} → Got A → (A → List ℕ → Option B) → Option B
then fail f = none
then (got a r) f = f a r

-- On what there is; nothing where there is nothing.
unfoldable pub bind : {A B : Type 0} → Option A → (A → Option B) → Option B
bind none f = none
bind (some a) f = f a

-- Only where nothing is left.
unfoldable pub at_end : {B : Type 0} → List ℕ → Option B → Option B
at_end [] o = o
at_end (x ∷ xs) o = none

-- What there is, as a reader's find with what follows it.
unfoldable pub from_some : {A : Type 0} → Option A → List ℕ → Got A
from_some none r = fail
from_some (some a) r = got a r

-- One of two by a test: the first where it holds, and else the second.
unfoldable pub pick : {A : Type 0} → Bool → A → A → A
pick true a b = a
pick false a b = b

-- A value, a variable number or k: four bytes.
unfoldable pub word : List ℕ → Got ℕ
word [] = fail
word (a ∷ []) = fail
word (a ∷ b ∷ []) = fail
word (a ∷ b ∷ c ∷ []) = fail
word (a ∷ b ∷ c ∷ d ∷ r) = got (val (a ∷ b ∷ c ∷ d ∷ [])) r

-- The contents of a record, and what is behind it, by whether it is of the kind asked for.
unfoldable pub of_kind : Bool → List ℕ → List ℕ → Got (List ℕ)
of_kind true b r = got b r
of_kind false b r = fail

-- The same by what stands first.
unfoldable pub sub_of : ℕ → Split → Got (List ℕ)
sub_of n end = fail
sub_of n bad = fail
sub_of n (part k b r) = of_kind (eqb k n) b r

-- The contents of a record of the kind n.
unfoldable pub sub : ℕ → List ℕ → Got (List ℕ)
sub n bs = sub_of n (split bs)

-- A record that holds one value, by its kind and that value: `make` gives what a kind and a value stand for.
module _ {X : Type 0} (kind_of val_of : X → ℕ) (make : ℕ → ℕ → Option X) where
  -- Such a record's bytes.
  unfoldable pub encode_leaf : X → List ℕ
  encode_leaf x = encode_record (kind_of x) (le 4 (val_of x))

  -- What is read, by what stands first.
  unfoldable pub leaf_of : Split → Got X
  leaf_of end = fail
  leaf_of bad = fail
  leaf_of (part k b r) = from_some (then (word b) (λ v b₁. at_end b₁ (make k v))) r

  -- What such a record at the front stands for, and what follows it.
  unfoldable pub leaf : List ℕ → Got X
  leaf bs = leaf_of (split bs)

-- Any record: its kind and contents.
pub record RecordParts : Type 0 where
  pub kind : ℕ
  pub body : List ℕ

-- By what stands first.
unfoldable pub any_record_of : Split → Got RecordParts
any_record_of end = fail
any_record_of bad = fail
any_record_of (part k b r) = got (record { kind = k; body = b }) r

-- The record that stands first, whatever its kind, and what follows it.
unfoldable pub any_record : List ℕ → Got RecordParts
any_record bs = any_record_of (split bs)
