-- The values behind the record, one more at a time.
use Prim.Native.Nat.{◌*◌, ◌+◌, ◌-◌, ◌<◌, suc, zero, ℕ, ◌≤◌}
use mathlib.Core.Path.{◌≡◌, ap, refl, sym, ◌∙◌}
use mathlib.Core.List.{◌++◌, List, [], ◌∷◌}
use native.Mathlib.Numerals.{add-one}
use native.Mathlib.Omega.{arith}
use lib.ListN.{drop, get_or, length, set, take}
use lib.Seq.{drop-drop, take_all, take-suc-set, take-take}
use Rattle.buffer.specs.LittleEndian.{val}
use Rattle.buffer.specs.Slice.{part}
use Rattle.report.specs.Line.{values_in}
use Rattle.record.proofs.BetweenLaws.{drop-take}

value-next : (i : ℕ) (bytes : List ℕ) → part (drop 4 bytes) (4 * i) 4 ≡ part bytes (4 * suc i) 4
unfolding part
value-next i bytes =
    let e : 4 + 4 * i ≡ 4 * suc i = omega arith in
    ap (take 4) (drop-drop (4 * i) 4 bytes ∙ ap (λ (j : ℕ). drop j bytes) e)

values-first : (bytes : List ℕ) → values_in 1 bytes ≡ val (part bytes 0 4) ∷ []
unfolding part values_in
values-first bytes = refl

values-more : (n : ℕ) (bytes : List ℕ) → values_in (suc n) bytes ≡ val (take 4 bytes) ∷ values_in n (drop 4 bytes)
unfolding values_in
values-more n bytes = refl

values-none : (bytes : List ℕ) → values_in 0 bytes ≡ []
unfolding values_in
values-none bytes = refl

values-snoc : (i : ℕ) (bytes : List ℕ) → values_in (suc i) bytes ≡ values_in i bytes ++ (val (part bytes (4 * i) 4) ∷ [])
values-snoc zero bytes = values-first bytes ∙ rw (values-none bytes) refl
values-snoc (suc i) bytes =
    values-more (suc i) bytes
    ∙ ap (λ (l : List ℕ). val (take 4 bytes) ∷ l) (values-snoc i (drop 4 bytes))
    ∙ rw (value-next i bytes, values-more i bytes) refl

-- As many values as are asked for.
pub length-values : (n : ℕ) (bytes : List ℕ) → length (values_in n bytes) ≡ n
length-values zero bytes = ap (length {A = ℕ}) (values-none bytes)
length-values (suc n) bytes = ap (length {A = ℕ}) (values-more n bytes) ∙ ap suc (length-values n (drop 4 bytes))

-- The one at a place.
pub value-at : (n i : ℕ) (bytes : List ℕ) → i < n → get_or (values_in n bytes) i 0 ≡ val (part bytes (4 * i) 4)
unfolding part
value-at zero i bytes h = absurd (omega arith)
value-at (suc n) zero bytes h = ap (λ (l : List ℕ). get_or l 0 0) (values-more n bytes)
value-at (suc n) (suc i) bytes h =
    ap (λ (l : List ℕ). get_or l (suc i) 0) (values-more n bytes) ∙ value-at n i (drop 4 bytes) (omega arith) ∙ ap val (value-next i bytes)

-- A turn of the loop that reads them, and its beginning and end.
pub none_read : (store bytes : List ℕ) → take 0 store ≡ values_in 0 bytes
none_read store bytes = sym (values-none bytes)

pub value_read : (store bytes : List ℕ) (i v : ℕ) → i < length store → v ≡ val (part bytes (4 * i) 4) → take i store ≡ values_in i bytes
    → take (i + 1) (set store i v) ≡ values_in (i + 1) bytes
value_read store bytes i v h e r =
    rw (add-one i, values-snoc i bytes, ← e, ← r) (take-suc-set store i v h)

pub values_read : (store bytes : List ℕ) (i n : ℕ) → n ≡ length store → n ≡ i → take i store ≡ values_in i bytes → store ≡ values_in n bytes
values_read store bytes i n e k r = rw k (sym (take_all i store (omega arith)) ∙ r)

-- The values stand in so many bytes: what is behind them does not matter.
pub values-within : (n m : ℕ) (bytes : List ℕ) → 4 * n ≤ m → values_in n (take m bytes) ≡ values_in n bytes
values-within zero m bytes h = values-none (take m bytes) ∙ sym (values-none bytes)
values-within (suc n) m bytes h =
    values-more n (take m bytes)
    ∙ rw (take-take 4 m bytes (omega arith), drop-take 4 m bytes, values-within n (m - 4) (drop 4 bytes) (omega arith)) (sym (values-more n bytes))
