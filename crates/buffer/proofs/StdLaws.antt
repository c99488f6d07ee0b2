-- What std's methods of numbers and slices do, as val, le, put, part and zeros.
use Prim.Native.Nat.{ℕ, suc, ◌+◌, ◌-◌, ◌/◌, ◌≤◌}
use mathlib.Core.Path.{◌≡◌, refl, ap, ◌∙◌}
use mathlib.Core.List.{List, [], ◌∷◌, append_assoc}
use native.Mathlib.Numerals.{add-one}
use native.Mathlib.Omega.{arith}
use borrow.Rule.Slice.PartMut.{put_mid}
use lib.ListN.{length, take, drop, get_or, set, length-take, length-drop, replicate}
use lib.Seq.{drop-drop}
use Rattle.std.specs.Int.{w16, w32, w64, from_le_bytes, to_le_bytes}
use Rattle.std.specs.List.{copy_within}
use Rattle.buffer.specs.LittleEndian.{le, val}
use Rattle.buffer.specs.Slice.{put, part, zeros}
use Rattle.buffer.proofs.SliceLaws.{length-put, length_part, length-zeros, put-sets, val-part, val-part-zero, copied-twice, moved-down-twice, moved-up-twice}

-- The number that is read of two or four bytes, and its bytes stored in a row.

pub from_bytes_2 : (l : List ℕ) (at n : ℕ) → at + 2 ≤ length l → n ≡ from_le_bytes w16 (get_or l at 0 ∷ get_or l (at + 1) 0 ∷ []) → n ≡ val (part l at 2)
from_bytes_2 l at n h e =
    let e₀ = val-part l at (at + 1) 1 (omega arith) (omega arith) in
    let e₁ = val-part l (at + 1) (at + 2) 0 (omega arith) (omega arith) in
    let z = val-part-zero l (at + 2) in
    omega arith

pub from_bytes_4 : (l : List ℕ) (at n : ℕ) → at + 4 ≤ length l
    → n ≡ from_le_bytes w32 (get_or l at 0 ∷ get_or l (at + 1) 0 ∷ get_or l (at + 2) 0 ∷ get_or l (at + 3) 0 ∷ []) → n ≡ val (part l at 4)
from_bytes_4 l at n h e =
    let e₀ = val-part l at (at + 1) 3 (omega arith) (omega arith) in
    let e₁ = val-part l (at + 1) (at + 2) 2 (omega arith) (omega arith) in
    let e₂ = val-part l (at + 2) (at + 3) 1 (omega arith) (omega arith) in
    let e₃ = val-part l (at + 3) (at + 4) 0 (omega arith) (omega arith) in
    let z = val-part-zero l (at + 4) in
    omega arith

pub to_bytes_2 : (l bs : List ℕ) (at v : ℕ) → at + 2 ≤ length l → bs ≡ to_le_bytes w64 v
    → set (set l at (get_or bs 0 0)) (at + 1) (get_or bs 1 0) ≡ put l at (le 2 v)
unfolding le
to_bytes_2 l bs at v h e = rw (e, add-one at) (put-sets l at (le 2 v) (omega arith))

pub to_bytes_4 : (l bs : List ℕ) (at v : ℕ) → at + 4 ≤ length l → bs ≡ to_le_bytes w32 v
    → set (set (set (set l at (get_or bs 0 0)) (at + 1) (get_or bs 1 0)) (at + 2) (get_or bs 2 0)) (at + 3) (get_or bs 3 0) ≡ put l at (le 4 v)
unfolding le
to_bytes_4 l bs at v h e =
    let e₁ : at + 1 ≡ suc at = omega arith in
    let e₂ : at + 2 ≡ suc (suc at) = omega arith in
    let e₃ : at + 3 ≡ suc (suc (suc at)) = omega arith in
    let d₂ : v / 65536 ≡ v / 256 / 256 = omega arith in
    let d₃ : v / 16777216 ≡ v / 256 / 256 / 256 = omega arith in
    rw (e, e₁, e₂, e₃, d₂, d₃) (put-sets l at (le 4 v) (omega arith))

-- What is written into a part that was lent on is a put.
pub lent_put : (l ys : List ℕ) (at n : ℕ) → length ys ≡ n → put_mid at n l ys ≡ put l at ys
unfolding put
lent_put l ys at n e = rw (e, drop-drop n at l) refl

-- A part that was filled with zeros.
pub filled : (l ys : List ℕ) (at n : ℕ) → at + n ≤ length l → ys ≡ replicate (length (take (at + n - at) (drop at l))) 0
    → put_mid at (at + n - at) l ys ≡ put l at (zeros n)
unfolding zeros
filled l ys at n h e =
    let k : length (take (at + n - at) (drop at l)) ≡ n = simp (length-take, length-drop) (omega arith) in
    let z : ys ≡ replicate n 0 = rw k at e in
    lent_put l ys at (at + n - at) (rw z (length-zeros n ∙ omega arith)) ∙ ap (put l at) z

-- What is moved within a list is a put of a part.
copied_within : (l : List ℕ) (from end to n : ℕ) → from + n ≡ end → end ≤ length l → copy_within l from end to ≡ put l to (part l from n)
unfolding put part
copied_within l from end to n e h =
    let j : end - from ≡ n = omega arith in
    let k : length (part l from n) ≡ n = length_part l from n (omega arith) in
    rw (j, k) (append_assoc (take to l) (take n (drop from l)) (drop (to + n) l))

pub moved_down : (l b : List ℕ) (from to head count : ℕ) → head ≤ count → to ≤ from → from + count ≤ length l → b ≡ copy_within l from (from + head) to
    → copy_within b (from + head) (from + count) (to + head) ≡ put l to (part l from count)
moved_down l b from to head count h k j eb =
    let b₁ : b ≡ put l to (part l from head) = eb ∙ copied_within l from (from + head) to head refl (omega arith) in
    let n : length b ≡ length l = ap length b₁ ∙ length-put l (part l from head) to (omega (arith, length_part l from head (omega arith))) in
    moved-down-twice to from head (count - head) count (omega arith) l b _ k j b₁ (copied_within b (from + head) (from + count) (to + head) (count - head) (omega arith) (omega arith))

pub moved_up : (l b : List ℕ) (from to rest count : ℕ) → rest ≤ count → from ≤ to → to + count ≤ length l
    → b ≡ copy_within l (from + rest) (from + count) (to + rest) → copy_within b from (from + rest) to ≡ put l to (part l from count)
moved_up l b from to rest count h k j eb =
    let b₁ : b ≡ put l (to + rest) (part l (from + rest) (count - rest)) =
    eb ∙ copied_within l (from + rest) (from + count) (to + rest) (count - rest) (omega arith) (omega arith) in
    let n : length b ≡ length l =
    ap length b₁ ∙ length-put l (part l (from + rest) (count - rest)) (to + rest) (omega (arith, length_part l (from + rest) (count - rest) (omega arith))) in
    moved-up-twice to from rest (count - rest) count (omega arith) l b _ k j b₁ (copied_within b from (from + rest) to rest refl (omega arith))

-- What is copied into two neighbouring parts is one put.
pub copied : (d s x y : List ℕ) (from to head count : ℕ) → head ≤ count → from + count ≤ length s → to + count ≤ length d
    → x ≡ take (from + head - from) (drop from s) → y ≡ take (from + count - (from + head)) (drop (from + head) s)
    → put_mid (to + head) (to + count - (to + head)) (put_mid to (to + head - to) d x) y ≡ put d to (part s from count)
unfolding part
copied d s x y from to head count h i j ex ey =
    let m : from + head - from ≡ head = omega arith in
    let n : from + count - (from + head) ≡ count - head = omega arith in
    let px : x ≡ part s from head = rw m at ex in
    let py : y ≡ part s (from + head) (count - head) = rw n at ey in
    let lx : length x ≡ to + head - to = ap length px ∙ length_part s from head (omega arith) ∙ omega arith in
    let ly : length y ≡ to + count - (to + head) = ap length py ∙ length_part s (from + head) (count - head) (omega arith) ∙ omega arith in
    let b : List ℕ = put_mid to (to + head - to) d x in
    let eb : b ≡ put d to (part s from head) = lent_put d x to (to + head - to) lx ∙ ap (put d to) px in
    let ec : put_mid (to + head) (to + count - (to + head)) b y ≡ put b (to + head) (part s (from + head) (count - head)) =
    lent_put b y (to + head) (to + count - (to + head)) ly ∙ ap (put b (to + head)) py in
    copied-twice to from head (count - head) count (omega arith) d s b _ j i eb ec
