-- Laws of little-endian numbers and of lists of bytes, at every width and every length.
use Prim.Native.Nat.{ℕ, zero, suc, ◌+◌, ◌*◌, ◌/◌, ◌%◌, ◌^◌, ◌<◌}
use mathlib.Core.Path.{◌≡◌, refl, ap}
use mathlib.Core.List.{List, [], ◌∷◌, ◌++◌}
use native.Mathlib.Omega.{arith}
use native.Mathlib.Nat.{pow-succ'}
use lib.ListN.{length, get_or, take, drop}
use lib.Dec.{lit<}
use Rattle.buffer.specs.LittleEndian.{le, val, Bytes}

pub length-le : (w v : ℕ) → length (le w v) ≡ w
unfolding le
length-le zero v = refl
length-le (suc w) v = ap suc (length-le w (v / 256))

pub bytes_le : (w v : ℕ) → Bytes (le w v)
unfolding le
bytes_le zero v = tt
bytes_le (suc w) v = (omega arith, bytes_le w (v / 256))

pub val-le : (w v : ℕ) → v < 256 ^ w → val (le w v) ≡ v
unfolding le val
val-le zero v h = omega arith
val-le (suc w) v h =
    let k : 256 ^ suc w ≡ 256 * 256 ^ w = pow-succ' 256 w in
    let e : val (le w (v / 256)) ≡ v / 256 = val-le w (v / 256) (omega arith) in
    omega arith

pub le_val : (bs : List ℕ) → Bytes bs → le (length bs) (val bs) ≡ bs
unfolding le val
le_val [] h = refl
le_val (b ∷ bs) h =
    let m : (b + 256 * val bs) % 256 ≡ b = omega (arith, h.0) in
    let d : (b + 256 * val bs) / 256 ≡ val bs = omega (arith, h.0) in
    rw (m, d, le_val bs h.1) refl

pub val-lt : (bs : List ℕ) → Bytes bs → val bs < 256 ^ length bs
unfolding val
val-lt [] h = lit< tt
val-lt (b ∷ bs) h = omega (arith, val-lt bs h.1, h.0, pow-succ' 256 (length bs))

-- the first w bytes, or all where there are fewer
pub val-take : (w : ℕ) (bs : List ℕ) → Bytes bs → val (take w bs) < 256 ^ w
unfolding val
val-take zero bs h = lit< tt
val-take (suc w) [] h = omega (arith, val-take w [] h, pow-succ' 256 w)
val-take (suc w) (b ∷ bs) h = omega (arith, val-take w bs h.1, h.0, pow-succ' 256 w)

pub bytes-append : (s t : List ℕ) → Bytes s → Bytes t → Bytes (s ++ t)
bytes-append [] t h k = k
bytes-append (x ∷ s) t h k = (h.0, bytes-append s t h.1 k)

pub bytes_left : (s t : List ℕ) → Bytes (s ++ t) → Bytes s
bytes_left [] t h = tt
bytes_left (x ∷ s) t h = (h.0, bytes_left s t h.1)

pub bytes-right : (s t : List ℕ) → Bytes (s ++ t) → Bytes t
bytes-right [] t h = h
bytes-right (x ∷ s) t h = bytes-right s t h.1

pub bytes_take : (n : ℕ) (s : List ℕ) → Bytes s → Bytes (take n s)
bytes_take zero s h = tt
bytes_take (suc n) [] h = tt
bytes_take (suc n) (x ∷ s) h = (h.0, bytes_take n s h.1)

pub bytes_drop : (n : ℕ) (s : List ℕ) → Bytes s → Bytes (drop n s)
bytes_drop zero s h = h
bytes_drop (suc n) [] h = tt
bytes_drop (suc n) (x ∷ s) h = bytes_drop n s h.1

-- What a contract knows of a slice of u8, as Bytes.
pub bytes_of : (s : List ℕ) → ((i : ℕ) → i < length s → get_or s i 0 < 256) → Bytes s
bytes_of [] h = tt
bytes_of (x ∷ s) h = (h 0 (omega arith), bytes_of s (λ i k. h (suc i) (omega arith)))
